-- What the work on a meaning comes to.
use Rattle.std.specs.Prelude.{ℕ, List, Result, Ok, Err, IsSomeAnd}
use Rattle.journal_rules.specs.declared.entry.Why.TheVariants as why
use Rattle.join_words.specs.Ins.{InputValue}
use Rattle.run_frame.specs.declared.job.Done.{Done}
use Rattle.run_frame.specs.declared.job.Done.TheVariants.{Inner as InnerJob}
use Rattle.run_frame.specs.declared.job.JobError.{JobError}
use Rattle.run_frame.specs.declared.job.JobError.TheVariants as job
use Rattle.nested_runs.specs.declared.spread.SpreadError.{SpreadError}
use Rattle.nested_runs.specs.declared.spread.SpreadError.TheVariants as spread
use Rattle.text_ops.specs.declared.gathered.ApplyError.{ApplyError}
use Rattle.text_ops.specs.declared.gathered.ApplyError.TheVariants as apply
use Rattle.text_tasks.specs.declared.item.Item.{Item}
use Rattle.text_tasks.specs.declared.job.TextJob.{TextJob}
use Rattle.text_tasks.specs.declared.task_error.TaskError.{TaskError}
use Rattle.text_tasks.specs.declared.task_error.TaskError.TheVariants.{Long, Wide, Unmet, NoMemory}
use Rattle.text_tasks.specs.JobMeaning.{AnswersAs, FaultsAs, task_meaning}
use Rattle.text_tasks.specs.OpMeaning.{OpMeaning}

-- the error of a task whose work stops at one of these
abbrev pub error_of_apply : ApplyError → TaskError
error_of_apply (apply.Long bytes) = Long bytes
error_of_apply apply.NoMemory = NoMemory

abbrev pub error_of_spread : SpreadError → TaskError
error_of_spread (spread.TooWide parts) = Wide parts
error_of_spread spread.NoMemory = NoMemory

-- the error that a task's error is to the run
abbrev pub job_error : TaskError → JobError
job_error (Long bytes) = job.Fault (why.Long bytes)
job_error (Wide parts) = job.Fault (why.Wide parts)
job_error (Unmet token) = job.Fault (why.Unmet token)
job_error NoMemory = job.NoMemory

-- why work comes to nothing; an allocation may always fail
abbrev pub RefusesAs : OpMeaning → TaskError → Type 0
RefusesAs meaning (Long bytes) = FaultsAs meaning (why.Long bytes)
RefusesAs meaning (Wide parts) = FaultsAs meaning (why.Wide parts)
RefusesAs meaning (Unmet token) = FaultsAs meaning (why.Unmet token)
RefusesAs meaning NoMemory = Unit {0}

-- what work comes to, or why to nothing
abbrev pub DoesAs : OpMeaning → Result (Done TextJob Item) TaskError → Type 0
DoesAs meaning (Ok done) = AnswersAs meaning done
DoesAs meaning (Err error) = RefusesAs meaning error

-- the job that is to be run in the task's place, or why there is none
abbrev pub OpensAs : OpMeaning → Result TextJob TaskError → Type 0
OpensAs meaning (Ok inner) = AnswersAs meaning (InnerJob inner)
OpensAs meaning (Err error) = RefusesAs meaning error

-- what the task of a job comes to, or why to nothing
abbrev pub TaskDoes : TextJob → ℕ → List (InputValue Item) → Result (Done TextJob Item) TaskError → Type 0
TaskDoes job task found result = IsSomeAnd (task_meaning job task found) (λ meaning. DoesAs meaning result)
