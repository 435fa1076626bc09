-- What a run hands to the next round may be a value.
use Rattle.std.proofs.Common.{ℕ, ◌≤◌, List, [], length, Option, Some, None, arith, subst, sym}
use Rattle.std.specs.Prelude.{IfSome, IsSomeAnd}
use Rattle.std.specs.Option.{option_map_or, option_and_then}
use Rattle.join_words.specs.Ins.{InputValue}
use Rattle.run_frame.specs.declared.job.Answer.{Answer}
use Rattle.run_frame.specs.declared.job.Done.TheVariants.{Value}
use Rattle.run_frame.specs.declared.run.FrameRun.{FrameRun}
use Rattle.run_frame.specs.Legal.{IsKept}
use Rattle.run_frame.specs.LastEnds.{last_value}
use Rattle.run_frame.specs.NestedRule.{job_of, journal_of}
use Rattle.run_frame.specs.Runs.{values_of}
use Rattle.nested_runs.proofs.EndValues.{last_value_holds}
use Rattle.text_ops.specs.Lines.{IsNormal}
use Rattle.text_ops.specs.Values.{value_limit}
use Rattle.text_tasks.specs.declared.item.Item.{Item}
use Rattle.text_tasks.specs.declared.job.TextJob.{TextJob}
use Rattle.text_tasks.specs.Items.{item_text}
use Rattle.text_tasks.specs.JobMeaning.{AnswersAs, JobAnswers, feedback_of, net_of, task_meaning, text_job}
use Rattle.text_tasks.specs.OpMeaning.{OpMeaning, hands_over, moves_on, never_passes, runs, too_wide}
use Rattle.text_tasks.specs.Sinks.{last_sink}
use Rattle.text_tasks.specs.ValueTexts.{IsValueText}

abbrev IsShort : Item → Type 0
IsShort item = length (item_text item) ≤ value_limit

by_meaning : (o : Option OpMeaning) (item : Item) (answer : Answer) → IsSomeAnd o (λ meaning. AnswersAs meaning (Value item answer)) → IsShort item
by_meaning None item answer meets = absurd meets
by_meaning (Some (hands_over text chosen)) item answer meets = subst IsShort (sym meets.0) meets.2
by_meaning (Some (moves_on cell chosen)) item answer meets = subst IsShort (sym meets.0) meets.2
by_meaning (Some (runs inner)) item answer meets = absurd meets
by_meaning (Some (too_wide parts)) item answer meets = absurd meets
by_meaning (Some (never_passes token)) item answer meets = absurd meets

answer_short : (job : TextJob) (task : ℕ) (found : List (InputValue Item)) (item : Item) (answer : Answer) → JobAnswers job task found (Value item answer) → IsShort item
answer_short job task found item answer allowed = by_meaning (task_meaning job task found) item answer allowed

gathered_short : (job : TextJob) (inner : FrameRun TextJob Item) (item : Item) → text_job.gathers job inner item → IsShort item
gathered_short job inner item gathered = subst IsShort (sym gathered.0) gathered.1

short_text : (o : Option Item) → IfSome o IsShort → length (option_map_or item_text o []) ≤ value_limit
short_text None holds = omega arith
short_text (Some item) holds = holds

by_sink : (run : FrameRun TextJob Item) → IsKept text_job run → (o : Option ℕ) → length (option_map_or item_text (option_and_then (last_value (journal_of run) (values_of run)) o) []) ≤ value_limit
by_sink run kept None = omega arith
by_sink run kept (Some t) = short_text (last_value (journal_of run) (values_of run) t) (last_value_holds text_job IsShort answer_short gathered_short run kept.legal t)

pub feedback_short : (run : FrameRun TextJob Item) → IsKept text_job run → length (feedback_of run) ≤ value_limit
feedback_short run kept = by_sink run kept (last_sink (net_of (job_of run)))

pub feedback_is_value : (run : FrameRun TextJob Item) → IsKept text_job run → IsNormal (feedback_of run) → IsValueText (feedback_of run)
feedback_is_value run kept normal = record { normal = normal; short = feedback_short run kept }
