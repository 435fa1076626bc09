-- What jobs whose tasks count may answer.
use Rattle.std.specs.Prelude.{◌≡◌, ℕ, List, slice_get, IfSome}
use Rattle.task_graph.specs.NetRows.{NetRows}
use Rattle.task_graph.specs.declared.net.TaskRow.{TaskRow}
use Rattle.journal_rules.specs.declared.entry.Why.{Why}
use Rattle.join_words.specs.Ins.{InputValue}
use Rattle.run_frame.specs.declared.job.Done.{Done}
use Rattle.run_frame.specs.declared.job.Done.TheVariants.{Value, Inner}
use Rattle.run_frame.specs.declared.run.FrameRun.{FrameRun}
use Rattle.run_frame.specs.Meaning.{Meaning, AnswerFits, FitsShape, IsOwnWhy}

-- All successors of a task go on, or none if it is one that chooses.
abbrev pub TickAnswers : NetRows → ℕ → List (InputValue ℕ) → Done NetRows ℕ → Type 0
TickAnswers net task found (Value n answer) = IfSome (slice_get net.tasks task) (λ (row : TaskRow). FitsShape row.shape answer)
TickAnswers net task found (Inner inner) = ⊥

-- It never faults, no run is made in the place of a task, and the same job follows.
abbrev pub tick_job : Meaning NetRows ℕ
tick_job = record {
  net = λ net. net;
  limit = λ net. 1000;
  answers = TickAnswers;
  faults = λ net task found why. ⊥;
  gathers = λ net run n. n ≡ 0;
  gather_faults = λ net run why. ⊥;
  follows = λ net run next. next ≡ net;
}

abbrev pub IsTickJob : NetRows → Type 0
IsTickJob net = Unit {0}

pub tick_answers_fit : (net : NetRows) (task : ℕ) (found : List (InputValue ℕ)) (done : Done NetRows ℕ) → IsTickJob net → TickAnswers net task found done → AnswerFits net task done
tick_answers_fit net task found (Value n answer) is answers = answers
tick_answers_fit net task found (Inner inner) is answers = absurd answers

pub tick_faults_own : (net : NetRows) (task : ℕ) (found : List (InputValue ℕ)) (why : Why) → IsTickJob net → tick_job.faults net task found why → IsOwnWhy why
tick_faults_own net task found why is never = absurd never

pub tick_gather_faults_own : (net : NetRows) (run : FrameRun NetRows ℕ) (why : Why) → IsTickJob net → tick_job.gather_faults net run why → IsOwnWhy why
tick_gather_faults_own net run why is never = absurd never
