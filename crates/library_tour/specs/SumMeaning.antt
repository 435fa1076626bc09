-- What jobs that add numbers may answer.
use Rattle.std.specs.Prelude.{◌≡◌, ℕ, ◌+◌, min, List, sum_by, slice_get, unwrap_or, IfSome}
use Rattle.task_graph.specs.NetRows.{NetRows}
use Rattle.task_graph.specs.declared.net.TaskRow.{TaskRow}
use Rattle.journal_rules.specs.declared.entry.Why.{Why}
use Rattle.join_words.specs.Ins.{InputValue, value, first, nothing}
use Rattle.run_frame.specs.declared.job.Done.{Done}
use Rattle.run_frame.specs.declared.job.Done.TheVariants.{Value, Inner}
use Rattle.run_frame.specs.declared.run.FrameRun.{FrameRun}
use Rattle.run_frame.specs.Meaning.{Meaning, AnswerFits, FitsShape, IsOwnWhy}

-- a net, and the number of each task
pub record SumWork : Type 0 where
  pub net : NetRows
  pub numbers : List ℕ

-- the number of a task, or 0
abbrev pub number_at : List ℕ → ℕ → ℕ
number_at numbers task = unwrap_or (slice_get numbers task) 0

abbrev pub number_of : InputValue ℕ → ℕ
number_of (value n) = n
number_of first = 0
number_of nothing = 0

-- a number and those that are found, added; at the greatest u64 it stays there
abbrev pub sum_with : ℕ → List (InputValue ℕ) → ℕ
sum_with number found = min (number + sum_by number_of found) 18446744073709551615

-- A task comes to its own number plus those that it finds, and all its successors go on, or none if it is one that
-- chooses.
abbrev pub SumAnswers : SumWork → ℕ → List (InputValue ℕ) → Done SumWork ℕ → Type 0
SumAnswers work task found (Value n answer) =
    (n ≡ sum_with (number_at work.numbers task) found) × IfSome (slice_get work.net.tasks task) (λ (row : TaskRow). FitsShape row.shape answer)
SumAnswers work task found (Inner inner) = ⊥

-- It never faults, and no run is made in the place of a task.
abbrev pub sum_job : Meaning SumWork ℕ
sum_job = record {
  net = λ work. work.net;
  limit = λ work. 1000;
  answers = SumAnswers;
  faults = λ work task found why. ⊥;
  gathers = λ work run n. n ≡ 0;
  gather_faults = λ work run why. ⊥;
  follows = λ work run next. ⊥;
}

abbrev pub IsSumJob : SumWork → Type 0
IsSumJob work = Unit {0}

pub sum_answers_fit : (work : SumWork) (task : ℕ) (found : List (InputValue ℕ)) (done : Done SumWork ℕ) → IsSumJob work → SumAnswers work task found done → AnswerFits work.net task done
sum_answers_fit work task found (Value n answer) is answers = answers.1
sum_answers_fit work task found (Inner inner) is answers = absurd answers

pub sum_faults_own : (work : SumWork) (task : ℕ) (found : List (InputValue ℕ)) (why : Why) → IsSumJob work → sum_job.faults work task found why → IsOwnWhy why
sum_faults_own work task found why is never = absurd never

pub sum_gather_faults_own : (work : SumWork) (run : FrameRun SumWork ℕ) (why : Why) → IsSumJob work → sum_job.gather_faults work run why → IsOwnWhy why
sum_gather_faults_own work run why is never = absurd never
