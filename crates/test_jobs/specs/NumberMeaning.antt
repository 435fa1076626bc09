-- What jobs of numbers may answer.
use Rattle.std.specs.Prelude.{◌≡◌, ℕ, ◌+◌, min, List, [], ◌∷◌, drop, length, map, slice_get, IfSome, Option, Some, None}
use Rattle.std.specs.Arc.{arc_value}
use Rattle.std.specs.Global.{Global, Vec}
use Rattle.std.specs.declared.sync.Arc.{Arc}
use Rattle.task_graph.specs.NetRows.{NetRows}
use Rattle.task_graph.specs.declared.net.Shape.TheVariants.{Nested}
use Rattle.task_graph.specs.declared.net.TaskRow.{TaskRow}
use Rattle.journal_rules.specs.declared.entry.Why.{Why}
use Rattle.journal_rules.specs.declared.entry.Why.TheVariants.{Long, Wide, Unmet, Inner, OverRelease}
use Rattle.join_words.specs.Ins.{InputValue, value, first, nothing}
use Rattle.run_frame.specs.declared.job.Done.{Done}
use Rattle.run_frame.specs.declared.job.Done.TheVariants.{Value, Inner as InnerJob}
use Rattle.run_frame.specs.declared.run.FrameRun.{FrameRun}
use Rattle.run_frame.specs.Meaning.{Meaning, AnswerFits, FitsShape, IsOwnWhy}
use Rattle.run_frame.specs.NestedRule.{journal_of}

pub record NumberWork : Type 0 where
  pub net : NetRows
  pub inner : List NetRows
  pub limit : ℕ
  pub turns : ℕ
  pub fault : ℕ

-- one more than the number at the first edge
abbrev pub number_after : InputValue ℕ → ℕ
number_after (value n) = min (n + 1) 18446744073709551615
number_after first = 1
number_after nothing = 1

abbrev pub number_from : List (InputValue ℕ) → ℕ
number_from [] = 1
number_from (found ∷ more) = number_after found

-- the nets from a level on
abbrev pub nets_inside : Option (Arc (Vec (Arc NetRows Global)) Global) → ℕ → List NetRows
nets_inside None level = []
nets_inside (Some nets) level = map arc_value (drop level (arc_value nets).items)

-- the same job with these nets inside
abbrev pub with_inner : List NetRows → NumberWork → NumberWork
with_inner nets work = record { net = work.net; inner = nets; limit = work.limit; turns = work.turns; fault = work.fault }

-- a job of the first net inside another, with the other nets inside it
pub record IsInnerJob (work inner : NumberWork) : Type 0 where
  pub nets : work.inner ≡ inner.net ∷ inner.inner
  pub limit : inner.limit ≡ work.limit
  pub turns : inner.turns ≡ work.turns
  pub fault : inner.fault ≡ work.fault

abbrev pub IsNestedTask : NetRows → ℕ → Type 0
IsNestedTask net task = IfSome (slice_get net.tasks task) (λ (row : TaskRow). row.shape ≡ Nested)

-- A task that comes to a number may give it to any of its successors. A Nested one may answer a job of the first net
-- inside.
abbrev pub NumberDone : NumberWork → ℕ → ℕ → Done NumberWork ℕ → Type 0
NumberDone work task number (Value n answer) = (n ≡ number) × IfSome (slice_get work.net.tasks task) (λ (row : TaskRow). FitsShape row.shape answer)
NumberDone work task number (InnerJob inner) = IsNestedTask work.net task × IsInnerJob work inner

abbrev pub NumberAnswers : NumberWork → ℕ → List (InputValue ℕ) → Done NumberWork ℕ → Type 0
NumberAnswers work task found done = NumberDone work task (number_from found) done

-- It faults at one number alone.
abbrev pub NumberFaults : NumberWork → ℕ → List (InputValue ℕ) → Why → Type 0
NumberFaults work task found (Long n) = (n ≡ number_from found) × (n ≡ work.fault)
NumberFaults work task found (Wide n) = ⊥
NumberFaults work task found (Unmet k) = ⊥
NumberFaults work task found Inner = ⊥
NumberFaults work task found (OverRelease s) = ⊥

-- Gathering a run faults at the same number of entries.
abbrev pub NumberGatherFaults : NumberWork → FrameRun NumberWork ℕ → Why → Type 0
NumberGatherFaults work run (Wide n) = (n ≡ length (journal_of run)) × (n ≡ work.fault)
NumberGatherFaults work run _ = ⊥

abbrev pub number_job : Meaning NumberWork ℕ
number_job = record {
  net = λ work. work.net;
  limit = λ work. work.limit;
  answers = NumberAnswers;
  faults = NumberFaults;
  gathers = λ work run n. n ≡ length (journal_of run);
  gather_faults = NumberGatherFaults;
  follows = λ work run next. ⊥;
}

abbrev pub IsNumberJob : NumberWork → Type 0
IsNumberJob work = Unit {0}

pub number_answers_fit : (work : NumberWork) (task : ℕ) (found : List (InputValue ℕ)) (done : Done NumberWork ℕ) → IsNumberJob work → NumberAnswers work task found done → AnswerFits work.net task done
number_answers_fit work task found (Value n answer) is answers = answers.1
number_answers_fit work task found (InnerJob inner) is answers = answers.0

pub number_faults_own : (work : NumberWork) (task : ℕ) (found : List (InputValue ℕ)) (why : Why) → IsNumberJob work → NumberFaults work task found why → IsOwnWhy why
number_faults_own work task found (Long n) is faults = tt
number_faults_own work task found (Wide n) is faults = tt
number_faults_own work task found (Unmet k) is faults = tt
number_faults_own work task found Inner is faults = absurd faults
number_faults_own work task found (OverRelease s) is faults = absurd faults

pub number_gather_faults_own : (work : NumberWork) (run : FrameRun NumberWork ℕ) (why : Why) → IsNumberJob work → number_job.gather_faults work run why → IsOwnWhy why
number_gather_faults_own work run (Long n) is never = absurd never
number_gather_faults_own work run (Wide n) is faults = tt
number_gather_faults_own work run (Unmet k) is never = absurd never
number_gather_faults_own work run Inner is never = absurd never
number_gather_faults_own work run (OverRelease s) is never = absurd never
