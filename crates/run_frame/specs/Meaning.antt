-- What a job may answer.
use Rattle.std.specs.Prelude.{◌≡◌, ◌≢◌, ℕ, ◌<◌, List, [], length, slice_get, IfSome, IsSomeAnd, IsTrue}
use Rattle.task_graph.specs.NetRows.{NetRows}
use Rattle.task_graph.specs.Net.{IsSource, strong_in, is_weak}
use Rattle.task_graph.specs.declared.net.EdgeRow.{EdgeRow}
use Rattle.task_graph.specs.declared.net.Shape.{Shape}
use Rattle.task_graph.specs.declared.net.Shape.TheVariants.{Plain, Choice, Many, Nested}
use Rattle.task_graph.specs.declared.net.TaskRow.{TaskRow}
use Rattle.journal_rules.specs.declared.entry.Cause.{Cause}
use Rattle.journal_rules.specs.declared.entry.Cause.TheVariants.{Source, Strong, Weak}
use Rattle.journal_rules.specs.declared.entry.Why.{Why}
use Rattle.journal_rules.specs.declared.entry.Why.TheVariants.{Long, Wide, Unmet, Inner, OverRelease}
use Rattle.journal_rules.specs.DataRule.{edges_of}
use Rattle.join_words.specs.Ins.{InputValue}
use Rattle.run_frame.specs.declared.job.Answer.{Answer}
use Rattle.run_frame.specs.declared.job.Answer.TheVariants.{All, None as NoneOf, Indices}
use Rattle.run_frame.specs.declared.job.Done.{Done}
use Rattle.run_frame.specs.declared.job.Done.TheVariants.{Value, Inner as InnerJob}
use Rattle.run_frame.specs.declared.job.JobError.{JobError}
use Rattle.run_frame.specs.declared.job.JobError.TheVariants.{Fault as FaultOf, NoMemory}
use Rattle.run_frame.specs.declared.run.FrameRun.{FrameRun}

-- The meaning of jobs of a type, with values of a type: the net of a job and the starts that a run of it may
-- have; which answers and which faults a task may come to on what it finds; of a job that was run inside
-- another, to which values a run of it may be gathered and which faults gathering it may name; and of a job that
-- is run again, which job may follow a run of it.
pub record Meaning (J V : Type 0) : Type 1 where
  pub net : J → NetRows
  pub limit : J → ℕ
  pub answers : J → ℕ → List (InputValue V) → Done J V → Type 0
  pub faults : J → ℕ → List (InputValue V) → Why → Type 0
  pub gathers : J → FrameRun J V → V → Type 0
  pub gather_faults : J → FrameRun J V → Why → Type 0
  pub follows : J → FrameRun J V → J → Type 0

-- A task can be released by a cause: as a source, by its strong in-edges if it has any, by a weak edge into it.
abbrev pub IsCauseOf : NetRows → ℕ → Cause → Type 0
IsCauseOf net task Source = IsSource net task
IsCauseOf net task Strong = strong_in net task ≢ []
IsCauseOf net task (Weak e) = IsTrue (is_weak net e) × IsSomeAnd (slice_get net.edges e) (λ (row : EdgeRow). row.to ≡ task)

-- the inputs of a start of the task by some cause have so many parts: one for each edge of that cause
pub record IsRelease (net : NetRows) (task parts : ℕ) : Type 0 where
  pub in_range : task < length net.tasks
  pub cause : Cause
  pub can_release : IsCauseOf net task cause
  pub size : parts ≡ length (edges_of net task cause)

-- The fault that an error tells is allowed; an allocation may always fail.
abbrev pub ErrorAllowed : {J V : Type 0} → Meaning J V → J → ℕ → List (InputValue V) → JobError → Type 0
ErrorAllowed meaning job task found (FaultOf why) = meaning.faults job task found why
ErrorAllowed meaning job task found NoMemory = Unit {0}

-- So it is with an error of gathering a run.
abbrev pub GatherErrorAllowed : {J V : Type 0} → Meaning J V → J → FrameRun J V → JobError → Type 0
GatherErrorAllowed meaning job run (FaultOf why) = meaning.gather_faults job run why
GatherErrorAllowed meaning job run NoMemory = Unit {0}

-- All fits a Plain and a Nested task, one index a Choice, any indices a Many, and none every task.
abbrev pub FitsShape : Shape → Answer → Type 0
FitsShape Plain All = Unit {0}
FitsShape Plain NoneOf = Unit {0}
FitsShape Plain (Indices is) = ⊥
FitsShape Choice All = ⊥
FitsShape Choice NoneOf = Unit {0}
FitsShape Choice (Indices is) = length is ≡ 1
FitsShape Many All = ⊥
FitsShape Many NoneOf = Unit {0}
FitsShape Many (Indices is) = Unit {0}
FitsShape Nested All = Unit {0}
FitsShape Nested NoneOf = Unit {0}
FitsShape Nested (Indices is) = ⊥

-- A value's answer fits the shape of its task, and only a Nested task answers with a job.
abbrev pub DoneFits : {J V : Type 0} → Shape → Done J V → Type 0
DoneFits shape (Value v answer) = FitsShape shape answer
DoneFits shape (InnerJob job) = shape ≡ Nested

abbrev pub AnswerFits : {J V : Type 0} → NetRows → ℕ → Done J V → Type 0
AnswerFits net task done = IfSome (slice_get net.tasks task) (λ (row : TaskRow). DoneFits row.shape done)

-- a why of the work's own
abbrev pub IsOwnWhy : Why → Type 0
IsOwnWhy (Long n) = Unit {0}
IsOwnWhy (Wide n) = Unit {0}
IsOwnWhy (Unmet k) = Unit {0}
IsOwnWhy Inner = ⊥
IsOwnWhy (OverRelease s) = ⊥
