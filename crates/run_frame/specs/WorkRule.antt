-- What a start's work comes to, by the job's meaning.
use Rattle.std.specs.Prelude.{◌≡◌, ℕ, Bool, true, false, List, [], Option, Some, None, length, slice_get, IsSomeAnd}
use Rattle.task_graph.specs.Net.{out_edges}
use Rattle.task_graph.specs.Chosen.{chosen_edges}
use Rattle.journal_rules.specs.declared.entry.Why.{Why}
use Rattle.journal_rules.specs.declared.entry.Why.TheVariants.{Long, Wide, Unmet, Inner, OverRelease}
use Rattle.journal_rules.specs.declared.entry.Entry.{Entry}
use Rattle.journal_rules.specs.declared.entry.Entry.TheVariants.{Start, End, Fault, Drop}
use Rattle.join_words.specs.Ins.{InputValue}
use Rattle.run_frame.specs.declared.job.Answer.{Answer}
use Rattle.run_frame.specs.declared.job.Answer.TheVariants.{All, None as NoneOf, Indices}
use Rattle.run_frame.specs.declared.job.Done.TheVariants.{Value}
use Rattle.run_frame.specs.declared.run.ValueRow.{ValueRow}
use Rattle.run_frame.specs.declared.run.FrameRun.{FrameRun}
use Rattle.run_frame.specs.Meaning.{Meaning}
use Rattle.run_frame.specs.Runs.{value_at, found_ins}

-- The edges that an answer gives: all out-edges in order, none, or those chosen.
abbrev pub gives_of : List ℕ → Answer → List ℕ
gives_of out All = out
gives_of out NoneOf = []
gives_of out (Indices is) = chosen_edges out is

-- a start that was made: its task and what it found
pub record Work (V : Type 0) : Type 0 where
  pub task : ℕ
  pub found : List (InputValue V)

-- the work of an entry, if it is a Start
abbrev pub work_of : {V : Type 0} → List (ValueRow V) → Entry → Option (Work V)
work_of values (Start task cause ins) = Some (record { task = task; found = found_ins values ins })
work_of values (End start gives inner) = None
work_of values (Fault start why) = None
work_of values (Drop task cause why) = None

-- the work of the Start at a place
abbrev pub work_at : {V : Type 0} → List (ValueRow V) → List Entry → ℕ → Option (Work V)
work_at values journal n = elim (slice_get journal n) [ None ↦ None | Some entry ↦ work_of values entry ]

-- The value and the edges given come from one answer that the meaning allows.
pub record Answers {J V : Type 0} (meaning : Meaning J V) (job : J) (work : Work V) (v : V) (gives : List ℕ) : Type 0 where
  pub answer : Answer
  pub allowed : meaning.answers job work.task work.found (Value v answer)
  pub chosen : gives ≡ gives_of (out_edges (meaning.net job) work.task) answer

-- An End that isn't inner has such a value.
abbrev pub EndRule : {J V : Type 0} → Meaning J V → J → List (ValueRow V) → List Entry → ℕ → List ℕ → Bool → Type 0
EndRule meaning job values journal start gives true = Unit {0}
EndRule meaning job values journal start gives false =
    IsSomeAnd (work_at values journal start) (λ work. IsSomeAnd (value_at values (length journal)) (λ v. Answers meaning job work v gives))

-- The meaning allows an answer that is a value.
pub record AnswersValue {J V : Type 0} (meaning : Meaning J V) (job : J) (work : Work V) : Type 0 where
  pub value : V
  pub answer : Answer
  pub allowed : meaning.answers job work.task work.found (Value value answer)

-- A Fault without an inner run has a why that the meaning allows. Whether a unit is wanting is decided by the
-- net (`SemaphoreRule`), but such a fault comes in place of an End, so the work has answered a value. No fault
-- without an inner run tells of one.
abbrev pub FaultAllowed : {J V : Type 0} → Meaning J V → J → Work V → Why → Type 0
FaultAllowed meaning job work (Long n) = meaning.faults job work.task work.found (Long n)
FaultAllowed meaning job work (Wide n) = meaning.faults job work.task work.found (Wide n)
FaultAllowed meaning job work (Unmet k) = meaning.faults job work.task work.found (Unmet k)
FaultAllowed meaning job work Inner = ⊥
FaultAllowed meaning job work (OverRelease s) = AnswersValue meaning job work

abbrev pub FaultRule : {J V : Type 0} → Meaning J V → J → List (ValueRow V) → List Entry → ℕ → Why → Option (FrameRun J V) → Type 0
FaultRule meaning job values journal start why None = IsSomeAnd (work_at values journal start) (λ work. FaultAllowed meaning job work why)
FaultRule meaning job values journal start why (Some run) = Unit {0}

-- Each End and each Fault comes from what the job may answer on what its Start found.
abbrev pub WorkRule : {J V : Type 0} → Meaning J V → J → List (ValueRow V) → (ℕ → Option (FrameRun J V)) → List Entry → Entry → Type 0
WorkRule meaning job values inner journal (Start task cause ins) = Unit {0}
WorkRule meaning job values inner journal (End start gives is_inner) = EndRule meaning job values journal start gives is_inner
WorkRule meaning job values inner journal (Fault start why) = FaultRule meaning job values journal start why (inner (length journal))
WorkRule meaning job values inner journal (Drop task cause why) = Unit {0}
