-- What the runs that starts make are to the run around them.
use Rattle.std.specs.Prelude.{◌≡◌, ℕ, Bool, true, false, List, Option, Some, None, length, IsSomeAnd}
use Rattle.std.specs.Arc.{arc_value}
use Rattle.task_graph.specs.Net.{out_edges}
use Rattle.journal_rules.specs.declared.entry.Why.{Why}
use Rattle.journal_rules.specs.declared.entry.Why.TheVariants.{Long, Wide, Unmet, Inner, OverRelease}
use Rattle.journal_rules.specs.declared.entry.Entry.{Entry}
use Rattle.journal_rules.specs.declared.entry.Entry.TheVariants.{Start, End, Fault, Drop}
use Rattle.run_frame.specs.declared.job.Done.TheVariants.{Inner as InnerJob}
use Rattle.run_frame.specs.declared.run.ValueRow.{ValueRow}
use Rattle.run_frame.specs.declared.run.FrameRun.{FrameRun, out-FrameRun}
use Rattle.run_frame.specs.Meaning.{Meaning}
use Rattle.run_frame.specs.Runs.{value_at, IsFine}
use Rattle.run_frame.specs.WorkRule.{Work, work_at}

-- the job and the journal of a run
abbrev pub job_of : {J V : Type 0} → FrameRun J V → J
job_of {J} {V} run = arc_value (out-FrameRun J V run).job

abbrev pub journal_of : {J V : Type 0} → FrameRun J V → List Entry
journal_of {J} {V} run = (out-FrameRun J V run).journal

-- the inner run is of a job that the meaning allows in place of the work
abbrev pub IsInnerOf : {J V : Type 0} → Meaning J V → J → Work V → FrameRun J V → Type 0
IsInnerOf meaning job work run = meaning.answers job work.task work.found (InnerJob (job_of run))

-- An inner End stands where its run is fine. It gives all out-edges, and its value is one that the run may be
-- gathered to.
pub record InnerEnd {J V : Type 0} (meaning : Meaning J V) (job : J) (work : Work V) (v : V) (gives : List ℕ) (run : FrameRun J V) : Type 0 where
  pub answered : IsInnerOf meaning job work run
  pub fine : IsFine (journal_of run)
  pub gathered : meaning.gathers (job_of run) run v
  pub all_edges : gives ≡ out_edges (meaning.net job) work.task

-- A Fault that names its inner run stands where that run isn't fine; any other with an inner run stands where
-- it is, and has a why that gathering it may name, or tells of a unit.
abbrev pub InnerWhy : {J V : Type 0} → Meaning J V → FrameRun J V → Why → Type 0
InnerWhy meaning run (Long n) = IsFine (journal_of run) × meaning.gather_faults (job_of run) run (Long n)
InnerWhy meaning run (Wide n) = IsFine (journal_of run) × meaning.gather_faults (job_of run) run (Wide n)
InnerWhy meaning run (Unmet k) = IsFine (journal_of run) × meaning.gather_faults (job_of run) run (Unmet k)
InnerWhy meaning run Inner = ¬ IsFine (journal_of run)
InnerWhy meaning run (OverRelease s) = IsFine (journal_of run)

abbrev pub InnerFault : {J V : Type 0} → Meaning J V → J → List (ValueRow V) → List Entry → ℕ → Why → Option (FrameRun J V) → Type 0
InnerFault meaning job values journal start why None = Unit {0}
InnerFault meaning job values journal start why (Some run) =
    IsSomeAnd (work_at values journal start) (λ work. IsInnerOf meaning job work run × InnerWhy meaning run why)

abbrev pub InnerEndRule : {J V : Type 0} → Meaning J V → J → List (ValueRow V) → List Entry → ℕ → List ℕ → Bool → Option (FrameRun J V) → Type 0
InnerEndRule meaning job values journal start gives true run =
    IsSomeAnd run (λ inner. IsSomeAnd (work_at values journal start) (λ work. IsSomeAnd (value_at values (length journal)) (λ v. InnerEnd meaning job work v gives inner)))
InnerEndRule meaning job values journal start gives false None = Unit {0}
InnerEndRule meaning job values journal start gives false (Some run) = ⊥

-- Where a start made a run, its End or Fault fits that run. No other End has one, and no Start or Drop.
abbrev pub NestedRule : {J V : Type 0} → Meaning J V → J → List (ValueRow V) → (ℕ → Option (FrameRun J V)) → List Entry → Entry → Type 0
NestedRule meaning job values inner journal (Start task cause ins) = inner (length journal) ≡ None
NestedRule meaning job values inner journal (End start gives is_inner) = InnerEndRule meaning job values journal start gives is_inner (inner (length journal))
NestedRule meaning job values inner journal (Fault start why) = InnerFault meaning job values journal start why (inner (length journal))
NestedRule meaning job values inner journal (Drop task cause why) = inner (length journal) ≡ None
