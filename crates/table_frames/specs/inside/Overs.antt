-- Runs of frames that are over, or not yet.
use Rattle.std.specs.Prelude.{◌≡◌, List, [], ◌∷◌, map, Some}
use Rattle.std.specs.Arc.{arc_value}
use Rattle.std.specs.Option.{option_map}
use Rattle.join_tables.specs.States.{FreshState}
use Rattle.join_tables.specs.declared.fates.Fate.{Fate}
use Rattle.nested_runs.specs.Totals.{all_spans}
use Rattle.run_frame.specs.Legal.{IsKept}
use Rattle.run_frame.specs.Meaning.{Meaning}
use Rattle.run_frame.specs.NestedRule.{job_of}
use Rattle.table_frames.specs.BacklogResults.{ClosesRun, MayTakeIn}
use Rattle.table_frames.specs.Frames.{AtFrame, BacklogView, ReleaseView, backlog_view, release_in}
use Rattle.table_runs.specs.RunKeys.{FrameKey}
use Rattle.table_runs.specs.JournalFacts.{HasEntries}
use Rattle.table_runs.specs.StepReleases.{GivesEdges, given_by}
use Rattle.table_frames.specs.Steps.{UsesRelease}
use Rattle.table_runs.specs.OpenStarts.{IsStartOf}
use Rattle.table_frames.specs.inside.FrameBatches.{HasBack}
use Rattle.table_frames.specs.declared.over.InnerOver.{InnerOver}
use Rattle.table_frames.specs.declared.over.Kept.{Kept}
use Rattle.table_frames.specs.declared.over.Over.{Over}
use Rattle.table_frames.specs.declared.over.Over.TheVariants.{No, Alone, Inside}

-- A run that may be kept was inside the frame around, in place of the work of a start there, with this account of its
-- spans.
pub record IsInnerOver {J V : Type 0} (meaning : Meaning J V) (inner : InnerOver J V) : Type 0 where
  pub frame : AtFrame (arc_value inner.parent) (λ key. inner.start.frame ≡ key)
  pub start : IsStartOf meaning (job_of inner.run) inner.start
  pub kept : IsKept meaning inner.run
  pub back : HasBack (arc_value inner.parent) (all_spans inner.run) (Some inner.spans)

-- It is the run of the first of these frames, and has the entries of these fates.
pub record IsInnerRunOf {J V : Type 0} (meaning : Meaning J V) (frames : List (FrameKey J)) (fates : List (Fate V)) (inner : InnerOver J V) : Type 0 where
  pub key : FrameKey J
  pub frames_are : frames ≡ key ∷ arc_value inner.parent
  pub job : job_of inner.run ≡ key.job
  pub over : IsInnerOver meaning inner
  pub entries : HasEntries inner.run fates

-- what is given out of the first of these frames
abbrev pub IsOverOf : {J V : Type 0} → Meaning J V → List (FrameKey J) → List (Fate V) → Over J V → Type 0
IsOverOf meaning frames fates No = Unit {0}
IsOverOf meaning frames fates (Alone closed) = ClosesRun meaning frames fates closed
IsOverOf meaning frames fates (Inside inner) = IsInnerRunOf meaning frames fates inner

abbrev pub IsEnd : {J V : Type 0} → Over J V → Type 0
IsEnd No = ⊥
IsEnd (Alone closed) = Unit {0}
IsEnd (Inside inner) = Unit {0}

-- A frame's keeper took in these fates, unless there were none, and its run is over or goes on.
pub record KeepsFates {J V : Type 0} (meaning : Meaning J V) (frames : List (FrameKey J)) (fates : List (Fate V)) (kept : Kept J V) : Type 0 where
  pub over : IsOverOf meaning frames fates kept.over
  pub keeper : MayTakeIn frames fates (IsEnd kept.over) (option_map (λ s. s.value) kept.keeper)

-- the frames of the batch then
abbrev pub frames_after : {J V : Type 0} → List (FrameKey J) → Over J V → List (FrameKey J)
frames_after frames No = frames
frames_after frames (Alone closed) = frames
frames_after frames (Inside inner) = []

-- Its start is used up in the frame around by one fate, which the job there allows with the run. That alone is in the
-- backlog then. The releases that its End made are by edges alone.
pub record Resumes {J V : Type 0} (meaning : Meaning J V) (inner : InnerOver J V) (released : List (ReleaseView J)) (new : BacklogView J V) : Type 0 where
  pub frame : FrameKey J
  pub around : List (FrameKey J)
  pub frames_are : arc_value inner.parent ≡ frame ∷ around
  pub release : ReleaseView J
  pub release_frames : release.frames ≡ frame ∷ around
  pub made : List FreshState
  pub uses : UsesRelease meaning frame release (backlog_view [] []) new made
  pub run_is : uses.run ≡ Some inner.run
  pub edges : GivesEdges (meaning.net frame.job) frame.table (given_by uses.fate) [] uses.by_end
  pub released_are : released ≡ map (release_in release.frames) made
