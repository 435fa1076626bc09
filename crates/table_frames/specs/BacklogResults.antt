-- What the bringing of a backlog comes to.
use Rattle.std.specs.Prelude.{◌≡◌, ◌↔◌, ◌⊎◌, ℕ, List, [], ◌∷◌, ◌++◌, map, Option, Some, None}
use Rattle.std.specs.Option.{option_map}
use Rattle.join_tables.specs.Findings.{FindsOne}
use Rattle.join_tables.specs.Keeping.{KeeperState}
use Rattle.join_tables.specs.States.{FreshState}
use Rattle.join_tables.specs.declared.fates.Fate.{Fate}
use Rattle.run_frame.specs.Legal.{IsKept}
use Rattle.run_frame.specs.Meaning.{Meaning}
use Rattle.run_frame.specs.NestedRule.{job_of}
use Rattle.run_frame.specs.declared.run.FrameRun.{FrameRun}
use Rattle.semaphore_turns.specs.Settlements.{AreDrops}
use Rattle.table_frames.specs.Frames.{BacklogView, HasTable, IsAccounted, ReleaseView, backlog_view, release_in}
use Rattle.table_runs.specs.RunKeys.{FrameKey}
use Rattle.table_runs.specs.StepReleases.{GivesEdges, given_by}
use Rattle.table_frames.specs.Steps.{UsesRelease}
use Rattle.table_runs.specs.JournalFacts.{HasEntries}
use Rattle.table_frames.specs.declared.closed_run.ClosedRun.{ClosedRun}
use Rattle.table_frames.specs.declared.step_results.Brought.{Brought}
use Rattle.table_frames.specs.declared.step_results.State.{State}
use Rattle.table_frames.specs.declared.step_results.State.TheVariants.{Went, Parked, Inner, Resumed, Closed}

-- A frame's keeper has taken in these fates last. As it did it found how many turns were live, and the run is over
-- exactly where that was one.
pub record TakesIn {J V : Type 0} (frames : List (FrameKey J)) (fates : List (Fate V)) (over : Type 0) (keeper : KeeperState V) : Type 0 where
  pub table : HasTable frames keeper.table
  pub earlier : List (Fate V)
  pub fates_are : keeper.fates ≡ earlier ++ fates
  pub before : List ℕ
  pub found : FindsOne (λ n. over ↔ (n ≡ 1)) before keeper.found

-- It has, unless there was nothing to take in, or a run is open inside the frame. Then the run goes on.
abbrev pub MayTakeIn : {J V : Type 0} → List (FrameKey J) → List (Fate V) → Type 0 → Option (KeeperState V) → Type 0
MayTakeIn frames fates over None = ¬ over
MayTakeIn frames fates over (Some keeper) = TakesIn frames fates over keeper

-- The run of a frame is over that was inside another, and has the entries of these fates. So the start whose work it
-- was is used up in the frame around by one fate, which the job there allows with this run. That alone is in the
-- backlog then, and these releases of the frame around were made: by the End's edges, since its task isn't released
-- again, and of those that waited for units.
pub record ResumesStart {J V : Type 0} (meaning : Meaning J V) (frames : List (FrameKey J)) (fates : List (Fate V)) (released : List (ReleaseView J)) (new : BacklogView J V) : Type 0 where
  pub inner : FrameKey J
  pub frame : FrameKey J
  pub around : List (FrameKey J)
  pub frames_are : frames ≡ inner ∷ frame ∷ around
  pub run : FrameRun J V
  pub job : job_of run ≡ inner.job
  pub entries : HasEntries run fates
  pub release : ReleaseView J
  pub release_frames : release.frames ≡ frame ∷ around
  pub made : List FreshState
  pub uses : UsesRelease meaning frame release (backlog_view [] []) new made
  pub run_is : uses.run ≡ Some run
  pub edges : GivesEdges (meaning.net frame.job) frame.table (given_by uses.fate) [] uses.by_end
  pub released_are : released ≡ map (release_in release.frames) made

-- The run of a frame that is in no other is over. It is given out with the account of its book, may be kept, and has
-- the entries of these fates.
pub record ClosesRun {J V : Type 0} (meaning : Meaning J V) (frames : List (FrameKey J)) (fates : List (Fate V)) (closed : ClosedRun J V) : Type 0 where
  pub frame : FrameKey J
  pub frames_are : frames ≡ frame ∷ []
  pub job : job_of closed.run ≡ frame.job
  pub kept : IsKept meaning closed.run
  pub entries : HasEntries closed.run fates
  pub book : frame.book ≡ Some closed.spans.book
  pub account : IsAccounted closed

-- these frames, those around the first of them, or none
abbrev pub IsFrameOf : {J : Type 0} → List (FrameKey J) → List (FrameKey J) → Type 0
IsFrameOf [] new = new ≡ []
IsFrameOf (frame ∷ around) new = (new ≡ frame ∷ around) ⊎ (new ≡ around) ⊎ (new ≡ [])

-- what is with the run then: it goes on, its start does in the run around it, or it is given out
abbrev pub BringsTo : {J V : Type 0} → Meaning J V → List (FrameKey J) → List (Fate V) → BacklogView J V → State J V → Type 0
BringsTo meaning frames fates new Went = new ≡ backlog_view frames []
BringsTo meaning frames fates new (Parked turn) = ⊥
BringsTo meaning frames fates new (Inner first) = ⊥
BringsTo meaning frames fates new (Resumed released) = ResumesStart meaning frames fates released.items new
BringsTo meaning frames fates new (Closed closed) = ClosesRun meaning frames fates closed × (new ≡ backlog_view frames [])

-- the run of the frame is over
abbrev pub IsOver : {J V : Type 0} → State J V → Type 0
IsOver (Resumed released) = Unit {0}
IsOver (Closed closed) = Unit {0}
IsOver _ = ⊥

-- What was done in a frame was brought to its keeper. With the last turn of the frame its run is over.
pub record BringsFates {J V : Type 0} (meaning : Meaning J V) (frames : List (FrameKey J)) (fates : List (Fate V)) (new : BacklogView J V) (brought : Brought J V) : Type 0 where
  pub to : BringsTo meaning frames fates new brought.state
  pub keeper : MayTakeIn frames fates (IsOver brought.state) (option_map (λ s. s.value) brought.keeper)

-- A bringing failed: the backlog stays as it was, or nothing is in it. Then it is of its frame, of the frame around, or
-- of none.
abbrev pub IsLeftOf : {J V : Type 0} → BacklogView J V → BacklogView J V → Type 0
IsLeftOf old new = (new ≡ old) ⊎ ((new.fates ≡ []) × IsFrameOf old.frames new.frames)

-- All that was parked in a frame is dropped, which is in the backlog now.
pub record DropsParked {J V : Type 0} (frames : List (FrameKey J)) (new : BacklogView J V) : Type 0 where
  pub fate : Fate V
  pub drops : AreDrops fate
  pub backlog : new ≡ backlog_view frames (fate ∷ [])

-- What is parked in a frame was looked at: a release goes on, all are dropped, or they wait.
abbrev pub SettlesFrame : {J V : Type 0} → List (FrameKey J) → BacklogView J V → Option (ReleaseView J) → Type 0
SettlesFrame frames new (Some release) = (release.frames ≡ frames) × (new ≡ backlog_view [] [])
SettlesFrame frames new None = (new ≡ backlog_view [] []) ⊎ DropsParked frames new
