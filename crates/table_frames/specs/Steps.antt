-- What a beginning and a step of a frame come to, and what is then with its run.
use Rattle.std.specs.Prelude.{◌≡◌, ◌≢◌, ℕ, List, [], ◌∷◌, ◌++◌, length, map, All, Option, Some}
use Rattle.task_graph.specs.NetRows.{NetRows}
use Rattle.join_tables.specs.States.{FreshState, TurnState, fresh_state}
use Rattle.semaphore_turns.specs.Semaphores.{put_by, taken_by}
use Rattle.semaphore_turns.specs.HeldUnits.{FoundNone}
use Rattle.semaphore_turns.specs.WaitingTurns.{WaitsAt, release_of}
use Rattle.semaphore_turns.specs.WokenTurns.{Wakes}
use Rattle.table_steps.specs.OneJournal.{AreInOneJournal}
use Rattle.atomic_table.specs.Seated.{TableId}
use Rattle.join_words.specs.Ins.{found_of, parts_of}
use Rattle.join_words.specs.declared.ins.Ins.{Ins}
use Rattle.join_tables.specs.Keeping.{start_of, with_places}
use Rattle.join_tables.specs.Parts.{parts_in}
use Rattle.join_tables.specs.FirstCauses.{first_fresh}
use Rattle.join_tables.specs.declared.fates.Fate.{Fate}
use Rattle.run_frame.specs.Meaning.{Meaning}
use Rattle.run_frame.specs.Legal.{IsKept}
use Rattle.run_frame.specs.NestedRule.{job_of}
use Rattle.run_frame.specs.declared.job.Done.TheVariants.{Inner as InnerJob}
use Rattle.run_frame.specs.declared.run.FrameRun.{FrameRun}
use Rattle.table_runs.specs.AllowedFates.{IsAllowed}
use Rattle.table_runs.specs.Openings.{IsOverAtOnce}
use Rattle.table_runs.specs.StepReleases.{MayRelease, Uses}
use Rattle.table_runs.specs.JournalFacts.{IsInJournal}
use Rattle.table_runs.specs.RunKeys.{FrameKey, table_in}
use Rattle.table_frames.specs.Frames.{ReleaseView, BacklogView, IsAccounted, backlog_view, book_of, root_job, release_in}
use Rattle.table_frames.specs.declared.closed_run.ClosedRun.{ClosedRun}
use Rattle.table_frames.specs.declared.step_results.State.{State}
use Rattle.table_frames.specs.declared.step_results.State.TheVariants.{Went, Parked, Inner, Resumed, Closed}
use Rattle.table_frames.specs.declared.step_results.Stepped.{Stepped}

-- A run that may be kept, of the job of the frame that is in no other, with the account of its book.
pub record IsRootRun {J V : Type 0} (meaning : Meaning J V) (frames : List (FrameKey J)) (closed : ClosedRun J V) : Type 0 where
  pub kept : IsKept meaning closed.run
  pub job : root_job frames ≡ Some (job_of closed.run)
  pub book : book_of frames ≡ Some closed.spans.book
  pub account : IsAccounted closed

-- What is with the run of a frame that has begun. Where nothing is to be done the run is given out.
abbrev pub IsStateOf : {J V : Type 0} → Meaning J V → List (FrameKey J) → State J V → Type 0
IsStateOf meaning frames Went = Unit {0}
IsStateOf meaning frames (Closed closed) = IsRootRun meaning frames closed
IsStateOf meaning frames _ = ⊥

abbrev pub IsClosed : {J V : Type 0} → State J V → Type 0
IsClosed (Closed closed) = Unit {0}
IsClosed _ = ⊥

-- A frame has begun, which is in no other and has this book of spans: its first releases are these, by rising task.
pub record BeginsFrame {J V : Type 0} (meaning : Meaning J V) (job : J) (book : TableId) (stepped : Stepped J V) : Type 0 where
  pub frame : FrameKey J
  pub job_is : frame.job ≡ job
  pub book_is : frame.book ≡ Some book
  pub released : stepped.released.items ≡ map (release_in (frame ∷ [])) (first_fresh frame.table (meaning.net job) 0 (length (meaning.net job).tasks))
  pub frames : All (λ (release : ReleaseView J). release.frames ≡ frame ∷ []) stepped.released.items
  pub state : IsStateOf meaning (frame ∷ []) stepped.state

-- the semaphores of which a task takes a unit or puts one
abbrev pub units_of : NetRows → ℕ → List ℕ
units_of net t = taken_by net t ++ put_by net t

-- A release was used up by one fate, which the job of its frame allows with the run that was made in place of the work,
-- if one was. Its entries are in one legal journal, and it is in the backlog now. It made these releases, and woke
-- others that waited for units of its task's semaphores.
pub record UsesRelease {J V : Type 0} (meaning : Meaning J V) (frame : FrameKey J) (release : ReleaseView J) (old new : BacklogView J V) (made : List FreshState) : Type 0 where
  pub fate : Fate V
  pub run : Option (FrameRun J V)
  pub by_end : List FreshState
  pub allowed : IsAllowed meaning frame.job fate run
  pub journal : IsInJournal meaning frame.job fate
  pub uses : Uses (meaning.net frame.job) (fresh_state frame.table release.task release.cause) fate [] by_end
  pub wakes : Wakes (table_in meaning frame) (units_of (meaning.net frame.job) release.task) by_end made
  pub backlog : new ≡ backlog_view release.frames (old.fates ++ fate ∷ [])

-- A step used its release up. It made no run in place of the work, or one in which nothing was to be done: another is
-- opened, and is not run inside the step.
pub record UsesAtOnce {J V : Type 0} (meaning : Meaning J V) (frame : FrameKey J) (release : ReleaseView J) (old new : BacklogView J V) (made : List FreshState) : Type 0 where
  pub uses : UsesRelease meaning frame release old new made
  pub inner : IsOverAtOnce meaning uses.run

-- A step parked its release, as a turn of the frame's table whose last step found no unit of a semaphore that its task
-- takes. It woke others that waited for units that the turn put back, and perhaps released the same task again.
pub record ParksRelease {J V : Type 0} (meaning : Meaning J V) (frame : FrameKey J) (release : ReleaseView J) (old new : BacklogView J V) (made : List FreshState) (turn : TurnState) : Type 0 where
  pub is : release_of turn ≡ fresh_state frame.table release.task release.cause
  pub sem : ℕ
  pub waits : WaitsAt turn (table_in meaning frame) sem
  pub none : FoundNone (meaning.net frame.job) sem turn
  pub woken : List FreshState
  pub wakes : Wakes (table_in meaning frame) (taken_by (meaning.net frame.job) release.task) [] woken
  pub again : MayRelease frame.table release.task release.cause woken made
  pub backlog : new ≡ backlog_view release.frames old.fates

-- A step opened a run of a job that the job of its frame answers in place of the work of its release. The run has these
-- first releases, by rising task, at least one, and the same book of spans. The start of the release stays open, and
-- the task was perhaps released again. The Start's entry is in one legal journal, with the inputs on which the job
-- answers.
pub record OpensInner {J V : Type 0} (meaning : Meaning J V) (frame : FrameKey J) (release : ReleaseView J) (old new : BacklogView J V) (made : List FreshState) (first : List (ReleaseView J)) : Type 0 where
  pub place : ℕ
  pub ins : Ins V
  pub journal : AreInOneJournal (meaning.net frame.job) (meaning.limit frame.job) (with_places (start_of place release.task release.cause (parts_in ins) ∷ []))
  pub inner : FrameKey J
  pub book : inner.book ≡ frame.book
  pub answered : meaning.answers frame.job release.task (map found_of (parts_of ins)) (InnerJob inner.job)
  pub first_are : first ≡ map (release_in (inner ∷ release.frames)) (first_fresh inner.table (meaning.net inner.job) 0 (length (meaning.net inner.job).tasks))
  pub some : first ≢ []
  pub again : MayRelease frame.table release.task release.cause [] made
  pub backlog : new ≡ backlog_view release.frames old.fates

-- what became of the release, by what is with the run then
abbrev pub StepsTo : {J V : Type 0} → Meaning J V → FrameKey J → ReleaseView J → BacklogView J V → BacklogView J V → List FreshState → State J V → Type 0
StepsTo meaning frame release old new made Went = UsesAtOnce meaning frame release old new made
StepsTo meaning frame release old new made (Parked turn) = ParksRelease meaning frame release old new made turn.value
StepsTo meaning frame release old new made (Inner first) = OpensInner meaning frame release old new made first.items
StepsTo meaning frame release old new made (Resumed releases) = ⊥
StepsTo meaning frame release old new made (Closed closed) = ⊥

-- A step was taken: its release was used up or parked, or a run was opened for it. It handed out these releases, which
-- are of the same frame.
pub record StepsRelease {J V : Type 0} (meaning : Meaning J V) (release : ReleaseView J) (old new : BacklogView J V) (stepped : Stepped J V) : Type 0 where
  pub frame : FrameKey J
  pub around : List (FrameKey J)
  pub frames_are : release.frames ≡ frame ∷ around
  pub made : List FreshState
  pub to : StepsTo meaning frame release old new made stepped.state
  pub released : stepped.released.items ≡ map (release_in release.frames) made
  pub frames : All (λ (next : ReleaseView J). next.frames ≡ release.frames) stepped.released.items
  pub backlog : new.frames ≡ release.frames
