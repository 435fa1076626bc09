-- What comes of an attempt.
use Rattle.std.specs.Prelude.{◌≡◌, List, [], ◌∷◌, ◌++◌, map, None}
use Rattle.join_tables.specs.States.{FreshState}
use Rattle.join_tables.specs.declared.fates.Fate.{Fate}
use Rattle.run_frame.specs.Meaning.{Meaning}
use Rattle.table_runs.specs.AllowedFates.{IsAllowed}
use Rattle.table_runs.specs.RunKeys.{FrameKey, table_in}
use Rattle.table_frames.specs.Frames.{BacklogView, ReleaseView, backlog_view, release_in}
use Rattle.semaphore_turns.specs.WokenTurns.{Wakes}
use Rattle.table_runs.specs.StepReleases.{GivesEdges, Uses, given_by}
use Rattle.table_runs.specs.JournalFacts.{IsInJournal}
use Rattle.table_runs.specs.Attempts.{release_tried, units_due}
use Rattle.table_runs.specs.declared.attempt.Attempt.{Attempt}

-- One fate, which the job of the frame allows, is gathered. These releases were made, by the edges alone where the task
-- isn't released again, and others woken for the units that are back.
pub record Concludes {J V : Type 0} (meaning : Meaning J V) (frames : List (FrameKey J)) (attempt : Attempt J V) (old new : BacklogView J V) (made : List FreshState) : Type 0 where
  pub frame : FrameKey J
  pub around : List (FrameKey J)
  pub frames_are : frames ≡ frame ∷ around
  pub fate : Fate V
  pub allowed : IsAllowed meaning frame.job fate attempt.inner
  pub journal : IsInJournal meaning frame.job fate
  pub by_end : List FreshState
  pub uses : Uses (meaning.net frame.job) (release_tried frame.table attempt.outcome) fate [] by_end
  pub edges : attempt.again ≡ None → GivesEdges (meaning.net frame.job) frame.table (given_by fate) [] by_end
  pub wakes : Wakes (table_in meaning frame) (units_due (meaning.net frame.job) attempt.outcome) by_end made
  pub backlog : new ≡ backlog_view frames (old.fates ++ fate ∷ [])

-- The same, and these releases are handed out.
pub record HandsOn {J V : Type 0} (meaning : Meaning J V) (frames : List (FrameKey J)) (attempt : Attempt J V) (old new : BacklogView J V) (released : List (ReleaseView J)) : Type 0 where
  pub made : List FreshState
  pub concludes : Concludes meaning frames attempt old new made
  pub released_are : released ≡ map (release_in frames) made
