-- How a frame begins inside others.
use Rattle.std.specs.Global.{Vec}
use Rattle.std.specs.Prelude.{◌≡◌, List, ◌∷◌, map}
use Rattle.run_frame.specs.Meaning.{Meaning}
use Rattle.table_runs.specs.Attempts.{again_list}
use Rattle.table_runs.specs.RunKeys.{FrameKey}
use Rattle.table_runs.specs.declared.attempt.InnerBegun.{InnerBegun}
use Rattle.table_frames.specs.Frames.{ReleaseView, release_in}
use Rattle.table_frames.specs.declared.step_results.State.TheVariants.{Inner as InnerState}
use Rattle.table_frames.specs.declared.step_results.Stepped.{Stepped}

-- A frame was made inside these. Its first releases are given out, and the next release of the task of the start whose
-- work its run is, if there is one.
pub record OpensFrame {J V : Type 0} (meaning : Meaning J V) (frames : List (FrameKey J)) (inner : InnerBegun J V) (stepped : Stepped J V) : Type 0 where
  pub first : Vec (ReleaseView J)
  pub state : stepped.state ≡ InnerState first
  pub first_are : first.items ≡ map (release_in (inner.begun.run ∷ frames)) inner.begun.fresh.items
  pub released : stepped.released.items ≡ map (release_in frames) (again_list inner.again)
