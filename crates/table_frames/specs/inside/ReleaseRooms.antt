-- Room for releases of a frame.
use Rattle.std.specs.Prelude.{◌≡◌, ℕ, ◌+◌, ◌≤◌, List, [], All}
use Rattle.std.specs.Vec.{vec_capacity, vec_len}
use Rattle.std.specs.Arc.{arc_value}
use Rattle.table_runs.specs.RunKeys.{FrameKey}
use Rattle.table_frames.specs.declared.release.ReleaseRoom.{ReleaseRoom}

-- There is room for so many releases, with an owner of the frame for each but one, and no release is there yet.
pub record HasRoom {J V : Type 0} (frames : List (FrameKey J)) (count : ℕ) (room : ReleaseRoom J V) : Type 0 where
  pub same : All (λ other. arc_value other ≡ frames) room.others.items
  pub enough : count ≤ vec_len room.others + 1
  pub empty : room.releases.items ≡ []
  pub capacity : count ≤ vec_capacity room.releases
