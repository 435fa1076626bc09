-- What holds a release.
use Rattle.std.specs.Prelude.{◌≡◌, [], None}
use Rattle.table_frames.specs.Frames.{ReleaseView, HasTable}
use Rattle.table_frames.specs.declared.release.HeldBy.{HeldBy}
use Rattle.table_frames.specs.declared.release.HeldBy.TheVariants.{Fresh, Turn}

-- It is a turn of the table of the release's own frame, with its task and its cause. One that was parked wasn't refused
-- and holds no unit.
abbrev pub HoldsRelease : {J V : Type 0} → ReleaseView J → HeldBy V → Type 0
HoldsRelease release (Fresh fresh) = HasTable release.frames fresh.now.table × (fresh.now.task ≡ release.task) × (fresh.now.cause ≡ release.cause)
HoldsRelease release (Turn turn) =
    HasTable release.frames turn.now.table × (turn.now.task ≡ release.task) × (turn.now.cause ≡ release.cause) × (turn.now.refused ≡ None) × (turn.now.held ≡ [])
