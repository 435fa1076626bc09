-- Whose spans the teller of a run by one thread may tell.
use Rattle.std.specs.Prelude.{◌≡◌, All, IfSome, List, Option, Some, None}
use Rattle.atomic_table.specs.Seated.{TableId}
use Rattle.table_frames.specs.Frames.{ReleaseView, book_of}
use Rattle.table_frames.specs.declared.closed_run.ClosedRun.{ClosedRun}
use Rattle.table_runs.specs.RunKeys.{FrameKey}

-- the book of these frames, if they have one, is this
abbrev pub IsIn : {J : Type 0} → TableId → List (FrameKey J) → Type 0
IsIn book frames = IfSome (book_of frames) (λ own. book ≡ own)

-- So is that of each of these releases, and of a backlog of these frames.
pub record AreIn {J : Type 0} (book : TableId) (releases : List (ReleaseView J)) (frames : List (FrameKey J)) : Type 0 where
  pub each : All (λ (release : ReleaseView J). IsIn book release.frames) releases
  pub backlog : IsIn book frames

-- The run goes on with these, or is closed, with the account of its spans in this book.
abbrev pub GoesOn : {J V : Type 0} → TableId → List (ReleaseView J) → List (FrameKey J) → Option (ClosedRun J V) → Type 0
GoesOn book releases frames None = AreIn book releases frames
GoesOn book releases frames (Some closed) = closed.spans.book ≡ book
