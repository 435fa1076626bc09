-- Frames, their releases and what was done in them, as contracts see them.
use Rattle.std.specs.Prelude.{◌≡◌, ◌⊎◌, ℕ, min, List, [], ◌∷◌, length, IfSome, Option, Some, None}
use Rattle.std.specs.Arc.{arc_value}
use Rattle.std.specs.Global.{Global}
use Rattle.std.specs.declared.sync.Arc.{Arc}
use Rattle.atomic_table.specs.Seated.{TableId}
use Rattle.journal_rules.specs.declared.entry.Cause.{Cause}
use Rattle.join_tables.specs.States.{FreshState}
use Rattle.join_tables.specs.declared.fates.Fate.{Fate}
use Rattle.nested_runs.specs.Totals.{all_spans}
use Rattle.span_book.specs.SpanBooks.{TellerState}
use Rattle.table_frames.specs.declared.closed_run.ClosedRun.{ClosedRun}
use Rattle.table_runs.specs.RunKeys.{FrameKey}

-- a release: the keys of its frame and of the frames around that one, its task, and what released it
pub record ReleaseView (J : Type 0) : Type 0 where
  pub frames : List (FrameKey J)
  pub task : ℕ
  pub cause : Cause

-- a release of a frame's table
abbrev pub release_in : {J : Type 0} → List (FrameKey J) → FreshState → ReleaseView J
release_in frames fresh = record { frames = frames; task = fresh.task; cause = fresh.cause }

-- the frame that is in no other
abbrev pub root_frame : {J : Type 0} → List (FrameKey J) → Option (FrameKey J)
root_frame [] = None
root_frame (frame ∷ []) = Some frame
root_frame (frame ∷ around ∷ more) = root_frame (around ∷ more)

-- the job of the frame that is in no other
abbrev pub root_job : {J : Type 0} → List (FrameKey J) → Option J
root_job [] = None
root_job (frame ∷ []) = Some frame.job
root_job (frame ∷ around ∷ more) = root_job (around ∷ more)

-- how many frames a frame is inside, up to the greatest u32: those around it
abbrev pub depth_inside : {J : Type 0} → List (FrameKey J) → ℕ
depth_inside around = min (length around) 4294967295

abbrev pub depth_of : {J : Type 0} → List (FrameKey J) → ℕ
depth_of [] = 0
depth_of (frame ∷ around) = depth_inside around

-- the name of the book of the spans of frames inside one another, which is that of the outermost
abbrev pub book_at : {J : Type 0} → Option (FrameKey J) → Option TableId
book_at None = None
book_at (Some frame) = frame.book

abbrev pub book_of : {J : Type 0} → List (FrameKey J) → Option TableId
book_of frames = book_at (root_frame frames)

-- the teller is of the book of these frames
abbrev pub IsTellerOf : {J : Type 0} → List (FrameKey J) → TellerState → Type 0
IsTellerOf frames teller = IfSome (book_of frames) (λ book. teller.book ≡ book)

-- The account of an outermost run that is over is without tellers, and has noted as many spans as the run has, with
-- those of the runs inside it.
pub record IsAccounted {J V : Type 0} (closed : ClosedRun J V) : Type 0 where
  pub tellers : closed.spans.tellers ≡ 0
  pub told : closed.spans.told ≡ 0
  pub noted : closed.spans.noted ≡ all_spans closed.run

-- the keys of a frame and of the frames around it
abbrev pub frames_around : {J : Type 0} → Option (Arc (List (FrameKey J)) Global) → List (FrameKey J)
frames_around None = []
frames_around (Some frame) = arc_value frame

-- the first of these frames
abbrev pub IsInnermost : {J : Type 0} → FrameKey J → List (FrameKey J) → Type 0
IsInnermost key [] = ⊥
IsInnermost key (frame ∷ around) = frame ≡ key

-- a fact of the first of these frames
abbrev pub AtFrame : {J : Type 0} → List (FrameKey J) → (FrameKey J → Type 0) → Type 0
AtFrame [] p = ⊥
AtFrame (frame ∷ around) p = p frame

-- the table of a frame
abbrev pub HasTable : {J : Type 0} → List (FrameKey J) → TableId → Type 0
HasTable [] n = ⊥
HasTable (frame ∷ around) n = n ≡ frame.table

-- what was done in a frame and isn't recorded yet: the keys of the frame and of those around it, and what became of
-- releases of it, in the order of the steps; no keys where there is no such frame
pub record BacklogView (J V : Type 0) : Type 0 where
  pub frames : List (FrameKey J)
  pub fates : List (Fate V)

abbrev pub backlog_view : {J V : Type 0} → List (FrameKey J) → List (Fate V) → BacklogView J V
backlog_view frames fates = record { frames = frames; fates = fates }

-- A step of a frame may add to the backlog: it is of this frame, or of none.
abbrev pub MayTake : {J V : Type 0} → BacklogView J V → List (FrameKey J) → Type 0
MayTake backlog frames = (backlog.frames ≡ []) ⊎ (backlog.frames ≡ frames)
