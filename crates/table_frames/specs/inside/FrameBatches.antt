-- Turns of a frame that are done and not yet with its keeper.
use Rattle.std.specs.Prelude.{◌≡◌, ◌≢◌, ℕ, ◌<◌, List, [], ◌∷◌, length, IfSome, Option, Some, None}
use Rattle.run_frame.specs.Meaning.{Meaning}
use Rattle.span_book.specs.SpanBooks.{SpansState}
use Rattle.table_runs.specs.DoneTurns.{IsNoTurn}
use Rattle.table_runs.specs.RunKeys.{FrameKey}
use Rattle.table_runs.specs.Runs.{AreDoneIn}
use Rattle.table_runs.specs.Spans.{spans_inside}
use Rattle.table_runs.specs.declared.done_turns.DoneTurns.{DoneTurns}
use Rattle.table_frames.specs.Frames.{BacklogView, book_of}
use Rattle.table_frames.specs.inside.LockedRuns.{noted_by}

-- these turns, for how many there is room, how many runs they made, and for how many of those there is room
pub record FrameBatchView (J V : Type 0) : Type 0 where
  pub backlog : BacklogView J V
  pub room : ℕ
  pub runs : ℕ
  pub run_room : ℕ

-- There is room for one more turn, and for a run.
pub record HasSpaceIn {J V : Type 0} (batch : FrameBatchView J V) : Type 0 where
  pub turn : length batch.backlog.fates < batch.room
  pub run : batch.runs < batch.run_room

-- turns of the first of these frames; no turn where there is no frame
abbrev pub AreDoneAt : {J V : Type 0} → Meaning J V → List (FrameKey J) → DoneTurns J V → Type 0
AreDoneAt meaning [] done = IsNoTurn done
AreDoneAt meaning (frame ∷ around) done = AreDoneIn meaning frame done

-- A run inside these frames is over, and all that was opened in it came back.
pub record IsBackIn {J : Type 0} (frames : List (FrameKey J)) (inner : SpansState) : Type 0 where
  pub book : book_of frames ≡ Some inner.book
  pub depth : inner.depth ≡ length frames
  pub all : inner.back ≡ inner.opened

-- so many spans are of a run that is over inside these frames, or of none
pub record HasBack {J : Type 0} (frames : List (FrameKey J)) (n : ℕ) (returned : Option SpansState) : Type 0 where
  pub is : IfSome returned (IsBackIn frames)
  pub spans : noted_by returned ≡ n

-- The spans of the runs that were made in place of the work of turns of these frames are those of one run that is over,
-- if there is one.
pub record IsBackOf {J V : Type 0} (frames : List (FrameKey J)) (done : DoneTurns J V) (returned : Option SpansState) : Type 0 where
  pub back : HasBack frames (spans_inside done) returned
  pub some : IfSome returned (λ inner. done.batch.fates ≢ [])
