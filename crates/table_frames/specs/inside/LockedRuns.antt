-- What is under the locks of frames, and what tells these from each other.
use Rattle.std.specs.Prelude.{◌≡◌, ℕ, ◌+◌, List, [], ◌∷◌, ◌++◌, length, Option, Some, None}
use Rattle.join_tables.specs.Findings.{FindsOne}
use Rattle.join_tables.specs.Keeping.{LeavesOf, TellsRun, entries_told}
use Rattle.join_tables.specs.declared.fates.Fate.{Fate}
use Rattle.join_tables.specs.declared.keeper.Remaining.{Remaining}
use Rattle.join_tables.specs.declared.keeper.Remaining.TheVariants.{More, All as AllTaken}
use Rattle.atomic_table.specs.Seated.{TableId}
use Rattle.run_frame.specs.Meaning.{Meaning}
use Rattle.span_book.specs.SpanBooks.{SpansState}
use Rattle.table_runs.specs.OpenStarts.{OpenStartView}
use Rattle.table_runs.specs.RunKeys.{FrameKey, RunKeeperView, key_of}
use Rattle.table_runs.specs.Spans.{spans_kept}
use Rattle.table_frames.specs.declared.locked_run.Taken.{Taken}
use Rattle.table_frames.specs.declared.locked_run.Taken.TheVariants.{Aside, Kept}

-- what is under the lock of a frame: the keeper of its run, the account of its spans, and the start whose work the run
-- is, if there is one
pub record LockedRunView (J V : Type 0) : Type 0 where
  pub kept : RunKeeperView J V
  pub spans : SpansState
  pub start : Option (OpenStartView J V)

abbrev pub locked_run : {J V : Type 0} → RunKeeperView J V → SpansState → Option (OpenStartView J V) → LockedRunView J V
locked_run kept spans start = record { kept = kept; spans = spans; start = start }

-- what tells the lock of a frame from others: the frame, the frame around it, and how many it is inside
pub record LockKey (J : Type 0) : Type 0 where
  pub frame : FrameKey J
  pub around : Option (FrameKey J)
  pub depth : ℕ

abbrev pub frame_of : {J V : Type 0} → Option (OpenStartView J V) → Option (FrameKey J)
frame_of None = None
frame_of (Some start) = Some start.frame

abbrev pub lock_key_of : {J V : Type 0} → LockedRunView J V → LockKey J
lock_key_of locked = record { frame = key_of locked.kept; around = frame_of locked.start; depth = locked.spans.depth }

-- the first of these frames
abbrev pub first_frame : {J : Type 0} → List (FrameKey J) → Option (FrameKey J)
first_frame [] = None
first_frame (frame ∷ around) = Some frame

-- the key of the lock of the first of these frames
abbrev pub lock_key_in : {J : Type 0} → FrameKey J → List (FrameKey J) → LockKey J
lock_key_in frame around = record { frame = frame; around = first_frame around; depth = length around }

-- This is under the lock of the first of these frames.
abbrev pub IsLockedAt : {J V : Type 0} → List (FrameKey J) → LockedRunView J V → Type 0
IsLockedAt [] locked = ⊥
IsLockedAt (frame ∷ around) locked = lock_key_of locked ≡ lock_key_in frame around

-- A run inside one of this book and depth is over, and all that was opened in it came back.
pub record ComesInto (book : TableId) (depth : ℕ) (inner : SpansState) : Type 0 where
  pub same : inner.book ≡ book
  pub below : inner.depth ≡ 1 + depth
  pub all : inner.back ≡ inner.opened

-- the spans of a run, if there is one
abbrev pub noted_by : Option SpansState → ℕ
noted_by None = 0
noted_by (Some spans) = spans.noted

-- The keeper has taken in turns, of which these fates are last, and found one live turn at last, or several.
pub record KeepsLast {J V : Type 0} (fates : List (Fate V)) (old new : LockedRunView J V) (left : Remaining) : Type 0 where
  pub earlier : List (Fate V)
  pub fates_are : new.kept.keeper.fates ≡ earlier ++ fates
  pub found : FindsOne (λ n. LeavesOf n left) old.kept.keeper.found new.kept.keeper.found

-- The run is over: the keeper tells a finished run, and each run that was opened inside it came back, so that its spans
-- are all that were noted.
pub record IsWhole {J V : Type 0} (meaning : Meaning J V) (locked : LockedRunView J V) : Type 0 where
  pub tells : TellsRun (meaning.net locked.kept.job) (meaning.limit locked.kept.job) (entries_told locked.kept.keeper.fates)
  pub back : locked.spans.back ≡ locked.spans.opened
  pub spans : locked.spans.noted ≡ spans_kept locked.kept

-- what is under the lock when turns with these fates were taken in
abbrev pub TakesTurns : {J V : Type 0} → Meaning J V → List (Fate V) → LockedRunView J V → LockedRunView J V → Taken → Type 0
TakesTurns meaning fates old new Aside = Unit {0}
TakesTurns meaning fates old new (Kept More) = KeepsLast fates old new More
TakesTurns meaning fates old new (Kept AllTaken) = KeepsLast fates old new AllTaken × IsWhole meaning new
