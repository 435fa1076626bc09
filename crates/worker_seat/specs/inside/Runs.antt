-- What tells a run of a crew from others, and which releases are of it.
use Rattle.std.specs.Prelude.{◌≡◌, List, All, Option, Some}
use Rattle.atomic_table.specs.Seated.{TableId}
use Rattle.run_frame.specs.Legal.{IsKept}
use Rattle.run_frame.specs.Meaning.{Meaning}
use Rattle.run_frame.specs.NestedRule.{job_of}
use Rattle.span_book.specs.SpanBooks.{all_tellers, name_of}
use Rattle.span_book.specs.declared.book.SpanBook.{SpanBook}
use Rattle.table_runs.specs.RunKeys.{FrameKey}
use Rattle.table_frames.specs.Frames.{IsAccounted, ReleaseView, book_of, root_frame, root_job}
use Rattle.table_frames.specs.declared.closed_run.ClosedRun.{ClosedRun}
use Rattle.worker_seat.specs.Seats.{RunBook, run_book}
use Rattle.worker_seat.specs.declared.item.NumberedRelease.{NumberedRelease}
use Rattle.worker_seat.specs.inside.Numbers.{NumberView}

-- the name of the register of those who found the run closed, its job, and the name of the book of its spans
pub record RunKey (J : Type 0) : Type 0 where
  pub register : TableId
  pub job : J
  pub book : TableId

abbrev pub run_key : {J : Type 0} → TableId → J → TableId → RunKey J
run_key r j b = record { register = r; job = j; book = b }

-- the same with the run's number, if it has one
pub record RunView (J : Type 0) : Type 0 where
  pub register : TableId
  pub job : J
  pub book : RunBook
  pub number : Option (NumberView J)

abbrev pub book_of_run : SpanBook → RunBook
book_of_run book = run_book (name_of book) (all_tellers book)

-- the number is of a run of this job, whose spans are in the book of this name
pub record IsNumberOf {J : Type 0} (job : J) (book : TableId) (number : NumberView J) : Type 0 where
  pub of_job : root_job number.frames ≡ Some job
  pub in_book : book_of number.frames ≡ Some book

-- A run of this job that may be kept is over, with the account of its spans in the book of this name
pub record IsClosedOf {J V : Type 0} (meaning : Meaning J V) (job : J) (book : TableId) (closed : ClosedRun J V) : Type 0 where
  pub kept : IsKept meaning closed.run
  pub of_job : job_of closed.run ≡ job
  pub in_book : closed.spans.book ≡ book
  pub account : IsAccounted closed

-- a frame is that of a run, or inside it: they have the same outermost frame
abbrev pub IsWithin : {J : Type 0} → List (FrameKey J) → List (FrameKey J) → Type 0
IsWithin run frames = root_frame frames ≡ root_frame run

-- a release of a run with this number, and the number of its frame
pub record IsItemOf {J V : Type 0} (number : NumberView J) (item : NumberedRelease J V) : Type 0 where
  pub within : IsWithin number.frames item.release.frames
  pub frame : item.frame.frames ≡ item.release.frames
  pub begun : item.frame.begun ≡ number.begun

-- releases of one frame
abbrev pub AreIn : {J : Type 0} → List (FrameKey J) → List (ReleaseView J) → Type 0
AreIn {J} frames releases = All (λ (release : ReleaseView J). release.frames ≡ frames) releases

-- releases of one frame of the run with this number
pub record AreOfFrame {J : Type 0} (number : NumberView J) (releases : List (ReleaseView J)) : Type 0 where
  pub frames : List (FrameKey J)
  pub within : IsWithin number.frames frames
  pub each : AreIn frames releases

-- releases of one frame, of a run of this job, whose spans are in the book of this name
pub record AreOfRun {J : Type 0} (job : J) (book : TableId) (releases : List (ReleaseView J)) : Type 0 where
  pub frames : List (FrameKey J)
  pub root : root_job frames ≡ Some job
  pub in_book : book_of frames ≡ Some book
  pub each : AreIn frames releases
