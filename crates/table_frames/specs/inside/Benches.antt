-- What is left to do in a run by one thread.
use Rattle.std.specs.Prelude.{◌≡◌, ◌+◌, ◌≤◌, [], ℕ, Option, None, Some}
use Rattle.std.specs.Vec.{vec_capacity, vec_len}
use Rattle.run_frame.specs.Meaning.{Meaning}
use Rattle.journal_rules.specs.declared.span.Span.{Span}
use Rattle.semaphore_park.specs.Parking.{yard_key}
use Rattle.semaphore_turns.specs.WaitingTurns.{yard_of}
use Rattle.table_runs.specs.DoneTurns.{HasSame, HasSpace}
use Rattle.table_runs.specs.RunKeys.{FrameKey, table_in}
use Rattle.table_runs.specs.Runs.{AreDoneIn, AreOf}
use Rattle.table_frames.specs.declared.alone.Bench.{Bench}

-- All is of the run's table, and nothing that a step made is left over.
pub record IsBenchOf {J V : Type 0} (meaning : Meaning J V) (frame : FrameKey J) (bench : Bench J V) : Type 0 where
  pub ready : AreOf frame.table bench.ready.items
  pub made : bench.made.items ≡ []
  pub done : AreDoneIn meaning frame bench.done
  pub yard : yard_key bench.yard ≡ yard_of (table_in meaning frame)

-- They are the same, but for the room that they have.
pub record DiffersInRoom {J V : Type 0} (old new : Bench J V) : Type 0 where
  pub ready : new.ready.items ≡ old.ready.items
  pub made : new.made.items ≡ old.made.items
  pub done : HasSame old.done new.done
  pub yard : new.yard ≡ old.yard

-- There is room for one more turn that is done, and for so many releases.
pub record HasRoomFor {J V : Type 0} (releases : ℕ) (bench : Bench J V) : Type 0 where
  pub ready : vec_len bench.ready + releases ≤ vec_capacity bench.ready
  pub made : vec_len bench.made + releases ≤ vec_capacity bench.made
  pub done : HasSpace bench.done

-- how many spans there are
abbrev pub spans_told : Option Span → ℕ
spans_told None = 0
spans_told (Some span) = 1
