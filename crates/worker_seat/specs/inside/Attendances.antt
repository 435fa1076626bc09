-- What comes of a seat that is entered, or that leaves its run.
use Rattle.std.specs.Prelude.{◌≡◌, ◌+◌, ℕ, List, sum_by, All, Bool, true, false, Some, if◌then◌else◌}
use Rattle.std.specs.Arc.{arc_value}
use Rattle.atomic_table.specs.Seated.{TableId}
use Rattle.nested_runs.specs.Totals.{all_spans}
use Rattle.run_frame.specs.Legal.{IsKept}
use Rattle.run_frame.specs.Meaning.{Meaning}
use Rattle.run_frame.specs.NestedRule.{job_of}
use Rattle.span_book.specs.SpanBooks.{TallyState, TellerState, tally_state, teller_state}
use Rattle.worker_seat.specs.Crews.{IsToldMore, state_of, told_in_run}
use Rattle.worker_seat.specs.Seats.{SeatState, IsClosedWith}
use Rattle.worker_seat.specs.inside.SeatPlaces.{HasTold, has_found, run_at}
use Rattle.worker_seat.specs.declared.seat.WorkerSeat.{WorkerSeat}
use Rattle.worker_seat.specs.declared.attendance.Attendance.{Attendance}
use Rattle.worker_seat.specs.declared.attendance.FetchedRun.{FetchedRun}

-- A teller told so many spans more than before, and the watcher was told as many.
pub record TellsMore {J V X : Type 0} (told_to : X → ℕ) (told : ℕ) (old : X) (attendance : Attendance J V) (new : X) : Type 0 where
  pub count : ℕ
  pub teller : HasTold (told + count) attendance
  pub watcher : IsToldMore told_to count old new

-- the tally with a teller that told so many spans, if there is one
abbrev pub collected : Bool → ℕ → TallyState → TallyState
collected false told tally = tally
collected true told tally = tally_state tally.book (tally.tellers + 1) (tally.told + told) tally.noted tally.opened

-- the account of the run, with one teller, that told so many spans
abbrev pub IsAccountWith : {J V : Type 0} → ℕ → FetchedRun J V → Type 0
IsAccountWith told fetched =
    fetched.closed.spans ≡ tally_state (arc_value fetched.run).book.name 1 told (all_spans fetched.closed.run) fetched.closed.spans.opened

-- A run that may be kept was fetched, which was found closed there.
pub record IsFetched {J V : Type 0} (meaning : Meaning J V) (attendance : Attendance J V) (fetched : FetchedRun J V) : Type 0 where
  pub found : has_found attendance ≡ true
  pub run : run_at attendance ≡ Some (arc_value fetched.run)
  pub kept : IsKept meaning fetched.closed.run
  pub job : job_of fetched.closed.run ≡ (arc_value fetched.run).job
  pub account : (told : ℕ) → HasTold told attendance → IsAccountWith told fetched

-- the same of a seat
pub record IsFetchedFrom {J V : Type 0} (meaning : Meaning J V) (seat : SeatState J) (fetched : FetchedRun J V) : Type 0 where
  pub found : IsClosedWith (job_of fetched.closed.run) seat
  pub book : seat.book ≡ Some (arc_value fetched.run).book
  pub kept : IsKept meaning fetched.closed.run
  pub account : IsAccountWith seat.told fetched

-- how many tellers of a seat a tally collects as the seat leaves its run, and the spans that it told
abbrev pub teller_count : {J V X : Type 0} → WorkerSeat J X V → ℕ
teller_count seat = if (state_of seat).closed then 1 else 0

abbrev pub teller_told : {J V X : Type 0} → WorkerSeat J X V → ℕ
teller_told seat = if (state_of seat).closed then told_in_run seat else 0

-- With those of these seats, the run's tally has all tellers that its book was made with.
abbrev pub HasAllTellers : {J V X : Type 0} → List (WorkerSeat J X V) → FetchedRun J V → Type 0
HasAllTellers seats fetched = fetched.closed.spans.tellers + sum_by teller_count seats ≡ (arc_value fetched.run).book.tellers

-- tellers of the book of this name that have told nothing yet
abbrev pub AreNew : TableId → List TellerState → Type 0
AreNew book tellers = All (λ (teller : TellerState). teller ≡ teller_state book 0) tellers
