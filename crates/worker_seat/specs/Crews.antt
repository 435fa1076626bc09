-- Crews and their seats, as contracts see them.
use Rattle.std.specs.Prelude.{◌≡◌, ◌<◌, ◌⊎◌, ℕ, true, false, List, All, Any, IfSome, length, map, sum_by, slice_index_or, None}
use Rattle.nested_runs.specs.Totals.{all_spans}
use Rattle.run_frame.specs.declared.run.FrameRun.{FrameRun}
use Rattle.run_frame.specs.Meaning.{Meaning}
use Rattle.run_frame.specs.Legal.{IsKept}
use Rattle.run_frame.specs.NestedRule.{job_of}
use Rattle.span_profile.specs.Watch.{IsToldSince}
use Rattle.worker_seat.specs.declared.crew.Crew.{Crew}
use Rattle.worker_seat.specs.declared.seat.WorkerSeat.{WorkerSeat}
use Rattle.worker_seat.specs.Seats.{CrewState, RunBook, SeatState, IsBusy, IsClosedWith, at_job, found_closed, refused_seat}

-- where a seat is
abbrev pub state_of : {J V X : Type 0} → WorkerSeat J X V → SeatState J
state_of seat = seat.station

-- its watcher
abbrev pub watcher_of : {J V X : Type 0} → WorkerSeat J X V → X
watcher_of seat = seat.watcher

-- how many spans its steps ended in the run that it is at, or was at last
abbrev pub told_in_run : {J V X : Type 0} → WorkerSeat J X V → ℕ
told_in_run seat = (state_of seat).told

-- the name of a crew's list, and how many seats it has
abbrev pub crew_of : {J V : Type 0} → Crew J V → CrewState
crew_of crew = crew.list

-- the seat somewhere else, with its watcher
abbrev pub moved : {J V X : Type 0} → (SeatState J → SeatState J) → WorkerSeat J X V → WorkerSeat J X V
moved to seat = record seat { station = to seat.station }

-- the seat is one of this crew
abbrev pub IsSeatOf : {J V X : Type 0} → Crew J V → WorkerSeat J X V → Type 0
IsSeatOf crew seat = (state_of seat).list ≡ (crew_of crew).list

-- the seat is at no run but one with this book of spans
abbrev pub MayHaveBook : {J V X : Type 0} → RunBook → WorkerSeat J X V → Type 0
MayHaveBook book seat = IfSome (state_of seat).book (λ own. own ≡ book)

-- the seats are at no run but one, whose book of spans has so many tellers
pub record AreAtOneRun {J V X : Type 0} (tellers : ℕ) (seats : List (WorkerSeat J X V)) : Type 0 where
  pub book : RunBook
  pub count : book.tellers ≡ tellers
  pub each : All (MayHaveBook book) seats

-- These are all seats of a crew: as many as were made with it. A seat can't be copied. Those that are at a run are at
-- the same one
pub record AreSeatsOf {J V X : Type 0} (crew : Crew J V) (seats : List (WorkerSeat J X V)) : Type 0 where
  pub of_crew : All (IsSeatOf crew) seats
  pub count : length seats ≡ (crew_of crew).seats
  pub one_run : AreAtOneRun (crew_of crew).seats seats

-- the seat may go to a run: it is at none, and no allocation has failed for it
pub record MayBegin {J V X : Type 0} (seat : WorkerSeat J X V) : Type 0 where
  pub free : (state_of seat).job ≡ None
  pub served : (state_of seat).refused ≡ false

-- seats, and the same after each went to a run of this job, whose book of spans has so many tellers
pub record AreSent {J V X : Type 0} (tellers : ℕ) (job : J) (old new : List (WorkerSeat J X V)) : Type 0 where
  pub book : RunBook
  pub count : book.tellers ≡ tellers
  pub seats_are : new ≡ map (moved (at_job job book)) old

-- the seat may be entered by a thread of this crew
pub record MayEnter {J V X : Type 0} (crew : Crew J V) (seat : WorkerSeat J X V) : Type 0 where
  pub of_crew : IsSeatOf crew seat
  pub busy : IsBusy (state_of seat).job

-- a watcher, and the same after it was told so many spans more
abbrev pub IsToldMore : {X : Type 0} → (X → ℕ) → ℕ → X → X → Type 0
IsToldMore told n old new = IsToldSince told (told old) n new

-- a seat that has found its run closed, in which its steps ended so many spans more, and its watcher, which was told as
-- many
pub record HasWorked {J X : Type 0} (told : X → ℕ) (old : SeatState J) (watcher : X) (new : SeatState J) (now : X) : Type 0 where
  pub count : ℕ
  pub state : new ≡ found_closed count old
  pub watcher_told : IsToldMore told count watcher now

abbrev pub HasWatched : {J V X : Type 0} → (X → ℕ) → WorkerSeat J X V → WorkerSeat J X V → Type 0
HasWatched told old new = HasWorked told (state_of old) (watcher_of old) (state_of new) (watcher_of new)

-- a seat, and the same after an `enter`: it has found its run closed, or it was refused
abbrev pub IsEntered : {J V X : Type 0} → (X → ℕ) → WorkerSeat J X V → WorkerSeat J X V → Type 0
IsEntered told old new = HasWatched told old new ⊎ (state_of new ≡ refused_seat (state_of old))

-- seats, and the same after each was entered
abbrev pub AreEntered : {J V X : Type 0} → (X → ℕ) → List (WorkerSeat J X V) → List (WorkerSeat J X V) → Type 0
AreEntered {J} {V} {X} told old new = (k : ℕ) (seat : WorkerSeat J X V) → k < length old → IsEntered told (slice_index_or old k seat) (slice_index_or new k seat)

-- the seat hasn't found a run closed, or it has
abbrev pub IsOpen : {J V X : Type 0} → WorkerSeat J X V → Type 0
IsOpen seat = (state_of seat).closed ≡ false

abbrev pub HasFound : {J V X : Type 0} → WorkerSeat J X V → Type 0
HasFound seat = (state_of seat).closed ≡ true

-- no allocation has failed for the seat
abbrev pub IsServed : {J V X : Type 0} → WorkerSeat J X V → Type 0
IsServed seat = (state_of seat).refused ≡ false

-- seats before a run and after it: the watcher of each for which no allocation has failed was told as many spans as its
-- steps ended
abbrev pub AreWatched : {J V X : Type 0} → (X → ℕ) → List (WorkerSeat J X V) → List (WorkerSeat J X V) → Type 0
AreWatched {J} {V} {X} told old new = (k : ℕ) (seat : WorkerSeat J X V) → k < length old → IsServed (slice_index_or new k seat)
    → IsToldMore told (told_in_run (slice_index_or new k seat)) (watcher_of (slice_index_or old k seat)) (watcher_of (slice_index_or new k seat))

-- a run of this job that may be kept
pub record IsKeptOf {J V : Type 0} (meaning : Meaning J V) (job : J) (run : FrameRun J V) : Type 0 where
  pub kept : IsKept meaning run
  pub same : job_of run ≡ job

-- One of the seats has found a run closed: this one, which may be kept
pub record IsFoundRunOf {J V X : Type 0} (meaning : Meaning J V) (seats : List (WorkerSeat J X V)) (run : FrameRun J V) : Type 0 where
  pub kept : IsKept meaning run
  pub found : Any (λ seat. IsClosedWith (job_of run) (state_of seat)) seats

-- the steps of these seats together ended as many spans as the run has, with the runs inside it
abbrev pub AreSpansOf : {J V X : Type 0} → List (WorkerSeat J X V) → FrameRun J V → Type 0
AreSpansOf seats run = sum_by told_in_run seats ≡ all_spans run
