-- Where a seat of a crew is.
use Rattle.std.specs.Prelude.{◌≡◌, ℕ, ◌+◌, List, Bool, true, false, Option, Some, None}
use Rattle.atomic_table.specs.Seated.{TableId}

-- what names the list of a crew: the numbers that name the crew's runs, and the table of the list's count word
pub record ListName : Type 0 where
  pub begun : List ℕ
  pub counts : TableId

-- the name of a crew's list, and how many seats the crew has
pub record CrewState : Type 0 where
  pub list : ListName
  pub seats : ℕ

abbrev pub crew_state : ListName → ℕ → CrewState
crew_state l n = record { list = l; seats = n }

-- the name of the book of a run's spans, and how many tellers it was made with
pub record RunBook : Type 0 where
  pub name : TableId
  pub tellers : ℕ

abbrev pub run_book : TableId → ℕ → RunBook
run_book name tellers = record { name = name; tellers = tellers }

-- The list of the seat's crew; the job of the run that the seat is at, if it is at one, and the book of that run's
-- spans; whether it has found that run closed; whether an allocation has ever failed for it; and how many spans its
-- steps ended in the run that it is at, or was at last, as far as it has found that run closed
pub record SeatState (J : Type 0) : Type 0 where
  pub list : ListName
  pub job : Option J
  pub book : Option RunBook
  pub closed : Bool
  pub refused : Bool
  pub told : ℕ

-- a seat that is at no run
abbrev pub new_seat : {J : Type 0} → ListName → SeatState J
new_seat l = record { list = l; job = None; book = None; closed = false; refused = false; told = 0 }

-- whether a seat is at a run, by the run's job
abbrev pub IsBusy : {J : Type 0} → Option J → Type 0
IsBusy None = ⊥
IsBusy (Some job) = Unit {0}

-- the seat after it went to a run of a job, after it found it closed where its steps ended so many spans more, after it
-- left it
abbrev pub at_job : {J : Type 0} → J → RunBook → SeatState J → SeatState J
at_job j b seat = record seat { job = Some j; book = Some b; closed = false; told = 0 }

abbrev pub found_closed : {J : Type 0} → ℕ → SeatState J → SeatState J
found_closed n seat = record seat { closed = true; told = seat.told + n }

abbrev pub away : {J : Type 0} → SeatState J → SeatState J
away seat = record seat { job = None; book = None; closed = false }

-- the seat after an allocation failed, while it was at a run or as a run was to begin
abbrev pub refused_seat : {J : Type 0} → SeatState J → SeatState J
refused_seat seat = record seat { closed = false; refused = true }

abbrev pub left_refused : {J : Type 0} → SeatState J → SeatState J
left_refused seat = record seat { job = None; book = None; closed = false; refused = true; told = 0 }

-- it has found a run of this job closed
abbrev pub IsClosedWith : {J : Type 0} → J → SeatState J → Type 0
IsClosedWith job seat = (seat.closed ≡ true) × (seat.job ≡ Some job)
