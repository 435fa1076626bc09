-- Where a seat is, and what stays of an owner.
use Rattle.std.specs.Prelude.{◌≡◌, ℕ, zero, suc, Bool, true, false, List, [], ◌∷◌, Option, Some, None, IfSome}
use Rattle.std.specs.Option.{option_map}
use Rattle.std.specs.declared.snapshot.Snapshot.{Snapshot}
use Rattle.std.specs.Arc.{arc_value}
use Rattle.ready_deques.specs.Lists.{OwnerState, tag_of}
use Rattle.ready_deques.specs.declared.ready.Ready.{Ready}
use Rattle.span_book.specs.SpanBooks.{TellerState}
use Rattle.worker_seat.specs.Seats.{ListName, RunBook}
use Rattle.worker_seat.specs.inside.Runs.{RunView}
use Rattle.worker_seat.specs.declared.attendance.Attendance.{Attendance}
use Rattle.worker_seat.specs.declared.attendance.Attendance.TheVariants.{Away, At, Found, Lost}

-- the run that the seat is at
abbrev pub run_at : {J V : Type 0} → Attendance J V → Option (RunView J)
run_at Away = None
run_at (At run teller) = Some (arc_value run)
run_at (Found run ticket teller) = Some (arc_value run)
run_at (Lost run) = Some (arc_value run)

-- the job of that run, and the book of its spans
abbrev pub job_at : {J V : Type 0} → Attendance J V → Option J
job_at attendance = option_map (λ run. run.job) (run_at attendance)

abbrev pub book_at : {J V : Type 0} → Attendance J V → Option RunBook
book_at attendance = option_map (λ run. run.book) (run_at attendance)

-- whether the seat has found that run closed
abbrev pub has_found : {J V : Type 0} → Attendance J V → Bool
has_found (Found run ticket teller) = true
has_found _ = false

-- the teller of a seat that has
abbrev pub found_teller : {J V : Type 0} → Attendance J V → Option TellerState
found_teller (Found run ticket teller) = Some teller
found_teller _ = None

-- the ticket is of that run's register, and the teller of the book of its spans
abbrev pub FitsRun : {J V : Type 0} → Attendance J V → Type 0
FitsRun Away = Unit {0}
FitsRun (At run teller) = teller.book ≡ (arc_value run).book.name
FitsRun (Found run ticket teller) = (ticket.register ≡ (arc_value run).register) × (teller.book ≡ (arc_value run).book.name)
FitsRun (Lost run) = Unit {0}

-- it was entered, if it is at a run
abbrev pub HasEntered : {J V : Type 0} → Attendance J V → Type 0
HasEntered (At run teller) = ⊥
HasEntered _ = Unit {0}

-- The teller told so many spans: none before the seat is entered.
abbrev pub HasTold : {J V : Type 0} → ℕ → Attendance J V → Type 0
HasTold told Away = Unit {0}
HasTold told (At run teller) = (teller.told ≡ 0) × (told ≡ 0)
HasTold told (Found run ticket teller) = teller.told ≡ told
HasTold told (Lost run) = Unit {0}

-- the spans that a teller had told, if there was one
abbrev pub told_by : Option (Snapshot TellerState) → ℕ
told_by None = 0
told_by (Some teller) = teller.value.told

-- the run has its number, if it has one, among the runs of this list
abbrev pub IsRunOn : {J : Type 0} → ListName → RunView J → Type 0
IsRunOn list run = IfSome run.number (λ number. number.begun ≡ list.begun)

-- the seat is at no run but one of this list
abbrev pub IsAtRunOn : {J V : Type 0} → ListName → Attendance J V → Type 0
IsAtRunOn list attendance = IfSome (run_at attendance) (IsRunOn list)

-- an owner of the same list, after some calls
abbrev pub IsSameOwner : OwnerState → OwnerState → Type 0
IsSameOwner old new = (new.tag ≡ old.tag) × (new.counts ≡ old.counts)

-- the name of a list, and of an owner's
abbrev pub list_name : {T : Type 0} → Ready T → ListName
list_name ready = record { begun = tag_of ready; counts = ready.counter.table.shared.table_id }

abbrev pub owner_list : OwnerState → ListName
owner_list owner = record { begun = owner.tag; counts = owner.counts }

-- the items of a list, of which the first n are changed
abbrev pub changed : {X : Type 0} → (X → X) → ℕ → List X → List X
changed f zero xs = xs
changed f (suc n) [] = []
changed f (suc n) (x ∷ xs) = f x ∷ changed f n xs
