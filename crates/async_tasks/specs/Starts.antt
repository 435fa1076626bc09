-- Open starts, passes and ends that were recorded, as contracts see them.
use Rattle.std.specs.Prelude.{◌≡◌, ℕ, ◌<◌, List, [], ◌++◌, length, map, Option, Some, None}
use Rattle.std.specs.Arc.{arc_value}
use Rattle.atomic_table.specs.Seated.{TableId}
use Rattle.tickets.specs.Books.{TicketState}
use Rattle.async_tasks.specs.Histories.{rows_of}
use Rattle.async_tasks.specs.Books.{BookHistory}
use Rattle.async_tasks.specs.declared.history.AddRow.{AddRow}
use Rattle.async_tasks.specs.declared.outstanding.Outstanding.{Outstanding}
use Rattle.async_tasks.specs.declared.outstanding.Outstanding.TheVariants.{Pass, Running, Recorded}

-- A start that has no end: of which book it is, its task, the task's work, and the values of the tasks named
pub record OpenStart (W V : Type 0) : Type 0 where
  pub register : TableId
  pub task : ℕ
  pub work : W
  pub ins : List V

abbrev pub open_start : {W V : Type 0} → TableId → ℕ → W → List V → OpenStart W V
open_start register task work ins = record { register = register; task = task; work = work; ins = ins }

-- a ticket is for this open start
abbrev pub IsTicketFor : {W V : Type 0} → ℕ → W → List V → Outstanding W V → Type 0
IsTicketFor t w ins (Pass caller seen) = ⊥
IsTicketFor t w ins (Running task work values) = (task ≡ t) × (arc_value work.value ≡ w) × (map arc_value values.value ≡ ins)
IsTicketFor t w ins (Recorded task place) = ⊥

-- a ticket is for a caller's pass
abbrev pub IsPassFor : {W V : Type 0} → ℕ → Outstanding W V → Type 0
IsPassFor c (Pass caller seen) = caller ≡ c
IsPassFor c (Running task work values) = ⊥
IsPassFor c (Recorded task place) = ⊥

-- the rows that a ticket of a pass has seen
abbrev pub rows_seen : {W V : Type 0} → Outstanding W V → List AddRow
rows_seen (Pass caller seen) = seen.value.items
rows_seen (Running task work values) = []
rows_seen (Recorded task place) = []

-- these rows are a prefix of the book's, with all of a caller's
abbrev pub HasSeen : List AddRow → ℕ → List AddRow → Type 0
HasSeen rows caller front = ((more : List AddRow) × (rows ≡ front ++ more)) × (rows_of caller rows ≡ rows_of caller front)

-- a ticket with the next number, for a caller's pass, which has seen all rows
pub record IsFreshPass {W V : Type 0} (book : BookHistory W V) (caller : ℕ) (ticket : TicketState (Outstanding W V)) : Type 0 where
  pub register : ticket.register ≡ book.register
  pub number : ticket.number ≡ length book.items
  pub caller_is : IsPassFor caller ticket.item
  pub all : rows_seen ticket.item ≡ book.rows

-- The end of a task as it was recorded: in which book, of which task, and at which index among the events
pub record EndRecord : Type 0 where
  pub register : TableId
  pub task : ℕ
  pub place : ℕ

abbrev pub end_record : TableId → ℕ → ℕ → EndRecord
end_record register task place = record { register = register; task = task; place = place }

-- a ticket is for this recorded end
abbrev pub IsEndAt : {W V : Type 0} → ℕ → ℕ → Outstanding W V → Type 0
IsEndAt t p (Pass caller seen) = ⊥
IsEndAt t p (Running task work values) = ⊥
IsEndAt t p (Recorded task place) = (task ≡ t) × (place ≡ p)

-- an index comes after that of an end, if there is one
abbrev pub IsAfter : Option EndRecord → ℕ → Type 0
IsAfter None place = Unit {0}
IsAfter (Some end) place = end.place < place
