-- Books and tickets, as contracts see them.
use Rattle.std.specs.Prelude.{ℕ, List, Option}
use Rattle.atomic_table.specs.Seated.{TableId}

-- Which register a book is of, and the items that were ever issued, by number: Some item while it is outstanding, then
-- None
pub record BookState (X : Type 0) : Type 0 where
  pub register : TableId
  pub items : List (Option X)

-- Which register a ticket is of, its number there, and its item
pub record TicketState (X : Type 0) : Type 0 where
  pub register : TableId
  pub number : ℕ
  pub item : X

abbrev pub book_state : {X : Type 0} → TableId → List (Option X) → BookState X
book_state r xs = record { register = r; items = xs }

abbrev pub ticket_state : {X : Type 0} → TableId → ℕ → X → TicketState X
ticket_state r n x = record { register = r; number = n; item = x }
