-- Asks that were taken, and passes, as the books of a desk see them.
use Rattle.std.specs.Prelude.{◌≡◌, ℕ, List, [], ◌++◌, length}
use Rattle.atomic_table.specs.Seated.{TableId}
use Rattle.tickets.specs.Books.{TicketState}
use Rattle.desk_book.specs.declared.entry.Ask.{Ask}
use Rattle.desk_book.specs.declared.entry.DeskEntry.{DeskEntry}
use Rattle.desk_book.specs.declared.outstanding.Outstanding.{Outstanding}
use Rattle.desk_book.specs.declared.outstanding.Outstanding.TheVariants.{Pass, Running}
use Rattle.desk_book.specs.Histories.{asks_by}
use Rattle.desk_book.specs.Books.{BookHistory}

-- An ask that was taken and has not ended: of which desk it is, and the ask
pub record OpenAsk : Type 0 where
  pub register : TableId
  pub ask : Ask

abbrev pub open_ask : TableId → Ask → OpenAsk
open_ask register ask = record { register = register; ask = ask }

-- a ticket is for a caller's pass
abbrev pub IsPassFor : ℕ → Outstanding → Type 0
IsPassFor c (Pass caller seen) = caller ≡ c
IsPassFor c (Running ask) = ⊥

-- the entries that a ticket of a pass has seen
abbrev pub entries_seen : Outstanding → List DeskEntry
entries_seen (Pass caller seen) = seen.value.items
entries_seen (Running ask) = []

-- these entries are a prefix of a history, with all asks of a caller
abbrev pub HasSeen : List DeskEntry → ℕ → List DeskEntry → Type 0
HasSeen history caller front = ((more : List DeskEntry) × (history ≡ front ++ more)) × (asks_by caller history ≡ asks_by caller front)

-- a ticket with the next number, for a caller's pass, which has seen all entries
pub record IsFreshPass (book : BookHistory) (caller : ℕ) (ticket : TicketState Outstanding) : Type 0 where
  pub register : ticket.register ≡ book.register
  pub number : ticket.number ≡ length book.items
  pub caller_is : IsPassFor caller ticket.item
  pub all : entries_seen ticket.item ≡ book.history
