-- Passes of callers, as contracts see them.
use Rattle.std.specs.Prelude.{◌≡◌, ℕ, ◌<◌, List, [], ◌++◌, length, Option, Some, None, slice_get, IsSomeAnd}
use Rattle.std.specs.List.{AllByRecursion}
use Rattle.atomic_table.specs.Seated.{TableId}
use Rattle.tickets.specs.Books.{TicketState}
use Rattle.desk_book.specs.declared.entry.Ask.{Ask}
use Rattle.desk_book.specs.declared.entry.DeskEntry.{DeskEntry}
use Rattle.desk_book.specs.declared.outstanding.Outstanding.{Outstanding}
use Rattle.desk_book.specs.Histories.{asks_by}
use Rattle.desk_book.specs.Taking.{IsPassFor, entries_seen, HasSeen}

-- whose pass it is, and its ticket
pub record PassState : Type 0 where
  pub caller : ℕ
  pub ticket : Option (TicketState Outstanding)

abbrev pub pass_state : ℕ → Option (TicketState Outstanding) → PassState
pass_state caller ticket = record { caller = caller; ticket = ticket }

-- it has a ticket of its caller
abbrev pub IsHeld : ℕ → Option (TicketState Outstanding) → Type 0
IsHeld caller ticket = IsSomeAnd ticket (λ (t : TicketState Outstanding). IsPassFor caller t.item)

-- its ticket is of the desk of this table
abbrev pub IsTicketOf : TableId → Option (TicketState Outstanding) → Type 0
IsTicketOf register ticket = IsSomeAnd ticket (λ (t : TicketState Outstanding). t.register ≡ register)

abbrev pub entries_in : Option (TicketState Outstanding) → List DeskEntry
entries_in None = []
entries_in (Some ticket) = entries_seen ticket.item

abbrev pub number_in : Option (TicketState Outstanding) → ℕ
number_in None = 0
number_in (Some ticket) = ticket.number

-- the entries of the desk's history that a pass has seen
abbrev pub seen : PassState → List DeskEntry
seen pass = entries_in pass.ticket

-- how many tickets its desk had given when it looked last
abbrev pub looked : PassState → ℕ
looked pass = number_in pass.ticket

-- the asks that it has kept: those of its caller that it has seen
abbrev pub kept : PassState → List Ask
kept pass = asks_by pass.caller (seen pass)

-- these entries are those, and perhaps more
abbrev pub GoesOn : List DeskEntry → List DeskEntry → Type 0
GoesOn old new = (more : List DeskEntry) × (new ≡ old ++ more)

-- It has looked at the desk: it is the same caller's, it has seen all that it had seen, and perhaps more.
pub record LooksAgain (old new : PassState) : Type 0 where
  pub caller : new.caller ≡ old.caller
  pub later : looked old < looked new
  pub longer : GoesOn (seen old) (seen new)

-- The pass has looked at the desk of this table, and has seen all of its history.
pub record HasLooked (register : TableId) (history : List DeskEntry) (old new : PassState) : Type 0 where
  pub looks : LooksAgain old new
  pub ticket : IsTicketOf register new.ticket
  pub all : seen new ≡ history

-- each of these has
pub record AllLooked (register : TableId) (history : List DeskEntry) (old new : List PassState) : Type 0 where
  pub count : length new ≡ length old
  pub each : (c : ℕ) (before after : PassState) → slice_get old c ≡ Some before → slice_get new c ≡ Some after → HasLooked register history before after

-- what each pass has seen is a prefix of a history, with all asks of its caller
abbrev pub HaveSeen : List DeskEntry → List PassState → Type 0
HaveSeen history passes = AllByRecursion (λ (pass : PassState). HasSeen history pass.caller (seen pass)) passes

-- each has a ticket of this table
abbrev pub HaveTickets : TableId → List PassState → Type 0
HaveTickets register passes = AllByRecursion (λ (pass : PassState). IsTicketOf register pass.ticket) passes
