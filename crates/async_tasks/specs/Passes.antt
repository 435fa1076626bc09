-- Passes of callers, as contracts see them.
use Rattle.std.specs.Prelude.{◌≡◌, ℕ, ◌<◌, List, [], ◌∷◌, ◌++◌, Option, Some, None, IsSomeAnd}
use Rattle.atomic_table.specs.Seated.{TableId}
use Rattle.tickets.specs.Books.{TicketState}
use Rattle.async_tasks.specs.declared.history.AddRow.{AddRow}
use Rattle.async_tasks.specs.declared.outstanding.Outstanding.{Outstanding}
use Rattle.async_tasks.specs.Histories.{kept_of}
use Rattle.async_tasks.specs.Starts.{IsPassFor, rows_seen}

-- whose pass it is, and its ticket
pub record PassState (W V : Type 0) : Type 0 where
  pub caller : ℕ
  pub ticket : Option (TicketState (Outstanding W V))

abbrev pub pass_state : {W V : Type 0} → ℕ → Option (TicketState (Outstanding W V)) → PassState W V
pass_state caller ticket = record { caller = caller; ticket = ticket }

module _ {W V : Type 0} where
  -- it has a ticket of its caller
  abbrev pub IsHeld : ℕ → Option (TicketState (Outstanding W V)) → Type 0
  IsHeld caller ticket = IsSomeAnd ticket (λ (t : TicketState (Outstanding W V)). IsPassFor caller t.item)

  -- its ticket is of the book of this table
  abbrev pub IsTicketOf : TableId → Option (TicketState (Outstanding W V)) → Type 0
  IsTicketOf register ticket = IsSomeAnd ticket (λ (t : TicketState (Outstanding W V)). t.register ≡ register)

  abbrev pub rows_in : Option (TicketState (Outstanding W V)) → List AddRow
  rows_in None = []
  rows_in (Some ticket) = rows_seen ticket.item

  abbrev pub number_in : Option (TicketState (Outstanding W V)) → ℕ
  number_in None = 0
  number_in (Some ticket) = ticket.number

  -- the rows that a pass has seen
  abbrev pub seen : PassState W V → List AddRow
  seen pass = rows_in pass.ticket

  -- how many tickets its book had given when it looked last
  abbrev pub looked : PassState W V → ℕ
  looked pass = number_in pass.ticket

  -- what it has kept: of each of its adds the number and the tasks named
  abbrev pub kept : PassState W V → List (ℕ × List ℕ)
  kept pass = kept_of pass.caller (seen pass)

  -- It has looked into the book: it is the same caller's, it has seen all that it had seen, and perhaps more.
  pub record LooksAgain (old new : PassState W V) : Type 0 where
    pub caller : new.caller ≡ old.caller
    pub later : looked old < looked new
    pub longer : (more : List AddRow) × (seen new ≡ seen old ++ more)

  -- It has looked into the book and has seen all of these rows, among which it keeps what it kept.
  pub record HasLooked (rows : List AddRow) (old new : PassState W V) : Type 0 where
    pub again : LooksAgain old new
    pub all : seen new ≡ rows
    pub same_kept : kept new ≡ kept old

  -- so has each of these passes
  abbrev pub HaveLooked : List AddRow → List (PassState W V) → List (PassState W V) → Type 0
  HaveLooked rows [] [] = Unit {0}
  HaveLooked rows [] (new ∷ after) = ⊥
  HaveLooked rows (old ∷ before) [] = ⊥
  HaveLooked rows (old ∷ before) (new ∷ after) = HasLooked rows old new × HaveLooked rows before after
