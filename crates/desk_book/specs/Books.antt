-- The books of a desk, as contracts see them.
use Rattle.std.specs.Prelude.{◌≡◌, ℕ, List, [], ◌∷◌, ◌++◌, Option, Some, slice_get}
use Rattle.atomic_table.specs.Seated.{TableId}
use Rattle.desk_book.specs.declared.entry.DeskEntry.{DeskEntry}
use Rattle.desk_book.specs.declared.outstanding.Outstanding.{Outstanding}
use Rattle.desk_book.specs.declared.outstanding.Outstanding.TheVariants.{Pass, Running}

-- A book: the table of its tickets, how many graphs and callers it has, its history, and what is outstanding
pub record BookHistory : Type 0 where
  pub register : TableId
  pub graphs : ℕ
  pub callers : ℕ
  pub history : List DeskEntry
  pub items : List (Option Outstanding)

abbrev pub book_history : TableId → ℕ → ℕ → List DeskEntry → List (Option Outstanding) → BookHistory
book_history register graphs callers history items = record { register = register; graphs = graphs; callers = callers; history = history; items = items }

-- the book with one entry more
abbrev pub with_entry : BookHistory → DeskEntry → BookHistory
with_entry book entry = book_history book.register book.graphs book.callers (book.history ++ entry ∷ []) book.items

-- the book with other items outstanding
abbrev pub with_items : BookHistory → List (Option Outstanding) → BookHistory
with_items book items = book_history book.register book.graphs book.callers book.history items

-- who a ticket is for: a caller, or an ask that was taken
pub data Holder : Type 0 where
  caller_of : ℕ → Holder
  ask_of : ℕ → Holder

abbrev pub holder_of : Outstanding → Holder
holder_of (Pass caller seen) = caller_of caller
holder_of (Running ask) = ask_of ask.number

-- nothing is outstanding for it
abbrev pub NothingOut : Holder → List (Option Outstanding) → Type 0
NothingOut holder items = (n : ℕ) (item : Outstanding) → slice_get items n ≡ Some (Some item) → holder_of item ≡ holder → ⊥
