-- What the seats of a register know, its rule, and what each step makes of a view.
use Rattle.std.specs.Prelude.{◌≡◌, ℕ, Bool, false, ◌==◌, List, [], ◌∷◌, ◌++◌, length, count_by, Option, Some, None, slice_get, slice_set}
use mathlib.Core.Option.{some, none}
use mathlib.Core.Option as core
use lib.ListN.{get_elem?}
use Rattle.atomic_table.specs.Table.{Step, Me}
use Rattle.tickets.specs.declared.view.View.{View}
use Rattle.tickets.specs.declared.view.View.TheVariants.{Book, Issuing, Redeeming, Ticket, Spent}

module _ {X : Type 0} where
  abbrev pub book_view : List (Option X) → View X
  book_view items = Book items

  abbrev pub ticket_view : ℕ → X → View X
  ticket_view n x = Ticket n x

  -- the items that a view knows of as a book
  abbrev pub items_of : View X → List (Option X)
  items_of (Book items) = items
  items_of (Issuing items x) = items
  items_of (Redeeming items n x) = items
  items_of (Ticket n x) = []
  items_of Spent = []

  -- the number that a view has as a ticket
  abbrev pub view_number : View X → ℕ
  view_number (Book items) = 0
  view_number (Issuing items x) = 0
  view_number (Redeeming items n x) = n
  view_number (Ticket n x) = n
  view_number Spent = 0

  -- whether a view names the number n
  abbrev pub names : ℕ → View X → Bool
  names n (Book items) = false
  names n (Issuing items x) = false
  names n (Redeeming items m x) = m == n
  names n (Ticket m x) = m == n
  names n Spent = false

  -- how often the item at a number is outstanding: once or not at all
  abbrev pub times_out : Option (Option X) → ℕ
  times_out None = 0
  times_out (Some None) = 0
  times_out (Some (Some x)) = 1

  -- the view of seat i, where the book is the seat `keeper` and has these items
  abbrev pub Fits : ℕ → List (Option X) → ℕ → View X → Type 0
  Fits keeper items i (Book known) = (i ≡ keeper) × (known ≡ items)
  Fits keeper items i (Issuing known x) = (i ≡ keeper) × (known ≡ items)
  Fits keeper items i (Redeeming known n x) = (i ≡ keeper) × (known ≡ items) × (slice_get items n ≡ Some (Some x))
  Fits keeper items i (Ticket n x) = slice_get items n ≡ Some (Some x)
  Fits keeper items i Spent = Unit {0}

-- There is one book. Each ticket names what is outstanding there, and what is outstanding is named by one ticket
pub record AreViewsOfOneBook {X : Type 0} (views : List (View X)) : Type 0 where
  pub keeper : ℕ
  pub items : List (Option X)
  pub fits : (i : ℕ) (v : View X) → get_elem? views i ≡ some v → Fits keeper items i v
  pub once : (n : ℕ) → count_by (names n) views ≡ times_out (slice_get items n)

module _ {X : Type 0} where
  -- the book is told what to issue
  abbrev pub noted : core.Option X → View X → View X
  noted (some x) (Book items) = Issuing items x
  noted said v = v

  abbrev pub NotesItem : Step X → Me X (View X) → ℕ → Me X (View X) → Type 0
  NotesItem s me n me' = me' ≡ (noted s.said me.0, me.1)

  -- it is issued under the next number
  abbrev pub book_issued : View X → View X
  book_issued (Issuing items x) = Book (items ++ Some x ∷ [])
  book_issued v = v

  abbrev pub ticket_issued : View X → View X
  ticket_issued (Issuing items x) = Ticket (length items) x
  ticket_issued v = Spent

  -- a ticket comes back
  abbrev pub with_ticket : View X → View X → View X
  with_ticket (Book items) (Ticket n x) = Redeeming items n x
  with_ticket v w = v

  -- and its item, which was outstanding, is so no more
  abbrev pub settled_views : View X → View X
  settled_views (Redeeming items n x) = Book (slice_set items n None)
  settled_views v = v

  abbrev pub WasOutstanding : View X → Type 0
  WasOutstanding (Redeeming items n x) = slice_get items n ≡ Some (Some x)
  WasOutstanding v = Unit {0}

  abbrev pub SettlesTicket : Step X → Me X (View X) → ℕ → Me X (View X) → Type 0
  SettlesTicket s me n me' = (me' ≡ (settled_views me.0, me.1)) × WasOutstanding me.0
