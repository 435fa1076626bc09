-- The rule of the deques of one list: a name that all their passes have, and what the items hold.
use Rattle.std.specs.Prelude.{◌≡◌, ℕ, List, [], ◌∷◌, ◌⊎◌, Option, Some, None}
use mathlib.Core.Option.{some}
use lib.ListN.{get_elem?}
use Rattle.atomic_table.specs.Seated.{TableId}
use Rattle.crossbeam_deque.specs.Handles.{worker_view, worker_flavor, worker_deque}
use Rattle.crossbeam_deque.specs.declared.handles.Worker.{Worker}
use Rattle.ready_deques.specs.inside.Counts.{counting}
use Rattle.ready_deques.specs.declared.about.About.{About}
use Rattle.ready_deques.specs.declared.deque.Queued.{Queued}

abbrev pub about : List ℕ → TableId → About
about tag counts = record { marker = record {}; tag = tag; counts = counts }

-- of no list
abbrev pub blank : About
blank = about [] record { words = 0; slots = 0; views_name = 0; atom = 0; block = 0; offset = 0; slot_names = [] }

-- a worker's deque, flavor and view stay as they are
abbrev pub SameDeque : {T A V P : Type 0} → Worker T A V P → Worker T A V P → Type 0
SameDeque old new = (worker_view new ≡ worker_view old) × (worker_flavor new ≡ worker_flavor old) × (worker_deque new ≡ worker_deque old)

abbrev pub Each : {X : Type 0} → (X → Type 0) → List X → Type 0
Each P [] = Unit {0}
Each P (x ∷ xs) = P x × Each P xs

-- each view has the name a
abbrev pub AreViewsOf : About → List (Option About) → Type 0
AreViewsOf a views = (i : ℕ) (v : Option About) → get_elem? views i ≡ some v → v ≡ Some a

module _ {T : Type 0} (tag : T → List ℕ) where
  -- the item has the list's tag, and its seat holds one count
  abbrev pub IsQueued : About → Queued T → Type 0
  IsQueued a queued = (tag queued.item ≡ a.tag) × (queued.seat.table_id ≡ a.counts) × (queued.seat.me ≡ (counting 1 0 0, []))

  -- a pass that has a name knows that these items are of its list. One without a name knows of no item
  abbrev pub IsKnown : Option About → List (Queued T) → Type 0
  IsKnown (Some a) items = Each (IsQueued a) items
  IsKnown None items = ⊥

  abbrev pub KeepsIt : Option About → List (Queued T) → Option About → Type 0
  KeepsIt v items w = (w ≡ v) × IsKnown v items

  -- there is no item yet and one pass without a name, or all passes have one name
  abbrev pub Holding : List (Queued T) → List (Option About) → Type 0
  Holding items views = ((items ≡ []) × (views ≡ None ∷ [])) ⊎ ((a : About) × Each (IsQueued a) items × AreViewsOf a views)
