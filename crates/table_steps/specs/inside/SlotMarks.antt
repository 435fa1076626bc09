-- Which slots are home: those whose mark is clear.
use Rattle.std.specs.Prelude.{◌≡◌, ℕ, ◌<◌, List, []}
use mathlib.Core.Option.{Option, none, some}
use lib.ListN.{get_elem?}
use Rattle.journal_rules.specs.declared.entry.Part.{Part}

-- a slot, its mark, and how many seats hold it
abbrev pub HomeIs : {S : Type 0} → Option (Option S) → ℕ → ℕ → Type 0
HomeIs (some (some y)) mark held = (mark ≡ 0) × (held ≡ 0)
HomeIs (some none) mark held = (mark ≡ 1) × (held ≡ 1)
HomeIs none mark held = ⊥

abbrev pub Homes : {S : Type 0} → ℕ → (ℕ → ℕ) → List (Option S) → (ℕ → ℕ) → Type 0
Homes count mark homes held = (e : ℕ) → e < count → HomeIs (get_elem? homes e) (mark e) (held e)

-- the parts in a slot, where it is home
abbrev pub label_in : {S : Type 0} → (S → List Part) → Option (Option S) → List Part
label_in parts (some (some y)) = parts y
label_in parts (some none) = []
label_in parts none = []

abbrev pub label_of : {S : Type 0} → (S → List Part) → List (Option S) → ℕ → List Part
label_of parts homes e = label_in parts (get_elem? homes e)
