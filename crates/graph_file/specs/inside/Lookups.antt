-- What sets and maps know of names.
use Rattle.std.specs.Prelude.{◌≡◌, ℕ, ◌<◌, List, map, length, take, true, not, Option, Some, None, if◌then◌else◌, position, get_or}
use Rattle.std.specs.Borrow.{Bor}
use Rattle.std.specs.List.{list_any}
use Rattle.std.specs.Option.{option_or}
use Rattle.std.specs.Str.{bytes_eq}
use Rattle.std.specs.HashMap.{HashMap, get_by}
use Rattle.graph_file.specs.declared.lookups.Index.{Index}

module _ {S : Type 0} where
  -- the place that the map has for this name
  abbrev pub place_in : HashMap (Bor (List ℕ)) ℕ S → List ℕ → Option ℕ
  place_in places name = get_by (λ k. bytes_eq name k.now) places

  -- the map has the first place of each of the names
  abbrev pub HasPlaces : HashMap (Bor (List ℕ)) ℕ S → List (List ℕ) → Type 0
  HasPlaces places names = (q : List ℕ) → place_in places q ≡ position (bytes_eq q) names

  -- the new map has this place for the name, if there was none
  abbrev pub KeepsPlace : HashMap (Bor (List ℕ)) ℕ S → List ℕ → ℕ → HashMap (Bor (List ℕ)) ℕ S → Type 0
  KeepsPlace old name place new = (q : List ℕ) → place_in new q ≡ option_or (place_in old q) (if bytes_eq q name then Some place else None)

-- none of so many names, the first ones, occurs before its place
abbrev pub AreNew : List (List ℕ) → ℕ → Type 0
AreNew names count = (k : ℕ) (name : List ℕ) → k < count → name ≡ get_or names k name → not (list_any (bytes_eq name) (take k names)) ≡ true

-- each of the names occurs once
abbrev pub OccurOnce : List (List ℕ) → Type 0
OccurOnce names = AreNew names (length names)

-- the map of an index has the first place of each of its names
abbrev pub IsIndex : Index → Type 0
IsIndex index = HasPlaces index.places (map (λ s. s.now) index.names)
