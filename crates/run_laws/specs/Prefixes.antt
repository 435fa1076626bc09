-- Prefixes of lists.
use Rattle.std.specs.Prelude.{◌≡◌, List, [], ◌∷◌}

-- the one list is a prefix of the other
abbrev pub IsPrefixOf : {X : Type 0} → List X → List X → Type 0
IsPrefixOf [] ys = Unit {0}
IsPrefixOf (x ∷ xs) [] = ⊥
IsPrefixOf (x ∷ xs) (y ∷ ys) = (x ≡ y) × IsPrefixOf xs ys
