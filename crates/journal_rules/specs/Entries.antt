-- A rule of entries, over a whole journal.
use Rattle.std.specs.Prelude.{List, [], ◌∷◌, ◌++◌}

-- each item of the rest meets the rule after the items before it, the first ones being these
abbrev pub EachAfterThese : {X : Type 0} → (List X → X → Type 0) → List X → List X → Type 0
EachAfterThese Rule before [] = Unit {0}
EachAfterThese Rule before (x ∷ rest) = Rule before x × EachAfterThese Rule (before ++ x ∷ []) rest

-- each item meets the rule after the items before it
abbrev pub EachAfter : {X : Type 0} → (List X → X → Type 0) → List X → Type 0
EachAfter Rule items = EachAfterThese Rule [] items
