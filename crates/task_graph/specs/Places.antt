-- The places in a list at which a test passes.
use Rattle.std.specs.Prelude.{ℕ, suc, Bool, List, [], ◌∷◌, if◌then◌else◌}

-- the places of the items that pass, rising, where the first item stands at place n
abbrev pub places_from : {X : Type 0} → (X → Bool) → ℕ → List X → List ℕ
places_from p n [] = []
places_from p n (x ∷ xs) = if p x then n ∷ places_from p (suc n) xs else places_from p (suc n) xs

-- the places of the items that pass, rising
abbrev pub places : {X : Type 0} → (X → Bool) → List X → List ℕ
places p xs = places_from p 0 xs
