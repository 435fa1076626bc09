-- The places at which a test passes.
use Rattle.std.proofs.Common.{◌≡◌, ◌==◌, ℕ, suc, Bool, true, false, not, ◌&&◌, List, [], ◌∷◌, if◌then◌else◌, refl}
use Rattle.task_graph.specs.declared.net.EdgeRow.{EdgeRow}
use Rattle.task_graph.specs.NetRows.{NetRows}
use Rattle.task_graph.specs.Net.{is_weak_row, strong_in, weak_in, IsSource}
use Rattle.task_graph.specs.Places.{places_from}

-- a first item that passes neither of two halves of a test doesn't pass the test
join_halves : (a b : Bool) (n : ℕ) (first second whole : List ℕ)
    → (first ≡ [] → second ≡ [] → whole ≡ [])
    → (if a && not b then n ∷ first else first) ≡ []
    → (if a && b then n ∷ second else second) ≡ []
    → (if a then n ∷ whole else whole) ≡ []
join_halves false b n first second whole rest none_first none_second = rest none_first none_second
join_halves true true n first second whole rest none_first none_second = absurd cc
join_halves true false n first second whole rest none_first none_second = absurd cc

-- and back
split_first : (a b : Bool) (n : ℕ) (first whole : List ℕ)
    → (whole ≡ [] → first ≡ [])
    → (if a then n ∷ whole else whole) ≡ []
    → (if a && b then n ∷ first else first) ≡ []
split_first false b n first whole rest none = rest none
split_first true b n first whole rest none = absurd cc

-- where no item passes a test, none passes a stricter one
pub none_from_whole : {X : Type 0} (p q : X → Bool) (n : ℕ) (xs : List X) → places_from p n xs ≡ [] → places_from (λ x. p x && q x) n xs ≡ []
none_from_whole p q n [] none = refl
none_from_whole p q n (x ∷ xs) none = split_first (p x) (q x) n _ _ (none_from_whole p q (suc n) xs) none

-- where no item passes with a second test, and none without it, no item passes
pub none_from_halves : {X : Type 0} (p q : X → Bool) (n : ℕ) (xs : List X)
    → places_from (λ x. p x && not (q x)) n xs ≡ []
    → places_from (λ x. p x && q x) n xs ≡ []
    → places_from p n xs ≡ []
none_from_halves p q n [] without with = refl
none_from_halves p q n (x ∷ xs) without with =
    join_halves (p x) (q x) n _ _ _ (none_from_halves p q (suc n) xs) without with

-- a task without strong and without weak in-edges is a source, and back
pub source_from_none : (net : NetRows) (t : ℕ) → strong_in net t ≡ [] → weak_in net t ≡ [] → IsSource net t
source_from_none net t = none_from_halves (λ (row : EdgeRow). row.to == t) (is_weak_row net) 0 net.edges

pub strong_in-source : (net : NetRows) (t : ℕ) → IsSource net t → strong_in net t ≡ []
strong_in-source net t = none_from_whole (λ (row : EdgeRow). row.to == t) (λ row. not (is_weak_row net row)) 0 net.edges

pub weak_in-source : (net : NetRows) (t : ℕ) → IsSource net t → weak_in net t ≡ []
weak_in-source net t = none_from_whole (λ (row : EdgeRow). row.to == t) (is_weak_row net) 0 net.edges
