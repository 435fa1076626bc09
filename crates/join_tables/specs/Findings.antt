-- What the steps of a call found. A turn has the numbers that all its steps found, the newest first.
use Rattle.std.specs.Prelude.{◌≡◌, ◌≢◌, ◌⊎◌, ℕ, ◌<◌, ◌≤◌, Bool, true, false, List, [], ◌∷◌}
use Rattle.journal_rules.specs.declared.entry.Cause.{Cause}
use Rattle.journal_rules.specs.declared.entry.Cause.TheVariants.{Strong}

-- a call found one number, of which this is true
abbrev pub FindsOne : (ℕ → Type 0) → List ℕ → List ℕ → Type 0
FindsOne p before (n ∷ rest) = (rest ≡ before) × p n
FindsOne p before [] = ⊥

-- a call found two numbers, and this is true of the first and the second
abbrev pub FindsTwo : (ℕ → ℕ → Type 0) → List ℕ → List ℕ → Type 0
FindsTwo p before (m ∷ n ∷ rest) = (rest ≡ before) × p n m
FindsTwo p before _ = ⊥

-- The count of an edge found how many were left in its target's join word: one where that released the target.
abbrev pub CountsEdge : Bool → List ℕ → List ℕ → Type 0
CountsEdge true before after = FindsOne (λ n. n ≡ 1) before after
CountsEdge false before after = FindsOne (λ n. n ≢ 1) before after

-- A token taken from an edge found how many were there. Where the edge is strong and had another, it was counted again,
-- and that count found how many were left in the join word: one where that released the task again.
abbrev pub TakesToken : Cause → Bool → List ℕ → List ℕ → Type 0
TakesToken cause true before after = FindsTwo (λ k n. (cause ≡ Strong) × (1 < k) × (n ≡ 1)) before after
TakesToken cause false before after = FindsOne (λ k. cause ≡ Strong → k ≤ 1) before after ⊎ FindsTwo (λ k n. (cause ≡ Strong) × (1 < k) × (n ≢ 1)) before after

-- A token given to an edge found how many were there. That of a weak edge releases its target. That of a strong edge
-- was counted where there was none, and that count found how many were left in the join word: one where that released
-- the target.
abbrev pub GivesToken : Bool → Bool → List ℕ → List ℕ → Type 0
GivesToken true true before after = FindsOne (λ k. Unit {0}) before after
GivesToken true false before after = ⊥
GivesToken false true before after = FindsTwo (λ k n. (k ≡ 0) × (n ≡ 1)) before after
GivesToken false false before after = FindsOne (λ k. k ≢ 0) before after ⊎ FindsTwo (λ k n. (k ≡ 0) × (n ≢ 1)) before after
