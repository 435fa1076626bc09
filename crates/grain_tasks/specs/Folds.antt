-- Folds over a range of indices.
use Rattle.std.specs.Prelude.{◌≡◌, ℕ, ◌<◌, List, map}
use Rattle.std.specs.List.{fold, range_with_len}

-- What folds of a type compute, with values of a type: how many indices a fold has, the value at each, the value of
-- no index, how two values are joined, and which values the laws speak of.
pub record Folding (F V : Type 0) : Type 1 where
  pub count : F → ℕ
  pub at : F → ℕ → V
  pub unit : F → V
  pub join : F → V → V → V
  pub allowed : F → V → Type 0

-- The laws of a fold. The unit, the value at each index and each join of allowed values are allowed. On allowed
-- values the join is associative and the unit is neutral.
pub record IsLawful {F V : Type 0} (folding : Folding F V) (f : F) : Type 0 where
  pub unit_allowed : folding.allowed f (folding.unit f)
  pub value_allowed : (i : ℕ) → i < folding.count f → folding.allowed f (folding.at f i)
  pub join_allowed : (x y : V) → folding.allowed f x → folding.allowed f y → folding.allowed f (folding.join f x y)
  pub associative : (x y z : V) → folding.allowed f x → folding.allowed f y → folding.allowed f z
      → folding.join f (folding.join f x y) z ≡ folding.join f x (folding.join f y z)
  pub left_neutral : (x : V) → folding.allowed f x → folding.join f (folding.unit f) x ≡ x
  pub right_neutral : (x : V) → folding.allowed f x → folding.join f x (folding.unit f) ≡ x

-- the unit joined with these values, in order
abbrev pub joined : {F V : Type 0} → Folding F V → F → List V → V
joined folding f values = fold (folding.join f) (folding.unit f) values

-- the unit joined with the values at so many indices from one on, in order
abbrev pub fold_from : {F V : Type 0} → Folding F V → F → ℕ → ℕ → V
fold_from folding f first count = joined folding f (map (folding.at f) (range_with_len first count))

-- the unit joined with the values at 0, 1 and so on up to count - 1, in order
abbrev pub plain_fold : {F V : Type 0} → Folding F V → F → ℕ → V
plain_fold folding f count = fold_from folding f 0 count
