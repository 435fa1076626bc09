-- The squares of some numbers, added up.
use Rattle.std.specs.Prelude.{ℕ, ◌+◌, ◌*◌, ◌≤◌, min}
use Rattle.std.proofs.Common.{arith}
use Rattle.grain_tasks.specs.Folds.{Folding, IsLawful}
use Rattle.library_tour.specs.declared.squares.Squares.{Squares}

abbrev pub squares : ℕ → Squares
squares count = record { count = count }

abbrev pub max_sum : ℕ
max_sum = 18446744073709551615

-- a sum stays at the greatest number
abbrev pub squaring : Folding Squares ℕ
squaring = record {
  count = λ f. f.count;
  at = λ f i. min (i * i) max_sum;
  unit = λ f. 0;
  join = λ f x y. min (x + y) max_sum;
  allowed = λ f x. x ≤ max_sum;
}

pub squaring_lawful : (f : Squares) → IsLawful squaring f
squaring_lawful f = record {
  unit_allowed = omega arith;
  value_allowed = λ i below. omega arith;
  join_allowed = λ x y a b. omega arith;
  associative = λ x y z a b c. omega arith;
  left_neutral = λ x a. omega (arith, a);
  right_neutral = λ x a. omega (arith, a);
}
