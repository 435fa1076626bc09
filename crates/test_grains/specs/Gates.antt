-- A fold of two indices whose values are each 1.
use Rattle.std.specs.Prelude.{ℕ, ◌+◌, ◌≤◌, min}
use Rattle.std.proofs.Common.{arith}
use Rattle.grain_tasks.specs.Folds.{Folding, IsLawful}
use Rattle.test_grains.specs.Samples.{max_sum}

abbrev pub counting : {G : Type 0} → Folding G ℕ
counting = record {
  count = λ f. 2;
  at = λ f i. 1;
  unit = λ f. 0;
  join = λ f x y. min (x + y) max_sum;
  allowed = λ f x. x ≤ max_sum;
}

pub counting_lawful : {G : Type 0} (f : G) → IsLawful {F = G} counting f
counting_lawful f = record {
  unit_allowed = omega arith;
  value_allowed = λ i below. omega arith;
  join_allowed = λ x y a b. omega arith;
  associative = λ x y z a b c. omega arith;
  left_neutral = λ x a. omega (arith, a);
  right_neutral = λ x a. omega (arith, a);
}
