-- Sample folds: a sum, a transform and a for-each.
use Rattle.std.specs.Prelude.{ℕ, ◌+◌, ◌*◌, ◌≤◌, min, List, [], ◌∷◌, ◌++◌, length, slice_index, refl}
use Rattle.std.proofs.Common.{append-nil, append_assoc, arith}
use Rattle.grain_tasks.specs.Folds.{Folding, IsLawful}
use Rattle.test_grains.specs.declared.samples.Doubles.{Doubles}
use Rattle.test_grains.specs.declared.samples.Sum.{Sum}
use Rattle.test_grains.specs.declared.samples.Visits.{Visits}

abbrev pub max_sum : ℕ
max_sum = 18446744073709551615

-- the numbers added up; a sum stays at the greatest number
abbrev pub summing : Folding Sum ℕ
summing = record {
  count = λ f. length f.numbers;
  at = λ f i. min (slice_index f.numbers i) max_sum;
  unit = λ f. 0;
  join = λ f x y. min (x + y) max_sum;
  allowed = λ f x. x ≤ max_sum;
}

pub summing_lawful : (f : Sum) → IsLawful summing f
summing_lawful f = record {
  unit_allowed = omega arith;
  value_allowed = λ i below. omega arith;
  join_allowed = λ x y a b. omega arith;
  associative = λ x y z a b c. omega arith;
  left_neutral = λ x a. omega (arith, a);
  right_neutral = λ x a. omega (arith, a);
}

-- a transform: the list of each number twice over
abbrev pub doubling : Folding Doubles (List ℕ)
doubling = record {
  count = λ f. length f.numbers;
  at = λ f i. slice_index f.numbers i * 2 ∷ [];
  unit = λ f. [];
  join = λ f x y. x ++ y;
  allowed = λ f x. Unit {0};
}

pub doubling_lawful : (f : Doubles) → IsLawful doubling f
doubling_lawful f = record {
  unit_allowed = tt;
  value_allowed = λ i below. tt;
  join_allowed = λ x y a b. tt;
  associative = λ x y z a b c. append_assoc x y z;
  left_neutral = λ x a. refl;
  right_neutral = λ x a. append-nil x;
}

-- a for-each: the indices, in the order in which they are visited
abbrev pub visiting : Folding Visits (List ℕ)
visiting = record {
  count = λ f. f.count;
  at = λ f i. i ∷ [];
  unit = λ f. [];
  join = λ f x y. x ++ y;
  allowed = λ f x. Unit {0};
}

pub visiting_lawful : (f : Visits) → IsLawful visiting f
visiting_lawful f = record {
  unit_allowed = tt;
  value_allowed = λ i below. tt;
  join_allowed = λ x y a b. tt;
  associative = λ x y z a b c. append_assoc x y z;
  left_neutral = λ x a. refl;
  right_neutral = λ x a. append-nil x;
}
