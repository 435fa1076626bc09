-- In how many lines of a text a word occurs, as a fold.
use Rattle.std.specs.Prelude.{ℕ, ◌+◌, ◌≤◌, min, List, [], length, slice_index_or, Bool, true, false, if◌then◌else◌}
use Rattle.std.proofs.Common.{arith}
use Rattle.text_ops.specs.Lines.{lines_of, occurs}
use Rattle.grain_tasks.specs.Folds.{Folding, IsLawful}

-- a word, and the text in whose lines it is looked for
pub record WordText : Type 0 where
  pub word : List ℕ
  pub text : List ℕ

abbrev pub word_text : List ℕ → List ℕ → WordText
word_text word text = record { word = word; text = text }

abbrev pub max_count : ℕ
max_count = 18446744073709551615

-- Whether the word occurs in the line of a number, as 1 or 0. A sum stays at the greatest number.
abbrev pub word_fold : Folding WordText ℕ
word_fold = record {
  count = λ f. length (lines_of f.text);
  at = λ f i. if occurs f.word (slice_index_or (lines_of f.text) i []) then 1 else 0;
  unit = λ f. 0;
  join = λ f x y. min (x + y) max_count;
  allowed = λ f x. x ≤ max_count;
}

pub word_fold_lawful : (f : WordText) → IsLawful word_fold f
word_fold_lawful f = record {
  unit_allowed = omega arith;
  value_allowed = λ i below. one_or_none (occurs f.word (slice_index_or (lines_of f.text) i []));
  join_allowed = λ x y a b. omega arith;
  associative = λ x y z a b c. omega arith;
  left_neutral = λ x a. omega (arith, a);
  right_neutral = λ x a. omega (arith, a);
}
  where
    one_or_none : (b : Bool) → (if b then 1 else 0) ≤ max_count
    one_or_none true = omega arith
    one_or_none false = omega arith
