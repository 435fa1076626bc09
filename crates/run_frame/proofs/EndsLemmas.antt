-- The last End of a task, and the value at a place, after one entry or row more.
use Rattle.std.proofs.Common.{append-nil, ◌≡◌, ℕ, zero, suc, ◌+◌, Bool, true, false, cond, List, [], ◌∷◌, ◌++◌, Option, Some, None, refl, ap, ◌∙◌, arith}
use Rattle.std.specs.Prelude.{◌==◌, filter, if◌then◌else◌}
use Rattle.std.specs.Arc.{arc_value}
use Rattle.std.specs.List.{range_with_len, last_or}
use Rattle.std.specs.Option.{option_or, option_map_or}
use Rattle.std.proofs.lemmas.List.Elements.{filter-append}
use Rattle.journal_rules.specs.declared.entry.Entry.{Entry}
use Rattle.run_frame.specs.declared.run.ValueRow.{ValueRow}
use Rattle.run_frame.specs.Runs.{value_at}
use Rattle.run_frame.specs.LastEnds.{ended_at, is_end_of, ends_before, last_before}

-- Counting one further puts a number at the end.
pub counting_more : (from n at : ℕ) → from + n ≡ at → range_with_len from (n + 1) ≡ range_with_len from n ++ at ∷ []
counting_more from n at is = let more : n + 1 ≡ suc n = omega arith in ap (range_with_len from) more ∙ further from n at is
  where
    further : (from n at : ℕ) → from + n ≡ at → range_with_len from (suc n) ≡ range_with_len from n ++ at ∷ []
    further from zero at is = let same : from ≡ at = omega arith in ap (λ k. k ∷ []) same
    further from (suc n) at is = ap (λ ks. from ∷ ks) (further (from + 1) n at (omega arith))

-- The last of a list is what was put at its end.
pub last_put : {A : Type 0} (or : Option A) (xs : List A) (x : A) → last_or or (xs ++ x ∷ []) ≡ Some x
last_put or [] x = refl
last_put or (y ∷ xs) x = last_put (Some y) xs x

last_kept : (xs : List ℕ) (n : ℕ) (is : Bool) → last_or None (xs ++ cond is (n ∷ []) []) ≡ (if is then Some n else last_or None xs)
last_kept xs n true = last_put None xs n
last_kept xs n false = ap (last_or None) (append-nil xs)

-- The last End of a task before the next place.
pub last_before_more : (journal : List Entry) (t n : ℕ) (task : Option ℕ) → ended_at journal n ≡ task → last_before journal t (n + 1) ≡ (if option_map_or (λ k. k == t) task false then Some n else last_before journal t n)
last_before_more journal t n task is =
    ap (λ ks. last_or None (filter (is_end_of journal t) ks)) (counting_more 0 n n (omega arith))
    ∙ ap (last_or None) (filter-append (is_end_of journal t) (range_with_len 0 n) (n ∷ []))
    ∙ last_kept (ends_before journal t n) n (is_end_of journal t n)
    ∙ ap (λ o. if option_map_or (λ k. k == t) o false then Some n else last_before journal t n) is

-- The value at a place, with one row more.
pub value_at_more : {V : Type 0} (rows : List (ValueRow V)) (row : ValueRow V) (n : ℕ) → value_at (rows ++ row ∷ []) n ≡ option_or (value_at rows n) (if row.place == n then Some (arc_value row.value) else None)
value_at_more [] row n = refl
value_at_more (first ∷ rows) row n = by_test (first.place == n) (arc_value first.value) _ _ _ (value_at_more rows row n)
  where
    by_test : {V : Type 0} (is : Bool) (hit : V) (all front last : Option V) → all ≡ option_or front last → (if is then Some hit else all) ≡ option_or (if is then Some hit else front) last
    by_test true hit all front last more = refl
    by_test false hit all front last more = more

-- The same, told by the test of an End.
pub last_before_at : (journal : List Entry) (t n : ℕ) → last_before journal t (n + 1) ≡ (if is_end_of journal t n then Some n else last_before journal t n)
last_before_at journal t n = last_before_more journal t n (ended_at journal n) refl
