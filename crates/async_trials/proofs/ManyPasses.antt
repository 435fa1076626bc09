-- Passes of a book that threads have added with are passes of it still.
use Rattle.std.proofs.Common.{◌≡◌, ◌∙◌, ℕ, zero, suc, ◌<◌, List, [], ◌∷◌, ◌++◌, length, get_or, take, drop, Some, sym, ap, subst, arith}
use Rattle.std.specs.Prelude.{slice_get, All}
use Rattle.std.proofs.lemmas.List.{append-nil, take_all}
use Rattle.std.proofs.Math.ListN.{drop_of_length-le}
use Rattle.std.proofs.lemmas.Option.{slice_get-get_or}
use Rattle.async_tasks.specs.Passes.{PassState}
use Rattle.async_tasks.specs.AsyncBooks.{AsyncBookState, ArePassesOf, IsPassOf}

some_same : {X : Type 0} {x y : X} → Some x ≡ Some y → x ≡ y
some_same e = cc

in_range : {X : Type 0} (xs : List X) (k : ℕ) (x : X) → slice_get xs k ≡ Some x → k < length xs
in_range [] k x at = absurd (cc)
in_range (y ∷ ys) zero x at = omega arith
in_range (y ∷ ys) (suc k) x at = let below = in_range ys k x at in omega arith

module _ {W V : Type 0} where
  pub pass_at : (book : AsyncBookState) (passes : List (PassState W V)) (i : ℕ) (d : PassState W V) → ArePassesOf book passes → i < length passes → IsPassOf book (get_or passes i d)
  pass_at book passes i d own below = (own.each i (get_or passes i d) (slice_get-get_or passes i d below)).0

  pub passes_after : (book : AsyncBookState) (olds news : List (PassState W V)) → ArePassesOf book olds → length news ≡ length olds →
      ((i : ℕ) (d : PassState W V) → i < length olds → IsPassOf book (get_or news i d) × ((get_or news i d).caller ≡ (get_or olds i d).caller)) → ArePassesOf book news
  passes_after book olds news own same changed = record {
    count = same ∙ own.count;
    each = λ c p at.
        let here = in_range news c p at in
        let below : c < length olds = omega (arith, here, same) in
        let is : get_or news c p ≡ p = some_same (sym (slice_get-get_or news c p here) ∙ at) in
        let was = own.each c (get_or olds c p) (slice_get-get_or olds c p below) in
        subst (λ (q : PassState W V). IsPassOf book q × (q.caller ≡ c)) is ((changed c p below).0, (changed c p below).1 ∙ was.1);
  }

-- what holds of a whole list that was written holds of the list that it was lent from
pub all_written : {X : Type 0} (P : X → Type 0) (n : ℕ) (new items now : List X) → n ≡ length items → now ≡ items → length new ≡ length now → All P new → All P (take n (new ++ drop (length new) items))
all_written P n new items now count same kept all = subst (All P) (sym whole) all
  where
    whole : take n (new ++ drop (length new) items) ≡ new
    whole = let e = ap length same in
        ap (λ rest. take n (new ++ rest)) (drop_of_length-le items (omega (arith, kept, e))) ∙ ap (take n) (append-nil new) ∙ take_all n new (omega (arith, kept, e, count))
