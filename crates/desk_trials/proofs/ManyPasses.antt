-- Passes of a desk that threads have used are passes of it still.
use Rattle.std.proofs.Common.{◌≡◌, ◌∙◌, ℕ, zero, suc, ◌<◌, List, [], ◌∷◌, ◌++◌, length, get_or, take, drop, Some, sym, ap, subst, arith}
use Rattle.std.specs.Prelude.{slice_get}
use Rattle.std.proofs.lemmas.List.{append-nil, take_all}
use Rattle.std.proofs.Math.ListN.{drop_of_length-le}
use Rattle.std.proofs.lemmas.Option.{slice_get-get_or, slice_get_within}
use Rattle.desk_book.specs.Passes.{PassState}
use Rattle.desk_book.specs.States.{DeskKey}
use Rattle.desk_book.specs.Desks.{ArePassesOf, IsPassOf}

some_same : {X : Type 0} {x y : X} → Some x ≡ Some y → x ≡ y
some_same e = cc

module _ {J : Type 0} (desk : DeskKey J) where
  pub pass_at : (passes : List PassState) (i : ℕ) (d : PassState) → ArePassesOf desk passes → i < length passes → IsPassOf desk (get_or passes i d)
  pass_at passes i d own below = (own.each i (get_or passes i d) (slice_get-get_or passes i d below)).0

  pub passes_after : (olds news : List PassState) → ArePassesOf desk olds → length news ≡ length olds
      → ((i : ℕ) (d : PassState) → i < length olds → IsPassOf desk (get_or news i d) × ((get_or news i d).caller ≡ (get_or olds i d).caller)) → ArePassesOf desk news
  passes_after olds news own same changed = record {
    count = same ∙ own.count;
    each = λ c p at.
        let here = slice_get_within news c p at in
        let below : c < length olds = omega (arith, here, same) in
        let is : get_or news c p ≡ p = some_same (sym (slice_get-get_or news c p here) ∙ at) in
        let was = own.each c (get_or olds c p) (slice_get-get_or olds c p below) in
        subst (λ (q : PassState). IsPassOf desk q × (q.caller ≡ c)) is ((changed c p below).0, (changed c p below).1 ∙ was.1);
  }

-- a whole list that was written in the place of another
pub written : {X : Type 0} (n : ℕ) (new items : List X) → n ≡ length items → length new ≡ length items → take n (new ++ drop (length new) items) ≡ new
written n new items count same =
    ap (λ rest. take n (new ++ rest)) (drop_of_length-le items (omega (arith, same))) ∙ ap (take n) (append-nil new) ∙ take_all n new (omega (arith, same, count))
