-- The passes of a new book.
use Rattle.std.proofs.Common.{◌≡◌, ◌⊎◌, inl, inr, ℕ, ◌<◌, ◌+◌, arith, List, [], ◌∷◌, ◌++◌, length, Some, sym, ap, ◌∙◌, subst}
use Rattle.std.specs.Prelude.{slice_get, All}
use Rattle.std.specs.List.{AllByRecursion}
use Rattle.std.proofs.lemmas.List.{length_push}
use Rattle.std.proofs.lemmas.List.Elements.{All-push, All-from_recursion, recursion_from_All}
use Rattle.atomic_table.specs.Seated.{TableId}
use Rattle.async_tasks.specs.Books.{BookHistory, BookKey, book_key, key_of}
use Rattle.async_tasks.specs.Passes.{PassState, IsTicketOf}
use Rattle.async_tasks.specs.AsyncBooks.{AsyncBookState, AreFirstPasses, ArePassesOf}
use Rattle.async_tasks.proofs.Lists.{get_push_cases, get_in_range}

module _ {W V : Type 0} where
  pub register_of : (b : BookHistory W V) (r : TableId) (n : ℕ) → key_of b ≡ book_key r n → b.register ≡ r
  register_of b r n same = ap (λ (k : BookKey). k.register) same

  -- one pass more, at the next place
  pub passes_push : (r : TableId) (passes : List (PassState W V)) (pass : PassState W V) → AreFirstPasses r passes → IsTicketOf r pass.ticket → pass.caller ≡ length passes → AreFirstPasses r (passes ++ pass ∷ [])
  passes_push r passes pass all ticket caller c p at = by_place (get_push_cases passes pass p c at)
    where
      by_place : (slice_get passes c ≡ Some p) ⊎ ((c ≡ length passes) × (pass ≡ p)) → IsTicketOf r p.ticket × (p.caller ≡ c)
      by_place (inl old) = all c p old
      by_place (inr last) = subst (λ (q : PassState W V). IsTicketOf r q.ticket × (q.caller ≡ c)) last.1 (ticket, caller ∙ sym last.0)

  -- they are all passes of the book
  pub passes_of : (book : AsyncBookState) (r : TableId) (callers : ℕ) (passes : List (PassState W V)) → r ≡ book.register → book.callers ≡ callers → length passes ≡ callers → AreFirstPasses r passes → ArePassesOf book passes
  passes_of book r callers passes same_register same_callers count all = record {
    count = count ∙ sym same_callers;
    each = λ c p at. (
      record {
        ticket = subst (λ t. IsTicketOf t p.ticket) same_register (all c p at).0;
        caller = subst (λ k. k < book.callers) (sym (all c p at).1) (subst (λ n. c < n) (count ∙ sym same_callers) (get_in_range passes c p at));
      },
      (all c p at).1,
    );
  }

-- the last item of one list goes to another, as what is made of it
all_front : {X : Type 0} (P : X → Type 0) (xs : List X) (x : X) → AllByRecursion P (xs ++ x ∷ []) → AllByRecursion P xs × P x
all_front P [] x h = (tt, h.0)
all_front P (y ∷ ys) x h = let r = all_front P ys x h.1 in ((h.0, r.0), r.1)

pub moved : {X Y : Type 0} (P : X → Type 0) (Q : Y → Type 0) (xs xs' : List X) (ys ys' : List Y) (x : X) (y : Y) → xs ≡ xs' ++ x ∷ [] → ys' ≡ ys ++ y ∷ [] → (P x → Q y) → All P xs → All Q ys → All P xs' × All Q ys'
moved P Q xs xs' ys ys' x y from to made hx hy =
    let r = all_front P xs' x (subst (AllByRecursion P) from (recursion_from_All P xs hx)) in
    (All-from_recursion P xs' r.0, subst (All Q) (sym to) (All-push Q ys y hy (made r.1)))

pub moved_length : {X Y : Type 0} (xs xs' : List X) (ys ys' : List Y) (x : X) (y : Y) (n : ℕ) → xs ≡ xs' ++ x ∷ [] → ys' ≡ ys ++ y ∷ [] → length xs + length ys ≡ n → length xs' + length ys' ≡ n
moved_length xs xs' ys ys' x y n from to same =
    let a : length xs ≡ length xs' + 1 = ap length from ∙ length_push xs' x in
    let b : length ys' ≡ length ys + 1 = ap length to ∙ length_push ys y in
    omega arith
