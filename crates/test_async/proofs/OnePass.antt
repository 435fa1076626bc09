-- A book with one caller and one worker has one pass and one seat.
use Rattle.std.proofs.Common.{◌≡◌, ◌∙◌, ℕ, zero, suc, ◌<◌, List, [], ◌∷◌, length, get_or, Some, sym, ap, subst, arith}
use Rattle.std.specs.Prelude.{slice_get, All}
use Rattle.std.proofs.lemmas.Option.{slice_get-get_or}
use Rattle.async_tasks.specs.Passes.{PassState}
use Rattle.async_tasks.specs.AsyncBooks.{AsyncBookState, AsyncSeatState, ArePassesOf, IsPassOf, IsSeatOf}

module _ {W V : Type 0} where
  pub first_pass : (book : AsyncBookState) (passes : List (PassState W V)) (pass : PassState W V) → ArePassesOf book passes → book.callers ≡ 1 → pass ≡ get_or passes 0 pass → IsPassOf book pass × (pass.caller ≡ 0)
  first_pass book passes pass own one at =
      let below : 0 < length passes = omega (arith, own.count, one) in
      own.each 0 pass (slice_get-get_or passes 0 pass below ∙ ap Some (sym at))

  pub only_pass : (book : AsyncBookState) (passes : List (PassState W V)) (pass : PassState W V) → IsPassOf book pass → book.callers ≡ 1 → pass.caller ≡ 0 → passes ≡ pass ∷ [] → ArePassesOf book passes
  only_pass book passes pass own one zeroth same = record {
    count = ap length same ∙ sym one;
    each = λ c p at. by_place c p (ap (λ ps. slice_get ps c) (sym same) ∙ at);
  }
    where
      by_place : (c : ℕ) (p : PassState W V) → slice_get (pass ∷ []) c ≡ Some p → IsPassOf book p × (p.caller ≡ c)
      by_place zero p at = subst (λ (q : PassState W V). IsPassOf book q × (q.caller ≡ 0)) (some_same at) (own, zeroth)
        where
          some_same : Some pass ≡ Some p → pass ≡ p
          some_same e = cc
      by_place (suc c) p at = absurd (cc)

pub first_seat : (book : AsyncBookState) (seats : List AsyncSeatState) (seat : AsyncSeatState) → All (IsSeatOf book) seats → length seats ≡ 1 → seat ≡ get_or seats 0 seat → IsSeatOf book seat
first_seat book seats seat all one at = subst (IsSeatOf book) (sym at) (all 0 seat (omega (arith, one)))
