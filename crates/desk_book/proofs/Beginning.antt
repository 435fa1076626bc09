-- The passes of a new desk.
use Rattle.std.proofs.Common.{◌≡◌, ◌⊎◌, inl, inr, ℕ, ◌<◌, List, [], ◌∷◌, ◌++◌, length, Some, sym, ap, ◌∙◌, subst}
use Rattle.std.specs.Prelude.{slice_get}
use Rattle.atomic_table.specs.Seated.{TableId}
use Rattle.desk_book.specs.States.{DeskKey, DeskLocked, key_of}
use Rattle.desk_book.specs.Passes.{PassState, IsTicketOf}
use Rattle.desk_book.specs.Desks.{AreFirstPasses, ArePassesOf}
use Rattle.desk_book.proofs.Lists.{get_push_cases, get_in_range}

pub register_of : {J : Type 0} (a b : DeskLocked J) (r : TableId) → key_of a ≡ key_of b → b.book.register ≡ r → a.book.register ≡ r
register_of {J} a b r same is = ap (λ (k : DeskKey J). k.register) same ∙ is

-- one pass more, at the next place
pub passes_push : (r : TableId) (passes : List PassState) (pass : PassState) → AreFirstPasses r passes → IsTicketOf r pass.ticket → pass.caller ≡ length passes → AreFirstPasses r (passes ++ pass ∷ [])
passes_push r passes pass all ticket caller c p at = by_place (get_push_cases passes pass p c at)
  where
    by_place : (slice_get passes c ≡ Some p) ⊎ ((c ≡ length passes) × (pass ≡ p)) → IsTicketOf r p.ticket × (p.caller ≡ c)
    by_place (inl old) = all c p old
    by_place (inr last) = subst (λ (q : PassState). IsTicketOf r q.ticket × (q.caller ≡ c)) last.1 (ticket, caller ∙ sym last.0)

-- they are all passes of the desk
pub passes_of : {J : Type 0} (desk : DeskKey J) (r : TableId) (callers : ℕ) (passes : List PassState) → r ≡ desk.register → desk.callers ≡ callers → length passes ≡ callers → AreFirstPasses r passes → ArePassesOf desk passes
passes_of desk r callers passes same_register same_callers count all = record {
  count = count ∙ sym same_callers;
  each = λ c p at. (
    record {
      ticket = subst (λ t. IsTicketOf t p.ticket) same_register (all c p at).0;
      caller = subst (λ k. k < desk.callers) (sym (all c p at).1) (subst (λ n. c < n) (count ∙ sym same_callers) (get_in_range passes c p at));
    },
    (all c p at).1,
  );
}
