-- What the key of a book says of its table and its callers.
use Rattle.std.proofs.Common.{◌≡◌, ℕ, ◌<◌, Option, Some, sym, ap, ◌∙◌, subst}
use Rattle.atomic_table.specs.Seated.{TableId}
use Rattle.tickets.specs.Books.{TicketState}
use Rattle.async_tasks.specs.declared.outstanding.Outstanding.{Outstanding}
use Rattle.async_tasks.specs.Books.{BookHistory, BookKey, key_of}
use Rattle.async_tasks.specs.Starts.{IsPassFor}
use Rattle.async_tasks.specs.Passes.{IsHeld, IsTicketOf}

module _ {W V : Type 0} where
  -- the table of a book with this key
  pub same_register : (a b : BookHistory W V) (r : TableId) → key_of a ≡ key_of b → b.register ≡ r → a.register ≡ r
  same_register a b r same is = ap (λ (k : BookKey). k.register) same ∙ is

  -- its callers
  pub below_callers : (a b : BookHistory W V) (c : ℕ) → key_of a ≡ key_of b → c < b.callers → c < a.callers
  below_callers a b c same below = subst (λ (k : BookKey). c < k.callers) (sym same) below

  -- the ticket of a pass
  pub ticket_of : (r : TableId) (o : Option (TicketState (Outstanding W V))) (t : TicketState (Outstanding W V)) → o ≡ Some t → IsTicketOf r o → t.register ≡ r
  ticket_of r o t is h = subst (IsTicketOf r) is h

  pub held_by : (c : ℕ) (o : Option (TicketState (Outstanding W V))) (t : TicketState (Outstanding W V)) → o ≡ Some t → IsHeld c o → IsPassFor c t.item
  held_by c o t is h = subst (IsHeld c) is h
