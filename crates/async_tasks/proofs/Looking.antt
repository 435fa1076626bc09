-- Passes of a book that look into it, one after the other.
use Rattle.std.proofs.Common.{◌≡◌, ◌∙◌, ℕ, zero, suc, ◌<◌, ◌≤◌, List, [], ◌∷◌, ◌++◌, length, get_or, set, take, drop, Some, refl, sym, ap, subst, arith}
use Rattle.std.specs.Prelude.{slice_get}
use Rattle.std.proofs.lemmas.List.{append-nil, take_all}
use Rattle.std.proofs.Math.ListN.{drop_of_length-le}
use Rattle.atomic_table.specs.Seated.{TableId}
use Rattle.async_tasks.specs.declared.history.AddRow.{AddRow}
use Rattle.async_tasks.specs.Passes.{PassState, IsTicketOf, HasLooked, HaveLooked}
use Rattle.async_tasks.specs.AsyncBooks.{AsyncBookState, IsPassOf, ArePassesOf}
use Rattle.async_tasks.specs.Histories.{IsHistory}
use Rattle.async_tasks.specs.Books.{BookHistory, BookKey, book_key, key_of}
use Rattle.async_tasks.specs.Adds.{HasNoEnd, with_items}
use Rattle.async_tasks.specs.Finishes.{HaveTickets, IsOpenAt}
use Rattle.async_tasks.proofs.Lists.{some_same}

module _ {W V : Type 0} (register : TableId) (rows : List AddRow) where
  -- the first passes have looked, so many of them, and the others are as they were
  abbrev pub AreLooked : ℕ → List (PassState W V) → List (PassState W V) → Type 0
  AreLooked n [] [] = Unit {0}
  AreLooked n [] (q ∷ qs) = ⊥
  AreLooked n (p ∷ ps) [] = ⊥
  AreLooked zero (p ∷ ps) (q ∷ qs) = (q ≡ p) × IsTicketOf register q.ticket × AreLooked zero ps qs
  AreLooked (suc n) (p ∷ ps) (q ∷ qs) = HasLooked rows p q × IsTicketOf register q.ticket × AreLooked n ps qs

  pub none_looked : (ps : List (PassState W V)) → HaveTickets register ps → AreLooked 0 ps ps
  none_looked [] h = tt
  none_looked (p ∷ ps) h = (refl, h.0, none_looked ps h.1)

  pub ticket_next : (n : ℕ) (ps qs : List (PassState W V)) (d : PassState W V) → AreLooked n ps qs → n < length ps → IsTicketOf register (get_or qs n d).ticket
  ticket_next n [] [] d h below = absurd (omega arith)
  ticket_next n [] (q ∷ qs) d h below = absurd h
  ticket_next n (p ∷ ps) [] d h below = absurd h
  ticket_next zero (p ∷ ps) (q ∷ qs) d h below = h.1
  ticket_next (suc n) (p ∷ ps) (q ∷ qs) d h below = ticket_next n ps qs d h.2 (omega arith)

  pub looked_next : (n : ℕ) (ps qs : List (PassState W V)) (d new : PassState W V) → AreLooked n ps qs → n < length ps → HasLooked rows (get_or qs n d) new → IsTicketOf register new.ticket → AreLooked (suc n) ps (set qs n new)
  looked_next n [] [] d new h below has ticket = absurd (omega arith)
  looked_next n [] (q ∷ qs) d new h below has ticket = absurd h
  looked_next n (p ∷ ps) [] d new h below has ticket = absurd h
  looked_next zero (p ∷ ps) (q ∷ qs) d new h below has ticket = (subst (λ x. HasLooked rows x new) h.0 has, ticket, h.2)
  looked_next (suc n) (p ∷ ps) (q ∷ qs) d new h below has ticket = (h.0, h.1, looked_next n ps qs d new h.2 (omega arith) has ticket)

  pub all_looked : (n : ℕ) (ps qs : List (PassState W V)) → AreLooked n ps qs → length ps ≤ n → HaveLooked rows ps qs × HaveTickets register qs
  all_looked n [] [] h past = (tt, tt)
  all_looked n [] (q ∷ qs) h past = absurd h
  all_looked n (p ∷ ps) [] h past = absurd h
  all_looked zero (p ∷ ps) (q ∷ qs) h past = absurd (omega arith)
  all_looked (suc n) (p ∷ ps) (q ∷ qs) h past =
      let rest = all_looked n ps qs h.2 (omega arith) in
      ((h.0, rest.0), (h.1, rest.1))

  looked_count : (ps qs : List (PassState W V)) → HaveLooked rows ps qs → length qs ≡ length ps
  looked_count [] [] h = refl
  looked_count [] (q ∷ qs) h = absurd h
  looked_count (p ∷ ps) [] h = absurd h
  looked_count (p ∷ ps) (q ∷ qs) h = ap suc (looked_count ps qs h.1)

  -- the caller and the ticket at a place
  looked_at : (ps qs : List (PassState W V)) (c : ℕ) (q : PassState W V) → HaveLooked rows ps qs → HaveTickets register qs → slice_get qs c ≡ Some q → (p : PassState W V) × (slice_get ps c ≡ Some p) × (q.caller ≡ p.caller) × IsTicketOf register q.ticket
  looked_at [] [] c q h tickets at = absurd (cc)
  looked_at [] (q' ∷ qs) c q h tickets at = absurd h
  looked_at (p ∷ ps) [] c q h tickets at = absurd h
  looked_at (p ∷ ps) (q' ∷ qs) zero q h tickets at =
      let same = some_same at in
      (p, refl, subst (λ (x : PassState W V). x.caller ≡ p.caller) same h.0.again.caller, subst (λ (x : PassState W V). IsTicketOf register x.ticket) same tickets.0)
  looked_at (p ∷ ps) (q' ∷ qs) (suc c) q h tickets at = looked_at ps qs c q h.1 tickets.1 at

-- The passes of a book that have looked into it are passes of it.
pub own_still : {W V : Type 0} (book : AsyncBookState) (rows : List AddRow) (ps qs : List (PassState W V)) → ArePassesOf book ps → HaveLooked rows ps qs → HaveTickets book.register qs → ArePassesOf book qs
own_still {W} {V} book rows ps qs own looked tickets = record {
  count = looked_count book.register rows ps qs looked ∙ own.count;
  each = λ c q at. each_own c q (looked_at book.register rows ps qs c q looked tickets at);
}
  where
    each_own : (c : ℕ) (q : PassState W V) → ((p : PassState W V) × (slice_get ps c ≡ Some p) × (q.caller ≡ p.caller) × IsTicketOf book.register q.ticket) → IsPassOf book q × (q.caller ≡ c)
    each_own c q h =
        let was = own.each c h.0 h.1 in
        (record { ticket = h.3; caller = subst (λ k. k < book.callers) (sym h.2) was.0.caller }, h.2 ∙ was.1)

whole_written : {X : Type 0} (n : ℕ) (new items : List X) → n ≡ length items → length new ≡ length items → take n (new ++ drop (length new) items) ≡ new
whole_written n new items count same =
    ap (λ rest. take n (new ++ rest)) (drop_of_length-le items (omega arith)) ∙ ap (take n) (append-nil new) ∙ take_all n new (omega arith)

key_is : (k : BookKey) (r : TableId) (c : ℕ) → k.register ≡ r → k.callers ≡ c → k ≡ book_key r c
key_is k r c same_register same_callers = rw (← same_register, ← same_callers) refl

-- What is said of a book that was found open, by the steps that found it.
module _ {W V : Type 0} (book : AsyncBookState) (passes before new : List (PassState W V)) (register : TableId) (n task : ℕ) (k : BookKey) (state after found : BookHistory W V) where
  pub is_open_at : ArePassesOf book passes → n ≡ length passes → before ≡ passes → register ≡ book.register → k.register ≡ register → k.callers ≡ book.callers → key_of state ≡ k →
      IsHistory state.callers state.rows state.events → HasNoEnd state task → after ≡ with_items state after.items → found ≡ after → HaveTickets register new → HaveLooked state.rows before new →
      IsOpenAt book passes (take n (new ++ drop (length new) passes)) task found
  is_open_at own count same_passes same_register key_register key_callers key history no_end changed same tickets looked =
      let has_looked = subst (λ ps. HaveLooked state.rows ps new) same_passes looked in
      let has_tickets = subst (λ r. HaveTickets r new) same_register tickets in
      subst (IsOpenAt book passes (take n (new ++ drop (length new) passes)) task) (sym (same ∙ changed))
      (subst (λ back. IsOpenAt book passes back task (with_items state after.items)) (sym (whole_written n new passes count (looked_count register state.rows passes new has_looked))) record {
        same = key ∙ key_is k book.register book.callers (key_register ∙ same_register) key_callers;
        history = history;
        no_end = no_end;
        own = own_still book state.rows passes new own has_looked has_tickets;
        looked = has_looked;
      })
