use Rattle.std.proofs.Common.{refl, subst, ◌≡◌, ◌∙◌, ◌+◌, sym, ap, length, arith, Some}
use Rattle.std.specs.Prelude.{slice_get, vec_capacity}
use Rattle.std.proofs.lemmas.List.{length_push}
use Rattle.std.proofs.lemmas.Option.{slice_get_read}
use Rattle.tickets.specs.Books.{BookState, TicketState}
use Rattle.desk_book.specs.declared.outstanding.Outstanding.{Outstanding}
use Rattle.desk_book.specs.declared.outstanding.Outstanding.TheVariants.{Running}
use Rattle.desk_book.specs.Histories.{NoneMayBeTaken}
use Rattle.desk_book.specs.Books.{BookHistory, NothingOut, caller_of}
use Rattle.desk_book.specs.inside.Looks.{IsLeast}
use Rattle.desk_book.proofs.Issuing.{running_out}
use Rattle.desk_book.proofs.Keeping.{least_first, least_in, none_first, took, took_room, takes}
use Rattle.desk_book.proofs.book.DeskBook.take_in.Goals as goal

pub returns-in_default-clause-none : goal.returns-in_default-clause-none
returns-in_default-clause-none c =
    let s = c.self.inside in
    let none = subst (IsLeast s.next.items) c.in_default.is (subst (λ xs. IsLeast xs c.least.result) c.deref.ensures.value c.least.ensures) in
    (refl, subst (λ (b : BookHistory). NoneMayBeTaken b.history) c.self.view_is (none_first s.graphs s.callers (vec_capacity s.history) s.history.items s.asks.items s.turns.items s.next.items s.oldest c.self.invariant.0 none))

pub index-ask-requires : goal.index-ask-requires
index-ask-requires c =
    let s = c.self.inside in
    let least = subst (IsLeast s.next.items) c.in-Some.is (subst (λ xs. IsLeast xs c.least.result) c.deref.ensures.value c.least.ensures) in
    let below = least_in s.graphs s.callers (vec_capacity s.history) s.history.items s.asks.items s.turns.items s.next.items s.oldest c.self.invariant.0 c.in-Some.number least in
    omega (arith, below, s.asks.ok.0)

pub push_reserved-requires : goal.push_reserved-requires
push_reserved-requires c =
    let s = c.self.inside in
    let least = subst (IsLeast s.next.items) c.in-Some.is (subst (λ xs. IsLeast xs c.least.result) c.deref.ensures.value c.least.ensures) in
    let below = least_in s.graphs s.callers (vec_capacity s.history) s.history.items s.asks.items s.turns.items s.next.items s.oldest c.self.invariant.0 c.in-Some.number least in
    let at = slice_get_read s.asks.items (length s.asks.items) c.in-Some.number c.index-ask.result.now refl below c.index-ask.ensures in
    let may = (least_first s.graphs s.callers (vec_capacity s.history) s.history.items s.asks.items s.turns.items s.next.items s.oldest c.self.invariant.0 c.in-Some.number least).0 in
    let room = took_room s.graphs s.callers (vec_capacity s.history) s.history.items s.asks.items s.turns.items s.next.items s.oldest c.self.invariant.0 c.in-Some.number c.index-ask.result.now at may in
    omega (arith, room, s.history.ok.0)

pub invariant_of-self : goal.invariant_of-self
invariant_of-self c =
    let s = c.self.inside in
    let least = subst (IsLeast s.next.items) c.in-Some.is (subst (λ xs. IsLeast xs c.least.result) c.deref.ensures.value c.least.ensures) in
    let below = least_in s.graphs s.callers (vec_capacity s.history) s.history.items s.asks.items s.turns.items s.next.items s.oldest c.self.invariant.0 c.in-Some.number least in
    let at = slice_get_read s.asks.items (length s.asks.items) c.in-Some.number c.index-ask.result.now refl below c.index-ask.ensures in
    took s.graphs s.callers (vec_capacity s.history) (vec_capacity c.push_reserved.new.self) s.history.items c.push_reserved.new.self.items s.asks.items s.turns.items c.set_turn.new.turns.items s.next.items c.set_next.new.next.items s.oldest
    s.book.items c.issue-ticket.new.book.items c.in-Some.number c.index-ask.result.now c.self.invariant at least
    c.push_reserved.ensures.capacity c.push_reserved.ensures.items c.set_turn.ensures c.set_next.ensures (ap (λ (b : BookState Outstanding). b.items) c.issue-ticket.ensures.book)

pub returns-clause-items : goal.returns-clause-items
returns-clause-items c =
    let s = c.self.inside in
    let more : length c.issue-ticket.new.book.items ≡ length s.book.items + 1 = ap (λ (b : BookState Outstanding). length b.items) c.issue-ticket.ensures.book ∙ length_push s.book.items (Some (Running c.index-ask.result.now)) in
    let same : length s.book.items ≡ length c.args.self.now.items = ap (λ (b : BookHistory). length b.items) c.self.view_is in
    omega (arith, more, same)

pub returns-clause-passes : goal.returns-clause-passes
returns-clause-passes c k none =
    let s = c.self.inside in
    running_out s.book.items c.issue-ticket.new.book.items k c.index-ask.result.now (ap (λ (b : BookState Outstanding). b.items) c.issue-ticket.ensures.book)
    (subst (λ (b : BookHistory). NothingOut (caller_of k) b.items) (sym c.self.view_is) none)

pub returns-clause-taken : goal.returns-clause-taken
returns-clause-taken c =
    let s = c.self.inside in
    let least = subst (IsLeast s.next.items) c.in-Some.is (subst (λ xs. IsLeast xs c.least.result) c.deref.ensures.value c.least.ensures) in
    let below = least_in s.graphs s.callers (vec_capacity s.history) s.history.items s.asks.items s.turns.items s.next.items s.oldest c.self.invariant.0 c.in-Some.number least in
    let at = slice_get_read s.asks.items (length s.asks.items) c.in-Some.number c.index-ask.result.now refl below c.index-ask.ensures in
    let first = (least_first s.graphs s.callers (vec_capacity s.history) s.history.items s.asks.items s.turns.items s.next.items s.oldest c.self.invariant.0 c.in-Some.number least).1 in
    let here : c.args.register.now ≡ s.book.register = sym (ap (λ (b : BookHistory). b.register) c.self.view_is ∙ c.requires.register) in
    takes c.args.self.now s.book.register c.issue-ticket.new.book.register c.issue-ticket.result.register s.graphs s.callers s.history.items c.push_reserved.new.self.items s.book.items c.issue-ticket.new.book.items c.in-Some.number c.index-ask.result.now
    c.self.view_is (c.self.invariant.0.each c.in-Some.number c.index-ask.result.now at).number (c.self.invariant.0.each c.in-Some.number c.index-ask.result.now at).graph first
    (subst (λ xs. slice_get xs c.in-Some.number ≡ Some c.index-ask.result.now) (sym c.self.invariant.0.same_asks) at)
    (ap (λ (b : BookState Outstanding). b.register) c.issue-ticket.ensures.book ∙ here) (ap (λ (t : TicketState Outstanding). t.register) c.issue-ticket.ensures.ticket ∙ here) c.push_reserved.ensures.items
