use Rattle.std.proofs.Common.{subst, ◌≡◌, ◌∙◌, sym, ap, length, arith}
use Rattle.std.specs.Prelude.{vec_capacity}
use Rattle.tickets.specs.Books.{BookState}
use Rattle.desk_book.specs.declared.outstanding.Outstanding.{Outstanding}
use Rattle.desk_book.specs.Books.{BookHistory, book_history}
use Rattle.desk_book.specs.Taking.{OpenAsk}
use Rattle.desk_book.specs.Changes.{EndsTaken}
use Rattle.desk_book.proofs.Lists.{get_in_range}
use Rattle.desk_book.proofs.Keeping.{open_here, ended, ended_room, ends}
use Rattle.desk_book.proofs.book.DeskBook.end_in.Goals as goal

pub first_after-following-requires : goal.first_after-following-requires
first_after-following-requires c =
    let s = c.self.inside in
    let t = c.taken.inside in
    let here = open_here s.graphs s.callers (vec_capacity s.history) s.history.items s.asks.items s.turns.items s.next.items s.oldest s.book.items t.ticket.number t.ticket.item t.ask c.self.invariant c.redeem.ensures.outstanding c.taken.invariant in
    let below = get_in_range s.asks.items t.ask.number t.ask here.2 in
    omega (arith, below, ap length c.deref.ensures.value)

pub push_reserved-requires : goal.push_reserved-requires
push_reserved-requires c =
    let s = c.self.inside in
    let t = c.taken.inside in
    let here = open_here s.graphs s.callers (vec_capacity s.history) s.history.items s.asks.items s.turns.items s.next.items s.oldest s.book.items t.ticket.number t.ticket.item t.ask c.self.invariant c.redeem.ensures.outstanding c.taken.invariant in
    let room = ended_room s.graphs s.callers (vec_capacity s.history) s.history.items s.asks.items s.turns.items s.next.items s.oldest c.self.invariant.0 t.ask.number t.ask c.args.whole c.first_after-following.result here.2 here.3 in
    omega (arith, room, s.history.ok.0)

pub invariant_of-self : goal.invariant_of-self
invariant_of-self c =
    let s = c.self.inside in
    let t = c.taken.inside in
    ended s.graphs s.callers (vec_capacity s.history) (vec_capacity c.push_reserved.new.self) s.history.items c.push_reserved.new.self.items s.asks.items c.deref.result.now s.turns.items c.set_turn.new.turns.items s.next.items c.set_next.new.next.items s.oldest
    s.book.items c.redeem.new.book.items t.ticket.number t.ticket.item t.ask c.args.whole c.first_after-following.result c.self.invariant c.redeem.ensures.outstanding c.taken.invariant c.deref.ensures.value c.first_after-following.ensures
    c.push_reserved.ensures.capacity c.push_reserved.ensures.items c.set_turn.ensures c.set_next.ensures (ap (λ (b : BookState Outstanding). b.items) c.redeem.ensures.book)

pub returns : goal.returns
returns c =
    let s = c.self.inside in
    let t = c.taken.inside in
    let here = open_here s.graphs s.callers (vec_capacity s.history) s.history.items s.asks.items s.turns.items s.next.items s.oldest s.book.items t.ticket.number t.ticket.item t.ask c.self.invariant c.redeem.ensures.outstanding c.taken.invariant in
    let same : c.redeem.new.book.register ≡ s.book.register = ap (λ (b : BookState Outstanding). b.register) c.redeem.ensures.book ∙ sym (ap (λ (b : BookHistory). b.register) c.self.view_is ∙ c.requires.register) in
    subst (λ (o : OpenAsk). EndsTaken c.args.self.now o c.args.whole (book_history c.redeem.new.book.register s.graphs s.callers c.push_reserved.new.self.items c.redeem.new.book.items)) c.taken.view_is
    (ends c.args.self.now s.book.register c.redeem.new.book.register t.ticket.register s.graphs s.callers s.history.items c.push_reserved.new.self.items s.book.items c.redeem.new.book.items t.ask c.args.whole c.self.view_is here.0 here.1 same c.push_reserved.ensures.items)
