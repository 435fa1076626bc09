use Rattle.std.proofs.Common.{subst, ◌≡◌, ◌∙◌, sym, ap, map, set, length, length-set, None, Some, List, Option, arith}
use Rattle.std.specs.Arc.{arc_value}
use Rattle.tickets.specs.Books.{BookState}
use Rattle.async_tasks.specs.declared.outstanding.Outstanding.{Outstanding}
use Rattle.async_tasks.specs.Books.{BookHistory, book_history, caller_of, NothingOut}
use Rattle.async_tasks.specs.Starts.{HasSeen, rows_seen}
use Rattle.async_tasks.proofs.Lists.{get_in_range}
use Rattle.async_tasks.proofs.Issuing.{redeemed, seen_by, pass_holder, nothing_left}
use Rattle.async_tasks.proofs.state.BookState.close_pass.Goals as goal

pub invariant_of-self : goal.invariant_of-self
invariant_of-self g c =
    let s = c.self.inside in
    let W = g.row.W.Denot in
    let V = g.row.W-V.Denot in (
      redeemed g.W.AsyncWork.answers s.book.register c.redeem.new.book.register s.callers s.rows.items s.events.items (map arc_value s.works.items) s.stages.items s.book.items c.redeem.new.book.items c.args.ticket.number
          (ap (λ (b : BookHistory W V). b.register) c.self.view_is ∙ c.requires.register ∙ sym (ap (λ (b : BookState (Outstanding W V)). b.register) c.redeem.ensures.book))
          (ap (λ (b : BookState (Outstanding W V)). b.items) c.redeem.ensures.book) c.self.invariant.0,
      c.self.invariant.1,
    )

pub returns-clause-none : goal.returns-clause-none
returns-clause-none g c =
    let s = c.self.inside in
    let W = g.row.W.Denot in
    let V = g.row.W-V.Denot in
    subst (λ (items : List (Option (Outstanding W V))). NothingOut (caller_of c.args.caller) items) (sym (ap (λ (b : BookState (Outstanding W V)). b.items) c.redeem.ensures.book))
    (subst (λ holder. NothingOut holder (set s.book.items c.args.ticket.number None)) (pass_holder c.args.caller c.args.ticket.item c.requires.caller)
    (nothing_left s.book.items c.args.ticket.number c.args.ticket.item c.self.invariant.0.once c.redeem.ensures.outstanding))

pub returns-clause-seen : goal.returns-clause-seen
returns-clause-seen g c =
    let s = c.self.inside in
    let W = g.row.W.Denot in
    let V = g.row.W-V.Denot in
    subst (λ (b : BookHistory W V). HasSeen b.rows c.args.caller (rows_seen c.args.ticket.item)) c.self.view_is
    (seen_by (book_history s.book.register s.callers s.rows.items s.events.items (map arc_value s.works.items) s.stages.items s.book.items) c.args.caller c.args.ticket.item
    (c.self.invariant.0.fits c.args.ticket.number c.args.ticket.item c.redeem.ensures.outstanding) c.requires.caller)

pub returns-clause-number : goal.returns-clause-number
returns-clause-number g c =
    let s = c.self.inside in
    let W = g.row.W.Denot in
    let V = g.row.W-V.Denot in
    let below = get_in_range s.book.items c.args.ticket.number (Some c.args.ticket.item) c.redeem.ensures.outstanding in
    let same : length c.redeem.new.book.items ≡ length s.book.items = ap (λ (b : BookState (Outstanding W V)). length b.items) c.redeem.ensures.book ∙ length-set s.book.items c.args.ticket.number None in
    omega (arith, below, same)
