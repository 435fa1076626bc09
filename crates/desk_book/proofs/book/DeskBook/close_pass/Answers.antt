use Rattle.std.proofs.Common.{subst, ◌≡◌, ◌∙◌, ap, length, length-set, None, Some, arith}
use Rattle.tickets.specs.Books.{BookState}
use Rattle.desk_book.specs.declared.outstanding.Outstanding.{Outstanding}
use Rattle.desk_book.specs.Books.{BookHistory}
use Rattle.desk_book.specs.Taking.{HasSeen, entries_seen}
use Rattle.desk_book.proofs.Lists.{get_in_range}
use Rattle.desk_book.proofs.Issuing.{seen_by}
use Rattle.desk_book.proofs.book.DeskBook.close_pass.Goals as goal

pub returns-clause-seen : goal.returns-clause-seen
returns-clause-seen c =
    subst (λ (b : BookHistory). HasSeen b.history c.args.caller (entries_seen c.args.ticket.item)) c.self.view_is
    (seen_by c.self.inside.history.items c.args.caller c.args.ticket.item (c.self.invariant.1.fits c.args.ticket.number c.args.ticket.item c.redeem.ensures.outstanding) c.requires.caller)

pub returns-clause-number : goal.returns-clause-number
returns-clause-number c =
    let s = c.self.inside in
    let below = get_in_range s.book.items c.args.ticket.number (Some c.args.ticket.item) c.redeem.ensures.outstanding in
    let same : length c.redeem.new.book.items ≡ length s.book.items = ap (λ (b : BookState Outstanding). length b.items) c.redeem.ensures.book ∙ length-set s.book.items c.args.ticket.number None in
    omega (arith, below, same)
