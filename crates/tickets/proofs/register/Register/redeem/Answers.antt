use Rattle.std.proofs.Common.{arith, sym, ap, ◌∙◌, []}
use Rattle.tickets.specs.Books.{BookState, TicketState}
use Rattle.tickets.specs.inside.Views.{with_ticket, book_view, items_of, view_number}
use Rattle.tickets.proofs.Steps.{takes_ticket_in, settles_ticket}
use Rattle.tickets.proofs.register.Register.redeem.Goals as goal

pub join_seat-requires : goal.join_seat-requires
join_seat-requires g c =
    let register = ap (λ (b : BookState g.row.X.Denot). b.register) c.book.view_is ∙ c.requires.book ∙ sym c.self.view_is in
    let same = ap (λ (t : TicketState g.row.X.Denot). t.register) c.ticket.view_is ∙ c.requires.ticket ∙ sym c.self.view_is in
    let words = c.self.invariant in
    (register, same, ap (λ m. m.1) c.ticket.invariant, omega arith, takes_ticket_in _ _ _ _ _ _ _ (ap (λ m. m.0) c.book.invariant) (ap (λ m. m.0) c.ticket.invariant))

pub load-requires : goal.load-requires
load-requires g c =
    let register = ap (λ (b : BookState g.row.X.Denot). b.register) c.book.view_is ∙ c.requires.book ∙ sym c.self.view_is in
    let words = c.self.invariant in
    let e = c.join_seat.ensures in
    let me = e.2 ∙ ap (λ m. (with_ticket m.0 c.ticket.inside.seat.me.0, m.1)) c.book.invariant ∙ ap (λ v. (with_ticket (book_view (items_of c.book.inside.seat.me.0)) v, [])) (ap (λ m. m.0) c.ticket.invariant) in
    (e.0 ∙ register, omega arith, settles_ticket _ _ _ _ (items_of c.book.inside.seat.me.0) (view_number c.ticket.inside.seat.me.0) c.ticket.inside.item me)
