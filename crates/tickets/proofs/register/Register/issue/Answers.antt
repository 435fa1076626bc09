use Rattle.std.proofs.Common.{arith, sym, ap, ◌∙◌}
use mathlib.Core.Option.{some}
use Rattle.tickets.specs.Books.{BookState}
use Rattle.tickets.specs.inside.Views.{noted}
use Rattle.tickets.proofs.Steps.{notes_item, issues_item}
use Rattle.tickets.proofs.register.Register.issue.Goals as goal

pub compare_exchange_with-requires : goal.compare_exchange_with-requires
compare_exchange_with-requires g c =
    let register = ap (λ (b : BookState g.row.X.Denot). b.register) c.book.view_is ∙ c.requires ∙ sym c.self.view_is in
    let words = c.self.invariant in
    (register, omega arith, notes_item _ _ _ _ _ _ c.book.invariant)

pub split_seat-seat-requires : goal.split_seat-seat-requires
split_seat-seat-requires g c =
    let register = ap (λ (b : BookState g.row.X.Denot). b.register) c.book.view_is ∙ c.requires ∙ sym c.self.view_is in
    let words = c.self.invariant in
    let e = c.compare_exchange_with.ensures in
    let me = e.2 ∙ ap (λ m. (noted (some c.args.item) m.0, m.1)) c.book.invariant in
    (e.0 ∙ register, omega arith, issues_item _ _ _ _ (ap (λ m. m.0) me))
