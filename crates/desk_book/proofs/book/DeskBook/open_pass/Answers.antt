use Rattle.std.proofs.Common.{refl, subst, sym, ap}
use Rattle.tickets.specs.Books.{BookState}
use Rattle.desk_book.specs.declared.outstanding.Outstanding.{Outstanding}
use Rattle.desk_book.specs.declared.outstanding.Outstanding.TheVariants.{Pass}
use Rattle.desk_book.specs.Books.{BookHistory, caller_of, NothingOut}
use Rattle.desk_book.specs.inside.Keeps.{KeepsTickets}
use Rattle.desk_book.proofs.Issuing.{issued_tickets, pass_fits, others_out}
use Rattle.desk_book.proofs.book.DeskBook.open_pass.Goals as goal

pub invariant_of-self : goal.invariant_of-self
invariant_of-self c =
    let s = c.self.inside in
    let item = Pass c.args.caller c.of.result in (
      c.self.invariant.0,
      subst (KeepsTickets s.history.items) (sym (ap (λ (b : BookState Outstanding). b.items) c.issue.ensures.book))
          (issued_tickets s.history.items s.book.items item c.self.invariant.1 (pass_fits s.history.items c.args.caller item refl (ap (λ entries. entries.items) c.of.ensures))
          (subst (λ (b : BookHistory). NothingOut (caller_of c.args.caller) b.items) (sym c.self.view_is) c.requires.none)),
    )

pub returns-clause-others : goal.returns-clause-others
returns-clause-others c k none other =
    let s = c.self.inside in
    subst (NothingOut (caller_of k)) (sym (ap (λ (b : BookState Outstanding). b.items) c.issue.ensures.book))
    (others_out s.book.items c.args.caller k (Pass c.args.caller c.of.result) refl (subst (λ (b : BookHistory). NothingOut (caller_of k) b.items) (sym c.self.view_is) none) other)
