use Rattle.std.proofs.Common.{refl, subst, ◌∙◌, sym, ap, map}
use Rattle.std.specs.Arc.{arc_value}
use Rattle.tickets.specs.Books.{BookState}
use Rattle.async_tasks.specs.declared.outstanding.Outstanding.{Outstanding}
use Rattle.async_tasks.specs.declared.outstanding.Outstanding.TheVariants.{Pass}
use Rattle.async_tasks.specs.Books.{BookHistory, book_history, caller_of, NothingOut}
use Rattle.async_tasks.proofs.Issuing.{issued, pass_fits, others_out}
use Rattle.async_tasks.proofs.state.BookState.open_pass.Goals as goal

pub invariant_of-self : goal.invariant_of-self
invariant_of-self g c =
    let s = c.self.inside in
    let W = g.row.W.Denot in
    let V = g.row.W-V.Denot in (
      issued g.W.AsyncWork.answers s.book.register c.issue.new.book.register s.callers s.rows.items s.events.items (map arc_value s.works.items) s.stages.items s.book.items c.issue.new.book.items
          (Pass c.args.caller c.of.result)
          (ap (λ (b : BookHistory W V). b.register) c.self.view_is ∙ c.requires.register ∙ sym (ap (λ (b : BookState (Outstanding W V)). b.register) c.issue.ensures.book))
          (ap (λ (b : BookState (Outstanding W V)). b.items) c.issue.ensures.book) c.self.invariant.0
          (pass_fits (book_history s.book.register s.callers s.rows.items s.events.items (map arc_value s.works.items) s.stages.items s.book.items) c.args.caller (Pass c.args.caller c.of.result) refl (ap (λ rows. rows.items) c.of.ensures))
          (subst (λ (b : BookHistory W V). NothingOut (caller_of c.args.caller) b.items) (sym c.self.view_is) c.requires.none),
      c.self.invariant.1,
    )

pub returns-clause-others : goal.returns-clause-others
returns-clause-others g c k none other =
    let s = c.self.inside in
    let W = g.row.W.Denot in
    let V = g.row.W-V.Denot in
    others_out s.book.items c.issue.new.book.items c.args.caller k (Pass c.args.caller c.of.result)
    (ap (λ (b : BookState (Outstanding W V)). b.items) c.issue.ensures.book) refl
    (subst (λ (b : BookHistory W V). NothingOut (caller_of k) b.items) (sym c.self.view_is) none) other
