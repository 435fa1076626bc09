use Rattle.std.proofs.Common.{subst, ◌≡◌, ◌∙◌, sym, ap, map, Some}
use Rattle.std.specs.Prelude.{slice_get}
use Rattle.std.specs.Arc.{arc_value}
use Rattle.tickets.specs.Books.{BookState}
use Rattle.async_tasks.specs.declared.outstanding.Outstanding.{Outstanding}
use Rattle.async_tasks.specs.declared.history.TaskEvent.TheVariants.{Ended}
use Rattle.async_tasks.specs.Books.{BookHistory, book_history}
use Rattle.async_tasks.specs.Starts.{EndRecord}
use Rattle.async_tasks.proofs.Issuing.{redeemed}
use Rattle.async_tasks.proofs.Ending.{recorded_at}
use Rattle.async_tasks.proofs.state.BookState.close_end.Goals as goal

pub invariant_of-self : goal.invariant_of-self
invariant_of-self g c =
    let s = c.self.inside in
    let W = g.row.W.Denot in
    let V = g.row.W-V.Denot in (
      redeemed g.W.AsyncWork.answers s.book.register c.redeem.new.book.register s.callers s.rows.items s.events.items (map arc_value s.works.items) s.stages.items s.book.items c.redeem.new.book.items c.end.inside.ticket.number
          (ap (λ (b : BookHistory W V). b.register) c.self.view_is ∙ c.requires.register ∙ sym (ap (λ (b : BookState (Outstanding W V)). b.register) c.redeem.ensures.book))
          (ap (λ (b : BookState (Outstanding W V)). b.items) c.redeem.ensures.book) c.self.invariant.0,
      c.self.invariant.1,
    )

pub returns-clause-was : goal.returns-clause-was
returns-clause-was g c =
    let s = c.self.inside in
    let e = c.end.inside in
    let W = g.row.W.Denot in
    let V = g.row.W-V.Denot in
    subst (λ (b : BookHistory W V). slice_get b.events c.args.end.place ≡ Some (Ended c.args.end.task)) c.self.view_is
    (subst (λ (r : EndRecord). slice_get s.events.items r.place ≡ Some (Ended r.task)) c.end.view_is
    (recorded_at g.W.AsyncWork.answers (book_history s.book.register s.callers s.rows.items s.events.items (map arc_value s.works.items) s.stages.items s.book.items)
    e.ticket.number e.task e.place e.ticket.item c.self.invariant.0 c.redeem.ensures.outstanding c.end.invariant))
