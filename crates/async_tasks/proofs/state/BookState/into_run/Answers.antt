use Rattle.std.proofs.Common.{◌≡◌, ◌<◌, ℕ, length, sym, ap, subst, true}
use Rattle.async_tasks.specs.Books.{BookHistory}
use Rattle.async_tasks.specs.inside.Ready.{is_over}
use Rattle.async_tasks.proofs.Finishing.{is_run}
use Rattle.async_tasks.proofs.state.BookState.into_run.Goals as goal

pub returns-clause-run : goal.returns-clause-run
returns-clause-run g c =
    let s = c.self.inside in
    is_run g.W.AsyncWork.answers s.book.register s.callers c.args.self.callers s.rows.items c.from_vec.result s.events.items c.from_vec-2.result s.works.items c.from_vec-3.result s.stages.items c.from_vec-4.result s.book.items
    c.self.invariant.0
    (subst (λ (b : BookHistory g.row.W.Denot g.row.W-V.Denot). (t : ℕ) → t < length b.stages → is_over b.stages t ≡ true) (sym c.self.view_is) c.requires)
    (sym (ap (λ (b : BookHistory g.row.W.Denot g.row.W-V.Denot). b.callers) c.self.view_is))
    c.from_vec.ensures c.from_vec-2.ensures c.from_vec-3.ensures c.from_vec-4.ensures
