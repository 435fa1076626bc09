use Rattle.std.proofs.Common.{map}
use Rattle.std.specs.Arc.{arc_value}
use Rattle.async_tasks.proofs.Finishing.{open_has_no_end, history_of}
use Rattle.async_tasks.proofs.state.BookState.first_open.Goals as goal

pub returns-clause-some : goal.returns-clause-some
returns-clause-some g c =
    let s = c.self.inside in
    open_has_no_end g.W.AsyncWork.answers s.book.register s.callers s.rows.items s.events.items (map arc_value s.works.items) s.stages.items s.book.items c.deref.result.now c.first_open.result c.args.self.now
    c.self.invariant.0 c.deref.ensures.value c.first_open.ensures.some c.self.view_is

pub returns-clause-history : goal.returns-clause-history
returns-clause-history g c =
    let s = c.self.inside in
    history_of g.W.AsyncWork.answers s.book.register s.callers s.rows.items s.events.items (map arc_value s.works.items) s.stages.items s.book.items c.args.self.now c.self.invariant.0 c.self.view_is
