use Rattle.std.proofs.Common.{map}
use Rattle.std.specs.Arc.{arc_value}
use Rattle.desk_book.proofs.Running.{took_runs}
use Rattle.desk_book.proofs.state.DeskState.take_in.Goals as goal

pub invariant_of-self : goal.invariant_of-self
invariant_of-self g c =
    let s = c.self.inside in
    took_runs g.J.Job.meaning (map arc_value s.jobs.value.items) s.book c.take_in.new.self s.runs.items c.take_in.result c.take_in.ensures.taken c.take_in.ensures.none c.self.invariant
