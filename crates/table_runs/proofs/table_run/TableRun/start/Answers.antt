use Rattle.std.proofs.Common.{subst}
use Rattle.std.specs.Arc.{arc_value}
use Rattle.table_runs.specs.RunKeys.{FrameKey}
use Rattle.table_runs.specs.OpenStarts.{StartStands}
use Rattle.table_runs.proofs.Starting.{start_stands}
use Rattle.table_runs.proofs.table_run.TableRun.start.Goals as goal

pub work-requires-clause-stands : goal.work-requires-clause-stands
work-requires-clause-stands g c κs within =
    let meaning = g.J.Job.meaning in
    let ticket = c.in-Go.ticket in
    let stands = start_stands meaning (arc_value c.self.inside.job) c.self.inside.table ticket.task ticket.cause ticket.found c.start.result c.credit_units.result c.self.invariant.0 c.start.ensures.state c.credit_units.ensures.state c.start.ensures.journal in
    subst (λ (k : FrameKey g.row.J.Denot). StartStands meaning k.job c.credit_units.result) c.self.view_is stands
