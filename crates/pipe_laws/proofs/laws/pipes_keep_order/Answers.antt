use Rattle.pipe_laws.proofs.Ordered.{pipes_keep_order}
use Rattle.pipe_laws.proofs.laws.pipes_keep_order.Goals as goal

pub returns : goal.returns
returns g c = pipes_keep_order g.J.Job.meaning c.args.run.now
