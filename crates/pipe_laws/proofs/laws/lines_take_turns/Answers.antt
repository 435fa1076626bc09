use Rattle.pipe_laws.proofs.CellRuns.{lines_take_turns}
use Rattle.pipe_laws.proofs.laws.lines_take_turns.Goals as goal

pub returns : goal.returns
returns g c = lines_take_turns g.J.Job.meaning c.args.run.now
