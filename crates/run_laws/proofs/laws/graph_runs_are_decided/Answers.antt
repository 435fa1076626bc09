use Rattle.run_laws.proofs.Report.{is_decided}
use Rattle.run_laws.proofs.laws.graph_runs_are_decided.Goals as goal

pub returns : goal.returns
returns g c = is_decided g.J.Job.meaning c.args.run.now
