use Rattle.run_laws.proofs.Report.{all_steady_values}
use Rattle.run_laws.proofs.laws.all_values_of_steady_runs.Goals as goal

pub returns : goal.returns
returns g c = all_steady_values g.J.Job.meaning c.args.run.now
