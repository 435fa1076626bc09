use Rattle.run_laws.proofs.Runs.{steady_values}
use Rattle.run_laws.proofs.laws.values_of_steady_runs.Goals as goal

pub returns : goal.returns
returns g c = λ one is. steady_values g.J.Job.meaning c.args.run.now one is.strong is.one_answer is.legal is.steady
