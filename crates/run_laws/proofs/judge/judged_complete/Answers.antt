use Rattle.run_laws.proofs.JudgeLaws.{judges_kept}
use Rattle.run_laws.proofs.judge.judged_complete.Goals as goal

pub returns : goal.returns
returns g c = judges_kept g.J.Job.meaning c.args.run.now
