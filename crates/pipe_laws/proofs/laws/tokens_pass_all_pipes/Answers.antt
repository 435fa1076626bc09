use Rattle.pipe_laws.proofs.Passed.{tokens_pass_all_pipes}
use Rattle.pipe_laws.proofs.laws.tokens_pass_all_pipes.Goals as goal

pub returns : goal.returns
returns g c = tokens_pass_all_pipes g.J.Job.meaning c.args.run.now
