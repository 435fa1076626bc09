use Rattle.pipe_laws.proofs.TextInside.{pipes_in_order}
use Rattle.pipe_laws.proofs.laws.text_pipes_keep_order.Goals as goal

pub returns : goal.returns
returns c = pipes_in_order c.args.run.now
