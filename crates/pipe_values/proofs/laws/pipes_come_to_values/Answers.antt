use Rattle.pipe_values.proofs.Values.{comes_to_value}
use Rattle.pipe_values.proofs.laws.pipes_come_to_values.Goals as goal

pub returns : goal.returns
returns c = comes_to_value c.args.run.now
