use Rattle.pipe_lines.proofs.OrderLemmas.{in_turn}
use Rattle.pipe_lines.proofs.laws.tokens_pass_in_turn.Goals as goal

pub returns : goal.returns
returns c = in_turn
