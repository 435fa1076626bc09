use Rattle.pipe_lines.proofs.OrderLemmas.{once}
use Rattle.pipe_lines.proofs.laws.tokens_pass_once.Goals as goal

pub returns : goal.returns
returns c = once
