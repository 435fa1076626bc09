use Rattle.pipe_lines.proofs.OrderLemmas.{all_pass}
use Rattle.pipe_lines.proofs.laws.all_tokens_pass.Goals as goal

pub returns : goal.returns
returns c = all_pass
