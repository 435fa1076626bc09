use Rattle.pipe_laws.proofs.Lines.{lines_start_alone}
use Rattle.pipe_laws.proofs.laws.lines_start_alone.Goals as goal

pub returns : goal.returns
returns c = lines_start_alone
