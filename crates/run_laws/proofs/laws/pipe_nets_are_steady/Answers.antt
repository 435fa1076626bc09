use Rattle.run_laws.proofs.Pipes.{steady_pipes}
use Rattle.run_laws.proofs.laws.pipe_nets_are_steady.Goals as goal

pub returns : goal.returns
returns c = steady_pipes
