use Rattle.run_laws.proofs.PipeCycles.{pipes_in_turn}
use Rattle.run_laws.proofs.laws.pipe_nets_go_round.Goals as goal

pub returns : goal.returns
returns c = pipes_in_turn
