use Rattle.run_laws.proofs.Once.{steady_once}
use Rattle.run_laws.proofs.laws.once_nets_are_steady.Goals as goal

pub returns : goal.returns
returns c = λ net once limit journal shape. steady_once net limit journal once shape
