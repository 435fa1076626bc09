use Rattle.run_laws.proofs.Rings.{steady_rings}
use Rattle.run_laws.proofs.laws.nets_of_rings_are_steady.Goals as goal

pub returns : goal.returns
returns c = λ net ringed limit journal shape. steady_rings net limit journal ringed shape
