use Rattle.run_laws.proofs.Fronts.{values_later}
use Rattle.run_laws.proofs.laws.values_grow.Goals as goal

pub returns : goal.returns
returns g c = λ net one n more t. values_later net one n more t
