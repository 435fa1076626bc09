use Rattle.run_laws.proofs.Order.{goes_round}
use Rattle.run_laws.proofs.laws.rings_go_round.Goals as goal

pub returns : goal.returns
returns c = λ net limit n cell among journal ringed cycle shape. goes_round net limit n cell among journal ringed cycle shape
