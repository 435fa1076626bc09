use Rattle.table_steps.proofs.Values.{knows_again}
use Rattle.table_steps.proofs.words.Words.settle.Goals as goal

pub returns-clause-known : goal.returns-clause-known
returns-clause-known g c = (knows_again _ _ _ c.leave.ensures.known c.take_in.ensures.known.0, knows_again _ _ _ c.leave.ensures.known c.take_in.ensures.known.1)
