use Rattle.std.proofs.Common.{arith}
use Rattle.join_tables.proofs.releases.semaphore_count.Goals as goal

pub returns-clause-fit : goal.returns-clause-fit
returns-clause-fit c = λ s. omega (arith, c.type_inv.sems s)
