use Rattle.std.proofs.Common.{rules}
use Rattle.ready_deques.proofs.Counting.{lowers}
use Rattle.ready_deques.proofs.count.Counter.lower_by.Goals as goal

pub fetch_sub-requires : goal.fetch_sub-requires
fetch_sub-requires c = (search rules, search rules, lowers _ _ _ _ c.requires.count)
