use Rattle.std.proofs.Common.{rules}
use Rattle.ready_deques.proofs.Counting.{gathers}
use Rattle.ready_deques.proofs.count.Counter.empty.Goals as goal

pub swap-requires : goal.swap-requires
swap-requires c = (search rules, search rules, gathers _ _ _ _ c.requires.word)
