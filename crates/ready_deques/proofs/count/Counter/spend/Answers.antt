use Rattle.std.proofs.Common.{rules}
use Rattle.ready_deques.proofs.Counting.{spends}
use Rattle.ready_deques.proofs.count.Counter.spend.Goals as goal

pub compare_exchange-requires : goal.compare_exchange-requires
compare_exchange-requires c = (search rules, search rules, spends _ _ _ _ _ c.requires.word (search rules))
