use Rattle.std.proofs.Common.{arith}
use Rattle.keyed_lock.proofs.Steps.{claims, claimed}
use Rattle.keyed_lock.proofs.lock.KeyedLock.take_unmarked.Goals as goal

pub compare_exchange-requires : goal.compare_exchange-requires
compare_exchange-requires g c =
    let words = c.args.self.now.words in
    (c.requires.table, omega arith, claims g.T.Keyed.key c.args.self.now.table.shared.key _ _ _ c.requires.first _ claimed)
