use Rattle.std.proofs.Common.{arith}
use Rattle.ready_deques.proofs.Counting.{draws}
use Rattle.ready_deques.proofs.count.Counter.draw.Goals as goal

pub fetch_add-requires : goal.fetch_add-requires
fetch_add-requires c =
    let words = c.args.self.now.words in
    (c.requires.table, omega arith, draws _ _ _ c.requires.room)
