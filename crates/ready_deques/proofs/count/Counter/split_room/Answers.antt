use Rattle.std.proofs.Common.{arith}
use Rattle.ready_deques.proofs.Counting.{halves}
use Rattle.ready_deques.proofs.count.Counter.split_room.Goals as goal

pub split_seat-requires : goal.split_seat-requires
split_seat-requires c =
    let words = c.args.self.now.words in
    (c.requires.table, omega arith, halves _ _)
