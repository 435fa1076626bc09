use Rattle.std.proofs.Common.{arith}
use Rattle.ready_deques.proofs.Counting.{hands_over}
use Rattle.ready_deques.proofs.count.Counter.hand_over.Goals as goal

pub split_seat-requires : goal.split_seat-requires
split_seat-requires c =
    let words = c.args.self.now.words in
    (c.requires.table, omega arith, hands_over _ _)
