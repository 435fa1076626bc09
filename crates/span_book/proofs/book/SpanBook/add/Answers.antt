use Rattle.std.proofs.Common.{arith}
use Rattle.span_book.proofs.Steps.{notes}
use Rattle.span_book.proofs.book.SpanBook.add.Goals as goal

pub load-requires : goal.load-requires
load-requires g c =
    let words = c.args.self.now.words in
    (c.requires.table, omega arith, notes _ _ _ _ _ _ c.requires.teller c.requires.run)
