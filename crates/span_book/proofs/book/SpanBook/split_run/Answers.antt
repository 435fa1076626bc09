use Rattle.std.proofs.Common.{arith}
use Rattle.span_book.proofs.Steps.{opens}
use Rattle.span_book.proofs.book.SpanBook.split_run.Goals as goal

pub split_seat-requires : goal.split_seat-requires
split_seat-requires c =
    let words = c.args.self.now.words in
    (c.requires.table, omega arith, opens _ _ _ c.requires.run)
