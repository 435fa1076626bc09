use Rattle.std.proofs.Common.{arith}
use Rattle.span_book.proofs.Steps.{comes_back}
use Rattle.span_book.proofs.book.SpanBook.join_run.Goals as goal

pub join_seat-requires : goal.join_seat-requires
join_seat-requires c =
    let words = c.args.self.now.words in
    let both = c.requires.table in
    (both.0, both.1, c.requires.home, omega arith, comes_back _ _ _ _ _ c.requires.may)
