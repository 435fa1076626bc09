use Rattle.std.proofs.Common.{arith, subst, sym}
use Rattle.span_book.proofs.Steps.{is_settled_at}
use Rattle.span_book.proofs.book.SpanBook.compare.Goals as goal

pub load-requires : goal.load-requires
load-requires g c =
    let words = c.args.self.now.words in
    (c.requires.table, omega arith, is_settled_at _ _ _ _ _ _ c.requires.count c.requires.tally)
