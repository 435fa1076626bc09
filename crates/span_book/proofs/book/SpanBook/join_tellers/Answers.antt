use Rattle.std.proofs.Common.{arith, ap}
use Rattle.span_book.proofs.Steps.{comes}
use Rattle.span_book.proofs.book.SpanBook.join_tellers.Goals as goal

pub join_seat-requires : goal.join_seat-requires
join_seat-requires c =
    let words = c.args.self.now.words in
    let both = c.requires.table in
    (both.0, both.1, ap (λ m. m.1) c.requires.tellers, omega arith, comes _ _ _ _ _ (ap (λ m. m.0) c.requires.tellers))
