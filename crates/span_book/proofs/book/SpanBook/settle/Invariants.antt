use Rattle.span_book.proofs.book.SpanBook.settle.Given as goal

abbrev pub ghosts-compare : goal.ghosts-compare
ghosts-compare a = record { count = a.self.now.table.shared.key }
