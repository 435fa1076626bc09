use Rattle.span_book.proofs.book.SpanBook.note.Given as goal

abbrev pub ghosts-add : goal.ghosts-add
ghosts-add a = record { count = a.count }
