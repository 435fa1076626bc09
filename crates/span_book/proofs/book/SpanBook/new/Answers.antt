use Rattle.span_book.proofs.Steps.{begins}
use Rattle.span_book.proofs.book.SpanBook.new.Goals as goal

pub of_words-requires : goal.of_words-requires
of_words-requires c = begins _
