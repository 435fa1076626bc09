use Rattle.desk_book.specs.Desks.{IsPassOf}
use Rattle.test_desk.proofs.book_refusals.a_full_desk_refuses_each_ask.Given as goal

abbrev pub invariant-loop-number : goal.invariant-loop-number
invariant-loop-number g l = IsPassOf l.desk l.first
