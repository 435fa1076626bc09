use Rattle.std.proofs.Common.{◌≡◌}
use Rattle.desk_book.specs.Desks.{IsPassOf}
use Rattle.test_desk.proofs.book_callers.take_often.Given as goal

abbrev pub invariant-loop : goal.invariant-loop
invariant-loop g l = IsPassOf l.desk l.pass × (l.pass.caller ≡ l.initial.pass.caller)
