use Rattle.std.proofs.Common.{◌≡◌}
use Rattle.desk_book.specs.Desks.{IsPassOf}
use Rattle.test_desk.proofs.book_callers.ask_often.Given as goal

abbrev pub invariant-loop-number : goal.invariant-loop-number
invariant-loop-number g l = IsPassOf l.desk l.pass × (l.pass.caller ≡ l.initial.pass.caller)
