use Rattle.std.proofs.Common.{take}
use Rattle.desk_book.specs.inside.Looks.{IsLeast}
use Rattle.desk_book.proofs.looks.least.Given as goal

abbrev pub invariant-loop-number : goal.invariant-loop-number
invariant-loop-number l = IsLeast (take l.number-index l.numbers) l.least
