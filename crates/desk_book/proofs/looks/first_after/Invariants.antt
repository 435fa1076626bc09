use Rattle.std.proofs.Common.{◌+◌}
use Rattle.desk_book.specs.inside.Looks.{NoneBetween}
use Rattle.desk_book.proofs.looks.first_after.Given as goal

abbrev pub invariant-loop-n : goal.invariant-loop-n
invariant-loop-n l = NoneBetween l.asks l.graph (l.number + 1) l.n
