use Rattle.std.proofs.Common.{◌-◌, length}
use Rattle.desk_book.specs.inside.Looks.{NoneBetween}
use Rattle.desk_book.proofs.looks.last_of.Given as goal

abbrev pub invariant-loop-back : goal.invariant-loop-back
invariant-loop-back l = NoneBetween l.asks l.graph (length l.asks - l.back) (length l.asks)
