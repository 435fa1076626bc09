use Rattle.std.proofs.Common.{◌<◌, ℕ}
use Rattle.desk_book.specs.Histories.{IsOver}
use Rattle.desk_book.specs.inside.Looks.{turn_at}
use Rattle.desk_book.proofs.looks.first_unended.Given as goal

abbrev pub invariant-loop-n : goal.invariant-loop-n
invariant-loop-n l = (k : ℕ) → k < l.n → IsOver (turn_at l.turns k)
