use Rattle.std.proofs.Common.{◌≡◌, ◌≤◌, ◌<◌, ℕ}
use Rattle.desk_book.specs.inside.Looks.{turn_at}
use Rattle.desk_book.specs.declared.turn.Turn.TheVariants.{Waiting}
use Rattle.desk_book.proofs.looks.first_waiting.Given as goal

abbrev pub invariant-loop-n : goal.invariant-loop-n
invariant-loop-n l = (k : ℕ) → l.from ≤ k → k < l.n → turn_at l.turns k ≡ Waiting → ⊥
