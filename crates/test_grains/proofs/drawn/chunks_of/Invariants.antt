use Rattle.std.proofs.Common.{◌≡◌}
use Rattle.test_grains.proofs.drawn.chunks_of.Given as goal

abbrev pub invariant-loop : goal.invariant-loop
invariant-loop l = l.draw.row ≡ l.fn.row
