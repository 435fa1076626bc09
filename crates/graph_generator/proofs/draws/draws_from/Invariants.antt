use Rattle.std.proofs.Common.{◌≡◌}
use Rattle.graph_generator.specs.Draws.{state_after}
use Rattle.graph_generator.specs.inside.Drawn.{draws}
use Rattle.graph_generator.proofs.draws.draws_from.Given as goal

abbrev pub invariant-loop-number : goal.invariant-loop-number
invariant-loop-number l = record {
  draws : l.draws ≡ draws l.seed l._number;
  state : l.state ≡ state_after l.seed l._number;
}
