use Rattle.std.proofs.Common.{◌≡◌}
use Rattle.nested_runs.specs.Spreads.{spread_net}
use Rattle.nested_runs.proofs.spread.spread_net.Given as goal

abbrev pub invariant-loop-part : goal.invariant-loop-part
invariant-loop-part l = l.builder ≡ spread_net l._part
