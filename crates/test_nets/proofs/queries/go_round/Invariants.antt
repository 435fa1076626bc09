use Rattle.std.proofs.Common.{◌≡◌}
use Rattle.test_nets.proofs.queries.go_round.Given as goal

abbrev pub invariant-loop-step : goal.invariant-loop-step
invariant-loop-step l = l.machine.net ≡ l.initial.machine.net
