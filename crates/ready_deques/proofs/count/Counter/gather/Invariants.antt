use Rattle.std.proofs.Common.{◌≡◌}
use Rattle.ready_deques.proofs.count.Counter.gather.Given as goal

abbrev pub invariant-loop-number : goal.invariant-loop-number
invariant-loop-number l = l.account ≡ l.initial.account
