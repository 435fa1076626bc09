use Rattle.std.proofs.Common.{◌≡◌, []}
use Rattle.test_parts.proofs.idle_owners.wake.Given as goal

abbrev pub invariant-loop-round : goal.invariant-loop-round
invariant-loop-round g l = l.owner.tag ≡ []
