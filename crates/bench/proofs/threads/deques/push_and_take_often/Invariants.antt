use Rattle.std.proofs.Common.{◌≡◌, []}
use Rattle.bench.proofs.threads.deques.push_and_take_often.Given as goal

abbrev pub invariant-loop-number : goal.invariant-loop-number
invariant-loop-number g l = l.owner.tag ≡ []
