use Rattle.std.proofs.Common.{◌≡◌, length}
use Rattle.ready_deques.proofs.shares.new_parkers.Given as goal

abbrev pub invariant-loop : goal.invariant-loop
invariant-loop l = length l.parkers.items ≡ l.counter
