use Rattle.std.proofs.Common.{◌≡◌}
use Rattle.async_tasks.proofs.book.AsyncBook.push_ready.Given as goal

abbrev pub invariant-loop : goal.invariant-loop
invariant-loop g l = (l.state ≡ l.initial.state) × (l.owner ≡ l.initial.owner)
