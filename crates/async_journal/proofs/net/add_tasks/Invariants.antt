use Rattle.std.proofs.Common.{◌≡◌}
use Rattle.async_journal.specs.RunNets.{with_plain_tasks}
use Rattle.async_journal.proofs.net.add_tasks.Given as goal

abbrev pub invariant-loop-number : goal.invariant-loop-number
invariant-loop-number l = l.builder ≡ with_plain_tasks l.initial.builder l._number
