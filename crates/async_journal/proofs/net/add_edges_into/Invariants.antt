use Rattle.std.proofs.Common.{◌≡◌, take}
use Rattle.async_journal.specs.RunNets.{edges_into, with_edge_rows}
use Rattle.async_journal.proofs.net.add_edges_into.Given as goal

abbrev pub invariant-loop-from : goal.invariant-loop-from
invariant-loop-from l = l.builder ≡ with_edge_rows l.initial.builder (edges_into l.task (take l.from-index l.before))
