use Rattle.std.proofs.Common.{◌≡◌, take}
use Rattle.std.specs.List.{flat_map}
use Rattle.async_journal.specs.RunNets.{edges_of_add, with_edge_rows}
use Rattle.async_journal.proofs.net.add_edges.Given as goal

abbrev pub invariant-loop-row : goal.invariant-loop-row
invariant-loop-row l = l.builder ≡ with_edge_rows l.initial.builder (flat_map edges_of_add (take l.row-index l.adds))
