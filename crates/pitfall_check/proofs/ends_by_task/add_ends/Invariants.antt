use Rattle.pitfall_check.specs.inside.EndLists.{AddsEnds}
use Rattle.pitfall_check.proofs.ends_by_task.add_ends.Given as goal

abbrev pub invariant-loop-edge : goal.invariant-loop-edge
invariant-loop-edge l = AddsEnds l.fn.way l.net l.edge-items l.edge-index l.fn.ends.items l.ends.items
