use Rattle.std.proofs.Common.{[]}
use Rattle.json_values.specs.inside.View.{view}
use Rattle.graph_drafts.specs.OpRows.{add_defer}
use Rattle.graph_drafts.proofs.WalkLemmas.{GoesOn}
use Rattle.graph_drafts.proofs.pipes.listed_defers.Given as goal

abbrev pub invariant-loop-item : goal.invariant-loop-item
invariant-loop-item l = GoesOn view (add_defer l.spot) [] l.items l.item-index l.rows
