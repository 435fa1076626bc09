use Rattle.std.proofs.Common.{[]}
use Rattle.json_values.specs.inside.View.{view}
use Rattle.graph_drafts.specs.OpRows.{add_pipe}
use Rattle.graph_drafts.specs.inside.Reader.{pipe_rows}
use Rattle.graph_drafts.proofs.WalkLemmas.{GoesOn}
use Rattle.graph_drafts.proofs.pipes.listed_pipes.Given as goal

abbrev pub invariant-loop-item : goal.invariant-loop-item
invariant-loop-item l = GoesOn view (add_pipe l.spot) (record { serial = []; ops = [] }) l.items l.item-index (pipe_rows l.pipes)
