-- No row of a pipe's own has this name.
use Rattle.json_values.specs.inside.View.{view}
use Rattle.graph_drafts.proofs.OpLemmas.{no_line_op}
use Rattle.graph_drafts.proofs.pipes.read_line_op_called.Goals as goal

pub returns-in_default : goal.returns-in_default
returns-in_default c =
    let h = c.in_default in
    rw (no_line_op c.args.name.now c.args.spot (view c.args.object.now) h.not-number h.not-stamp) c.read_used_line_op.ensures
