-- No row of a task's own has this name.
use Rattle.json_values.specs.inside.View.{view}
use Rattle.graph_drafts.proofs.OpLemmas.{no_own_op}
use Rattle.graph_drafts.proofs.ops.read_op_called.Goals as goal

pub returns-in_default : goal.returns-in_default
returns-in_default c =
    let h = c.in_default in
    rw (no_own_op c.args.name.now c.args.spot (view c.args.object.now) h.not-input h.not-read h.not-match h.not-back h.not-ifmore h.not-ifhas h.not-route h.not-spread h.not-module h.not-pipe) c.read_used_text_op.ensures
