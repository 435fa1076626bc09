-- No row has this name.
use Rattle.std.proofs.Common.{sym, ap, ◌∙◌, Err}
use Rattle.json_values.specs.inside.View.{view}
use Rattle.graph_drafts.proofs.OpLemmas.{no_text_op}
use Rattle.graph_drafts.proofs.ops.read_text_op.Goals as goal

pub returns-in_default : goal.returns-in_default
returns-in_default c sure =
    let h = c.in_default in
    no_text_op c.args.name.now c.args.spot (view c.args.object.now) h.not-pass h.not-keep h.not-without h.not-head h.not-tail h.not-skip h.not-sort h.not-uniq h.not-count h.not-tally ∙ ap Err (sym (c.bad_field.ensures sure))
