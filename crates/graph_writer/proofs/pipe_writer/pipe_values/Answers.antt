use Rattle.std.proofs.Common.{◌∷◌, [], map, ap, ◌∙◌}
use Rattle.std.proofs.lemmas.List.{map-append}
use Rattle.serde_json.specs.View.{view}
use Rattle.graph_writer.proofs.WritingLemmas.{pipes-more}
use Rattle.graph_writer.proofs.pipe_writer.pipe_values.Goals as goal

pub loop-pipe-preserved : goal.loop-pipe-preserved
loop-pipe-preserved c =
    let old = c.loop-pipe.values.items in
    ap (map view) c.in_ok-push.ensures.items ∙ map-append view old (c.in_ok-pipe_value.field-0 ∷ [])
    ∙ pipes-more c.args.serial.now c.args.ops.now c.loop-pipe.pipe c.index-ops-pipe.result (map view old) (view c.in_ok-pipe_value.field-0) c.loop-pipe-test.true c.requires.count c.index-ops-pipe.is c.in_ok-pipe_value.ensures c.loop-pipe.invariant
