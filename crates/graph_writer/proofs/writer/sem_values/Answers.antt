use Rattle.std.proofs.Common.{◌≡◌, [], ◌∷◌, map, get_or, ap, ◌∙◌}
use Rattle.std.proofs.lemmas.List.{get_or_default, map-append}
use Rattle.serde_json.specs.View.{view}
use Rattle.graph_writer.specs.WrittenPlan.{sem_data}
use Rattle.graph_writer.proofs.WritingLemmas.{sems-more}
use Rattle.graph_writer.proofs.writer.sem_values.Goals as goal

pub loop-sem-preserved : goal.loop-sem-preserved
loop-sem-preserved c =
    let i = c.loop-sem.sem in
    let names = c.args.names.now in
    let maxima = c.args.maxima.now in
    let name = c.index-names-sem.result in
    let old = c.loop-sem.values.items in
    let written : view c.in_ok-sem_value.field-0 ≡ sem_data (get_or names i []) (get_or maxima i 0) =
    c.in_ok-sem_value.ensures ∙ ap (λ n. sem_data n (get_or maxima i 0)) (c.index-names-sem.is ∙ get_or_default names i name [] c.loop-sem-test.true) in
    ap (map view) c.in_ok-push.ensures.items ∙ map-append view old (c.in_ok-sem_value.field-0 ∷ [])
    ∙ sems-more names maxima i (map view old) (view c.in_ok-sem_value.field-0) c.loop-sem-test.true c.requires.each written c.loop-sem.invariant
