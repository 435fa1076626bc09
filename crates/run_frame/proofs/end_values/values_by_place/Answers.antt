use Rattle.std.proofs.Common.{arith, sym, ap, ◌∙◌, ◌≡◌, ◌==◌, ◌+◌, ◌++◌, ◌∷◌, [], take, None, Some, if◌then◌else◌}
use Rattle.std.specs.Arc.{arc_value}
use Rattle.std.specs.Option.{option_or}
use Rattle.std.proofs.lemmas.List.{take_more}
use Rattle.run_frame.specs.Runs.{value_at}
use Rattle.run_frame.proofs.EndsLemmas.{value_at_more}
use Rattle.run_frame.proofs.end_values.values_by_place.Goals as goal

pub loop-row-preserved : goal.loop-row-preserved
loop-row-preserved g c =
    let row = c.row-item.result in
    let rows = c.args.rows.now in
    let more : take (c.loop-row.row-index + 1) rows ≡ take c.loop-row.row-index rows ++ row ∷ [] =
    take_more rows c.loop-row.row-index row c.loop-row-test.true ∙ ap (λ last. take c.loop-row.row-index rows ++ last ∷ []) (sym c.row-item.is) in
    record {
      len = c.in_ok-keep_first.ensures.len ∙ c.loop-row.invariant.len;
      each = λ n below.
          c.in_ok-keep_first.ensures.each n (omega (arith, below, c.loop-row.invariant.len))
          ∙ ap (λ o. option_or o (if row.place == n then Some (arc_value row.value) else None)) (c.loop-row.invariant.each n below)
          ∙ sym (value_at_more (take c.loop-row.row-index rows) row n)
          ∙ ap (λ front. value_at front n) (sym more);
    }
