use Rattle.std.proofs.Common.{◌≡◌, ◌∙◌, ap, length, subst, sym}
use Rattle.std.specs.Arc.{arc_value}
use Rattle.std.proofs.lemmas.List.FromFn.{length-map-range_with_len}
use Rattle.nested_runs.specs.Spreads.{IsSpreadNet}
use Rattle.text_ops.specs.LineParts.{line_part, part_count}
use Rattle.text_tasks.proofs.parts_job.parts_job.Goals as goal

-- there are as many tasks as parts
pub invariant_of-result : goal.invariant_of-result
invariant_of-result c =
    let text = c.in_ok-text.text in
    let count : length c.in_ok-parts.parts ≡ part_count c.args.lines text =
    ap length c.in_ok-parts.ensures ∙ length-map-range_with_len (line_part c.args.lines text) 0 (part_count c.args.lines text) in
    subst (λ n. IsSpreadNet n (arc_value c.in_ok-net-2.net)) (c.part_count.ensures ∙ sym count) (subst (IsSpreadNet c.part_count.result) (sym c.in_ok-net-2.ensures.ok) c.in_ok-net.ensures.net)
