-- The pipelines of plans meet the law's premises.
use Rattle.std.proofs.Common.{◌≡◌, ℕ, ◌+◌, ◌≤◌, List, [], length, arith}
use Rattle.std.proofs.lemmas.List.FromFn.{length-map-range_with_len}
use Rattle.graph_plans.specs.declared.pipes.PipePlan.{PipePlan}
use Rattle.pipe_lines.specs.PassOrder.{pass_order}
use Rattle.text_ops.specs.LineParts.{line_part, line_parts, part_count}
use Rattle.text_tasks.specs.PipeWork.{pipe_work}
use Rattle.pipe_laws.proofs.TextInside.{passes_few}

-- No more tokens pass than the text has parts.
pub few_pass : (plan : PipePlan) (text : List ℕ) → length (pipe_work plan text).order.passed ≤ length (pipe_work plan text).parts
few_pass plan text =
    let count : length (line_parts plan.chunk text) ≡ part_count plan.chunk text = length-map-range_with_len (line_part plan.chunk text) 0 (part_count plan.chunk text) in
    let few : length (pass_order (part_count plan.chunk text) plan.defers) ≤ length {A = ℕ} [] + part_count plan.chunk text = passes_few (part_count plan.chunk text) plan.defers (part_count plan.chunk text) [] in
    omega (arith, count, few)
