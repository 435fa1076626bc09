use Rattle.std.proofs.Common.{◌≡◌, ◌∙◌, length, sym, ap, subst, arith}
use Rattle.std.proofs.lemmas.List.FromFn.{length-map-range_with_len}
use Rattle.pipe_lines.specs.Pipelines.{IsPipeline}
use Rattle.pipe_lines.specs.declared.pipeline.PipeSpec.{PipeSpec}
use Rattle.text_ops.specs.LineParts.{line_part, part_count}
use Rattle.text_tasks.proofs.pipe_job.pipe_job.Goals as goal

-- it is the pipeline of the plan, and there are as many tokens as parts
pub invariant_of-result : goal.invariant_of-result
invariant_of-result c =
    let plan = c.args.plan.now in
    let text = c.in_ok-text.text in
    let pipes = ap (λ (spec : PipeSpec). length spec.serial) c.in_ok-spec.ensures in
    let count : length c.in_ok-parts.parts ≡ part_count plan.chunk text =
    ap length c.in_ok-parts.ensures ∙ length-map-range_with_len (line_part plan.chunk text) 0 (part_count plan.chunk text) in
    record {
      work = record {
        pipeline = subst IsPipeline (sym c.in_ok-spec.ensures) c.requires.pipeline;
        op_count = ap length (c.in_ok-ops.ensures ∙ c.as_slice.ensures) ∙ c.requires.plan.op_count ∙ sym pipes;
        part_count = omega (arith, count, c.part_count-tokens.ensures, c.if-tokens-gt-MAX_TOKENS.false);
        passed_count = omega (arith, c.in_ok-order.ensures.few, c.if-tokens-gt-MAX_TOKENS.false);
      };
      net = c.in_ok-net.ensures.ok ∙ c.in_ok-net_of_pipes.ensures;
      along = c.in_ok-along_pipe.ensures;
    }
