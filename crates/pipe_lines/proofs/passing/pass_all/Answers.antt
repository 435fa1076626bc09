use Rattle.std.proofs.Common.{◌+◌, ◌-◌, length, sym, ap, ◌∙◌, arith}
use Rattle.std.proofs.lemmas.List.{length_push}
use Rattle.pipe_lines.specs.PassOrder.{passes}
use Rattle.pipe_lines.specs.inside.Waiting.{rows_of, tokens_of}
use Rattle.pipe_lines.proofs.StepLemmas.{passes_end, passes_more}
use Rattle.pipe_lines.proofs.passing.pass_all.Goals as goal

pub returns-in-None-clause-passed : goal.returns-in-None-clause-passed
returns-in-None-clause-passed c =
    sym (passes_end (tokens_of c.args.waits.now) (tokens_of c.args.waits.now - c.loop-place._place) (rows_of c.args.waits.now) c.loop-place.walk.passed (sym c.next.ensures ∙ c.in-None.is)) ∙ c.loop-place.invariant.left

pub loop-place-preserved : goal.loop-place-preserved
loop-place-preserved c = record {
  walk = c.in_ok-pass-in-Some.ensures.walk;
  few = omega (arith, ap length c.in_ok-pass-in-Some.ensures.passed, length_push c.loop-place.walk.passed c.in-Some.token, c.loop-place.invariant.few);
  left =
      ap (passes (tokens_of c.args.waits.now) (rows_of c.args.waits.now) (tokens_of c.args.waits.now - (c.loop-place._place + 1))) c.in_ok-pass-in-Some.ensures.passed
      ∙ passes_more (tokens_of c.args.waits.now) (tokens_of c.args.waits.now - (c.loop-place._place + 1)) (tokens_of c.args.waits.now - c.loop-place._place) (rows_of c.args.waits.now) c.loop-place.walk.passed c.in-Some.token (sym c.next.ensures ∙ c.in-Some.is) (omega (arith, c.loop-place-test.true, c.tokens-place-end.ensures))
      ∙ c.loop-place.invariant.left;
}
