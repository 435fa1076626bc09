use Rattle.std.proofs.Common.{◌+◌, ◌≤◌, ◌∙◌, sym, subst, length, Some}
use Rattle.std.specs.Option.{option_copied}
use Rattle.std.specs.List.{between}
use Rattle.text_ops.specs.declared.line_runs.LineRuns.{LineRuns}
use Rattle.text_ops.specs.Lines.{IsNormal}
use Rattle.text_ops.specs.inside.Repeating.{UniqSoFar}
use Rattle.text_ops.specs.Values.{Makes}
use Rattle.text_ops.proofs.RepeatLemmas.{UniqSoFar-start, UniqSoFar-kept, UniqSoFar-left, UniqSoFar-end, next_inside, next_normal}
use Rattle.text_ops.proofs.repeats.uniq.Goals as goal
use Rattle.text_ops.proofs.repeats.uniq.Goals.{then-not-is_repeated+in_ok-keep, else-not-is_repeated}

pub loop-line-init : goal.loop-line-init
loop-line-init c =
    UniqSoFar-start c.args.text.now c.as_slice.result.now c.new-kept.result c.into_iter-line-iterator.result c.new-kept.ensures.kept c.new-kept.ensures.end
    c.as_slice.ensures.normal c.as_slice.ensures.value (c.into_iter-line-iterator.ensures.into_iter_gives ∙ c.new-line-items.ensures)

pub keep-requires-clause-within : goal.keep-requires-clause-within
keep-requires-clause-within c =
    subst (λ text. c.loop-line.start + length c.in-Some.line.now + 1 ≤ length text) (sym c.loop-line.invariant.kept.of_text)
    (next_inside c.args.text.now c.loop-line.kept (option_copied c.loop-line.before) c.loop-line.start c.in-Some.line.now c.loop-line.line-iterator c.next.new.self c.loop-line.invariant c.in-Some.ensures.steps)

pub keep-requires-clause-lines : goal.keep-requires-clause-lines
keep-requires-clause-lines c =
    subst (λ text. IsNormal (between c.loop-line.start (c.loop-line.start + length c.in-Some.line.now + 1) text)) (sym c.loop-line.invariant.kept.of_text)
    (next_normal c.args.text.now c.loop-line.kept (option_copied c.loop-line.before) c.loop-line.start c.in-Some.line.now c.loop-line.line-iterator c.next.new.self c.loop-line.invariant c.in-Some.ensures.steps)

pub loop-line-preserved : goal.loop-line-preserved
loop-line-preserved c =
    let text = c.args.text.now in
    let so_far = c.loop-line.invariant in
    let before = option_copied c.loop-line.before in
    let at = c.loop-line.start in
    let line = c.in-Some.line.now in
    elim c.if-not-is_repeated.branch [
      | then-not-is_repeated+in_ok-keep w ↦
          let kept = w.in_ok-keep.ensures.kept text so_far.all so_far.kept in
          subst (λ (runs : LineRuns). UniqSoFar text runs (Some line) (at + length line + 1) c.next.new.self) (sym w.kept-is)
          (UniqSoFar-kept text c.loop-line.kept before at line c.loop-line.line-iterator c.next.new.self so_far c.in-Some.ensures.steps w.keep.new.self
          (sym w.if-not-is_repeated.ensures) kept w.in_ok-keep.ensures.end)
      | else-not-is_repeated w ↦
          UniqSoFar-left text c.loop-line.kept before at line c.loop-line.line-iterator c.next.new.self so_far c.in-Some.ensures.steps c.if-not-is_repeated.kept w.kept-is
          (sym w.if-not-is_repeated.ensures)
    ]

pub returns : goal.returns
returns c =
    let so_far = c.loop-line.invariant in
    subst (λ value. Makes value c.finish.result)
    (UniqSoFar-end c.args.text.now c.loop-line.kept (option_copied c.loop-line.before) c.loop-line.start c.loop-line.line-iterator so_far c.in-None.ensures.steps.0)
    (c.finish.ensures c.args.text.now so_far.all so_far.kept)
