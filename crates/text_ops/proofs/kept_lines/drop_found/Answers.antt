use Rattle.std.proofs.Common.{◌∙◌, ◌+◌, ◌≤◌, ◌++◌, sym, ap, subst, length, arith}
use Rattle.std.specs.List.{between}
use Rattle.std.proofs.lemmas.Slice.{between_to_end}
use Rattle.text_ops.specs.Values.{Makes}
use Rattle.text_ops.specs.TextMeaning.{without_meaning}
use Rattle.text_ops.specs.inside.FoundLine.{IsFirstKept, IsNowhere}
use Rattle.text_ops.proofs.KeptSoFarLemmas.{KeptSoFar-start, KeptSoFar-step, line_within, after_whole, next_others, rest_nowhere}
use Rattle.text_ops.proofs.kept_lines.drop_found.Goals as goal

pub loop-line-init : goal.loop-line-init
loop-line-init c = KeptSoFar-start (without_meaning c.args.word.now) c.args.text.now c.new-kept.result c.new-kept.ensures.kept c.new-kept.ensures.end c.as_slice-bytes.ensures.normal

pub loop-line-preserved : goal.loop-line-preserved
loop-line-preserved c =
    let text = c.args.text.now in
    let so_far = c.loop-line.invariant in
    let at = c.loop-line.at in
    let line = c.in-Some.line in
    let found = subst (λ bytes. IsFirstKept c.args.word.now (between at (length bytes) bytes) line) c.as_slice-bytes.ensures.value c.in-Some.ensures.found in
    KeptSoFar-step (without_meaning c.args.word.now) text c.loop-line.kept c.keep.new.self at (at + line.end) (between at (at + line.start) text)
    so_far (c.in_ok-keep.ensures.kept text so_far.all so_far.kept) (omega (arith, c.in_ok-keep.ensures.end, found.rising)) (line_within c.args.word.now text at line so_far.within found)
    (after_whole c.args.word.now text at line so_far.within found so_far.rest) (next_others c.args.word.now text at line so_far.within found)

pub returns : goal.returns
returns c =
    let text = c.args.text.now in
    let so_far = c.loop-line.invariant in
    let at = c.loop-line.at in
    let bytes = c.as_slice-bytes.result.now in
    let none = rest_nowhere c.args.word.now text at (subst (λ b. IsNowhere c.args.word.now (between at (length b) b)) c.as_slice-bytes.ensures.value c.in_default.ensures.none) in
    let long : length text ≤ length bytes = omega (arith, ap length c.as_slice-bytes.ensures.value) in
    let rest = between_to_end text at (length bytes) long in
    let whole = ap (λ l. so_far.all ++ l) (rest ∙ sym none.others) ∙ so_far.same in
    subst (λ value. Makes value c.finish.result) whole (c.finish.ensures text _ (c.in_ok-keep-2.ensures.kept text so_far.all so_far.kept))
