use Rattle.std.proofs.Common.{◌∙◌, ◌+◌, ◌++◌, sym, ap, subst, append-nil, length}
use Rattle.std.specs.List.{between}
use Rattle.text_ops.specs.Values.{Makes}
use Rattle.text_ops.specs.TextMeaning.{keep_meaning}
use Rattle.text_ops.specs.inside.FoundLine.{IsFirstKept, IsNowhere}
use Rattle.text_ops.proofs.KeptSoFarLemmas.{KeptSoFar-start, KeptSoFar-step, line_within, after_whole, next_kept, rest_nowhere}
use Rattle.text_ops.proofs.kept_lines.keep_found.Goals as goal

pub loop-line-init : goal.loop-line-init
loop-line-init c = KeptSoFar-start (keep_meaning c.args.word.now) c.args.text.now c.new-kept.result c.new-kept.ensures.kept c.new-kept.ensures.end c.as_slice-bytes.ensures.normal

pub loop-line-preserved : goal.loop-line-preserved
loop-line-preserved c =
    let text = c.args.text.now in
    let so_far = c.loop-line.invariant in
    let at = c.loop-line.at in
    let line = c.in-Some.line in
    let found = subst (λ bytes. IsFirstKept c.args.word.now (between at (length bytes) bytes) line) c.as_slice-bytes.ensures.value c.in-Some.ensures.found in
    KeptSoFar-step (keep_meaning c.args.word.now) text c.loop-line.kept c.keep.new.self at (at + line.end) (between (at + line.start) (at + line.end) text)
    so_far (c.in_ok-keep.ensures.kept text so_far.all so_far.kept) c.in_ok-keep.ensures.end (line_within c.args.word.now text at line so_far.within found)
    (after_whole c.args.word.now text at line so_far.within found so_far.rest) (next_kept c.args.word.now text at line so_far.within found)

pub returns : goal.returns
returns c =
    let so_far = c.loop-line.invariant in
    let at = c.loop-line.at in
    let none = rest_nowhere c.args.word.now c.args.text.now at (subst (λ bytes. IsNowhere c.args.word.now (between at (length bytes) bytes)) c.as_slice-bytes.ensures.value c.in_default.ensures.none) in
    let whole = sym (append-nil so_far.all) ∙ ap (λ l. so_far.all ++ l) (sym none.kept) ∙ so_far.same in
    subst (λ value. Makes value c.finish.result) whole (c.finish.ensures c.args.text.now so_far.all so_far.kept)
