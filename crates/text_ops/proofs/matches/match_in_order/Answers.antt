use Rattle.std.proofs.Common.{◌∙◌, refl, sym, subst}
use Rattle.text_ops.specs.Lines.{lines_of, IsNormal}
use Rattle.text_ops.specs.MatchKeys.{matched}
use Rattle.text_ops.proofs.LineLemmas.{IsNormal-text_of}
use Rattle.text_ops.proofs.SortLemmas.{gathered_normal}
use Rattle.text_ops.proofs.MatchSteps.{MatchSoFar-start, MatchSoFar-found, MatchSoFar-none, MatchSoFar-end}
use Rattle.text_ops.proofs.matches.match_in_order.Goals as goal

pub loop-line-init : goal.loop-line-init
loop-line-init g c =
    MatchSoFar-start c.args.left.now c.args.right.now c.args.left.now c.into_iter-line-iterator.result c.new-made.result
    refl (c.into_iter-line-iterator.ensures.into_iter_gives ∙ c.new-line-items.ensures) c.new-made.ensures

pub loop-line-preserved-in-Continue-1 : goal.loop-line-preserved-in-Continue-1
loop-line-preserved-in-Continue-1 g c =
    MatchSoFar-found c.args.left.now c.args.right.now c.args.right.now c.in-Some.line.now c.match_key.result.now c.loop-line.line-iterator c.next.new.self c.loop-line.made
    c.loop-line.invariant c.in-Some.ensures.steps refl c.match_key.ensures c.add_line.new.self c.in-Some-behind_first.rest.now
    c.in-Some-behind_first.ensures c.in_ok-add_line.ensures.gathered

pub finish-requires : goal.finish-requires
finish-requires g c =
    let so_far = c.loop-line.invariant in
    let whole = MatchSoFar-end c.args.left.now c.args.right.now c.loop-line.line-iterator c.loop-line.made so_far c.in-None.ensures.steps.0 in
    gathered_normal so_far.all c.loop-line.made so_far.gathered (subst IsNormal (sym whole) (IsNormal-text_of (matched (lines_of c.args.left.now) (lines_of c.args.right.now))))

pub loop-line-preserved : goal.loop-line-preserved
loop-line-preserved g c =
    MatchSoFar-none c.args.left.now c.args.right.now c.args.right.now c.in-Some.line.now c.match_key.result.now c.loop-line.line-iterator c.next.new.self c.loop-line.made
    c.loop-line.invariant c.in-Some.ensures.steps refl c.match_key.ensures c.in_default.ensures
