use Rattle.std.proofs.Common.{◌+◌, arith}
use Rattle.text_ops.proofs.CutLemmas.{IsCut-counted, IsCut-none, LeftBehind-none, next_within, next_counted, next_whole}
use Rattle.text_ops.proofs.cuts.end_of_first.Goals as goal

pub returns-then-n-eq0 : goal.returns-then-n-eq0
returns-then-n-eq0 c = IsCut-none c.args.text.now c.args.n (omega arith)

pub returns-then-left-eq0 : goal.returns-then-left-eq0
returns-then-left-eq0 c =
    let so_far = c.loop-gap.invariant in
    let found = c.in-Some.ensures in
    IsCut-counted c.args.text.now c.args.n (c.loop-gap.at + (c.in-Some.gap + 1))
    (next_within c.args.text.now c.args.n c.loop-gap.at c.loop-gap.left c.in-Some.gap so_far found)
    (next_whole c.args.text.now c.args.n c.loop-gap.at c.loop-gap.left c.in-Some.gap so_far found)
    (omega (arith, next_counted c.args.text.now c.args.n c.loop-gap.at c.loop-gap.left c.in-Some.gap so_far found, so_far.some))

pub loop-gap-preserved : goal.loop-gap-preserved
loop-gap-preserved c =
    let so_far = c.loop-gap.invariant in
    let found = c.in-Some.ensures in
    record {
      within = next_within c.args.text.now c.args.n c.loop-gap.at c.loop-gap.left c.in-Some.gap so_far found;
      some = omega arith;
      ends = omega (arith, next_counted c.args.text.now c.args.n c.loop-gap.at c.loop-gap.left c.in-Some.gap so_far found, so_far.some);
    }

pub returns : goal.returns
returns c = LeftBehind-none c.args.text.now c.args.n c.loop-gap.at c.loop-gap.left c.requires c.loop-gap.invariant c.in_default.ensures
