use Rattle.std.proofs.Common.{◌+◌, arith, refl}
use Rattle.text_ops.proofs.CountLemmas.{length-lines_of-le}
use Rattle.text_ops.proofs.CutLemmas.{IsCut-none, IsCut-first, IsCut-last, LeftBefore-next}
use Rattle.text_ops.proofs.cuts.start_of_last.Goals as goal

pub returns-then-n-text : goal.returns-then-n-text
returns-then-n-text c = IsCut-none c.args.text.now _ (omega (arith, length-lines_of-le c.args.text.now c.requires))

pub returns-then-left-eq0 : goal.returns-then-left-eq0
returns-then-left-eq0 c = IsCut-last c.args.text.now (c.args.n + 1) c.loop-place.end c.loop-place.left c.in-Some.place c.loop-place.invariant c.in-Some.ensures c.args.n refl c.requires (omega arith)

pub loop-place-preserved : goal.loop-place-preserved
loop-place-preserved c = LeftBefore-next c.args.text.now (c.args.n + 1) c.loop-place.end c.loop-place.left c.in-Some.place c.loop-place.invariant c.in-Some.ensures (omega arith)

pub returns : goal.returns
returns c = IsCut-first c.args.text.now (c.args.n + 1) c.loop-place.end c.loop-place.left c.args.n refl c.requires c.loop-place.invariant c.in_default.ensures
