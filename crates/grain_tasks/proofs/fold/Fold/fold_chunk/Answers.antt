use Rattle.std.proofs.Common.{arith, ◌-◌, sym, subst}
use Rattle.grain_tasks.proofs.FoldLemmas.{fold_from_allowed}
use Rattle.grain_tasks.proofs.fold.Fold.fold_chunk.Goals as goal

pub join-requires-clause-left : goal.join-requires-clause-left
join-requires-clause-left g c =
    let lawful = g.met.Self.Fold.lawful c.args.self.now in
    let within = c.requires.within in
    let below = c.loop-index-test.true in
    subst (g.Self.Fold.folding.allowed c.args.self.now) (sym c.loop-index.invariant.0)
    (fold_from_allowed g.Self.Fold.folding c.args.self.now lawful c.args.chunk.from (c.loop-index.index - c.args.chunk.from) (omega arith))
