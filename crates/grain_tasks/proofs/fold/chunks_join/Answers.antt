use Rattle.grain_tasks.proofs.FoldLemmas.{joins_chunks}
use Rattle.grain_tasks.proofs.fold.chunks_join.Goals as goal

pub returns : goal.returns
returns g c =
    let lawful = g.met.F.Fold.lawful c.args.fold.now in
    joins_chunks g.F.Fold.folding c.args.fold.now lawful
