use Rattle.std.proofs.Common.{sym, ◌∙◌}
use Rattle.std.specs.Arc.{arc_value}
use Rattle.grain_tasks.specs.ChunkWork.{chunk_work}
use Rattle.grain_tasks.proofs.RunLemmas.{chunks_end_as}
use Rattle.grain_tasks.proofs.chunk_job.ChunkJobJob.gather.Goals as goal

pub gathered-requires-clause-ends : goal.gathered-requires-clause-ends
gathered-requires-clause-ends g c = chunks_end_as g.F.Fold.folding c.args.run.now
    (chunk_work (arc_value c.self.inside.fold) c.self.inside.count c.self.inside.grain)
    c.deref.result.now c.as_slice.result.now
    (c.requires.job ∙ sym c.self.view_is) c.requires.kept c.requires.fine c.deref.ensures c.as_slice.ensures
