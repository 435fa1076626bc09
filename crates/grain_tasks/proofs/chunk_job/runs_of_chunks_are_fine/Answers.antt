use Rattle.grain_tasks.proofs.FineRuns.{runs_fine}
use Rattle.grain_tasks.proofs.chunk_job.runs_of_chunks_are_fine.Goals as goal

pub returns : goal.returns
returns g c = runs_fine g.F.Fold.folding
