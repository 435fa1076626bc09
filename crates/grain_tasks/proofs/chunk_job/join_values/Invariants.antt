use Rattle.std.proofs.Common.{◌≡◌}
use Rattle.grain_tasks.specs.Folds.{joined}
use Rattle.grain_tasks.proofs.GatherLemmas.{folds_before}
use Rattle.grain_tasks.proofs.chunk_job.join_values.Given as goal

abbrev pub invariant-loop-task : goal.invariant-loop-task
invariant-loop-task g l = l.value ≡ joined g.F.Fold.folding l.fn.fold (folds_before g.F.Fold.folding l.fn.fold l.fn.count l.fn.grain l.task)
