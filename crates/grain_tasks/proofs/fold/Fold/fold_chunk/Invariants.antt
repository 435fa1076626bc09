use Rattle.std.proofs.Common.{◌≡◌, ◌-◌, ◌≤◌}
use Rattle.grain_tasks.specs.Folds.{fold_from}
use Rattle.grain_tasks.proofs.fold.Fold.fold_chunk.Given as goal

abbrev pub invariant-loop-index : goal.invariant-loop-index
invariant-loop-index g l = (l.value ≡ fold_from g.Self.Fold.folding l.fn.self l.fn.chunk.from (l.index - l.fn.chunk.from)) × (l.fn.chunk.from ≤ l.index)
