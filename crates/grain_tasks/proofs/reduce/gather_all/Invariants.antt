use Rattle.std.proofs.Common.{◌-◌, ◌≤◌}
use Rattle.std.specs.Prelude.{All, IfOk, vec_len}
use Rattle.grain_tasks.specs.inside.Folding.{IsFoldedBy}
use Rattle.grain_tasks.proofs.reduce.gather_all.Given as goal

abbrev pub invariant-loop-next : goal.invariant-loop-next
invariant-loop-next g l =
    IsFoldedBy g.F.Fold.folding l.fn.fold l.fn.row (vec_len l.fn.results - vec_len l.results) l.all
    × (vec_len l.results ≤ vec_len l.fn.results)
    × All (λ r. IfOk r (IsFoldedBy g.F.Fold.folding l.fn.fold l.fn.row 1)) l.results.items

abbrev pub decreases-loop-next : goal.decreases-loop-next
decreases-loop-next g l = vec_len l.results
