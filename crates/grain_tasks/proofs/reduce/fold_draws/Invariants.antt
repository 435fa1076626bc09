use Rattle.std.proofs.Common.{◌≡◌, ◌-◌}
use Rattle.grain_tasks.specs.inside.Folding.{AreFoldedParts, chunks_in}
use Rattle.grain_tasks.proofs.reduce.fold_draws.Given as goal

abbrev pub invariant-loop-draw : goal.invariant-loop-draw
invariant-loop-draw g l =
    (l.draw.row ≡ l.fn.row) × (chunks_in l.parts.items ≡ l.draw.drawn)
    × AreFoldedParts g.F.Fold.folding l.fn.fold l.fn.row.shape.count l.parts.items

abbrev pub decreases-loop-draw : goal.decreases-loop-draw
decreases-loop-draw g l = l.fn.row.shape.count - l.draw.reached
