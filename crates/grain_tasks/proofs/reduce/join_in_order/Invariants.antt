use Rattle.std.proofs.Common.{◌≡◌, drop, map}
use Rattle.std.specs.List.{fold}
use Rattle.grain_tasks.specs.Folds.{joined}
use Rattle.grain_tasks.specs.inside.Folding.{AreAllowed, value_in}
use Rattle.grain_tasks.proofs.reduce.join_in_order.Given as goal

abbrev pub invariant-loop-part : goal.invariant-loop-part
invariant-loop-part g l =
    (fold (g.F.Fold.folding.join l.fn.fold) l.value (map value_in (drop l.part-index l.fn.parts)) ≡ joined g.F.Fold.folding l.fn.fold (map value_in l.fn.parts))
    × g.F.Fold.folding.allowed l.fn.fold l.value × AreAllowed g.F.Fold.folding l.fn.fold (drop l.part-index l.fn.parts)
