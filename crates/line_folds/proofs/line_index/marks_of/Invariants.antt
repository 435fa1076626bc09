use Rattle.std.proofs.Common.{◌≡◌, ℕ, ◌+◌, ◌*◌, ◌-◌, ◌<◌, length}
use Rattle.std.specs.Prelude.{slice_index}
use Rattle.text_ops.specs.Lines.{lines_of}
use Rattle.text_ops.specs.LineParts.{IsCut}
use Rattle.line_folds.specs.inside.Marks.{mark_step}
use Rattle.line_folds.proofs.line_index.marks_of.Given as goal

abbrev pub invariant-loop-at : goal.invariant-loop-at
invariant-loop-at l =
    ((k : ℕ) → k < length l.marks.items → IsCut l.text (k * mark_step) (slice_index l.marks.items k)) × IsCut l.text (length l.marks.items * mark_step) l.at
    × (length l.marks.items * mark_step < length (lines_of l.text) + mark_step)

abbrev pub decreases-loop-at : goal.decreases-loop-at
decreases-loop-at l = length l.text - l.at
