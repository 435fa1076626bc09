use Rattle.std.proofs.Common.{◌↔◌, ◌≤◌, ◌-◌, ◌^◌, length, drop}
use Rattle.text_ops.specs.Lines.{lines_of}
use Rattle.text_ops.specs.inside.SortKeys.{AreUpTo}
use Rattle.text_ops.proofs.short_keys.are_short_lines.Given as goal

abbrev pub invariant-loop-at : goal.invariant-loop-at
invariant-loop-at l = (l.at ≤ length l.text) × (AreUpTo (2 ^ 16 - 1) (lines_of (drop l.at l.text)) ↔ AreUpTo (2 ^ 16 - 1) (lines_of l.text))

abbrev pub decreases-loop-at : goal.decreases-loop-at
decreases-loop-at l = length l.text - l.at
