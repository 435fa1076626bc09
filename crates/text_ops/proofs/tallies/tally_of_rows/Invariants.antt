use Rattle.std.proofs.Common.{map, take}
use Rattle.text_ops.specs.Lines.{text_of}
use Rattle.text_ops.specs.inside.Counting.{counted_row_line}
use Rattle.text_ops.specs.inside.Gathering.{IsGathered}
use Rattle.text_ops.proofs.tallies.tally_of_rows.Given as goal

abbrev pub invariant-loop-row : goal.invariant-loop-row
invariant-loop-row l = IsGathered (text_of (map counted_row_line (take l.row-index l.rows))) l.made
