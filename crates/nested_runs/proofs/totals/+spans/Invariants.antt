use Rattle.std.proofs.Common.{◌≡◌, map, take}
use Rattle.std.specs.Prelude.{min, sum}
use Rattle.nested_runs.specs.Totals.{spans_of_row}
use Rattle.nested_runs.proofs.totals.+spans.Given as goal

abbrev pub invariant-spans_in-loop-row : goal.invariant-spans_in-loop-row
invariant-spans_in-loop-row g l = l.total ≡ min (sum (map spans_of_row (take l.row-index l.fn.rows))) 18446744073709551615
