use Rattle.std.proofs.Common.{◌≡◌, map, take}
use Rattle.std.specs.Prelude.{min, sum}
use Rattle.nested_runs.specs.Totals.{starts_of_row}
use Rattle.nested_runs.proofs.totals.+inner_starts.Given as goal

abbrev pub invariant-starts_in-loop-row : goal.invariant-starts_in-loop-row
invariant-starts_in-loop-row g l = l.total ≡ min (sum (map starts_of_row (take l.row-index l.fn.rows))) 18446744073709551615
