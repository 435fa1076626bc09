use Rattle.std.proofs.Common.{◌≡◌, map, drop}
use Rattle.nested_runs.specs.Reasons.{reason_at}
use Rattle.nested_runs.specs.inside.InnerReasons.{row_reason}
use Rattle.nested_runs.proofs.reasons.+reasons.Given as goal

abbrev pub invariant-inner_reason-loop-row : goal.invariant-inner_reason-loop-row
invariant-inner_reason-loop-row g l =
    reason_at (map (row_reason g.J.Job.meaning) l.fn.rows) l.place ≡ reason_at (map (row_reason g.J.Job.meaning) (drop l.row-index l.fn.rows)) l.place
