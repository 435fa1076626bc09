use Rattle.std.proofs.Common.{◌≡◌, length}
use Rattle.table_runs.proofs.table_run.TableRun.collect.Given as goal

abbrev pub invariant-loop-more : goal.invariant-loop-more
invariant-loop-more g l = (l.collecting.table ≡ l.self.table) × (l.collecting.task ≡ l.fn.fresh.task) × (l.collecting.cause ≡ l.fn.fresh.cause)

abbrev pub decreases-loop-more : goal.decreases-loop-more
decreases-loop-more g l = length l.collecting.left
