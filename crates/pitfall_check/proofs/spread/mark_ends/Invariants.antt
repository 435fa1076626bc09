use Rattle.std.proofs.Common.{ℕ, ◌<◌, get_or}
use Rattle.pitfall_check.specs.inside.Steps.{StepsBy, edges_by}
use Rattle.pitfall_check.specs.inside.MarkSpread.{Adds, EndIsMarked}
use Rattle.pitfall_check.proofs.spread.mark_ends.Given as goal

abbrev pub invariant-loop-end : goal.invariant-loop-end
invariant-loop-end l = record {
  adds : Adds (StepsBy l.fn.way l.net l.task) l.mark l.fn.marks l.fn.queue.items l.marks l.queue.items;
  ends : (k : ℕ) → k < l.end-index → EndIsMarked l.fn.way l.net l.marks (get_or (edges_by l.fn.way l.net l.task) k 0);
}
