use Rattle.std.proofs.Common.{◌+◌, ◌-◌, length}
use Rattle.pitfall_check.specs.inside.MarkSpread.{IsSpreading, unmarked_count}
use Rattle.pitfall_check.proofs.spread.spread.Given as goal

abbrev pub invariant-loop-next : goal.invariant-loop-next
invariant-loop-next l = IsSpreading l.way l.net l.root l.mark l.fn.marks l.marks l.queue.items l.next

abbrev pub decreases-loop-next : goal.decreases-loop-next
decreases-loop-next l = unmarked_count l.marks + length l.queue.items - l.next
