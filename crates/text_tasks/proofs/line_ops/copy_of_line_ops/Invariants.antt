use Rattle.std.proofs.Common.{◌≡◌, take}
use Rattle.text_tasks.proofs.line_ops.copy_of_line_ops.Given as goal

abbrev pub invariant-loop-op : goal.invariant-loop-op
invariant-loop-op l = l.copies ≡ take l.op-index l.ops
