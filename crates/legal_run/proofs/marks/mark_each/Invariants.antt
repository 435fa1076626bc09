use Rattle.std.proofs.Common.{take}
use Rattle.legal_run.specs.inside.Marking.{Marked}
use Rattle.legal_run.proofs.marks.mark_each.Given as goal

abbrev pub invariant-loop-number : goal.invariant-loop-number
invariant-loop-number l = Marked l.fn.flags.items l.flags.items l.distinct (take l.number-index l.numbers)
