use Rattle.std.proofs.Common.{◌≡◌, take}
use Rattle.graph_file.proofs.nets.ids_of.Given as goal

abbrev pub invariant-loop-number : goal.invariant-loop-number
invariant-loop-number l = l.ids ≡ take l.number-index l.numbers
