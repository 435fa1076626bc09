use Rattle.std.proofs.Common.{take}
use Rattle.task_graph.specs.inside.Choices.{HasChosen}
use Rattle.task_graph.proofs.choice.choose.Given as goal

abbrev pub invariant-loop-index : goal.invariant-loop-index
invariant-loop-index l = HasChosen l.out (take l.index-index l.answer) l.seen l.chosen
