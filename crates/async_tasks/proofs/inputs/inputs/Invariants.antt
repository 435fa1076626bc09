use Rattle.std.proofs.Common.{◌≡◌, map, take}
use Rattle.std.specs.Arc.{arc_value}
use Rattle.async_tasks.specs.Books.{value_at}
use Rattle.async_tasks.specs.Histories.{found}
use Rattle.async_tasks.proofs.inputs.inputs.Given as goal

abbrev pub invariant-loop-task : goal.invariant-loop-task
invariant-loop-task g l = map arc_value l.ins ≡ found (value_at l.stages) (take l.task-index l.tasks)
