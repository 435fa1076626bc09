use Rattle.std.proofs.Common.{◌≡◌, drop}
use Rattle.text_tasks.specs.inside.CellInputs.{input_tagged}
use Rattle.text_tasks.specs.inside.Finding.{founds}
use Rattle.text_tasks.proofs.cell_inputs.input_along.Given as goal

abbrev pub invariant-loop-place : goal.invariant-loop-place
invariant-loop-place l = input_tagged l.along_pipe l.pipe (drop l.place l.edges) (drop l.place (founds l.ins)) ≡ input_tagged l.along_pipe l.pipe l.edges (founds l.ins)
