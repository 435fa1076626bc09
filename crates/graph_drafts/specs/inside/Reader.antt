-- What the code has of an operation, and a task by the steps in which it is read.
use Rattle.std.specs.Prelude.{ℕ, List, [], ◌++◌, length, map, Result, Ok, codes}
use Rattle.serde_json.specs.Data.{Data}
use Rattle.graph_plans.specs.declared.spots.Spot.{Spot}
use Rattle.graph_plans.specs.declared.ops.TextOp.{TextOp}
use Rattle.graph_plans.specs.declared.pipes.LineOp.{LineOp}
use Rattle.graph_drafts.specs.declared.pipes.Pipes.{Pipes}
use Rattle.graph_drafts.specs.declared.file_op.FileOp.{FileOp}
use Rattle.graph_drafts.specs.declared.file_op.FoundOp.{FoundOp}
use Rattle.graph_drafts.specs.declared.refusals.GraphError.{GraphError}
use Rattle.graph_drafts.specs.OpRows.{FileOpRow, PipeRows, WithFields, op_in, op_rows}
use Rattle.graph_drafts.specs.Contents.{name_of, name_list_of}
use Rattle.graph_drafts.specs.Fields.{allowed, needed, only, task_spot}
use Rattle.graph_drafts.specs.FileText.{DraftRows, TaskNames, puts_field, takes_field, task_fields, with_task_text}
use Rattle.graph_drafts.specs.Steps.{◌>>=◌}
use Rattle.graph_drafts.specs.inside.Reading.{file_op_row}

-- ---- what it has of an operation

abbrev pub found_op : FoundOp FileOp → WithFields FileOpRow
found_op found = record { op = file_op_row found.op; fields = map (λ s. s.now) found.fields.now }

abbrev pub found_text_op : FoundOp TextOp → WithFields TextOp
found_text_op found = record { op = found.op; fields = map (λ s. s.now) found.fields.now }

abbrev pub found_line_op : FoundOp LineOp → WithFields LineOp
found_line_op found = record { op = found.op; fields = map (λ s. s.now) found.fields.now }

abbrev pub pipe_rows : Pipes → PipeRows
pipe_rows pipes = record { serial = pipes.serial; ops = pipes.ops }

-- ---- a task, by the steps in which it is read

-- a task of this name, with its lists of names
abbrev pub lists_in : ℕ → Spot → List ℕ → Data → Result TaskNames GraphError
lists_in version spot name d = do
  to ← allowed [] name_list_of spot (codes "to") d
  takes ← allowed [] name_list_of spot (takes_field version) d
  puts ← allowed [] name_list_of spot (puts_field version) d
  Ok (record { name = name; to = to; takes = takes; puts = puts })

abbrev pub add_task_steps : DraftRows → Data → Result DraftRows GraphError
add_task_steps draft d = let spot = task_spot draft.scope (length draft.tasks) in do
  name ← needed name_of spot (codes "name") d
  found ← op_in op_rows spot d
  names ← lists_in draft.version spot name d
  done ← only (task_fields draft.version ++ found.fields) spot d
  Ok (with_task_text draft (record { names = names; op = found.op }))
