-- What goes to the threads that enter the seats of a crew of text jobs.
use denote.RattleType.{RattleType}
use denote.Param.Send.{IsSend, IsSync, recorded_send, recorded_sync, sendable, struct_send, struct_sync}
use denote.Struct.Declared.{shape}
use Rattle.std.proofs.Crossing.{crosses, frees}
use Rattle.std.proofs.alloc.Global.TheSendSync as heap
use Rattle.std.proofs.option.Option.TheSendSync as option
use Rattle.boxcar.proofs.slot.OnceSlot.TheSendSync as slot
use Rattle.boxcar.proofs.slot.Written.TheSendSync as written
use Rattle.boxcar.proofs.tag.Tag.TheSendSync as tag
use Rattle.worker_seat.proofs.Crossing.{seat_send, crew_sync}
use Rattle.worker_seat.specs.contracts.seat.WorkerSeat as worker_seat
use Rattle.worker_seat.specs.contracts.crew.Crew as crew
use Rattle.pipe_lines.specs.contracts.deferral.DeferRow as defer_row
use Rattle.pipe_lines.specs.contracts.order.Order as order
use Rattle.pipe_lines.specs.contracts.pipeline.PipeSpec as pipe_spec
use Rattle.graph_plans.specs.contracts.pipes.LineOp as line_op
use Rattle.graph_plans.specs.contracts.pipes.PipePlan as pipe_plan
use Rattle.graph_plans.specs.contracts.ops.Op as op
use Rattle.graph_plans.specs.contracts.ops.TextOp as text_op
use Rattle.graph_plans.specs.contracts.plans.Graph as graph
use Rattle.graph_plans.specs.contracts.plans.Plan as plan
use Rattle.text_tasks.specs.contracts.table.TextTable as text_table
use Rattle.text_tasks.specs.contracts.graph_job.GraphJob as graph_job
use Rattle.text_tasks.specs.contracts.parts_job.PartsJob as parts_job
use Rattle.text_tasks.specs.contracts.pipe_job.PipeJob as pipe_job
use Rattle.text_tasks.specs.contracts.job.TextJob as text_job
use Rattle.text_tasks.specs.contracts.item.CellItem as cell_item
use Rattle.text_tasks.specs.contracts.item.Item as item
use Rattle.text_tasks.specs.contracts.job.TextJobJob.TheImpl as job
use Rattle.text_tasks.specs.contracts.job.TextJobValued.TheImpl as valued

-- what crosses threads in a table of texts
ruleset texts = (crosses, frees, heap.the_field_send, heap.the_field_sync, heap.the_send, heap.the_sync, option.the_send, option.the_sync, slot.the_send, slot.the_sync, written.the_send, written.the_sync, tag.the_send, tag.the_sync, sendable)

table_send : IsSend text_table.the_row
table_send = search texts depth 60 fits 20000

table_sync : IsSync text_table.the_row
table_sync = search texts depth 60 fits 20000

-- a plan, by what it is made of
text_op_send : IsSend text_op.the_row
text_op_send = search (crosses, frees, sendable) depth 60 fits 20000

text_op_sync : IsSync text_op.the_row
text_op_sync = search (crosses, frees, sendable) depth 60 fits 20000

-- a pipeline, by what it is made of
defer_row_send : IsSend defer_row.the_row
defer_row_send = search (crosses, frees, sendable) depth 60 fits 20000

defer_row_sync : IsSync defer_row.the_row
defer_row_sync = search (crosses, frees, sendable) depth 60 fits 20000

order_send : IsSend order.the_row
order_send = search (crosses, frees, sendable) depth 60 fits 20000

order_sync : IsSync order.the_row
order_sync = search (crosses, frees, sendable) depth 60 fits 20000

pipe_spec_send : IsSend pipe_spec.the_row
pipe_spec_send = search (crosses, frees, sendable) depth 60 fits 20000

pipe_spec_sync : IsSync pipe_spec.the_row
pipe_spec_sync = search (crosses, frees, sendable) depth 60 fits 20000

line_op_send : IsSend line_op.the_row
line_op_send = search (text_op_send, text_op_sync, crosses, frees, sendable) depth 60 fits 20000

line_op_sync : IsSync line_op.the_row
line_op_sync = search (text_op_send, text_op_sync, crosses, frees, sendable) depth 60 fits 20000

pipe_plan_send : IsSend pipe_plan.the_row
pipe_plan_send = search (defer_row_send, defer_row_sync, pipe_spec_send, line_op_send, line_op_sync, crosses, frees, sendable) depth 60 fits 20000

pipe_plan_sync : IsSync pipe_plan.the_row
pipe_plan_sync = search (defer_row_send, defer_row_sync, pipe_spec_sync, line_op_send, line_op_sync, crosses, frees, sendable) depth 60 fits 20000

op_send : IsSend op.the_row
op_send = search (text_op_send, text_op_sync, pipe_plan_send, crosses, frees, sendable) depth 60 fits 20000

op_sync : IsSync op.the_row
op_sync = search (text_op_send, text_op_sync, pipe_plan_sync, crosses, frees, sendable) depth 60 fits 20000

graph_field_send : IsSend graph.the_field.row
graph_field_send = search (op_send, op_sync, crosses, frees, sendable) depth 60 fits 20000

graph_field_sync : IsSync graph.the_field.row
graph_field_sync = search (op_send, op_sync, crosses, frees, sendable) depth 60 fits 20000

plan_send : IsSend plan.the_row
plan_send =
    recorded_send plan.the_field.row _ _ plan.the_type.to_one
    (struct_send (shape plan.the_type) (graph_field_send, (search (graph_field_send, graph_field_sync, crosses, frees, sendable) depth 60 fits 20000, (search (crosses, frees, sendable) depth 60 fits 20000, tt))))

plan_sync : IsSync plan.the_row
plan_sync =
    recorded_sync plan.the_field.row _ _ plan.the_type.to_one
    (struct_sync (shape plan.the_type) (graph_field_sync, (search (graph_field_send, graph_field_sync, crosses, frees, sendable) depth 60 fits 20000, (search (crosses, frees, sendable) depth 60 fits 20000, tt))))

graph_job_send : IsSend graph_job.the_row
graph_job_send = search (table_send, table_sync, plan_send, plan_sync, texts) depth 60 fits 20000

graph_job_sync : IsSync graph_job.the_row
graph_job_sync = search (table_send, table_sync, plan_send, plan_sync, texts) depth 60 fits 20000

parts_job_send : IsSend parts_job.the_row
parts_job_send = search (text_op_send, text_op_sync, texts) depth 60 fits 20000

parts_job_sync : IsSync parts_job.the_row
parts_job_sync = search (text_op_send, text_op_sync, texts) depth 60 fits 20000

pipe_job_send : IsSend pipe_job.the_row
pipe_job_send = search (line_op_send, line_op_sync, pipe_spec_send, order_send, texts) depth 60 fits 20000

pipe_job_sync : IsSync pipe_job.the_row
pipe_job_sync = search (line_op_send, line_op_sync, pipe_spec_sync, order_sync, texts) depth 60 fits 20000

job_send : IsSend text_job.the_row
job_send = search (graph_job_send, parts_job_send, pipe_job_send, texts) depth 60 fits 20000

job_sync : IsSync text_job.the_row
job_sync = search (graph_job_sync, parts_job_sync, pipe_job_sync, texts) depth 60 fits 20000

cell_item_send : IsSend cell_item.the_row
cell_item_send = search (crosses, frees, sendable) depth 60 fits 20000

cell_item_sync : IsSync cell_item.the_row
cell_item_sync = search (crosses, frees, sendable) depth 60 fits 20000

item_send : IsSend item.the_row
item_send = search (cell_item_send, crosses, frees, sendable) depth 60 fits 20000

item_sync : IsSync item.the_row
item_sync = search (cell_item_sync, crosses, frees, sendable) depth 60 fits 20000

-- a seat with a watcher that may be sent
pub seat_crosses : (X : RattleType) → IsSend X → IsSend (worker_seat.the_row text_job.the_row X item.the_row job.ghosts valued.ghosts)
seat_crosses = seat_send text_job.the_row item.the_row job.ghosts valued.ghosts job_send job_sync item_send item_sync

pub crew_shared : IsSync (crew.the_row text_job.the_row item.the_row job.ghosts valued.ghosts)
crew_shared = crew_sync text_job.the_row item.the_row job.ghosts valued.ghosts job_send job_sync item_send item_sync
