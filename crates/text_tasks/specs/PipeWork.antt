-- What a job of a pipeline is to its callers.
use Rattle.std.specs.Prelude.{◌≡◌, ℕ, ◌≤◌, List, length}
use Rattle.graph_plans.specs.declared.pipes.LineOp.{LineOp}
use Rattle.graph_plans.specs.declared.pipes.PipePlan.{PipePlan}
use Rattle.pipe_lines.specs.declared.deferral.DeferRow.{DeferRow}
use Rattle.pipe_lines.specs.declared.order.Order.{Order}
use Rattle.pipe_lines.specs.declared.pipeline.PipeSpec.{PipeSpec}
use Rattle.pipe_lines.specs.DeferRows.{token_limit}
use Rattle.pipe_lines.specs.PassOrder.{least_left, pass_order}
use Rattle.pipe_lines.specs.Pipelines.{IsPipeline}
use Rattle.text_ops.specs.LineParts.{line_parts, part_count}
use Rattle.text_tasks.specs.declared.item.Item.{Item}
use Rattle.text_tasks.specs.Cells.{Pipeline}
use Rattle.text_tasks.specs.Items.{item_place, item_token}

-- Lines and pipes with what each pipe does, the parts of a text, of which each is a token, and the order in which the
-- tokens pass.
pub record PipeWork : Type 0 where
  pub spec : PipeSpec
  pub ops : List LineOp
  pub parts : List (List ℕ)
  pub order : Order

-- the order in which so many tokens pass, of which these are deferred
abbrev pub order_of : ℕ → List DeferRow → Order
order_of tokens rows = record { passed = pass_order tokens rows; unmet = least_left tokens (pass_order tokens rows) }

-- the work of a plan's pipeline on a text
abbrev pub pipe_work : PipePlan → List ℕ → PipeWork
pipe_work plan text = record { spec = plan.spec; ops = plan.ops; parts = line_parts plan.chunk text; order = order_of (part_count plan.chunk text) plan.defers }

-- It is a pipeline, with an operation for each pipe, and no more tokens pass than there may be.
pub record IsPipeWork (work : PipeWork) : Type 0 where
  pub pipeline : IsPipeline work.spec
  pub op_count : length work.ops ≡ length work.spec.serial
  pub part_count : length work.parts ≤ token_limit
  pub passed_count : length work.order.passed ≤ token_limit

-- the pipeline, whose values have tokens and places
abbrev pub pipeline_of : PipeWork → Pipeline Item
pipeline_of work = record { lines = work.spec.lines; serials = work.spec.serial; order = work.order; token = item_token; place = item_place }
