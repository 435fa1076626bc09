-- Which tasks answer as the cells of a pipeline do.
use Rattle.std.specs.Prelude.{◌≡◌, ℕ, ◌<◌, ◌≤◌, List, length, Some, None}
use Rattle.task_graph.specs.Net.{out_edges}
use Rattle.join_words.specs.Ins.{InputValue}
use Rattle.pipe_lines.specs.declared.order.Passed.TheVariants.{Token, Unmet}
use Rattle.pipe_lines.specs.DeferRows.{token_limit}
use Rattle.text_tasks.specs.Cells.{Pipeline, cell_task, edges_for, meets, next_place, pipe_input, pipeline_net}
use Rattle.run_laws.specs.OneThreadValue.{TaskEnd, OneAnswer}

-- The tasks answer as cells do: a value has the token that its cell met, and in the first pipe its place; an end
-- signals edges for a token alone; for a token that never passes there is no answer. What else a value is, and when a
-- cell faults besides, is free.
pub record AreCells {V : Type 0} (pipeline : Pipeline V) (one : OneAnswer V) : Type 0 where
  pub few : length pipeline.order.passed ≤ token_limit
  pub place : (l : ℕ) (found : List (InputValue V)) (end : TaskEnd V) → l < pipeline.lines → one (cell_task pipeline l 0) found ≡ Some end
      → pipeline.place end.value ≡ next_place pipeline (pipe_input pipeline (cell_task pipeline l 0) found)
  pub token : (l p k : ℕ) (found : List (InputValue V)) (end : TaskEnd V) → l < pipeline.lines → p < length pipeline.serials → one (cell_task pipeline l p) found ≡ Some end
      → meets pipeline p (cell_task pipeline l p) found ≡ Token k → pipeline.token end.value ≡ k
  pub gives : (l p : ℕ) (found : List (InputValue V)) (end : TaskEnd V) → l < pipeline.lines → p < length pipeline.serials → one (cell_task pipeline l p) found ≡ Some end
      → end.gives ≡ edges_for (meets pipeline p (cell_task pipeline l p) found) (out_edges (pipeline_net pipeline) (cell_task pipeline l p))
  pub unmet : (l k : ℕ) (found : List (InputValue V)) → l < pipeline.lines → meets pipeline 0 (cell_task pipeline l 0) found ≡ Unmet k → one (cell_task pipeline l 0) found ≡ None
