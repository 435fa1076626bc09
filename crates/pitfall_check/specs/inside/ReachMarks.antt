-- The tasks that walks from sources reach, as marks say it.
use Rattle.std.specs.Prelude.{◌≡◌, ◌≢◌, ℕ, ◌<◌, List, length, slice_index}
use Rattle.task_graph.specs.NetRows.{NetRows}
use Rattle.task_graph.specs.Net.{IsSource}
use Rattle.pitfall_check.specs.Walks.{IsReachable}
use Rattle.pitfall_check.specs.inside.Steps.{IsStep}

-- Each marked task is reached, what an edge of a marked task leads to is marked, and so is each source below n.
pub record MarksReached (net : NetRows) (marks : List ℕ) (n : ℕ) : Type 0 where
  pub size : length marks ≡ length net.tasks
  pub reached : (t : ℕ) → slice_index marks t ≢ 0 → IsReachable net t
  pub closed : (a b : ℕ) → IsStep net a b → slice_index marks a ≢ 0 → slice_index marks b ≢ 0
  pub sources : (s : ℕ) → s < n → IsSource net s → slice_index marks s ≢ 0
