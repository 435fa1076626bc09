-- Steps along edges, and what is reached by them.
use Rattle.std.specs.Prelude.{◌≡◌, ℕ, ◌<◌, ◌≤◌, false, List, length, slice_get, slice_index, Option, Some}
use Rattle.std.specs.Option.{option_map}
use Rattle.task_graph.specs.declared.net.EdgeRow.{EdgeRow}
use Rattle.task_graph.specs.NetRows.{NetRows}
use Rattle.task_graph.specs.Net.{is_weak, out_edges, strong_in}
use Rattle.pitfall_check.specs.declared.way.Way.{Way}
use Rattle.pitfall_check.specs.declared.way.Way.TheVariants.{Ahead, StrongBack}
use Rattle.pitfall_check.specs.Pitfalls.{edge_from}

-- an edge leads from task a to task b
pub record IsStep (net : NetRows) (a b : ℕ) : Type 0 where
  pub edge : ℕ
  pub row : EdgeRow
  pub is : slice_get net.edges edge ≡ Some row
  pub from : row.from ≡ a
  pub to : row.to ≡ b

-- a strong one does
pub record IsStrongStep (net : NetRows) (a b : ℕ) : Type 0 where
  pub step : IsStep net a b
  pub strong : is_weak net step.edge ≡ false

-- the steps of a way: along all edges, or against the strong ones
abbrev pub StepsBy : Way → NetRows → ℕ → ℕ → Type 0
StepsBy Ahead net a b = IsStep net a b
StepsBy StrongBack net a b = IsStrongStep net b a

-- b is reached from a by some steps, or none
pub data Reach (Step : ℕ → ℕ → Type 0) (a : ℕ) : ℕ → Type 0 where
  stays : Reach Step a a
  onward : {b c : ℕ} → Reach Step a b → Step b c → Reach Step a c

-- the task that an edge leads to
abbrev pub edge_to : NetRows → ℕ → Option ℕ
edge_to net e = option_map (λ (row : EdgeRow). row.to) (slice_get net.edges e)

-- the edges of a task that a way follows, and the task at the end of one
abbrev pub edges_by : Way → NetRows → ℕ → List ℕ
edges_by Ahead net t = out_edges net t
edges_by StrongBack net t = strong_in net t

abbrev pub end_by : Way → NetRows → ℕ → Option ℕ
end_by Ahead net e = edge_to net e
end_by StrongBack net e = edge_from net e

-- the tasks at the ends of the first n of these edges
pub record AreEnds (way : Way) (net : NetRows) (edges ends : List ℕ) (n : ℕ) : Type 0 where
  pub within : n ≤ length edges
  pub size : length ends ≡ n
  pub named : (k : ℕ) → k < n → end_by way net (slice_index edges k) ≡ Some (slice_index ends k)
  pub in_range : (k : ℕ) → k < n → slice_index ends k < length net.tasks

-- of each edge the task at its end, by the edge's number
pub record AreEndsByEdge (way : Way) (net : NetRows) (ends : List ℕ) : Type 0 where
  pub size : length ends ≡ length net.edges
  pub named : (e : ℕ) → e < length net.edges → end_by way net e ≡ Some (slice_index ends e)
  pub in_range : (e : ℕ) → e < length net.edges → slice_index ends e < length net.tasks
