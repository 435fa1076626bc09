-- Which graphs have nothing to begin with.
use Rattle.std.specs.Prelude.{ℕ, ◌<◌, length, slice_index_or, Option, Some, None}
use Rattle.task_graph.specs.Sources.{HasNoSource}
use Rattle.graph_plans.specs.declared.spots.Spot.{Spot}
use Rattle.graph_plans.specs.declared.spots.Spot.TheVariants.{File, Sem, Task, Module, ModuleSem, ModuleTask}
use Rattle.graph_plans.specs.PlanRows.{GraphRows, PlanRows}

-- no graph before module m is without a source
pub record SourcesBefore (plan : PlanRows) (m : ℕ) : Type 0 where
  pub top : ¬ HasNoSource plan.top.net
  pub modules : (k : ℕ) (d : GraphRows) → k < m → ¬ HasNoSource (slice_index_or plan.modules k d).net

-- the answer is the first graph without a source, the top one first; or each has one
abbrev pub NoSourceAnswer : PlanRows → Option Spot → Type 0
NoSourceAnswer plan None = SourcesBefore plan (length plan.modules)
NoSourceAnswer plan (Some File) = HasNoSource plan.top.net
NoSourceAnswer plan (Some (Module m)) = (m < length plan.modules) × SourcesBefore plan m × ((d : GraphRows) → HasNoSource (slice_index_or plan.modules m d).net)
NoSourceAnswer plan (Some (Sem s)) = ⊥
NoSourceAnswer plan (Some (Task t)) = ⊥
NoSourceAnswer plan (Some (ModuleSem m s)) = ⊥
NoSourceAnswer plan (Some (ModuleTask m t)) = ⊥
