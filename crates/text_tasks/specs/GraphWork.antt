-- What a graph's job is to its callers.
use Rattle.std.specs.Prelude.{◌≡◌, ℕ, ◌<◌, ◌≤◌, List, [], length, All, Option, None, Some, IfSome, slice_index_or}
use Rattle.graph_plans.specs.PlanRows.{GraphRows, PlanRows, IsPlan}
use Rattle.text_tasks.specs.ValueTexts.{IsValueText}

-- A plan with the texts that it names, of which a graph is run: the top one, or a module's. The graph is started with
-- a text, and its run has at most so many starts.
pub record GraphWork : Type 0 where
  pub plan : PlanRows
  pub texts : List (List ℕ)
  pub «module» : Option ℕ
  pub input : List ℕ
  pub limit : ℕ

-- the work of a plan's top graph, started with the empty text
abbrev pub first_work : PlanRows → List (List ℕ) → ℕ → GraphWork
first_work plan texts limit = record { plan = plan; texts = texts; «module» = None; input = []; limit = limit }

-- the work of a module's graph, started with this text
abbrev pub module_work : GraphWork → ℕ → List ℕ → GraphWork
module_work work m text = record work { «module» = Some m; input = text }

-- a graph of a plan: the top one, or that of a module
abbrev pub graph_in : PlanRows → Option ℕ → GraphRows
graph_in plan None = plan.top
graph_in plan (Some m) = slice_index_or plan.modules m plan.top

-- the graph that is run
abbrev pub graph_of : GraphWork → GraphRows
graph_of work = graph_in work.plan work.«module»

-- the greatest number to which the starts of a run may be limited
abbrev pub greatest_limit : ℕ
greatest_limit = 1000000

-- The plan keeps its rules, there is a text for each name in it, and each text may be a value; the module is one of the
-- plan's.
pub record IsWork (work : GraphWork) : Type 0 where
  pub plan : IsPlan work.plan
  pub text_count : length work.texts ≡ length work.plan.texts
  pub texts : All IsValueText work.texts
  pub input : IsValueText work.input
  pub in_plan : IfSome work.«module» (λ m. m < length work.plan.modules)
  pub starts : work.limit ≤ greatest_limit
