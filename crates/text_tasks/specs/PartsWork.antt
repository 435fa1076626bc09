-- What a job of parts is to its callers.
use Rattle.std.specs.Prelude.{ℕ, ◌≤◌, List, length}
use Rattle.graph_plans.specs.declared.ops.TextOp.{TextOp}
use Rattle.nested_runs.specs.Spreads.{part_limit}

-- The parts of a text. Each is put through the operation by a task of its own, which has its number.
pub record PartsWork : Type 0 where
  pub parts : List (List ℕ)
  pub op : TextOp

-- there are no more than a run may have
abbrev pub IsPartsWork : PartsWork → Type 0
IsPartsWork work = length work.parts ≤ part_limit
