-- Nets of parts that are worked on side by side.
use Rattle.std.specs.Prelude.{◌≡◌, ℕ, ◌<◌, ◌≤◌, [], replicate}
use Rattle.task_graph.specs.NetRows.{NetRows}
use Rattle.task_graph.specs.declared.net.Shape.TheVariants.{Plain}
use Rattle.task_graph.specs.declared.net.TaskRow.{TaskRow}
use Rattle.nested_runs.specs.declared.spread.SpreadError.{SpreadError}
use Rattle.nested_runs.specs.declared.spread.SpreadError.TheVariants.{TooWide, NoMemory}

-- how many parts a spread may have
abbrev pub part_limit : ℕ
part_limit = 65536

-- a plain task that needs no unit
abbrev pub part_row : TaskRow
part_row = record { shape = Plain; takes = []; puts = [] }

-- so many of these, without edges
abbrev pub spread_net : ℕ → NetRows
spread_net parts = record { tasks = replicate parts part_row; edges = []; sems = [] }

-- There are no more parts than a spread may have, and the net is theirs.
pub record IsSpreadNet (parts : ℕ) (net : NetRows) : Type 0 where
  pub few : parts ≤ part_limit
  pub rows : net ≡ spread_net parts

-- Why a spread is refused. `TooWide` is returned exactly where there are too many parts.
abbrev pub RefusesSpread : ℕ → SpreadError → Type 0
RefusesSpread parts (TooWide n) = (n ≡ parts) × (part_limit < parts)
RefusesSpread parts NoMemory = parts ≤ part_limit
