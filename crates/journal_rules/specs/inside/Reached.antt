-- What a shape-legal journal is besides.
use Rattle.std.specs.Prelude.{◌≡◌, ℕ, ◌≤◌, ◌<◌, List, [], Some, length, count_by, slice_get}
use Rattle.std.specs.List.{AllByRecursion}
use Rattle.task_graph.specs.NetRows.{NetRows}
use Rattle.task_graph.specs.Net.{IsNet, IsTaskOf, strong_in}
use Rattle.task_graph.specs.declared.net.TaskRow.{TaskRow}
use Rattle.journal_rules.specs.declared.entry.Entry.{Entry}
use Rattle.journal_rules.specs.declared.entry.Entry.TheVariants.{Start, End, Fault, Drop}
use Rattle.journal_rules.specs.Counts.{given, used, start_at, closes}
use Rattle.journal_rules.specs.Calm.{used_at}
use Rattle.journal_rules.specs.SemaphoreRule.{UnitsInBounds}
use Rattle.journal_rules.specs.ShapeLegal.{ShapeLegal}

-- an End or a Fault names a place below n
abbrev pub ClosesBelow : ℕ → Entry → Type 0
ClosesBelow n (Start task cause ins) = Unit {0}
ClosesBelow n (End start gives inner) = start < n
ClosesBelow n (Fault start why) = start < n
ClosesBelow n (Drop task cause why) = Unit {0}

-- A shape-legal journal of a well-formed net. Each End and Fault names a place of the journal, the units of each
-- semaphore are within their bounds, no edge was used more often than it was given, and no task without a strong
-- in-edge has used a strong release.
pub record IsReached (net : NetRows) (limit : ℕ) (journal : List Entry) : Type 0 where
  pub rows : IsNet net
  pub legal : ShapeLegal net limit journal
  pub closes_below : AllByRecursion (ClosesBelow (length journal)) journal
  pub within : (s : ℕ) → s < length net.sems → UnitsInBounds net journal s
  pub held : (e : ℕ) → used_at net e journal ≤ given net e journal
  pub unused : (t : ℕ) → strong_in net t ≡ [] → used t journal ≡ 0

-- an open Start of the task stands at the place
pub record ClosesTask (journal : List Entry) (place t : ℕ) : Type 0 where
  pub started : start_at journal place ≡ Some t
  pub unclosed : count_by (closes place) journal ≡ 0

-- the row of the task stands in the net and is well formed
pub record IsRowOf (net : NetRows) (t : ℕ) (row : TaskRow) : Type 0 where
  pub stands : slice_get net.tasks t ≡ Some row
  pub well_formed : IsTaskOf net row
