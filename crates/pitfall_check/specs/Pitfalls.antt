-- How a net with conditions can go wrong, whatever its tasks do.
use Rattle.std.specs.Prelude.{◌≡◌, ◌≢◌, ℕ, ◌<◌, false, [], length, slice_get, All, Contains, Option}
use Rattle.std.specs.Option.{option_map}
use Rattle.task_graph.specs.declared.net.EdgeRow.{EdgeRow}
use Rattle.task_graph.specs.NetRows.{NetRows}
use Rattle.task_graph.specs.Net.{strong_in, weak_in}
use Rattle.pitfall_check.specs.declared.finding.Finding.{Finding}
use Rattle.pitfall_check.specs.declared.finding.Finding.TheVariants.{NoSource, Mixed, ManyConditions, StrongCycle, NeverReached}
use Rattle.task_graph.specs.Sources.{HasNoSource}
use Rattle.pitfall_check.specs.Walks.{IsReachable, IsOnStrongCycle}

-- no edge of the net begins with a token
abbrev pub BeginsWithoutTokens : NetRows → Type 0
BeginsWithoutTokens net = All (λ (row : EdgeRow). row.start ≡ false) net.edges

-- the task that an edge leaves
abbrev pub edge_from : NetRows → ℕ → Option ℕ
edge_from net e = option_map (λ (row : EdgeRow). row.from) (slice_get net.edges e)

-- A task has strong and weak in-edges.
pub record IsMixed (net : NetRows) (t : ℕ) : Type 0 where
  pub strong : strong_in net t ≢ []
  pub weak : weak_in net t ≢ []

-- A task has weak in-edges from two different tasks.
pub record HasManyConditions (net : NetRows) (t : ℕ) : Type 0 where
  pub first : ℕ
  pub second : ℕ
  pub first_in : Contains (weak_in net t) first
  pub second_in : Contains (weak_in net t) second
  pub differ : edge_from net first ≢ edge_from net second

-- No walk leads from a source to a task.
pub record IsNeverReached (net : NetRows) (t : ℕ) : Type 0 where
  pub in_range : t < length net.tasks
  pub never : ¬ IsReachable net t

-- what a finding says of a net
abbrev pub IsPitfall : NetRows → Finding → Type 0
IsPitfall net NoSource = HasNoSource net
IsPitfall net (Mixed t) = IsMixed net t
IsPitfall net (ManyConditions t) = HasManyConditions net t
IsPitfall net (StrongCycle t) = IsOnStrongCycle net t
IsPitfall net (NeverReached t) = IsNeverReached net t
