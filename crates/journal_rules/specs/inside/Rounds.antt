-- The least number of tokens that a task's strong in-edges were given, and how many of them were given no more.
use Rattle.std.specs.Prelude.{◌≡◌, ◌≢◌, ℕ, ◌+◌, ◌≤◌, ◌<◌, ◌==◌, List, [], length, count_by, slice_index, slice_index_or, slice_set, All}
use Rattle.task_graph.specs.NetRows.{NetRows}
use Rattle.task_graph.specs.Net.{strong_in}
use Rattle.journal_rules.specs.declared.rounds.Round.{Round}
use Rattle.journal_rules.specs.declared.rounds.Rounds.{Rounds}

-- The round of these edges, by what each edge was given.
pub record IsRound (given edges : List ℕ) (round : Round) : Type 0 where
  pub above : All (λ e. round.least ≤ slice_index given e) edges
  pub count : round.at_least ≡ count_by (λ e. slice_index given e == round.least) edges
  pub reached : edges ≢ [] → 1 ≤ round.at_least
  pub no_edge : edges ≡ [] → round.least ≡ 0

-- one of these edges, among which it stands once, is given a token more than `before`
pub record GivenOnce (old given edges : List ℕ) (e before : ℕ) : Type 0 where
  pub within : e < length old
  pub was : before ≡ slice_index old e
  pub now : given ≡ slice_set old e (before + 1)
  pub once : count_by (λ f. f == e) edges ≡ 1

-- each task has the round of its strong in-edges
pub record AreRounds (net : NetRows) (rounds : Rounds) : Type 0 where
  pub given_len : length rounds.given.items ≡ length net.edges
  pub len : length rounds.by_task.items ≡ length net.tasks
  pub each : (t : ℕ) (d : Round) → t < length net.tasks → IsRound rounds.given.items (strong_in net t) (slice_index_or rounds.by_task.items t d)
