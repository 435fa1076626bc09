-- Nets whose edges are all strong and begin without a token.
use Rattle.std.specs.Prelude.{◌≡◌, ℕ, false}
use Rattle.task_graph.specs.NetRows.{NetRows}
use Rattle.task_graph.specs.Net.{is_weak}
use Rattle.journal_rules.specs.Counts.{first_tokens}

-- No edge is weak, and none begins with a token: in a shape-legal journal each edge is given one token at most, and
-- each task has at most one Start or Drop.
pub record IsOnceNet (net : NetRows) : Type 0 where
  pub strong : (e : ℕ) → is_weak net e ≡ false
  pub no_first : (e : ℕ) → first_tokens net e ≡ 0
