-- What waits at the edges, where one thread keeps the journal.
use Rattle.std.specs.Prelude.{◌≡◌, ℕ, ◌<◌, ◌≤◌, List, length, count_by}
use Rattle.task_graph.specs.NetRows.{NetRows}
use Rattle.journal_rules.specs.declared.entry.Entry.{Entry}
use Rattle.journal_rules.specs.declared.entry.Part.{Part}
use Rattle.journal_rules.specs.Counts.{given}
use Rattle.journal_rules.specs.Calm.{IsCalm, used_at}
use Rattle.journal_rules.specs.DataRule.{MayFind, last_part, has_part, is_from}
use Rattle.journal_rules.specs.Waiting.{waiting}
use Rattle.journal_rules.specs.inside.Tells.{Tells}

-- by edge, what waits
abbrev pub TellsWaiting : NetRows → List Entry → List Part → Type 0
TellsWaiting net journal parts = Tells (λ e. waiting net e journal) parts (length net.edges)

-- What waits at an edge may be found there; where the edge is calm and holds a token it is the last one given;
-- and no Start has found an End that is still to come.
pub record Waits (net : NetRows) (journal : List Entry) (e : ℕ) : Type 0 where
  pub found : MayFind net journal e (waiting net e journal)
  pub last : IsCalm net e journal → used_at net e journal < given net e journal → waiting net e journal ≡ last_part e journal
  pub to_come : (n : ℕ) → length journal ≤ n → count_by (has_part net e (is_from n)) journal ≡ 0
