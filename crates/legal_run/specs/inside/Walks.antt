-- A walk over a journal, from entry to entry.
use Rattle.std.specs.Prelude.{◌≡◌, ℕ, List, [], ◌∷◌, ◌++◌, length, Result, MatchResult}
use Rattle.task_graph.specs.NetRows.{NetRows}
use Rattle.journal_rules.specs.declared.entry.Entry.{Entry}
use Rattle.legal_run.specs.declared.verdict.Break.{Break}
use Rattle.legal_run.specs.declared.walk.Walk.{Walk}
use Rattle.legal_run.specs.Refusal.{IsRefusal}
use Rattle.journal_rules.specs.inside.Reached.{IsReached}
use Rattle.journal_rules.specs.inside.Counted.{IsCounted}

-- the entries so far may stand where they stand, and are counted
pub record IsAt (net : NetRows) (limit : ℕ) (before : List Entry) (walk : Walk) : Type 0 where
  pub reached : IsReached net limit before
  pub counted : IsCounted net before walk.counts
  pub marks_are : walk.marks ≡ length net.edges

-- the walk goes past an entry, or says which rule the entry breaks
abbrev pub Walks : NetRows → ℕ → Walk → List Entry → Entry → Result (Unit {0}) Break → Type 0
Walks net limit new before entry answer =
    MatchResult answer (λ _. IsAt net limit (before ++ entry ∷ []) new) (λ break. IsRefusal net limit before entry break)
