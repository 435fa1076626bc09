-- The findings of a net while they are listed.
use Rattle.std.specs.Prelude.{ℕ, ◌<◌, ◌↔◌, List, Contains, AllPairs}
use Rattle.task_graph.specs.NetRows.{NetRows}
use Rattle.pitfall_check.specs.declared.finding.Finding.{Finding}
use Rattle.pitfall_check.specs.Pitfalls.{IsPitfall}
use Rattle.pitfall_check.specs.Findings.{finding_key}

-- these are the findings whose keys are below a number
pub record AreFindingsBelow (net : NetRows) (key : ℕ) (findings : List Finding) : Type 0 where
  pub ordered : AllPairs (λ f g. finding_key f < finding_key g) findings
  pub exact : (f : Finding) → Contains findings f ↔ (finding_key f < key) × IsPitfall net f
