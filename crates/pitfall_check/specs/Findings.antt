-- The findings of a net.
use Rattle.std.specs.Prelude.{ℕ, ◌+◌, ◌*◌, ◌^◌, ◌<◌, ◌↔◌, List, Contains, AllPairs}
use Rattle.task_graph.specs.NetRows.{NetRows}
use Rattle.pitfall_check.specs.declared.finding.Finding.{Finding}
use Rattle.pitfall_check.specs.declared.finding.Finding.TheVariants.{NoSource, Mixed, ManyConditions, StrongCycle, NeverReached}
use Rattle.pitfall_check.specs.Pitfalls.{IsPitfall}

-- the kinds of findings, numbered in their order
abbrev pub finding_kind : Finding → ℕ
finding_kind NoSource = 0
finding_kind (Mixed t) = 1
finding_kind (ManyConditions t) = 2
finding_kind (StrongCycle t) = 3
finding_kind (NeverReached t) = 4

-- the task that a finding names; the lack of a source names none
abbrev pub finding_task : Finding → ℕ
finding_task NoSource = 0
finding_task (Mixed t) = t
finding_task (ManyConditions t) = t
finding_task (StrongCycle t) = t
finding_task (NeverReached t) = t

-- Findings are ordered by their kinds, and those of a kind by their tasks, whose numbers are below 2^32.
abbrev pub finding_key : Finding → ℕ
finding_key f = finding_kind f * 2 ^ 32 + finding_task f

-- the findings are in order, none twice, and there is one for each pitfall of the net and for nothing else
pub record AreFindings (net : NetRows) (findings : List Finding) : Type 0 where
  pub ordered : AllPairs (λ f g. finding_key f < finding_key g) findings
  pub exact : (f : Finding) → Contains findings f ↔ IsPitfall net f
