use Rattle.std.proofs.Common.{arith, refl, ◌≡◌, ◌↔◌, ◌≤◌, ◌-◌, ◌==◌, ℕ, List, [], ◌∷◌, length, if◌then◌else◌}
use Rattle.task_graph.specs.Net.{in_edges, strong_in}
use Rattle.journal_rules.specs.Counts.{given, used, used_source}
use Rattle.journal_rules.proofs.ReleaseLaws.{below_least, below_each}
use Rattle.journal_rules.proofs.laws.releases_left_are_allowed.Goals as goal

-- a source has a release as long as none was used
source_left : (es : List ℕ) (u : ℕ) → ((es ≡ []) × (u ≡ 0)) ↔ (1 ≤ (if length es == 0 then 1 - u else 0))
source_left [] u = (λ released. omega (arith, released.1), λ left. (refl, omega arith))
source_left (e ∷ es) u = (λ released. absurd (cc (released.0)), λ left. grind (arith, left))

pub returns-clause-source : goal.returns-clause-source
returns-clause-source c = λ net journal t. source_left (in_edges net t) (used_source t journal)

pub returns-clause-strong : goal.returns-clause-strong
returns-clause-strong c = λ net journal t. (
  λ released. omega (arith, below_each (λ e. given net e journal) (used t journal) (strong_in net t) released),
  λ left. below_least (λ e. given net e journal) (used t journal) (strong_in net t) (omega arith),
)

pub returns-clause-weak : goal.returns-clause-weak
returns-clause-weak c = λ net journal t e weak to. (λ released. omega (arith, released.2), λ left. (weak, to, omega arith))
