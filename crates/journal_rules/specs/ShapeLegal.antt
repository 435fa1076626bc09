-- Journals that are legal as far as the net alone decides.
use Rattle.std.specs.Prelude.{ℕ, ◌<◌, List, length}
use Rattle.std.specs.List.{AllByRecursion}
use Rattle.task_graph.specs.NetRows.{NetRows}
use Rattle.journal_rules.specs.declared.entry.Cause.{Cause}
use Rattle.journal_rules.specs.declared.entry.Cause.TheVariants.{Source, Strong, Weak}
use Rattle.journal_rules.specs.declared.entry.Why.{Why}
use Rattle.journal_rules.specs.declared.entry.Why.TheVariants.{Long, Wide, Unmet, Inner, OverRelease}
use Rattle.journal_rules.specs.declared.entry.DropWhy.{DropWhy}
use Rattle.journal_rules.specs.declared.entry.DropWhy.TheVariants.{Halted, Limit, Stuck}
use Rattle.journal_rules.specs.declared.entry.Entry.{Entry}
use Rattle.journal_rules.specs.declared.entry.Entry.TheVariants.{Start, End, Fault, Drop}
use Rattle.journal_rules.specs.Entries.{EachAfter}
use Rattle.journal_rules.specs.ReleaseRule.{ReleaseRule}
use Rattle.journal_rules.specs.ClosingRule.{ClosingRule}
use Rattle.journal_rules.specs.ChoiceRule.{ChoiceRule}
use Rattle.journal_rules.specs.SemaphoreRule.{SemaphoreRule}
use Rattle.journal_rules.specs.HaltLimitStuckRule.{HaltLimitStuckRule}
use Rattle.journal_rules.specs.DataRule.{DataRule}

-- the weak edge of a cause is one of the net's
abbrev pub CauseInRange : NetRows → Cause → Type 0
CauseInRange net Source = Unit {0}
CauseInRange net Strong = Unit {0}
CauseInRange net (Weak e) = e < length net.edges

-- so is the semaphore of a fault
abbrev pub WhyInRange : NetRows → Why → Type 0
WhyInRange net (Long n) = Unit {0}
WhyInRange net (Wide n) = Unit {0}
WhyInRange net (Unmet k) = Unit {0}
WhyInRange net Inner = Unit {0}
WhyInRange net (OverRelease s) = s < length net.sems

-- and that of a drop
abbrev pub DropWhyInRange : NetRows → DropWhy → Type 0
DropWhyInRange net Halted = Unit {0}
DropWhyInRange net Limit = Unit {0}
DropWhyInRange net (Stuck s) = s < length net.sems

-- each number of a task, an edge or a semaphore is one of the net's
abbrev pub IsInRange : NetRows → Entry → Type 0
IsInRange net (Start task cause ins) = (task < length net.tasks) × CauseInRange net cause
IsInRange net (End start gives inner) = AllByRecursion (λ e. e < length net.edges) gives
IsInRange net (Fault start why) = WhyInRange net why
IsInRange net (Drop task cause why) = (task < length net.tasks) × CauseInRange net cause × DropWhyInRange net why

-- The entry may follow these entries, as far as the net and the limit decide.
pub record MayFollow (net : NetRows) (limit : ℕ) (journal : List Entry) (entry : Entry) : Type 0 where
  pub in_range : IsInRange net entry
  pub release : ReleaseRule net journal entry
  pub closing : ClosingRule journal entry
  pub choice : ChoiceRule net journal entry
  pub semaphore : SemaphoreRule net journal entry
  pub halt_limit_stuck : HaltLimitStuckRule net limit journal entry

-- A journal is shape-legal where each entry may follow the entries before it.
abbrev pub ShapeLegal : NetRows → ℕ → List Entry → Type 0
ShapeLegal net limit journal = EachAfter (MayFollow net limit) journal

-- each Start finds what it may
abbrev pub MeetsDataRule : NetRows → List Entry → Type 0
MeetsDataRule net journal = EachAfter (DataRule net) journal
