-- Which rule an entry breaks after a journal, and which break is told where it breaks several.
use Rattle.std.specs.Prelude.{ℕ, ◌<◌, Bool, true, false, List, IsTrue, IsSomeAnd}
use Rattle.task_graph.specs.NetRows.{NetRows}
use Rattle.journal_rules.specs.declared.entry.DropWhy.{DropWhy}
use Rattle.journal_rules.specs.declared.entry.DropWhy.TheVariants.{Halted, Limit, Stuck}
use Rattle.journal_rules.specs.declared.entry.Entry.{Entry}
use Rattle.journal_rules.specs.declared.entry.Entry.TheVariants.{Start, End, Fault, Drop}
use Rattle.legal_run.specs.declared.verdict.Break.{Break}
use Rattle.legal_run.specs.declared.verdict.Break.TheVariants.{NoSuch, AfterStuck, NotReleased, OverUnits, OverLimit, NotOpen, NotChosen, NothingOut, NotOver, NotHalted, NotStuck}
use Rattle.journal_rules.specs.Counts.{starts, start_at}
use Rattle.journal_rules.specs.ReleaseRule.{ReleaseRule}
use Rattle.journal_rules.specs.ClosingRule.{ClosingRule}
use Rattle.journal_rules.specs.ChoiceRule.{ChoiceRule}
use Rattle.journal_rules.specs.SemaphoreRule.{UnitFaultRule}
use Rattle.journal_rules.specs.MissingUnits.{IsLeast, WantsUnit, PutsWithNothingOut}
use Rattle.journal_rules.specs.HaltLimitStuckRule.{AfterStuckRule, DropRule, is_stuck_why}
use Rattle.journal_rules.specs.ShapeLegal.{IsInRange}

-- the entry is a Start, and this is the least semaphore that its task takes and that has no unit
abbrev pub StartsWithoutUnit : NetRows → List Entry → Entry → ℕ → Type 0
StartsWithoutUnit net journal (Start task cause ins) s = IsLeast (WantsUnit net journal task) s
StartsWithoutUnit net journal (End start gives inner) s = ⊥
StartsWithoutUnit net journal (Fault start why) s = ⊥
StartsWithoutUnit net journal (Drop task cause why) s = ⊥

-- the entry is a Start, and all the starts were made
abbrev pub StartsAtLimit : ℕ → List Entry → Entry → Type 0
StartsAtLimit limit journal (Start task cause ins) = ¬ (starts journal < limit)
StartsAtLimit limit journal (End start gives inner) = ⊥
StartsAtLimit limit journal (Fault start why) = ⊥
StartsAtLimit limit journal (Drop task cause why) = ⊥

-- the entry is an End, and this is the least semaphore that the task of its start puts and of which nothing is out
abbrev pub EndsWithNothingOut : NetRows → List Entry → Entry → ℕ → Type 0
EndsWithNothingOut net journal (Start task cause ins) s = ⊥
EndsWithNothingOut net journal (End start gives inner) s =
    IsSomeAnd (start_at journal start) (λ t. IsLeast (PutsWithNothingOut net journal t) s)
EndsWithNothingOut net journal (Fault start why) s = ⊥
EndsWithNothingOut net journal (Drop task cause why) s = ⊥

-- whether a Drop says that a start has faulted
abbrev pub is_halted_why : DropWhy → Bool
is_halted_why Halted = true
is_halted_why Limit = false
is_halted_why (Stuck s) = false

-- the entry is a Drop for a reason that passes, and doesn't have that reason
abbrev pub DropsWithoutCause : (DropWhy → Bool) → NetRows → List Entry → Entry → Type 0
DropsWithoutCause is_why net journal (Start task cause ins) = ⊥
DropsWithoutCause is_why net journal (End start gives inner) = ⊥
DropsWithoutCause is_why net journal (Fault start why) = ⊥
DropsWithoutCause is_why net journal (Drop task cause why) = IsTrue (is_why why) × ¬ DropRule net journal task why

-- The entry breaks, after the journal, the rule that this break names.
abbrev pub Breaks : NetRows → ℕ → List Entry → Entry → Break → Type 0
Breaks net limit journal entry NoSuch = ¬ IsInRange net entry
Breaks net limit journal entry AfterStuck = ¬ AfterStuckRule journal entry
Breaks net limit journal entry NotReleased = ¬ ReleaseRule net journal entry
Breaks net limit journal entry (OverUnits s) = StartsWithoutUnit net journal entry s
Breaks net limit journal entry OverLimit = StartsAtLimit limit journal entry
Breaks net limit journal entry NotOpen = ¬ ClosingRule journal entry
Breaks net limit journal entry NotChosen = ¬ ChoiceRule net journal entry
Breaks net limit journal entry (NothingOut s) = EndsWithNothingOut net journal entry s
Breaks net limit journal entry NotOver = ¬ UnitFaultRule net journal entry
Breaks net limit journal entry NotHalted = DropsWithoutCause is_halted_why net journal entry
Breaks net limit journal entry NotStuck = DropsWithoutCause is_stuck_why net journal entry

-- the order in which breaks are told
abbrev pub rank : Break → ℕ
rank NoSuch = 0
rank AfterStuck = 1
rank NotReleased = 2
rank (OverUnits s) = 3
rank OverLimit = 4
rank NotOpen = 5
rank NotChosen = 6
rank (NothingOut s) = 7
rank NotOver = 8
rank NotHalted = 9
rank NotStuck = 10

-- The break that is told: the entry breaks this rule, and none before it in the order.
pub record IsRefusal (net : NetRows) (limit : ℕ) (journal : List Entry) (entry : Entry) (break : Break) : Type 0 where
  pub breaks : Breaks net limit journal entry break
  pub first : (other : Break) → rank other < rank break → ¬ Breaks net limit journal entry other
