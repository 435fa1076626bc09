-- What a check of a part of an entry says.
use Rattle.std.specs.Prelude.{ℕ, List, IsTrue}
use Rattle.task_graph.specs.NetRows.{NetRows}
use Rattle.journal_rules.specs.declared.entry.DropWhy.{DropWhy}
use Rattle.journal_rules.specs.declared.entry.Entry.{Entry}
use Rattle.legal_run.specs.declared.verdict.Break.{Break}
use Rattle.legal_run.specs.declared.verdict.Break.TheVariants.{NoSuch, AfterStuck, NotReleased, OverUnits, OverLimit, NotOpen, NotChosen, NothingOut, NotOver, NotHalted, NotStuck}
use Rattle.journal_rules.specs.HaltLimitStuckRule.{DropRule, is_stuck_why}
use Rattle.legal_run.specs.Refusal.{is_halted_why}

-- a Drop for this reason doesn't have it, and this break says so
abbrev pub BreaksWhy : NetRows → List Entry → ℕ → DropWhy → Break → Type 0
BreaksWhy net journal t why NoSuch = ⊥
BreaksWhy net journal t why AfterStuck = ⊥
BreaksWhy net journal t why NotReleased = ⊥
BreaksWhy net journal t why (OverUnits s) = ⊥
BreaksWhy net journal t why OverLimit = ⊥
BreaksWhy net journal t why NotOpen = ⊥
BreaksWhy net journal t why NotChosen = ⊥
BreaksWhy net journal t why (NothingOut s) = ⊥
BreaksWhy net journal t why NotOver = ⊥
BreaksWhy net journal t why NotHalted = IsTrue (is_halted_why why) × ¬ DropRule net journal t why
BreaksWhy net journal t why NotStuck = IsTrue (is_stuck_why why) × ¬ DropRule net journal t why
