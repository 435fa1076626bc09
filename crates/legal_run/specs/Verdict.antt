-- What the judge says of a journal.
use Rattle.std.specs.Prelude.{ℕ, List, take, slice_get, IsSomeAnd}
use Rattle.task_graph.specs.NetRows.{NetRows}
use Rattle.journal_rules.specs.declared.entry.Entry.{Entry}
use Rattle.legal_run.specs.declared.verdict.Verdict.{Verdict}
use Rattle.legal_run.specs.declared.verdict.Verdict.TheVariants.{Complete as Finished, Legal, Breaks}
use Rattle.journal_rules.specs.ShapeLegal.{ShapeLegal}
use Rattle.journal_rules.specs.Complete.{Complete}
use Rattle.legal_run.specs.Refusal.{IsRefusal}

-- Complete: the journal is legal as far as the net decides, and that of a finished run.
-- Legal: it is legal, and the run isn't finished.
-- Breaks: so are its first n entries, and the entry after them is refused for this break.
abbrev pub IsVerdict : NetRows → ℕ → List Entry → Verdict → Type 0
IsVerdict net limit journal Finished = ShapeLegal net limit journal × Complete net limit journal
IsVerdict net limit journal Legal = ShapeLegal net limit journal × ¬ Complete net limit journal
IsVerdict net limit journal (Breaks n break) =
    ShapeLegal net limit (take n journal)
    × IsSomeAnd (slice_get journal n) (λ entry. IsRefusal net limit (take n journal) entry break)
