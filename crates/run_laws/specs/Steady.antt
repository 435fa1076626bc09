-- Journals in which no token is overtaken.
use Rattle.std.specs.Prelude.{◌≡◌, ℕ, Bool, false, ◌==◌, ◌&&◌, List, count_by, length}
use Rattle.std.specs.List.{AllByRecursion, range_with_len}
use Rattle.task_graph.specs.NetRows.{NetRows}
use Rattle.journal_rules.specs.declared.entry.Entry.{Entry}
use Rattle.journal_rules.specs.declared.entry.Entry.TheVariants.{Start, End, Fault, Drop}
use Rattle.journal_rules.specs.Counts.{start_at, is_open}
use Rattle.journal_rules.specs.Calm.{IsCalm}
use Rattle.journal_rules.specs.Complete.{EachEdge}
use Rattle.journal_rules.specs.Entries.{EachAfter}
use Rattle.run_laws.specs.Ends.{is_task}

-- whether a Start of the task is open at a place
abbrev pub runs_at : ℕ → List Entry → ℕ → Bool
runs_at t journal n = is_task t (start_at journal n) && is_open journal n

-- whether an entry is a Drop of the task, or a Fault of one of its Starts
abbrev pub stops : ℕ → (ℕ → Bool) → Entry → Bool
stops t is_its (Start task cause ins) = false
stops t is_its (End start gives inner) = false
stops t is_its (Fault start why) = is_its start
stops t is_its (Drop task cause why) = task == t

-- A task may start: no Start of it is open, and no Drop or Fault of it stands.
pub record MayStart (t : ℕ) (journal : List Entry) : Type 0 where
  pub none_open : AllByRecursion (λ n. runs_at t journal n ≡ false) (range_with_len 0 (length journal))
  pub none_stopped : count_by (stops t (λ n. is_task t (start_at journal n))) journal ≡ 0

abbrev pub StartRule : List Entry → Entry → Type 0
StartRule journal (Start task cause ins) = MayStart task journal
StartRule journal (End start gives inner) = Unit {0}
StartRule journal (Fault start why) = Unit {0}
StartRule journal (Drop task cause why) = Unit {0}

-- A journal is steady where every edge is calm in it, and each Start comes only where no Start of its task is
-- open and no Drop or Fault of its task stands.
pub record Steady (net : NetRows) (journal : List Entry) : Type 0 where
  pub calm : EachEdge net (λ e. IsCalm net e journal)
  pub single : EachAfter StartRule journal
