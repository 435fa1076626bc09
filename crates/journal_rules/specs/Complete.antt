-- When a shape-legal journal is that of a finished run.
use Rattle.std.specs.Prelude.{◌≡◌, ◌≢◌, ℕ, min, Bool, true, false, List, [], ◌∷◌, length, map, count_by, fold, IsTrue}
use Rattle.std.specs.List.{AllByRecursion, range_with_len}
use Rattle.task_graph.specs.NetRows.{NetRows}
use Rattle.task_graph.specs.Net.{IsSource, is_weak, strong_in}
use Rattle.journal_rules.specs.declared.entry.DropWhy.{DropWhy}
use Rattle.journal_rules.specs.declared.entry.DropWhy.TheVariants.{Halted, Limit, Stuck}
use Rattle.journal_rules.specs.declared.entry.Entry.{Entry}
use Rattle.journal_rules.specs.declared.entry.Entry.TheVariants.{Start, End, Fault, Drop}
use Rattle.journal_rules.specs.Counts.{given, used, used_weak, used_source, starts, NoneOpen}

-- the least number of a list, and 0 of the empty one
abbrev pub least : List ℕ → ℕ
least [] = 0
least (n ∷ ns) = fold min n ns

-- a fact of each task
abbrev pub EachTask : NetRows → (ℕ → Type 0) → Type 0
EachTask net P = AllByRecursion P (range_with_len 0 (length net.tasks))

-- a fact of each edge
abbrev pub EachEdge : NetRows → (ℕ → Type 0) → Type 0
EachEdge net P = AllByRecursion P (range_with_len 0 (length net.edges))

-- whether a Drop says that all starts were made
abbrev pub is_limit_why : DropWhy → Bool
is_limit_why Halted = false
is_limit_why Limit = true
is_limit_why (Stuck s) = false

-- whether an entry is a Drop at the limit
abbrev pub is_limited : Entry → Bool
is_limited (Start task cause ins) = false
is_limited (End start gives inner) = false
is_limited (Fault start why) = false
is_limited (Drop task cause why) = is_limit_why why

-- What a shape-legal journal (`ShapeLegal`) is besides where its run is finished. Nothing runs and no release is
-- left: each source task's one release is used, each token of a weak edge, and each round of tokens on a task's
-- strong in-edges; and releases were dropped at the limit only where all the starts were made.
pub record Complete (net : NetRows) (limit : ℕ) (journal : List Entry) : Type 0 where
  pub none_open : NoneOpen journal
  pub sources : EachTask net (λ t. IsSource net t → used_source t journal ≡ 1)
  pub weak : EachEdge net (λ e. IsTrue (is_weak net e) → used_weak e journal ≡ given net e journal)
  pub strong : EachTask net (λ t. strong_in net t ≢ [] → used t journal ≡ least (map (λ e. given net e journal) (strong_in net t)))
  pub limited : count_by is_limited journal ≢ 0 → starts journal ≡ limit
