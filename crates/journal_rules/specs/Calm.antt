-- Edges that never hold more than one token.
use Rattle.std.specs.Prelude.{ℕ, ◌+◌, ◌≤◌, List, length, take, slice_get, if◌then◌else◌}
use Rattle.std.specs.Option.{option_map_or}
use Rattle.std.specs.List.{AllByRecursion, range_with_len}
use Rattle.task_graph.specs.NetRows.{NetRows}
use Rattle.task_graph.specs.Net.{is_weak}
use Rattle.task_graph.specs.declared.net.EdgeRow.{EdgeRow}
use Rattle.journal_rules.specs.declared.entry.Entry.{Entry}
use Rattle.journal_rules.specs.Counts.{given, used, used_weak}

-- how many tokens of an edge were used: of a weak edge by itself, of a strong one by its target's strong releases
abbrev pub used_at : NetRows → ℕ → List Entry → ℕ
used_at net e journal =
    if is_weak net e then used_weak e journal else option_map_or (λ (row : EdgeRow). used row.to journal) (slice_get net.edges e) 0

-- An edge is calm where in each prefix at most one of its tokens is given and not used.
abbrev pub IsCalm : NetRows → ℕ → List Entry → Type 0
IsCalm net e journal =
    AllByRecursion (λ n. given net e (take n journal) ≤ used_at net e (take n journal) + 1) (range_with_len 0 (length journal + 1))
