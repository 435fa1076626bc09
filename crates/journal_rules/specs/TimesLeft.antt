-- How often a release can still be used.
use Rattle.std.specs.Prelude.{ℕ, ◌-◌, ◌==◌, List, length, map, if◌then◌else◌}
use Rattle.task_graph.specs.NetRows.{NetRows}
use Rattle.task_graph.specs.Net.{in_edges, strong_in}
use Rattle.journal_rules.specs.declared.entry.Cause.{Cause}
use Rattle.journal_rules.specs.declared.entry.Cause.TheVariants.{Source, Strong, Weak}
use Rattle.journal_rules.specs.declared.entry.Entry.{Entry}
use Rattle.journal_rules.specs.Counts.{given, used, used_weak, used_source}
use Rattle.journal_rules.specs.Complete.{least}

-- A source task has one in all; a task has as many by its strong
-- in-edges as the least of them was given tokens; a weak edge as many as it was given.
abbrev pub times_left : NetRows → List Entry → ℕ → Cause → ℕ
times_left net journal t Source = if length (in_edges net t) == 0 then 1 - used_source t journal else 0
times_left net journal t Strong = least (map (λ e. given net e journal) (strong_in net t)) - used t journal
times_left net journal t (Weak e) = given net e journal - used_weak e journal
