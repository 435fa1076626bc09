-- When a release may be used, by a Start or by a Drop.
use Rattle.std.specs.Prelude.{◌≡◌, ◌≢◌, ℕ, ◌+◌, ◌≤◌, List, [], slice_get, IsSomeAnd, IsTrue}
use Rattle.std.specs.List.{AllByRecursion}
use Rattle.task_graph.specs.NetRows.{NetRows}
use Rattle.task_graph.specs.Net.{IsSource, strong_in, is_weak}
use Rattle.task_graph.specs.declared.net.EdgeRow.{EdgeRow}
use Rattle.journal_rules.specs.declared.entry.Cause.{Cause}
use Rattle.journal_rules.specs.declared.entry.Cause.TheVariants.{Source, Strong, Weak}
use Rattle.journal_rules.specs.declared.entry.Entry.{Entry}
use Rattle.journal_rules.specs.declared.entry.Entry.TheVariants.{Start, End, Fault, Drop}
use Rattle.journal_rules.specs.Counts.{given, used, used_weak, used_source}

-- After this journal the task has a release of this cause that isn't used:
-- as a source task, which has one release in all;
-- by its strong in-edges, each of which was given more tokens than the task has used;
-- by a weak edge into it, which was given more tokens than were used of it.
abbrev pub IsReleased : NetRows → List Entry → ℕ → Cause → Type 0
IsReleased net journal t Source = IsSource net t × (used_source t journal ≡ 0)
IsReleased net journal t Strong =
    (strong_in net t ≢ []) × AllByRecursion (λ e. used t journal + 1 ≤ given net e journal) (strong_in net t)
IsReleased net journal t (Weak e) =
    IsTrue (is_weak net e)
    × IsSomeAnd (slice_get net.edges e) (λ (row : EdgeRow). row.to ≡ t)
    × (used_weak e journal + 1 ≤ given net e journal)

-- A Start or a Drop uses a release.
abbrev pub ReleaseRule : NetRows → List Entry → Entry → Type 0
ReleaseRule net journal (Start task cause ins) = IsReleased net journal task cause
ReleaseRule net journal (End start gives inner) = Unit {0}
ReleaseRule net journal (Fault start why) = Unit {0}
ReleaseRule net journal (Drop task cause why) = IsReleased net journal task cause
