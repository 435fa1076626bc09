-- How often each release was given and used, as it is counted.
use Rattle.std.specs.Prelude.{◌≡◌, ◌≢◌, ℕ, ◌<◌, ◌^◌, ◌==◌, ◌&&◌, Bool, false, List, [], length, map, All, IsTrue, slice_index, slice_index_or}
use Rattle.std.specs.List.{list_any}
use Rattle.task_graph.specs.NetRows.{NetRows}
use Rattle.task_graph.specs.Net.{IsSource, is_weak, strong_in}
use Rattle.journal_rules.specs.declared.entry.Cause.{Cause}
use Rattle.journal_rules.specs.declared.entry.Entry.{Entry}
use Rattle.journal_rules.specs.declared.rounds.Round.{Round}
use Rattle.journal_rules.specs.declared.releases.Releases.{Releases}
use Rattle.journal_rules.specs.Counts.{given, gives_edge, used, used_weak, used_source, uses, uses_any}
use Rattle.journal_rules.specs.DataRule.{edges_of}
use Rattle.journal_rules.specs.Complete.{least}
use Rattle.journal_rules.specs.Waiting.{uses_edge}
use Rattle.journal_rules.specs.inside.Tells.{Tells}
use Rattle.journal_rules.specs.inside.Rounds.{AreRounds}

-- the counts are those of the journal
pub record CountsReleases (net : NetRows) (journal : List Entry) (counts : Releases) : Type 0 where
  pub given : Tells (λ e. given net e journal) counts.rounds.given.items (length net.edges)
  pub rounds : AreRounds net counts.rounds
  pub weak : Tells (λ e. used_weak e journal) counts.used_weak.items (length net.edges)
  pub used : Tells (λ t. used t journal) counts.used.items (length net.tasks)
  pub sources : Tells (λ t. used_source t journal) counts.used_source.items (length net.tasks)

-- there is a count for each edge and task, far below what a number holds
pub record AreFew (net : NetRows) (counts : Releases) : Type 0 where
  pub rounds : AreRounds net counts.rounds
  pub given : All (λ n. n < 2 ^ 62) counts.rounds.given.items
  pub weak_len : length counts.used_weak.items ≡ length net.edges
  pub weak : All (λ n. n < 2 ^ 62) counts.used_weak.items
  pub used_len : length counts.used.items ≡ length net.tasks
  pub used : All (λ n. n < 2 ^ 62) counts.used.items
  pub source_len : length counts.used_source.items ≡ length net.tasks
  pub source : All (λ n. n < 2 ^ 62) counts.used_source.items

-- an entry that uses this release and gives no edge: a Start or a Drop
pub record IsUseOf (t : ℕ) (cause : Cause) (entry : Entry) : Type 0 where
  pub by_task : (by : Cause → Bool) (r : ℕ) → uses by r entry ≡ ((t == r) && by cause)
  pub by_any : (by : Cause → Bool) → uses_any by entry ≡ by cause
  pub edges : (net : NetRows) (e : ℕ) → uses_edge net e entry ≡ list_any (λ f. f == e) (edges_of net t cause)
  pub no_gift : (e : ℕ) → gives_edge e entry ≡ false

-- an entry that uses no release
pub record IsNoUse (entry : Entry) : Type 0 where
  pub by_task : (by : Cause → Bool) (r : ℕ) → uses by r entry ≡ false
  pub by_any : (by : Cause → Bool) → uses_any by entry ≡ false
  pub edges : (net : NetRows) (e : ℕ) → uses_edge net e entry ≡ false

-- the release of a source task is used
abbrev pub SourceIsUsed : NetRows → List Entry → ℕ → Type 0
SourceIsUsed net journal t = IsSource net t → used_source t journal ≡ 1

-- each round of tokens on the strong in-edges of a task is used
abbrev pub RoundsAreUsed : NetRows → List Entry → ℕ → Type 0
RoundsAreUsed net journal t = strong_in net t ≢ [] → used t journal ≡ least (map (λ e. given net e journal) (strong_in net t))

-- each token of a weak edge is used
abbrev pub WeakIsUsed : NetRows → List Entry → ℕ → Type 0
WeakIsUsed net journal e = IsTrue (is_weak net e) → used_weak e journal ≡ given net e journal

-- no release is left
pub record NoneLeft (net : NetRows) (journal : List Entry) : Type 0 where
  pub tasks : (t : ℕ) → t < length net.tasks → SourceIsUsed net journal t × RoundsAreUsed net journal t
  pub edges : (e : ℕ) → e < length net.edges → WeakIsUsed net journal e

-- the round of no edges
abbrev pub no_round : Round
no_round = record { least = 0; at_least = 0 }

-- the same by the counts
abbrev pub SourceUsed : NetRows → Releases → ℕ → Type 0
SourceUsed net counts t = IsSource net t → slice_index counts.used_source.items t ≡ 1

abbrev pub RoundsUsed : Releases → ℕ → Type 0
RoundsUsed counts t = slice_index counts.used.items t ≡ (slice_index_or counts.rounds.by_task.items t no_round).least

abbrev pub WeakUsed : NetRows → Releases → ℕ → Type 0
WeakUsed net counts e = IsTrue (is_weak net e) → slice_index counts.used_weak.items e ≡ slice_index counts.rounds.given.items e

pub record AreUsedUp (net : NetRows) (counts : Releases) : Type 0 where
  pub sources : (t : ℕ) → t < length net.tasks → SourceUsed net counts t
  pub rounds : (t : ℕ) → t < length net.tasks → RoundsUsed counts t
  pub edges : (e : ℕ) → e < length net.edges → WeakUsed net counts e
