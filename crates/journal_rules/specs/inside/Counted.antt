-- What a machine and the judge count in a journal.
use Rattle.std.specs.Prelude.{◌≡◌, ℕ, ◌<◌, ◌≤◌, ◌^◌, ◌==◌, not, Bool, List, length, count_by, slice_index_or}
use Rattle.task_graph.specs.NetRows.{NetRows}
use Rattle.journal_rules.specs.declared.entry.Entry.{Entry}
use Rattle.journal_rules.specs.declared.counts.Counts.{Counts}
use Rattle.journal_rules.specs.Counts.{starts, faults, is_open}
use Rattle.journal_rules.specs.HaltLimitStuckRule.{is_stuck}
use Rattle.journal_rules.specs.Complete.{is_limited}
use Rattle.journal_rules.specs.inside.Reached.{IsReached}
use Rattle.journal_rules.specs.inside.Releases.{CountsReleases, AreFew}
use Rattle.journal_rules.specs.inside.Units.{CountsUnits, AreSmall}

-- a flag for each place, and perhaps for some past the end, where no Start is open
pub record CountsOpen (journal : List Entry) (flags : List Bool) : Type 0 where
  pub room : length journal ≤ length flags
  pub each : (n : ℕ) (d : Bool) → n < length flags → slice_index_or flags n d ≡ is_open journal n

-- the counts are those of the journal
pub record IsCounted (net : NetRows) (journal : List Entry) (counts : Counts) : Type 0 where
  pub releases : CountsReleases net journal counts.releases
  pub units : CountsUnits net journal counts.units.counts.items
  pub opened : CountsOpen journal counts.open_starts
  pub starts : counts.starts ≡ starts journal
  pub faults : counts.faults ≡ faults journal
  pub stuck : counts.is_stuck ≡ not (count_by is_stuck journal == 0)
  pub limited : counts.is_limited ≡ not (count_by is_limited journal == 0)

-- counts far below what a number holds
pub record CanGrow (net : NetRows) (counts : Counts) : Type 0 where
  pub few : AreFew net counts.releases
  pub units_len : length counts.units.counts.items ≡ length net.sems
  pub small : AreSmall counts.units.counts.items
  pub starts : counts.starts < 2 ^ 62
  pub faults : counts.faults < 2 ^ 62

-- a shape-legal journal and its counts
pub record IsPosition (net : NetRows) (limit : ℕ) (journal : List Entry) (counts : Counts) : Type 0 where
  pub reached : IsReached net limit journal
  pub counted : IsCounted net journal counts
  pub grow : CanGrow net counts
