-- How entries are counted in rows.
use Rattle.std.specs.Prelude.{◌≡◌, ℕ, ◌+◌, ◌<◌, ◌≤◌, ◌^◌, ◌==◌, List, [], ◌∷◌, length, slice_index_or, filter, if◌then◌else◌}
use Rattle.journal_rules.specs.declared.entry.Entry.{Entry}
use Rattle.profile_table.specs.declared.row.TableRow.{TableRow}
use Rattle.profile_table.specs.Profiles.{is_of_task, kind_counts, no_counts, row_plus}

-- no number of a row is greater than this
pub record IsAtMost (most : ℕ) (row : TableRow) : Type 0 where
  pub starts : row.starts ≤ most
  pub ends : row.ends ≤ most
  pub faults : row.faults ≤ most
  pub drops : row.drops ≤ most

-- each number of a row can be raised so often
pub record CanRise (times : ℕ) (row : TableRow) : Type 0 where
  pub starts : row.starts + times < 2 ^ 64
  pub ends : row.ends + times < 2 ^ 64
  pub faults : row.faults + times < 2 ^ 64
  pub drops : row.drops + times < 2 ^ 64

-- the row of a task, where it has one
abbrev pub row_at : List TableRow → ℕ → TableRow
row_at rows t = slice_index_or rows t no_counts

-- One entry was counted in the row of its task, where it has one.
pub record CountsOne (task : ℕ) (entry : Entry) (old new : List TableRow) : Type 0 where
  pub len : length new ≡ length old
  pub each : (t : ℕ) → t < length old → row_at new t ≡ (if task == t then row_plus (row_at old t) (kind_counts (entry ∷ [])) else row_at old t)

-- These entries of a journal were counted, each in the row of its task, where it has one.
pub record Counts (journal entries : List Entry) (old new : List TableRow) : Type 0 where
  pub len : length new ≡ length old
  pub each : (t : ℕ) → t < length old → row_at new t ≡ row_plus (row_at old t) (kind_counts (filter (is_of_task journal t) entries))
