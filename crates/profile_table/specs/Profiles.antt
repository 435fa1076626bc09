-- What the tasks of a graph did in runs of it.
use Rattle.std.specs.Prelude.{ℕ, ◌+◌, ◌<◌, ◌^◌, Bool, true, false, ◌==◌, Option, Some, List, [], length, map, filter, count_by, sum_by}
use Rattle.std.specs.Option.{option_map_or}
use Rattle.std.specs.List.{enumerate_from, flat_map, range_with_len}
use Rattle.journal_rules.specs.declared.entry.Entry.{Entry}
use Rattle.journal_rules.specs.declared.entry.Entry.TheVariants.{Start, End, Fault, Drop}
use Rattle.journal_rules.specs.Counts.{faults, start_at, starts}
use Rattle.profile_table.specs.declared.row.TableRow.{TableRow}

-- Kinds of entries.

-- whether an entry is an End
abbrev pub is_end : Entry → Bool
is_end (Start task cause ins) = false
is_end (End start gives inner) = true
is_end (Fault start why) = false
is_end (Drop task cause why) = false

-- whether an entry is a Drop
abbrev pub is_drop : Entry → Bool
is_drop (Start task cause ins) = false
is_drop (End start gives inner) = false
is_drop (Fault start why) = false
is_drop (Drop task cause why) = true

-- how many of these entries are of each kind
abbrev pub kind_counts : List Entry → TableRow
kind_counts entries = record { starts = starts entries; ends = count_by is_end entries; faults = faults entries; drops = count_by is_drop entries }

-- Entries of tasks.

-- A Start or a Drop is of its own task, an End or a Fault of the task of the Start that it closes.
abbrev pub entry_task : List Entry → Entry → Option ℕ
entry_task journal (Start task cause ins) = Some task
entry_task journal (End start gives inner) = start_at journal start
entry_task journal (Fault start why) = start_at journal start
entry_task journal (Drop task cause why) = Some task

-- whether an entry of a journal is of this task
abbrev pub is_of_task : List Entry → ℕ → Entry → Bool
is_of_task journal t entry = option_map_or (λ task. task == t) (entry_task journal entry) false

-- the entries of a journal that are of a task
abbrev pub task_entries : ℕ → List Entry → List Entry
task_entries t journal = filter (is_of_task journal t) journal

-- Profiles.

-- what a task did in the runs with these journals: how many of its entries in all of them are of each kind
abbrev pub profile_row : List (List Entry) → ℕ → TableRow
profile_row journals t = kind_counts (flat_map (task_entries t) journals)

-- what each of so many tasks did in them
abbrev pub profile_rows : ℕ → List (List Entry) → List TableRow
profile_rows tasks journals = map (profile_row journals) (range_with_len 0 tasks)

-- A row for each task, and how many entries the journals have.
pub record Profile : Type 0 where
  pub rows : List TableRow
  pub entries : ℕ

-- the profile of so many tasks in the runs with these journals
abbrev pub profile_of : ℕ → List (List Entry) → Profile
profile_of tasks journals = record { rows = profile_rows tasks journals; entries = sum_by length journals }

-- One journal more.

-- the row of a task that did nothing
abbrev pub no_counts : TableRow
no_counts = kind_counts []

-- the sums of the numbers of two rows
abbrev pub row_plus : TableRow → TableRow → TableRow
row_plus a b = record { starts = a.starts + b.starts; ends = a.ends + b.ends; faults = a.faults + b.faults; drops = a.drops + b.drops }

-- a profile, with what each task did in the run with this journal
unfoldable pub after_journal : Profile → List Entry → Profile
after_journal profile journal = record {
  rows = map (λ numbered. row_plus numbered.1 (kind_counts (task_entries numbered.0 journal))) (enumerate_from 0 profile.rows);
  entries = profile.entries + length journal;
}

-- The journals have fewer than 2^64 entries, with this one.
abbrev pub CanAdd : Profile → List Entry → Type 0
CanAdd profile journal = profile.entries + length journal < 2 ^ 64
