-- What tasks did in runs, and how a profile is written.
use Rattle.std.specs.Fmt.{digits}
use Rattle.std.proofs.Common.{◌≡◌, ℕ, ◌-◌, ◌^◌, List, [], ◌∷◌, ◌++◌, false, true, Some, None, refl, codes, arith}
use Rattle.journal_rules.specs.declared.entry.Cause.TheVariants.{Source, Strong, Weak}
use Rattle.journal_rules.specs.declared.entry.DropWhy.TheVariants.{Halted, Limit, Stuck}
use Rattle.journal_rules.specs.declared.entry.Entry.{Entry}
use Rattle.journal_rules.specs.declared.entry.Entry.TheVariants.{Start, End, Fault, Drop}
use Rattle.journal_rules.specs.declared.entry.Part.TheVariants.{From}
use Rattle.journal_rules.specs.declared.entry.Why.TheVariants.{Inner, Long}
use Rattle.profile_table.specs.Profiles.{CanAdd, after_journal, entry_task, kind_counts, no_counts, profile_of, profile_row, profile_rows, task_entries}
use Rattle.profile_table.specs.ProfileText.{number_column, padded_left, padded_right, profile_text, row_line, spans_line}
use Rattle.profile_table.specs.declared.row.TableRow.{TableRow}

-- the row with these numbers of starts, ends, faults and drops
abbrev counts : ℕ → ℕ → ℕ → ℕ → TableRow
counts starts ends faults drops = record { starts = starts; ends = ends; faults = faults; drops = drops }

-- task 0 ends and releases task 1, which ends
abbrev both_end : List Entry
both_end = Start 0 Source [] ∷ End 0 (0 ∷ []) false ∷ Start 1 Strong (From 1 ∷ []) ∷ End 2 [] false ∷ []

-- tasks 0 and 1 start; 1 faults before 0 ends, and then a release of task 2 is dropped
abbrev one_faults : List Entry
one_faults = Start 0 Source [] ∷ Start 1 Source [] ∷ Fault 1 (Long 9) ∷ End 0 (0 ∷ []) false ∷ Drop 2 Strong Halted ∷ []

-- task 1 starts three times, by a weak edge after the first time; the last start is open
abbrev three_starts : List Entry
three_starts = Start 1 Source [] ∷ End 0 (0 ∷ []) false ∷ Start 1 (Weak 0) [] ∷ End 2 (0 ∷ []) true ∷ Start 1 (Weak 0) [] ∷ []

-- KINDS OF ENTRIES

each_kind : kind_counts (Drop 0 Source Limit ∷ Start 0 Source [] ∷ Drop 0 Source (Stuck 0) ∷ End 1 [] false ∷ Drop 0 Source Halted ∷ Fault 1 Inner ∷ Fault 1 (Long 9) ∷ []) ≡ counts 1 1 2 3
each_kind = refl

-- TASKS OF ENTRIES

-- A Start and a Drop are of their own task, whatever else the journal has.
start_of_its_task : entry_task [] (Start 7 Source []) ≡ Some 7
start_of_its_task = refl

drop_of_its_task : entry_task both_end (Drop 7 Strong Limit) ≡ Some 7
drop_of_its_task = refl

-- An End and a Fault are of the task of the Start at the index that they name.
end_of_its_start : entry_task both_end (End 2 [] false) ≡ Some 1
end_of_its_start = refl

fault_of_its_start : entry_task both_end (Fault 2 Inner) ≡ Some 1
fault_of_its_start = refl

-- At the index of an End there is no Start, and behind the last index there is nothing.
end_that_names_an_end : entry_task both_end (End 1 [] false) ≡ None
end_that_names_an_end = refl

fault_that_names_no_entry : entry_task both_end (Fault 4 Inner) ≡ None
fault_that_names_no_entry = refl

entries_of_one_task : task_entries 1 one_faults ≡ Start 1 Source [] ∷ Fault 1 (Long 9) ∷ []
entries_of_one_task = refl

-- ROWS

each_task_ended_once : profile_rows 2 (both_end ∷ []) ≡ counts 1 1 0 0 ∷ counts 1 1 0 0 ∷ []
each_task_ended_once = refl

-- A Fault is no End, and a Drop no start.
fault_and_drop : profile_rows 4 (one_faults ∷ []) ≡ counts 1 1 0 0 ∷ counts 1 0 1 0 ∷ counts 0 0 0 1 ∷ counts 0 0 0 0 ∷ []
fault_and_drop = refl

-- All starts of a task are counted, those that ended and the one that is open.
started_three_times : profile_row (three_starts ∷ []) 1 ≡ counts 3 2 0 0
started_three_times = refl

-- The numbers of runs are added up. An index is always one in the entry's own journal.
two_runs : profile_rows 3 (both_end ∷ one_faults ∷ []) ≡ counts 2 2 0 0 ∷ counts 2 1 1 0 ∷ counts 0 0 0 1 ∷ []
two_runs = refl

same_run_twice : profile_row (three_starts ∷ three_starts ∷ []) 1 ≡ counts 6 4 0 0
same_run_twice = refl

-- Two journals aren't one. As one, the first End of the second run would be of the first run's task 0.
not_joined : profile_row ((both_end ++ three_starts) ∷ []) 1 ≡ counts 4 2 0 0
not_joined = refl

no_runs : profile_rows 2 [] ≡ counts 0 0 0 0 ∷ counts 0 0 0 0 ∷ []
no_runs = refl

-- An entry of a task without a row is counted in none.
tasks_without_a_row : profile_rows 1 (one_faults ∷ []) ≡ counts 1 1 0 0 ∷ []
tasks_without_a_row = refl

row_of_nothing : no_counts ≡ counts 0 0 0 0
row_of_nothing = refl

no_tasks : profile_rows 0 (one_faults ∷ []) ≡ []
no_tasks = refl

-- PROFILES

entries_of_all_journals : profile_of 1 (both_end ∷ one_faults ∷ []) ≡ record { rows = counts 2 2 0 0 ∷ []; entries = 9 }
entries_of_all_journals = refl

one_journal_more : after_journal (profile_of 3 (both_end ∷ [])) one_faults ≡ profile_of 3 (both_end ∷ one_faults ∷ [])
unfolding after_journal
one_journal_more = refl

-- The numbers of a row are raised, whatever they were.
rows_are_raised : after_journal (record { rows = counts 7 8 9 10 ∷ counts 1 2 3 4 ∷ []; entries = 99 }) one_faults ≡ record { rows = counts 8 9 9 10 ∷ counts 2 2 4 4 ∷ []; entries = 104 }
unfolding after_journal
rows_are_raised = refl

-- Journals can be added as long as they have fewer than 2^64 entries in all.
last_journal : CanAdd (record { rows = []; entries = 2 ^ 64 - 5 }) both_end
last_journal = omega arith

journal_too_many : ¬ CanAdd (record { rows = []; entries = 2 ^ 64 - 5 }) one_faults
journal_too_many fits = absurd (omega (arith, fits))

-- THE TEXT

shorter_at_the_left : padded_right 5 (codes "abc") ≡ codes "abc  "
shorter_at_the_left = refl

shorter_at_the_right : padded_left 5 (codes "abc") ≡ codes "  abc"
shorter_at_the_right = refl

just_as_wide : padded_right 3 (codes "abc") ≡ codes "abc"
just_as_wide = refl

longer_at_the_left : padded_right 2 (codes "abc") ≡ codes "abc"
longer_at_the_left = refl

longer_at_the_right : padded_left 2 (codes "abc") ≡ codes "abc"
longer_at_the_right = refl

number_with_nine_digits : number_column 123456789 ≡ codes "123456789"
unfolding digits
number_with_nine_digits = refl

number_with_ten_digits : number_column 1234567890 ≡ codes "1234567890"
unfolding digits
number_with_ten_digits = refl

zero_at_the_right : number_column 0 ≡ codes "        0"
unfolding digits
zero_at_the_right = refl

longest_name_in_its_column : row_line (codes "twenty-columns-wide-", counts 1 2 3 4) ≡ codes "twenty-columns-wide-        1        2        3        4\n"
unfolding digits
longest_name_in_its_column = refl

longer_name : row_line (codes "how-many-errors-there-were", counts 10 0 0 0) ≡ codes "how-many-errors-there-were       10        0        0        0\n"
unfolding digits
longer_name = refl

greatest_number_of_spans : spans_line 18446744073709551615 ≡ codes "spans               18446744073709551615\n"
unfolding digits
greatest_number_of_spans = refl

-- The rows are in the order of the tasks: each has its own name.
whole_text : profile_text (profile_rows 2 (one_faults ∷ [])) (codes "a" ∷ codes "b" ∷ []) 2
    ≡ codes "task                   starts     ends   faults    drops\n"
    ++ codes "a                           1        1        0        0\n"
    ++ codes "b                           1        0        1        0\n"
    ++ codes "spans                       2\n"
unfolding digits profile_text
whole_text = refl

no_task_at_all : profile_text [] [] 0 ≡ codes "task                   starts     ends   faults    drops\nspans                       0\n"
unfolding digits profile_text
no_task_at_all = refl
