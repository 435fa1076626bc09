-- Profiles of lists of journals, for those who add one journal after another.
use Rattle.std.proofs.Common.{◌≡◌, ◌∙◌, ap, sym, ℕ, ◌+◌, ◌<◌, List, [], ◌∷◌, ◌++◌, length, map, take, get_or, arith, append-nil, zero-add}
use Rattle.std.specs.List.{enumerate_from, flat_map, sum_by}
use Rattle.std.proofs.lemmas.List.{get_or-map, length-map, map_more, same_lists}
use Rattle.std.proofs.lemmas.List.Concat.{flat_map-append}
use Rattle.std.proofs.lemmas.List.FromFn.{get_or-enumerate_from, get_or-map-range_with_len, length-enumerate_from, length-map-range_with_len}
use Rattle.std.proofs.lemmas.List.Sums.{sum_by_push}
use Rattle.journal_rules.specs.declared.entry.Entry.{Entry}
use Rattle.profile_table.specs.Profiles.{Profile, after_journal, kind_counts, no_counts, profile_row, profile_rows, profile_of, row_plus, task_entries}
use Rattle.profile_table.specs.declared.row.TableRow.{TableRow}
use Rattle.profile_table.proofs.CountingLemmas.{kind_counts-append}

-- There is a row for each task.
pub length-profile_rows : (tasks : ℕ) (journals : List (List Entry)) → length (profile_rows tasks journals) ≡ tasks
length-profile_rows tasks journals = length-map-range_with_len (profile_row journals) 0 tasks

pub row_for_each_task : (tasks : ℕ) (journals : List (List Entry)) (table : Profile) → table ≡ profile_of tasks journals → tasks ≡ length table.rows
row_for_each_task tasks journals table is = sym (ap (λ (profile : Profile). length profile.rows) is ∙ length-profile_rows tasks journals)

-- the row of a task
pub get_or-profile_rows : (tasks : ℕ) (journals : List (List Entry)) (t : ℕ) (d : TableRow) → t < tasks → get_or (profile_rows tasks journals) t d ≡ profile_row journals t
get_or-profile_rows tasks journals t d below = get_or-map-range_with_len (profile_row journals) 0 tasks t t d below (zero-add t)

-- What a task did in one run more is added to what it did in the others.
profile_row-append : (journals : List (List Entry)) (journal : List Entry) (t : ℕ) → profile_row (journals ++ journal ∷ []) t ≡ row_plus (profile_row journals t) (kind_counts (task_entries t journal))
profile_row-append journals journal t =
    let before : List Entry = flat_map (task_entries t) journals in
    ap kind_counts (flat_map-append (task_entries t) journals (journal ∷ []) ∙ ap (λ last. before ++ last) (append-nil (task_entries t journal)))
    ∙ kind_counts-append before (task_entries t journal)

profile_rows-append : (tasks : ℕ) (journals : List (List Entry)) (journal : List Entry) → profile_rows tasks (journals ++ journal ∷ []) ≡ (after_journal (profile_of tasks journals) journal).rows
unfolding after_journal
profile_rows-append tasks journals journal =
    let add : ℕ × TableRow → TableRow = λ numbered. row_plus numbered.1 (kind_counts (task_entries numbered.0 journal)) in
    let old : List TableRow = profile_rows tasks journals in
    let all : length (enumerate_from 0 old) ≡ tasks = length-enumerate_from 0 old ∙ length-profile_rows tasks journals in
    same_lists (profile_rows tasks (journals ++ journal ∷ [])) (map add (enumerate_from 0 old)) (length-profile_rows tasks (journals ++ journal ∷ []) ∙ sym (length-map (enumerate_from 0 old) add ∙ all)) (λ t d below.
    let below_tasks : t < tasks = omega (arith, below, length-profile_rows tasks (journals ++ journal ∷ [])) in
    get_or-profile_rows tasks (journals ++ journal ∷ []) t d below_tasks
    ∙ profile_row-append journals journal t
    ∙ ap add (ap (λ row. (t, row)) (sym (get_or-profile_rows tasks journals t no_counts below_tasks)) ∙ ap (λ n. (n, get_or old t no_counts)) (sym (zero-add t)) ∙ sym (get_or-enumerate_from 0 old t (0, no_counts) (omega (arith, below_tasks, length-profile_rows tasks journals))))
    ∙ sym (get_or-map add (enumerate_from 0 old) t (0, no_counts) d (omega (arith, below_tasks, all))))

-- The profile of a list of journals and of one more is the profile of the list, after that one.
pub profile_of-append : (tasks : ℕ) (journals : List (List Entry)) (journal : List Entry) → profile_of tasks (journals ++ journal ∷ []) ≡ after_journal (profile_of tasks journals) journal
unfolding after_journal
profile_of-append tasks journals journal =
    let profile : List TableRow → ℕ → Profile = λ rows entries. record { rows = rows; entries = entries } in
    ap (λ rows. profile rows (sum_by length (journals ++ journal ∷ []))) (profile_rows-append tasks journals journal)
    ∙ ap (profile (after_journal (profile_of tasks journals) journal).rows) (sum_by_push length journals journal)

-- In a loop over runs: the journal of the run at the next place was added.
pub profile_of_more : {Run : Type 0} (journal_of : Run → List Entry) (tasks : ℕ) (runs : List Run) (i : ℕ) (run : Run) → i < length runs → run ≡ get_or runs i run
    → profile_of tasks (map journal_of (take (i + 1) runs)) ≡ after_journal (profile_of tasks (map journal_of (take i runs))) (journal_of run)
profile_of_more journal_of tasks runs i run inside is =
    ap (profile_of tasks) (map_more journal_of runs i run inside ∙ ap (λ r. map journal_of (take i runs) ++ journal_of r ∷ []) (sym is))
    ∙ profile_of-append tasks (map journal_of (take i runs)) (journal_of run)
