-- Entries counted one after another, and rows added up.
use Rattle.std.proofs.Common.{◌≡◌, ◌∙◌, sym, ap, subst, ℕ, ◌+◌, ◌<◌, ◌≤◌, Bool, cond, List, [], ◌++◌, length, take, map, replicate, arith, zero-add}
use Rattle.std.specs.List.{All, count_by, enumerate_from, filter}
use Rattle.std.proofs.lemmas.List.{get_or-map, get_or-replicate, get_or_default, length-map, length-replicate, length-take, same_lists}
use Rattle.std.proofs.lemmas.List.Elements.{All-from_get_or, All-get_or, All-replicate}
use Rattle.std.proofs.lemmas.List.FromFn.{fill_by_all, get_or-enumerate_from, length-enumerate_from}
use Rattle.std.proofs.lemmas.List.Sums.{count_by-le-length, length-filter, sum_by-append}
use Rattle.journal_rules.specs.Counts.{is_fault, is_start}
use Rattle.journal_rules.specs.declared.entry.Entry.{Entry}
use Rattle.profile_table.specs.Profiles.{is_drop, is_end, is_of_task, kind_counts, no_counts, profile_row, profile_rows, row_plus, task_entries}
use Rattle.profile_table.specs.declared.row.TableRow.{TableRow}
use Rattle.profile_table.specs.inside.Counting.{CanRise, Counts, IsAtMost, row_at}

-- Sums of rows.

abbrev row_of_numbers : ℕ → ℕ → ℕ → ℕ → TableRow
row_of_numbers starts ends faults drops = record { starts = starts; ends = ends; faults = faults; drops = drops }

-- rows with the same numbers are the same
same_row : (a b : TableRow) → a.starts ≡ b.starts → a.ends ≡ b.ends → a.faults ≡ b.faults → a.drops ≡ b.drops → a ≡ b
same_row a b starts ends faults drops =
    ap (λ n. row_of_numbers n a.ends a.faults a.drops) starts
    ∙ ap (λ n. row_of_numbers b.starts n a.faults a.drops) ends
    ∙ ap (λ n. row_of_numbers b.starts b.ends n a.drops) faults
    ∙ ap (row_of_numbers b.starts b.ends b.faults) drops

count_by-append : {X : Type 0} (p : X → Bool) (xs ys : List X) → count_by p (xs ++ ys) ≡ count_by p xs + count_by p ys
count_by-append p xs ys = sum_by-append (λ x. cond (p x) 1 0) xs ys

pub kind_counts-append : (xs ys : List Entry) → kind_counts (xs ++ ys) ≡ row_plus (kind_counts xs) (kind_counts ys)
kind_counts-append xs ys = same_row _ _ (count_by-append is_start xs ys) (count_by-append is_end xs ys) (count_by-append is_fault xs ys) (count_by-append is_drop xs ys)

-- Bounds.

counts_at_most : (xs : List Entry) (most : ℕ) → length xs ≤ most → IsAtMost most (kind_counts xs)
counts_at_most xs most short = record {
  starts = omega (arith, short, count_by-le-length is_start xs);
  ends = omega (arith, short, count_by-le-length is_end xs);
  faults = omega (arith, short, count_by-le-length is_fault xs);
  drops = omega (arith, short, count_by-le-length is_drop xs);
}

filtered_at_most : (p : Entry → Bool) (xs : List Entry) (most : ℕ) → length xs ≤ most → IsAtMost most (kind_counts (filter p xs))
filtered_at_most p xs most short = counts_at_most (filter p xs) most (omega (arith, short, length-filter p xs, count_by-le-length p xs))

-- Rows of a list.

-- Where so many entries of a journal were counted, fewer than it has, another one can be.
pub another_fits : (journal : List Entry) (i : ℕ) (old new : List TableRow) → i < length journal → All (CanRise (length journal)) old → Counts journal (take i journal) old new → All (CanRise 1) new
another_fits journal i old new inside rise so_far =
    All-from_get_or (CanRise 1) new no_counts (λ t below.
    let below_old : t < length old = omega (arith, below, so_far.len) in
    let before : CanRise (length journal) (row_at old t) = All-get_or (CanRise (length journal)) old t no_counts below_old rise in
    let counted : IsAtMost i (kind_counts (filter (is_of_task journal t) (take i journal))) =
    filtered_at_most (is_of_task journal t) (take i journal) i (omega (arith, length-take i journal)) in
    subst (CanRise 1) (sym (so_far.each t below_old)) (record {
      starts = omega (arith, inside, before.starts, counted.starts);
      ends = omega (arith, inside, before.ends, counted.ends);
      faults = omega (arith, inside, before.faults, counted.faults);
      drops = omega (arith, inside, before.drops, counted.drops);
    }))

-- The sum of a row and what a journal has of a task is at most the sum of what they are at most.
pub still_at_most : (journal : List Entry) (most : ℕ) (old new : List TableRow) → All (IsAtMost most) old → Counts journal journal old new → All (IsAtMost (most + length journal)) new
still_at_most journal most old new within counts =
    All-from_get_or (IsAtMost (most + length journal)) new no_counts (λ t below.
    let below_old : t < length old = omega (arith, below, counts.len) in
    let before : IsAtMost most (row_at old t) = All-get_or (IsAtMost most) old t no_counts below_old within in
    let counted : IsAtMost (length journal) (kind_counts (filter (is_of_task journal t) journal)) =
    filtered_at_most (is_of_task journal t) journal (length journal) (omega arith) in
    subst (IsAtMost (most + length journal)) (sym (counts.each t below_old)) (record {
      starts = omega (arith, before.starts, counted.starts);
      ends = omega (arith, before.ends, counted.ends);
      faults = omega (arith, before.faults, counted.faults);
      drops = omega (arith, before.drops, counted.drops);
    }))

-- The rows in which a whole journal was counted are those before, each with what the journal has of its task.
pub rows_after : (journal : List Entry) (old new : List TableRow) → Counts journal journal old new → new ≡ map (λ numbered. row_plus numbered.1 (kind_counts (task_entries numbered.0 journal))) (enumerate_from 0 old)
rows_after journal old new counts =
    let add : ℕ × TableRow → TableRow = λ numbered. row_plus numbered.1 (kind_counts (task_entries numbered.0 journal)) in
    let all : length (enumerate_from 0 old) ≡ length old = length-enumerate_from 0 old in
    same_lists new (map add (enumerate_from 0 old)) (counts.len ∙ sym (length-map (enumerate_from 0 old) add ∙ all)) (λ t d below.
    let below_old : t < length old = omega (arith, below, counts.len) in
    get_or_default new t d no_counts below
    ∙ counts.each t below_old
    ∙ ap add (ap (λ n. (n, row_at old t)) (sym (zero-add t)) ∙ sym (get_or-enumerate_from 0 old t (0, no_counts) below_old))
    ∙ sym (get_or-map add (enumerate_from 0 old) t (0, no_counts) d (omega (arith, below_old, all))))

-- Nothing counted.

-- rows of zeros are those of no journals
pub nothing_counted : (tasks : ℕ) → replicate tasks no_counts ≡ profile_rows tasks []
nothing_counted tasks = fill_by_all (profile_row []) (replicate tasks no_counts) tasks no_counts (length-replicate tasks no_counts) (λ t below. get_or-replicate tasks t no_counts no_counts below)

pub zeros_at_most : (tasks : ℕ) → All (IsAtMost 0) (replicate tasks no_counts)
zeros_at_most tasks = All-replicate (IsAtMost 0) tasks no_counts (record { starts = omega arith; ends = omega arith; faults = omega arith; drops = omega arith })
