-- How many spans end in a run, by the fates and the runs inside it that its keeper has.
use Rattle.std.proofs.Common.{◌≡◌, ℕ, zero, suc, ◌+◌, ◌<◌, Bool, true, false, cond, List, [], ◌∷◌, ◌++◌, length, map, reverse, Option, Some, None, refl, sym, ap, ◌∙◌, arith}
use Rattle.std.specs.Prelude.{count_by, slice_get, sum, ◌==◌}
use Rattle.std.specs.List.{AllByRecursion}
use Rattle.std.proofs.lemmas.Bool.Decides.{nat_tests}
use Rattle.std.proofs.lemmas.List.{map-append}
use Rattle.std.proofs.lemmas.List.Sums.{sum_by-append, sum_by-cons}
use Rattle.journal_rules.specs.declared.entry.Entry.{Entry}
use Rattle.join_tables.specs.Keeping.{Merges, drop_of, entries_of, entries_told}
use Rattle.join_tables.specs.declared.fates.Dropping.{Dropping}
use Rattle.join_tables.specs.declared.fates.Fate.{Fate}
use Rattle.join_tables.specs.declared.fates.Fate.TheVariants.{Ended, Faulted, Dropped, AllDropped}
use Rattle.join_tables.specs.declared.keeper.Recorded.{Recorded}
use Rattle.nested_runs.specs.Totals.{all_spans, is_span, row_number, spans_of_row, spans_step}
use Rattle.run_frame.specs.declared.run.FrameRun.{FrameRun}
use Rattle.run_frame.specs.declared.run.FrameRun.TheFolds.{fold_out-FrameRun, fold_out-InnerRow}
use Rattle.run_frame.specs.declared.run.InnerRow.{InnerRow, out-InnerRow}
use Rattle.table_runs.specs.Spans.{ends_span, spans_in, spans_made}
use Rattle.table_runs.specs.inside.FateRuns.{PlacedRun, in_row, in_rows, run_at}

abbrev one : Bool → ℕ
one b = cond b 1 0

abbrev times : Bool → ℕ → ℕ
times true n = n
times false n = 0

-- whether an entry that is told ends a span
abbrev is_end : Recorded → Bool
is_end r = is_span r.entry

-- IN A JOURNAL
times_one : (b : Bool) → times b 1 ≡ one b
times_one true = refl
times_one false = refl

times_none : (b : Bool) → times b 0 ≡ 0
times_none true = refl
times_none false = refl

times_sum : (b : Bool) (m n : ℕ) → times b (m + n) ≡ times b m + times b n
times_sum true m n = refl
times_sum false m n = refl

-- the spans of a journal, each as often as its place says
abbrev weighted : (ℕ → ℕ) → List Entry → ℕ
weighted w [] = 0
weighted w (x ∷ xs) = times (is_span x) (w 0) + weighted (λ m. w (suc m)) xs

same_weights : (w u : ℕ → ℕ) (journal : List Entry) → ((m : ℕ) → w m ≡ u m) → weighted w journal ≡ weighted u journal
same_weights w u [] same = refl
same_weights w u (x ∷ xs) same = omega (arith, ap (times (is_span x)) (same 0), same_weights (λ m. w (suc m)) (λ m. u (suc m)) xs (λ m. same (suc m)))

no_weight : (journal : List Entry) → weighted (λ m. 0) journal ≡ 0
no_weight [] = refl
no_weight (x ∷ xs) = omega (arith, times_none (is_span x), no_weight xs)

each_once : (w : ℕ → ℕ) (journal : List Entry) → ((m : ℕ) → m < length journal → w m ≡ 1) → weighted w journal ≡ count_by is_span journal
each_once w [] once = refl
each_once w (x ∷ xs) once =
    let mine : times (is_span x) (w 0) ≡ one (is_span x) = ap (times (is_span x)) (once 0 (omega arith)) ∙ times_one (is_span x) in
    let others = each_once (λ m. w (suc m)) xs (λ m small. once (suc m) (omega arith)) in
    let count : count_by is_span (x ∷ xs) ≡ one (is_span x) + count_by is_span xs = sum_by-cons (λ y. one (is_span y)) x xs in
    omega arith

apart : (m : ℕ) → (0 == suc m) ≡ false
apart m = grind (arith, nat_tests)

also_apart : (m : ℕ) → (suc m == 0) ≡ false
also_apart m = grind (arith, nat_tests)

one_less : (p m : ℕ) → (suc p == suc m) ≡ (p == m)
one_less p m = grind (arith, nat_tests)

-- one place counts once more
once_more : (w : ℕ → ℕ) (journal : List Entry) (p : ℕ) (x : Entry) → slice_get journal p ≡ Some x → weighted (λ m. one (p == m) + w m) journal ≡ one (is_span x) + weighted w journal
once_more w [] p x e = absurd (cc)
once_more w (y ∷ ys) zero x e =
    let is : y ≡ x = cc in
    let same : one (is_span y) ≡ one (is_span x) = ap (λ z. one (is_span z)) is in
    let mine : times (is_span y) (1 + w 0) ≡ times (is_span y) 1 + times (is_span y) (w 0) = times_sum (is_span y) 1 (w 0) in
    let others : weighted (λ m. one (0 == suc m) + w (suc m)) ys ≡ weighted (λ m. w (suc m)) ys = same_weights (λ m. one (0 == suc m) + w (suc m)) (λ m. w (suc m)) ys (λ m. omega (arith, ap one (apart m))) in
    omega (arith, times_one (is_span y))
once_more w (y ∷ ys) (suc p) x e =
    let mine : times (is_span y) (one (suc p == 0) + w 0) ≡ times (is_span y) (one (suc p == 0)) + times (is_span y) (w 0) = times_sum (is_span y) (one (suc p == 0)) (w 0) in
    let nothing : times (is_span y) (one (suc p == 0)) ≡ 0 = ap (λ b. times (is_span y) (one b)) (also_apart p) ∙ times_none (is_span y) in
    let others : weighted (λ m. one (suc p == suc m) + w (suc m)) ys ≡ weighted (λ m. one (p == m) + w (suc m)) ys = same_weights (λ m. one (suc p == suc m) + w (suc m)) (λ m. one (p == m) + w (suc m)) ys (λ m. ap (λ b. one b + w (suc m)) (one_less p m)) in
    omega (arith, once_more (λ m. w (suc m)) ys p x e)

counted : (entries : List Recorded) (journal : List Entry) → AllByRecursion (λ (r : Recorded). slice_get journal r.place ≡ Some r.entry) entries
    → weighted (λ m. count_by (λ (r : Recorded). r.place == m) entries) journal ≡ count_by is_end entries
counted [] journal stand = no_weight journal
counted (r ∷ rs) journal stand =
    let first : weighted (λ m. count_by (λ (q : Recorded). q.place == m) (r ∷ rs)) journal ≡ weighted (λ m. one (r.place == m) + count_by (λ (q : Recorded). q.place == m) rs) journal =
    same_weights (λ m. count_by (λ (q : Recorded). q.place == m) (r ∷ rs)) (λ m. one (r.place == m) + count_by (λ (q : Recorded). q.place == m) rs) journal (λ m. sum_by-cons (λ (q : Recorded). one (q.place == m)) r rs) in
    let more = once_more (λ m. count_by (λ (q : Recorded). q.place == m) rs) journal r.place r.entry stand.0 in
    let others = counted rs journal stand.1 in
    let count : count_by is_end (r ∷ rs) ≡ one (is_end r) + count_by is_end rs = sum_by-cons (λ (q : Recorded). one (is_end q)) r rs in
    omega arith

-- IN FATES
none_dropped : (drops : List Dropping) → count_by is_end (map drop_of drops) ≡ 0
none_dropped [] = refl
none_dropped (d ∷ ds) =
    let first : count_by is_end (drop_of d ∷ map drop_of ds) ≡ 0 + count_by is_end (map drop_of ds) = sum_by-cons (λ (r : Recorded). one (is_end r)) (drop_of d) (map drop_of ds) in
    omega (arith, none_dropped ds)

module _ {V : Type 0} where
  told_of : (fate : Fate V) → count_by is_end (entries_of fate) ≡ one (ends_span fate)
  told_of (Ended e) = refl
  told_of (Faulted f) = refl
  told_of (Dropped d) = refl
  told_of (AllDropped drops) = none_dropped (reverse drops.items)

  told_in : (fates : List (Fate V)) → count_by is_end (entries_told fates) ≡ spans_in fates
  told_in [] = refl
  told_in (f ∷ fs) =
      let split : count_by is_end (entries_of f ++ entries_told fs) ≡ count_by is_end (entries_of f) + count_by is_end (entries_told fs) = sum_by-append (λ (r : Recorded). one (is_end r)) (entries_of f) (entries_told fs) in
      let first : spans_in (f ∷ fs) ≡ one (ends_span f) + spans_in fs = sum_by-cons (λ (g : Fate V). one (ends_span g)) f fs in
      omega (arith, told_of f, told_in fs)

  -- a journal has as many spans as the fates that it was merged from
  pub spans_merged : (fates : List (Fate V)) (journal : List Entry) → Merges (entries_told fates) journal → count_by is_span journal ≡ spans_in fates
  spans_merged fates journal merges =
      sym (each_once (λ m. count_by (λ (r : Recorded). r.place == m) (entries_told fates)) journal merges.each) ∙ counted (entries_told fates) journal merges.stand ∙ told_in fates

  pub spans_append : (fates more : List (Fate V)) → spans_in (fates ++ more) ≡ spans_in fates + spans_in more
  spans_append fates more = sum_by-append (λ (f : Fate V). one (ends_span f)) fates more

-- IN ROWS
module _ {J V : Type 0} where
  row_spans : (row : InnerRow J V) → spans_of_row row ≡ all_spans (out-InnerRow J V row).run
  row_spans row = fold_out-InnerRow J V ℕ ℕ spans_step row_number row ∙ fold_out-FrameRun J V ℕ ℕ spans_step row_number (out-InnerRow J V row).run

  pub rows_append : (rows more : List (InnerRow J V)) → sum (map spans_of_row (rows ++ more)) ≡ sum (map spans_of_row rows) + sum (map spans_of_row more)
  rows_append rows more = ap sum (map-append spans_of_row rows more) ∙ sum_by-append (λ (n : ℕ). n) (map spans_of_row rows) (map spans_of_row more)

  same_run : (p q : PlacedRun J V) → p ∷ [] ≡ q ∷ [] → p.run ≡ q.run
  same_run p q is = cc

  -- the row of a run has its spans
  pub row_made : (own : List (InnerRow J V)) (place : ℕ) (run : Option (FrameRun J V)) → in_rows own ≡ run_at place run → sum (map spans_of_row own) ≡ spans_made run
  row_made [] place None is = refl
  row_made [] place (Some run) is = absurd (cc)
  row_made (row ∷ own) place None is = absurd (cc)
  row_made (row ∷ []) place (Some run) is =
      let same : (out-InnerRow J V row).run ≡ run = same_run (in_row row) (record { place = place; run = run }) is in
      let own : sum (map spans_of_row (row ∷ [])) ≡ 0 + spans_of_row row = refl in
      omega (arith, row_spans row, ap all_spans same)
  row_made (row ∷ other ∷ own) place (Some run) is = absurd (cc)
