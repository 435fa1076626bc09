-- A value that is looked up among rows that stand by rising place.
use Rattle.std.proofs.Common.{◌≡◌, ◌≢◌, ℕ, zero, suc, ◌<◌, ◌≤◌, List, [], ◌∷◌, length, map, get_or, Some, None, Ok, Err, inl, inr, refl, sym, ap, ◌∙◌, arith}
use Rattle.std.specs.Arc.{arc_value}
use Rattle.std.specs.Ordering.{nat_cmp, ordering_index}
use Rattle.std.specs.List.Sorted.{IsBinarySearchResult, IsNonDecreasingBy}
use Rattle.std.proofs.lemmas.Bool.Decides.{nat_tests}
use Rattle.std.proofs.lemmas.Cmp.{ranked}
use Rattle.std.proofs.str.Laws.{order}
use Rattle.journal_rules.specs.declared.entry.Entry.{Entry}
use Rattle.journal_rules.specs.declared.entry.Entry.TheVariants.{Start, End, Fault, Drop}
use Rattle.run_frame.specs.declared.run.ValueRow.{ValueRow}
use Rattle.run_frame.specs.declared.run.FrameRun.{FrameRun, FrameRun'}
use Rattle.run_frame.specs.Legal.{IsKept, Legal}
use Rattle.run_frame.specs.Rows.{ends_from}
use Rattle.run_frame.specs.NestedRule.{journal_of}
use Rattle.run_frame.specs.Runs.{value_at, values_of}
use Rattle.text_tasks.specs.declared.item.Item.{Item}
use Rattle.text_tasks.specs.declared.job.TextJob.{TextJob}
use Rattle.text_tasks.specs.JobMeaning.{text_job}
use Rattle.flow_run.specs.inside.RisingValues.{AreRising}

-- ---- the places of Ends rise

ends_at_least : (n : ℕ) (h : List Entry) (k d : ℕ) → k < length (ends_from n h) → n ≤ get_or (ends_from n h) k d
ends_at_least n [] k d below = absurd (omega arith)
ends_at_least n (Start task cause ins ∷ h) k d below = omega (arith, ends_at_least (suc n) h k d below)
ends_at_least n (Fault start why ∷ h) k d below = omega (arith, ends_at_least (suc n) h k d below)
ends_at_least n (Drop task cause why ∷ h) k d below = omega (arith, ends_at_least (suc n) h k d below)
ends_at_least n (End start gives inner ∷ h) zero d below = omega arith
ends_at_least n (End start gives inner ∷ h) (suc k) d below = omega (arith, ends_at_least (suc n) h k d (omega arith))

ends_rise : (n : ℕ) (h : List Entry) (i j d : ℕ) → i < j → j < length (ends_from n h) → get_or (ends_from n h) i d < get_or (ends_from n h) j d
ends_rise n [] i j d less below = absurd (omega arith)
ends_rise n (Start task cause ins ∷ h) i j d less below = ends_rise (suc n) h i j d less below
ends_rise n (Fault start why ∷ h) i j d less below = ends_rise (suc n) h i j d less below
ends_rise n (Drop task cause why ∷ h) i j d less below = ends_rise (suc n) h i j d less below
ends_rise n (End start gives inner ∷ h) i zero d less below = absurd (omega arith)
ends_rise n (End start gives inner ∷ h) zero (suc j) d less below = omega (arith, ends_at_least (suc n) h j d (omega arith))
ends_rise n (End start gives inner ∷ h) (suc i) (suc j) d less below = ends_rise (suc n) h i j d (omega arith) (omega arith)

module _ {V : Type 0} where
  abbrev place_of : ValueRow V → ℕ
  place_of row = row.place

  count_of : (rows : List (ValueRow V)) → length (map place_of rows) ≡ length rows
  count_of [] = refl
  count_of (row ∷ rows) = ap suc (count_of rows)

  place_at : (rows : List (ValueRow V)) (k : ℕ) (d : ValueRow V) → get_or (map place_of rows) k d.place ≡ (get_or rows k d).place
  place_at [] k d = refl
  place_at (row ∷ rows) zero d = refl
  place_at (row ∷ rows) (suc k) d = place_at rows k d

  rows_rise : (rows : List (ValueRow V)) (h : List Entry) → map place_of rows ≡ ends_from 0 h → AreRising rows
  rows_rise rows h are i j d less below =
      let counted : length (ends_from 0 h) ≡ length rows = ap length (sym are) ∙ count_of rows in
      let at : (k : ℕ) → get_or (ends_from 0 h) k d.place ≡ (get_or rows k d).place = λ k. ap (λ places. get_or places k d.place) (sym are) ∙ place_at rows k d in
      omega (arith, at i, at j, ends_rise 0 h i j d.place less (omega arith))

  -- ---- what a search finds

  rest_rises : (row : ValueRow V) (rows : List (ValueRow V)) → AreRising (row ∷ rows) → AreRising rows
  rest_rises row rows rising i j d less below = rising (suc i) (suc j) d (omega arith) (omega arith)

  -- a row gives its value at its place
  value_of_row : (rows : List (ValueRow V)) (n k : ℕ) (d : ValueRow V) → AreRising rows → k < length rows → (get_or rows k d).place ≡ n → value_at rows n ≡ Some (arc_value (get_or rows k d).value)
  value_of_row [] n k d rising below is = absurd (omega arith)
  value_of_row (row ∷ rows) n zero d rising below is = grind (arith, nat_tests, is)
  value_of_row (row ∷ rows) n (suc k) d rising below is =
      let later : row.place < n = omega (arith, rising 0 (suc k) d (omega arith) (omega arith), is) in
      let rest : value_at rows n ≡ Some (arc_value (get_or rows k d).value) = value_of_row rows n k d (rest_rises row rows rising) (omega arith) is in
      grind (arith, nat_tests, later, rest)

  -- and where no row has the place there is none
  no_value : (rows : List (ValueRow V)) (n : ℕ) → ((k : ℕ) (d : ValueRow V) → k < length rows → (get_or rows k d).place ≢ n) → value_at rows n ≡ None
  no_value [] n never = refl
  no_value (row ∷ rows) n never =
      let differs : row.place ≢ n = never 0 row (omega arith) in
      let rest : value_at rows n ≡ None = no_value rows n (λ k d below. never (suc k) d (omega arith)) in
      grind (arith, nat_tests, differs, rest)

  -- the comparisons with a place rise along the rows, as a binary search asks
  comparisons_rise : (rows : List (ValueRow V)) (n : ℕ) → AreRising rows → IsNonDecreasingBy (λ row. ordering_index (nat_cmp row.place n)) rows
  comparisons_rise rows n rising i j d le below =
      let up : (get_or rows i d).place ≤ (get_or rows j d).place = grind (arith, rising i j d, λ (same : i ≡ j). ap (λ k. (get_or rows k d).place) same) in
      grind (arith, nat_tests)

  pub found_row : (rows : List (ValueRow V)) (n k : ℕ) (d : ValueRow V) → AreRising rows → k < length rows → IsBinarySearchResult (λ row. nat_cmp row.place n) rows (Ok k) → value_at rows n ≡ Some (arc_value (get_or rows k d).value)
  found_row rows n k d rising below equal = value_of_row rows n k d rising below (ranked _ n _ (sym (equal d)))

  pub found_none : (rows : List (ValueRow V)) (n k : ℕ) → AreRising rows → IsBinarySearchResult (λ row. nat_cmp row.place n) rows (Err k) → value_at rows n ≡ None
  found_none rows n k rising parted = no_value rows n (λ i d below is. by_side i d below is)
    where
      by_side : (i : ℕ) (d : ValueRow V) → i < length rows → (get_or rows i d).place ≡ n → ⊥
      by_side i d below is = elim (order i k) [
        | inl before ↦ (let less : (get_or rows i d).place < n = ranked _ n _ (sym ((parted (comparisons_rise rows n rising)).0 i d (omega arith) before)) in absurd (omega (arith, less, is)))
        | inr behind ↦ (let greater : n < (get_or rows i d).place = ranked _ n _ (sym ((parted (comparisons_rise rows n rising)).1 i d behind below)) in absurd (omega (arith, greater, is)))
      ]

rows_of_legal : (run : FrameRun TextJob Item) → Legal text_job run → AreRising (values_of run)
rows_of_legal (FrameRun' job journal values shape rows) legal = rows_rise (values_of (FrameRun' job journal values shape rows)) (journal_of (FrameRun' job journal values shape rows)) legal.1.values

-- The values of a run that is kept stand by rising place.
pub kept_rise : (run : FrameRun TextJob Item) → IsKept text_job run → AreRising (values_of run)
kept_rise run kept = rows_of_legal run kept.legal
