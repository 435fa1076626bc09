-- What a run of static chunks is gathered to.
use Rattle.std.proofs.Common.{◌≡◌, ℕ, zero, suc, ◌+◌, ◌<◌, ◌≤◌, Bool, true, false, List, [], ◌∷◌, length, map, Option, Some, None, refl, sym, ap, ◌∙◌, subst, arith}
use Rattle.std.specs.Prelude.{if◌then◌else◌, slice_index_or}
use Rattle.std.specs.Arc.{arc_value}
use Rattle.std.specs.Global.{Global}
use Rattle.std.specs.declared.sync.Arc.{Arc}
use Rattle.std.specs.List.{AllByRecursion, range_with_len}
use Rattle.std.specs.Option.{option_and_then, option_map}
use Rattle.std.proofs.lemmas.List.FromFn.{map-range_with_len_more}
use Rattle.std.proofs.lemmas.List.Sums.{fold-append}
use Rattle.std.proofs.lemmas.Option.{none-some, same_Some}
use Rattle.journal_rules.specs.declared.entry.Entry.{Entry}
use Rattle.run_frame.specs.declared.run.ValueRow.{ValueRow}
use Rattle.run_frame.specs.LastEnds.{is_end_of, last_before, last_end}
use Rattle.run_frame.specs.Runs.{value_at}
use Rattle.run_frame.proofs.EndsLemmas.{last_before_at}
use Rattle.grain_tasks.specs.Chunks.{chunk_at, chunk_count, chunk_fold, static_chunks}
use Rattle.grain_tasks.specs.Folds.{Folding, IsLawful, joined, plain_fold}
use Rattle.grain_tasks.specs.inside.Gathering.{AreLastValues}
use Rattle.grain_tasks.specs.declared.chunk_values.ChunkValues.{ChunkValues}
use Rattle.grain_tasks.proofs.ChunkLemmas.{consecutive, place_below}
use Rattle.grain_tasks.proofs.FoldLemmas.{chunk_allowed, fold_allowed, joins_chunks}

-- ---- the last value of a task is put down

last_within : (journal : List Entry) (t n k : ℕ) → last_before journal t n ≡ Some k → k < n
last_within journal t zero k is = absurd (none-some k is)
last_within journal t (suc n) k is = by_test (is_end_of journal t n) (last_before journal t n) (last_within journal t n k) (sym here ∙ is)
  where
    next : suc n ≡ n + 1
    next = omega arith

    here : last_before journal t (suc n) ≡ (if is_end_of journal t n then Some n else last_before journal t n)
    here = ap (last_before journal t) next ∙ last_before_at journal t n

    by_test : (hit : Bool) (old : Option ℕ) → (old ≡ Some k → k < n) → (if hit then Some n else old) ≡ Some k → k < suc n
    by_test true old more is = let same : n ≡ k = same_Some _ _ is in omega (arith, same)
    by_test false old more is = omega (arith, more is)

value_is_held : {V : Type 0} (journal : List Entry) (rows : List (ValueRow V)) (values : List (Option (Arc V Global))) (end : Option ℕ)
    → ((n : ℕ) → n < length journal → option_map arc_value (slice_index_or values n None) ≡ value_at rows n) → ((n : ℕ) → end ≡ Some n → n < length journal)
    → option_and_then (λ n. option_map arc_value (slice_index_or values n None)) end ≡ option_and_then (value_at rows) end
value_is_held journal rows values None are within = refl
value_is_held journal rows values (Some n) are within = are n (within n refl)

pub values_held : {V : Type 0} (journal : List Entry) (rows : List (ValueRow V)) (tasks : ℕ) (held : ChunkValues V)
    → ((t : ℕ) → t < tasks → slice_index_or held.ends.items t None ≡ last_end journal t)
    → ((n : ℕ) → n < length journal → option_map arc_value (slice_index_or held.values.items n None) ≡ value_at rows n)
    → AreLastValues journal rows tasks held
values_held journal rows tasks held ends values t below =
    ap (option_and_then (λ n. option_map arc_value (slice_index_or held.values.items n None))) (ends t below)
    ∙ value_is_held journal rows held.values.items (last_end journal t) values (λ n is. last_within journal t (length journal) n is)

-- ---- the folds of the chunks before a place, joined

module _ {F V : Type 0} (folding : Folding F V) (f : F) where
  abbrev pub folds_before : ℕ → ℕ → ℕ → List V
  folds_before count grain n = map (λ t. chunk_fold folding f (chunk_at count grain t)) (range_with_len 0 n)

  pub joined_none : (count grain : ℕ) → folding.unit f ≡ joined folding f (folds_before count grain 0)
  joined_none count grain = refl

  pub joined_next : (count grain n : ℕ) → joined folding f (folds_before count grain (n + 1)) ≡ folding.join f (joined folding f (folds_before count grain n)) (chunk_fold folding f (chunk_at count grain n))
  joined_next count grain n =
      ap (joined folding f) (map-range_with_len_more (λ t. chunk_fold folding f (chunk_at count grain t)) 0 n n (omega arith))
      ∙ fold-append (folding.join f) (folding.unit f) (folds_before count grain n) (chunk_fold folding f (chunk_at count grain n) ∷ [])

  chunk_at_allowed : (count grain t : ℕ) → IsLawful folding f → 1 ≤ grain → count ≤ folding.count f → t < chunk_count count grain → folding.allowed f (chunk_fold folding f (chunk_at count grain t))
  chunk_at_allowed count grain t laws some within below =
      let low = place_below count grain t some below in
      chunk_allowed folding f laws (chunk_at count grain t) (omega (arith, low)) (omega (arith, low, within))

  folds_allowed : (count grain a n : ℕ) → IsLawful folding f → 1 ≤ grain → count ≤ folding.count f → a + n ≤ chunk_count count grain → AllByRecursion (folding.allowed f) (map (λ t. chunk_fold folding f (chunk_at count grain t)) (range_with_len a n))
  folds_allowed count grain a zero laws some within all = tt
  folds_allowed count grain a (suc n) laws some within all = (chunk_at_allowed count grain a laws some within (omega (arith, all)), folds_allowed count grain (a + 1) n laws some within (omega (arith, all)))

  pub joined_before_allowed : (count grain n : ℕ) → IsLawful folding f → 1 ≤ grain → count ≤ folding.count f → n ≤ chunk_count count grain → folding.allowed f (joined folding f (folds_before count grain n))
  joined_before_allowed count grain n laws some within all = fold_allowed folding f laws (folding.unit f) (folds_before count grain n) laws.unit_allowed (folds_allowed count grain 0 n laws some within (omega (arith, all)))

  pub value_allowed : (count grain t : ℕ) (v : V) → IsLawful folding f → 1 ≤ grain → count ≤ folding.count f → t < chunk_count count grain → Some v ≡ Some (chunk_fold folding f (chunk_at count grain t)) → folding.allowed f v
  value_allowed count grain t v laws some within below is = subst (folding.allowed f) (sym (same_Some _ _ is)) (chunk_at_allowed count grain t laws some within below)

  map_map : (ts : List ℕ) (count grain : ℕ) → map (λ t. chunk_fold folding f (chunk_at count grain t)) ts ≡ map (chunk_fold folding f) (map (chunk_at count grain) ts)
  map_map [] count grain = refl
  map_map (t ∷ ts) count grain = ap (λ vs. chunk_fold folding f (chunk_at count grain t) ∷ vs) (map_map ts count grain)

  pub joined_all : (count grain : ℕ) → IsLawful folding f → 1 ≤ grain → count ≤ folding.count f → joined folding f (folds_before count grain (chunk_count count grain)) ≡ plain_fold folding f count
  joined_all count grain laws some within =
      ap (joined folding f) (map_map (range_with_len 0 (chunk_count count grain)) count grain)
      ∙ joins_chunks folding f laws (static_chunks count grain) count (consecutive count grain some) within
