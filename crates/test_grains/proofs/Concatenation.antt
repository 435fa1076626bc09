-- A fold whose join is concatenation is the list of what is at each index.
use Rattle.std.proofs.Common.{◌≡◌, ℕ, ◌*◌, List, [], ◌∷◌, ◌++◌, length, map, refl, sym, ap, ◌∙◌, append-nil, append_assoc}
use Rattle.std.specs.Prelude.{slice_index}
use Rattle.std.specs.List.{fold, range_with_len}
use Rattle.grain_tasks.specs.Folds.{plain_fold}
use Rattle.test_grains.specs.Samples.{doubling, visiting}
use Rattle.test_grains.specs.declared.samples.Doubles.{Doubles}
use Rattle.test_grains.specs.declared.samples.Visits.{Visits}

listed : (h : ℕ → ℕ) (before : List ℕ) (is : List ℕ) → fold (λ (x y : List ℕ). x ++ y) before (map (λ i. h i ∷ []) is) ≡ before ++ map h is
listed h before [] = sym (append-nil before)
listed h before (i ∷ is) = listed h (before ++ h i ∷ []) is ∙ append_assoc before (h i ∷ []) (map h is)

same_list : (is : List ℕ) → map (λ i. i) is ≡ is
same_list [] = refl
same_list (i ∷ is) = ap (λ js. i ∷ js) (same_list is)

pub doubles_listed : (f : Doubles) → plain_fold doubling f (length f.numbers) ≡ map (λ i. slice_index f.numbers i * 2) (range_with_len 0 (length f.numbers))
doubles_listed f = listed (λ i. slice_index f.numbers i * 2) [] (range_with_len 0 (length f.numbers))

pub visits_listed : (f : Visits) → plain_fold visiting f f.count ≡ range_with_len 0 f.count
visits_listed f = listed (λ i. i) [] (range_with_len 0 f.count) ∙ same_list (range_with_len 0 f.count)
