-- The folds of chunks that were drawn, put in order and joined.
use Rattle.std.proofs.Common.{◌≡◌, ℕ, zero, suc, ◌≤◌, List, [], ◌∷◌, map, refl, sym, ap, ◌∙◌, subst, arith}
use Rattle.std.specs.Prelude.{All}
use Rattle.std.specs.List.{AllByRecursion}
use Rattle.std.specs.List.Sorted.{IsNonDecreasingBy, IsPermutation}
use Rattle.std.proofs.lemmas.List.Sorted.{All-permutation, IsPermutation-map}
use Rattle.grain_tasks.specs.declared.reduce.Folded.{Folded}
use Rattle.grain_tasks.specs.declared.reduce.Part.{Part}
use Rattle.grain_tasks.specs.Chunks.{AreConsecutive, HaveEachOnce, chunk_fold}
use Rattle.grain_tasks.specs.Folds.{Folding, IsLawful, joined, plain_fold}
use Rattle.grain_tasks.specs.Rows.{RowState}
use Rattle.grain_tasks.specs.inside.Folding.{AreAllowed, AreFoldedParts, IsFolded, IsFoldedBy, begin_of, chunk_in, chunks_in, value_in}
use Rattle.grain_tasks.proofs.CutLemmas.{NoneEmpty, consecutive_if_each, each_once, each_once_moved, rising_ordered}
use Rattle.grain_tasks.proofs.FoldLemmas.{chunk_allowed, joins_chunks}

module _ {X : Type 0} (P : X → Type 0) where
  all_of : (xs : List X) → AllByRecursion P xs → All P xs
  all_of [] all k d below = absurd (omega arith)
  all_of (x ∷ xs) all zero d below = all.0
  all_of (x ∷ xs) all (suc k) d below = all_of xs all.1 k d (omega arith)

  all_by : (xs : List X) → All P xs → AllByRecursion P xs
  all_by [] all = tt
  all_by (x ∷ xs) all = (all 0 x (omega arith), all_by xs (λ k d below. all (suc k) d (omega arith)))

  all_moved : (xs ys : List X) → IsPermutation xs ys → AllByRecursion P xs → AllByRecursion P ys
  all_moved xs ys moved all = all_by ys (All-permutation P xs ys moved (all_of xs all))

module _ {F V : Type 0} (folding : Folding F V) (f : F) (count : ℕ) where
  none_empty : (parts : List (Part V)) → AreFoldedParts folding f count parts → NoneEmpty (chunks_in parts)
  none_empty [] folded = tt
  none_empty (p ∷ ps) folded = (folded.0.order, none_empty ps folded.1)

  values_are : (parts : List (Part V)) → AreFoldedParts folding f count parts → map value_in parts ≡ map (chunk_fold folding f) (chunks_in parts)
  values_are [] folded = refl
  values_are (p ∷ ps) folded = ap (λ v. v ∷ map value_in ps) folded.0.folded ∙ ap (λ vs. chunk_fold folding f p.chunk ∷ vs) (values_are ps folded.1)

  pub parts_allowed : (parts : List (Part V)) → IsLawful folding f → count ≤ folding.count f → AreFoldedParts folding f count parts → AreAllowed folding f parts
  parts_allowed [] laws within folded = tt
  parts_allowed (p ∷ ps) laws within folded = (
    (let order = folded.0.order in let end = folded.0.within in
        subst (folding.allowed f) (sym folded.0.folded) (chunk_allowed folding f laws p.chunk (omega (arith, order)) (omega (arith, end, within)))),
    parts_allowed ps laws within folded.1,
  )

  pub sorted_allowed : (parts sorted : List (Part V)) → IsLawful folding f → count ≤ folding.count f → AreFoldedParts folding f count parts → IsPermutation parts sorted → AreAllowed folding f sorted
  sorted_allowed parts sorted laws within folded moved = parts_allowed sorted laws within (all_moved (IsFolded folding f count) parts sorted moved folded)

  pub sorted_joined : (parts sorted : List (Part V)) → IsLawful folding f → count ≤ folding.count f → AreFoldedParts folding f count parts → HaveEachOnce count (chunks_in parts) → IsPermutation parts sorted → IsNonDecreasingBy begin_of sorted
      → joined folding f (map value_in sorted) ≡ plain_fold folding f count
  sorted_joined parts sorted laws within folded whole moved rises =
      let folded' = all_moved (IsFolded folding f count) parts sorted moved folded in
      let whole' = each_once_moved count (chunks_in parts) (chunks_in sorted) (IsPermutation-map chunk_in parts sorted moved) whole in
      let cut : AreConsecutive 0 count (chunks_in sorted) = consecutive_if_each 0 count (chunks_in sorted) (omega arith) (none_empty sorted folded') (rising_ordered chunk_in sorted rises) (each_once count (chunks_in sorted) whole') in
      ap (joined folding f) (values_are sorted folded') ∙ joins_chunks folding f laws (chunks_in sorted) count cut within

-- what all seats drew has each index once
pub whole_parts : {F V : Type 0} (folding : Folding F V) (f : F) (row : RowState) (seats : ℕ) (folded : Folded V) → IsFoldedBy folding f row seats folded → seats ≡ row.shape.seats → HaveEachOnce row.shape.count (chunks_in folded.parts.items)
whole_parts folding f row seats folded by all =
    let count = ap (λ (r : RowState). r.shape.count) by.row_is in
    let last = by.whole (by.seats_are ∙ all ∙ sym (ap (λ (r : RowState). r.shape.seats) by.row_is)) in
    subst (λ n. HaveEachOnce n (chunks_in folded.parts.items)) count (subst (HaveEachOnce folded.drained.row.shape.count) (sym by.drawn) last)
