-- The loop that counts equal lines, over sorted sort keys.
use Rattle.std.proofs.Common.{◌≡◌, ◌≢◌, ℕ, ◌+◌, ◌<◌, ◌≤◌, Bool, true, false, not, List, [], ◌∷◌, ◌++◌, length, drop, get_or, map, decimal, refl, sym, ap, subst, ◌∙◌, arith, length-drop}
use Rattle.std.specs.List.{between}
use Rattle.std.specs.Str.{bytes_eq}
use Rattle.std.proofs.lemmas.List.{drop_more, get_or-map, length-map, drop-map, drop_all}
use Rattle.std.proofs.lemmas.Slice.{between_to_end}
use Rattle.std.proofs.lemmas.Slice.Eq.{bytes_eq-Decides}
use Rattle.text_ops.specs.declared.gathered.Gathered.{Gathered}
use Rattle.text_ops.specs.declared.sort_key.Piece.TheVariants.{Whole}
use Rattle.text_ops.specs.Lines.{lines_of, ended, IsNormal}
use Rattle.text_ops.specs.LineOrder.{in_order}
use Rattle.text_ops.specs.MatchKeys.{space}
use Rattle.text_ops.specs.Repeats.{without_repeats}
use Rattle.text_ops.specs.TextMeaning.{tally_line, tally_meaning}
use Rattle.text_ops.proofs.LineLemmas.{IsNormal-text_of}
use Rattle.text_ops.specs.inside.Gathering.{IsGathered}
use Rattle.text_ops.specs.inside.SortKeys.{SortKeyRow, keyed_piece, AreSortedKeys}
use Rattle.text_ops.specs.inside.Tallying.{run_of, TallySoFar}
use Rattle.text_ops.proofs.OrderLemmas.{Rises, Rises-drop, Rises-in_order}
use Rattle.text_ops.proofs.SortedKeys.{lines_in_order}
use Rattle.text_ops.proofs.TallyLemmas.{run_is, run-le, TallySoFar-next, TallySoFar-end}

-- what a test for a difference says
pub differs : (a b : List ℕ) (r : Bool) → r ≡ not (bytes_eq a b) → r ≡ true → a ≢ b
differs a b r is holds same = let never : false ≡ true = sym (ap not ((bytes_eq-Decides a b).1 same)) ∙ sym is ∙ holds in cc

pub equal : (a b : List ℕ) (r : Bool) → r ≡ not (bytes_eq a b) → r ≡ false → a ≡ b
equal a b r is fails = (bytes_eq-Decides a b).0 (by_test (bytes_eq a b) (sym is ∙ fails))
  where
    by_test : (t : Bool) → not t ≡ false → t ≡ true
    by_test true h = refl
    by_test false h = cc

module _ (text bytes : List ℕ) (sort_keys : List SortKeyRow) (same : bytes ≡ text) (is : IsNormal text) (sorted : AreSortedKeys Whole bytes sort_keys) where
  normal : IsNormal bytes
  normal = subst IsNormal (sym same) is

  pub ordered_is : map (keyed_piece bytes) sort_keys ≡ in_order (lines_of text)
  ordered_is = lines_in_order bytes sort_keys normal sorted ∙ ap (λ b. in_order (lines_of b)) same

  -- the run at a place
  module _ (at : ℕ) (inside : at < length sort_keys) (d : SortKeyRow) where
    pub here : drop at (map (keyed_piece bytes) sort_keys) ≡ keyed_piece bytes (get_or sort_keys at d) ∷ drop (at + 1) (map (keyed_piece bytes) sort_keys)
    here =
        drop_more (map (keyed_piece bytes) sort_keys) at [] (omega (arith, length-map sort_keys (keyed_piece bytes)))
        ∙ ap (λ l. l ∷ drop (at + 1) (map (keyed_piece bytes) sort_keys)) (get_or-map (keyed_piece bytes) sort_keys at d [] inside)

    pub rises_here : Rises (keyed_piece bytes (get_or sort_keys at d) ∷ drop (at + 1) (map (keyed_piece bytes) sort_keys))
    rises_here = subst Rises here (Rises-drop at (map (keyed_piece bytes) sort_keys) (subst Rises (sym ordered_is) (Rises-in_order (lines_of text))))

    pub run_here : (run : ℕ) → run ≡ run_of (map (keyed_piece bytes) (between at (length sort_keys) sort_keys)) → run ≡ run_of (keyed_piece bytes (get_or sort_keys at d) ∷ drop (at + 1) (map (keyed_piece bytes) sort_keys))
    run_here run is_run =
        is_run ∙ ap (λ l. run_of (map (keyed_piece bytes) l)) (between_to_end sort_keys at (length sort_keys) (omega arith))
        ∙ ap run_of (sym (drop-map (keyed_piece bytes) at sort_keys) ∙ here)

    pub run_some : (run : ℕ) → run ≡ run_of (map (keyed_piece bytes) (between at (length sort_keys) sort_keys)) → 1 ≤ run
    run_some run is_run = omega (arith, run_here run is_run, run_is (keyed_piece bytes (get_or sort_keys at d)) (drop (at + 1) (map (keyed_piece bytes) sort_keys)) rises_here)

    pub run_inside : (run : ℕ) → run ≡ run_of (map (keyed_piece bytes) (between at (length sort_keys) sort_keys)) → at + run ≤ length sort_keys
    run_inside run is_run =
        omega (
          arith,
          run_here run is_run,
          run-le (keyed_piece bytes (get_or sort_keys at d)) (drop (at + 1) (map (keyed_piece bytes) sort_keys)) rises_here,
          ap length here,
          length-drop at (map (keyed_piece bytes) sort_keys),
          length-map sort_keys (keyed_piece bytes),
        )

    pub next_tally : (made next : Gathered) (piece : List ℕ) (run : ℕ) → (so_far : TallySoFar text (map (keyed_piece bytes) sort_keys) at made) → run ≡ run_of (map (keyed_piece bytes) (between at (length sort_keys) sort_keys)) → piece ≡ keyed_piece bytes (get_or sort_keys at d) → ((all : List ℕ) → IsGathered all made → IsGathered (all ++ ended (decimal run ++ space ∷ piece)) next) → TallySoFar text (map (keyed_piece bytes) sort_keys) (at + run) next
    next_tally made next piece run so_far is_run piece_is put =
        let l = keyed_piece bytes (get_or sort_keys at d) in
        let more = drop (at + 1) (map (keyed_piece bytes) sort_keys) in
        let n = run_here run is_run in
        let gathered = subst (λ k. IsGathered (so_far.all ++ ended (decimal k ++ space ∷ l)) next) n (subst (λ p. IsGathered (so_far.all ++ ended (decimal run ++ space ∷ p)) next) piece_is (put so_far.all so_far.gathered)) in
        subst (λ k. TallySoFar text (map (keyed_piece bytes) sort_keys) (at + k) next) (sym n)
        (TallySoFar-next text (map (keyed_piece bytes) sort_keys) at made so_far ordered_is l more here rises_here next gathered)

  pub tally_end : (at : ℕ) (made : Gathered) (so_far : TallySoFar text (map (keyed_piece bytes) sort_keys) at made) → length sort_keys ≤ at → so_far.all ≡ tally_meaning text
  tally_end at made so_far past = TallySoFar-end text (map (keyed_piece bytes) sort_keys) at made so_far (drop_all at (map (keyed_piece bytes) sort_keys) (omega (arith, length-map sort_keys (keyed_piece bytes))))

pub IsNormal-tally : (text : List ℕ) → IsNormal (tally_meaning text)
IsNormal-tally text = IsNormal-text_of (map (tally_line (lines_of text)) (without_repeats (in_order (lines_of text))))
