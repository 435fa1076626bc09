-- Steps of the loop that puts lines in order together.
use Rattle.std.proofs.Common.{◌≡◌, ℕ, List, [], ◌∷◌, ◌++◌, length, get_or, map, refl, sym, ap, subst, ◌∙◌, arith, append_assoc, append-nil}
use Rattle.std.specs.Prelude.{reverse}
use Rattle.std.specs.List.Sorted.{IsPermutation}
use Rattle.std.proofs.lemmas.List.{reverse-append, reverse-reverse, get_or_append_left, get_or_at, length_push}
use Rattle.std.proofs.lemmas.List.Sorted.{All-permutation, IsPermutation-reverse}
use Rattle.text_ops.specs.declared.gathered.Gathered.{Gathered}
use Rattle.text_ops.specs.declared.sort_key.Piece.TheVariants.{Whole}
use Rattle.text_ops.specs.Lines.{text_of, ended, IsNormal}
use Rattle.text_ops.specs.TextMeaning.{sort_meaning}
use Rattle.text_ops.specs.inside.Gathering.{IsGathered}
use Rattle.text_ops.specs.inside.SortKeys.{SortKeyRow, keyed_piece, AreSortedKeys, IsEndedKey}
use Rattle.text_ops.specs.inside.Sorting.{SortedSoFar}
use Rattle.text_ops.proofs.SortedKeys.{IsEndedKey-sorted, lines_in_order}

pub SortedSoFar-start : (text : List ℕ) (sort_keys left : List SortKeyRow) (made : Gathered) → IsNormal text → AreSortedKeys Whole text sort_keys → left ≡ reverse sort_keys → IsGathered [] made → SortedSoFar text left made
SortedSoFar-start text sort_keys left made is are turned gathered =
    let moved = subst (IsPermutation sort_keys) (sym turned) (IsPermutation-reverse sort_keys) in
    record {
      all = [];
      gathered = gathered;
      keys = All-permutation (IsEndedKey text) sort_keys left moved (λ k d low. IsEndedKey-sorted text sort_keys k d is are low);
      same =
          ap (λ l. text_of (map (keyed_piece text) l)) (ap reverse turned ∙ reverse-reverse sort_keys)
          ∙ ap text_of (lines_in_order text sort_keys is are);
    }

module _ (text : List ℕ) (left less : List SortKeyRow) (last : SortKeyRow) (made : Gathered) (so_far : SortedSoFar text left made) (taken : left ≡ less ++ last ∷ []) where
  pub last_ended : IsEndedKey text last
  last_ended =
      subst (IsEndedKey text) (ap (λ l. get_or l (length less) last) taken ∙ get_or_at less last [] last (length less) refl)
      (so_far.keys (length less) last (omega (arith, ap length taken, length_push less last)))

  pub SortedSoFar-next : (next : Gathered) → ((all : List ℕ) → IsGathered all made → IsGathered (all ++ ended (keyed_piece text last)) next) → SortedSoFar text less next
  SortedSoFar-next next put =
      record {
        all = so_far.all ++ ended (keyed_piece text last);
        gathered = put so_far.all so_far.gathered;
        keys = λ k d low.
            subst (IsEndedKey text) (ap (λ l. get_or l k d) taken ∙ get_or_append_left less (last ∷ []) d k low)
            (so_far.keys k d (omega (arith, ap length taken, length_push less last)));
        same =
            append_assoc so_far.all (ended (keyed_piece text last)) (text_of (map (keyed_piece text) (reverse less)))
            ∙ ap (λ l. so_far.all ++ text_of (map (keyed_piece text) l)) (sym (ap reverse taken ∙ reverse-append less (last ∷ [])))
            ∙ so_far.same;
      }

pub SortedSoFar-end : (text : List ℕ) (left : List SortKeyRow) (made : Gathered) (so_far : SortedSoFar text left made) → left ≡ [] → so_far.all ≡ sort_meaning text
SortedSoFar-end text left made so_far none =
    sym (append-nil so_far.all) ∙ ap (λ l. so_far.all ++ text_of (map (keyed_piece text) (reverse l))) (sym none) ∙ so_far.same
