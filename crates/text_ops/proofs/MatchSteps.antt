-- Steps of the loop that matches lines.
use Rattle.std.proofs.Common.{◌≡◌, ℕ, List, [], ◌∷◌, ◌++◌, Option, Some, None, refl, sym, ap, ◌∙◌, append_assoc, append-nil}
use Rattle.std.specs.List.{cons_option}
use Rattle.std.specs.Option.{option_map}
use Rattle.text_ops.specs.declared.gathered.Gathered.{Gathered}
use Rattle.text_ops.specs.Lines.{line_end, lines_of, text_of, ended}
use Rattle.text_ops.specs.MatchKeys.{match_key, behind_key, first_with, joined, matched}
use Rattle.text_ops.specs.TextMeaning.{match_meaning}
use Rattle.text_ops.specs.inside.Gathering.{IsGathered}
use Rattle.text_ops.specs.inside.Matching.{MatchSoFar}

pub MatchSoFar-start : (left right bytes : List ℕ) (lines : List (List ℕ)) (made : Gathered) → bytes ≡ left → lines ≡ lines_of bytes → IsGathered [] made → MatchSoFar left right lines made
MatchSoFar-start left right bytes lines made same are gathered =
    let all = are ∙ ap lines_of same in
    record {
      all = [];
      gathered = gathered;
      same = ap (λ l. text_of (matched l (lines_of right))) all;
    }

-- what a line is joined with
joined_is : (others : List (List ℕ)) (line : List ℕ) → joined others line ≡ option_map (λ rest. line ++ rest) (option_map behind_key (first_with (match_key line) others))
joined_is others line = by_option (first_with (match_key line) others)
  where
    by_option : (o : Option (List ℕ)) → option_map (λ other. line ++ behind_key other) o ≡ option_map (λ rest. line ++ rest) (option_map behind_key o)
    by_option None = refl
    by_option (Some other) = refl

module _ (left right others : List ℕ) (line key : List ℕ) (lines more : List (List ℕ)) (made : Gathered) (so_far : MatchSoFar left right lines made) (is : lines ≡ line ∷ more) (same_right : others ≡ right) (key_is : key ≡ match_key line) where
  found : (o : Option (List ℕ)) → o ≡ option_map behind_key (first_with key (lines_of others)) → matched lines (lines_of right) ≡ cons_option (option_map (λ rest. line ++ rest) o) (matched more (lines_of right))
  found o value =
      let here = joined_is (lines_of right) line
      ∙ ap (option_map (λ rest. line ++ rest)) (sym (value ∙ ap (λ k. option_map behind_key (first_with k (lines_of others))) key_is ∙ ap (λ r. option_map behind_key (first_with (match_key line) (lines_of r))) same_right)) in
      ap (λ l. matched l (lines_of right)) is ∙ ap (λ j. cons_option j (matched more (lines_of right))) here

  pub MatchSoFar-found : (next : Gathered) (rest : List ℕ) → Some rest ≡ option_map behind_key (first_with key (lines_of others)) → ((all : List ℕ) → IsGathered all made → IsGathered (all ++ (line ++ (rest ++ line_end ∷ []))) next) → MatchSoFar left right more next
  MatchSoFar-found next rest value put =
      let further = text_of (matched more (lines_of right)) in
      record {
        all = so_far.all ++ (line ++ (rest ++ line_end ∷ []));
        gathered = put so_far.all so_far.gathered;
        same =
            ap (λ l. so_far.all ++ l ++ further) (sym (append_assoc line rest (line_end ∷ [])))
            ∙ append_assoc so_far.all (ended (line ++ rest)) further
            ∙ ap (λ l. so_far.all ++ text_of l) (sym (found (Some rest) value))
            ∙ so_far.same;
      }

  pub MatchSoFar-none : None ≡ option_map behind_key (first_with key (lines_of others)) → MatchSoFar left right more made
  MatchSoFar-none value =
      record {
        all = so_far.all;
        gathered = so_far.gathered;
        same = ap (λ l. so_far.all ++ text_of l) (sym (found None value)) ∙ so_far.same;
      }

pub MatchSoFar-end : (left right : List ℕ) (lines : List (List ℕ)) (made : Gathered) (so_far : MatchSoFar left right lines made) → lines ≡ [] → so_far.all ≡ match_meaning left right
MatchSoFar-end left right lines made so_far none =
    sym (append-nil so_far.all) ∙ ap (λ l. so_far.all ++ text_of (matched l (lines_of right))) (sym none) ∙ so_far.same
