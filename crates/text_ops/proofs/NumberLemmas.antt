-- Steps of the loop that puts the same bytes before each line.
use Rattle.std.proofs.Common.{◌≡◌, ℕ, List, [], ◌∷◌, ◌++◌, map, decimal, refl, sym, ap, ◌∙◌, append_assoc, append-nil}
use Rattle.text_ops.specs.declared.gathered.Gathered.{Gathered}
use Rattle.text_ops.specs.Lines.{line_end, lines_of, text_of, ended, IsNormal}
use Rattle.text_ops.specs.MatchKeys.{space}
use Rattle.text_ops.specs.TextMeaning.{numbered_line}
use Rattle.text_ops.specs.inside.Gathering.{IsGathered}
use Rattle.text_ops.specs.inside.Numbering.{NumberedSoFar, all_behind}
use Rattle.text_ops.proofs.LineLemmas.{IsNormal-text_of}

-- the number in decimal and a space before each line
pub all_numbered : (number : ℕ) (front : List ℕ) (lines : List (List ℕ)) → front ≡ decimal number ++ space ∷ [] → all_behind front lines ≡ text_of (map (numbered_line number) lines)
all_numbered number front [] is = refl
all_numbered number front (line ∷ lines) is =
    ap (λ f. ended (f ++ line) ++ all_behind front lines) is
    ∙ ap (λ l. ended l ++ all_behind front lines) (append_assoc (decimal number) (space ∷ []) line)
    ∙ ap (λ rest. ended (numbered_line number line) ++ rest) (all_numbered number front lines is)

pub NumberedSoFar-start : (front text : List ℕ) (lines : List (List ℕ)) (made : Gathered) → lines ≡ lines_of text → IsGathered [] made → NumberedSoFar front text lines made
NumberedSoFar-start front text lines made are gathered = record { all = []; gathered = gathered; same = ap (all_behind front) are }

pub NumberedSoFar-next : (front text line : List ℕ) (lines more : List (List ℕ)) (made next : Gathered) → NumberedSoFar front text lines made → lines ≡ line ∷ more → ((all : List ℕ) → IsGathered all made → IsGathered (all ++ (front ++ (line ++ line_end ∷ []))) next) → NumberedSoFar front text more next
NumberedSoFar-next front text line lines more made next so_far are put =
    record {
      all = so_far.all ++ (front ++ (line ++ line_end ∷ []));
      gathered = put so_far.all so_far.gathered;
      same =
          append_assoc so_far.all (front ++ (line ++ line_end ∷ [])) (all_behind front more)
          ∙ ap (λ l. so_far.all ++ (l ++ all_behind front more)) (sym (append_assoc front line (line_end ∷ [])))
          ∙ ap (λ l. so_far.all ++ all_behind front l) (sym are)
          ∙ so_far.same;
    }

pub NumberedSoFar-end : (front text : List ℕ) (lines : List (List ℕ)) (made : Gathered) (so_far : NumberedSoFar front text lines made) → lines ≡ [] → so_far.all ≡ all_behind front (lines_of text)
NumberedSoFar-end front text lines made so_far none = sym (append-nil so_far.all) ∙ ap (λ l. so_far.all ++ all_behind front l) (sym none) ∙ so_far.same

pub IsNormal-all_behind : (front : List ℕ) (lines : List (List ℕ)) → IsNormal (all_behind front lines)
IsNormal-all_behind front lines = IsNormal-text_of (map (λ line. front ++ line) lines)
