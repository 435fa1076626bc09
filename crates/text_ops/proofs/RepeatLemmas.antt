-- Steps of the loop that keeps lines that differ from the one before.
use Rattle.std.proofs.Common.{◌≡◌, ℕ, ◌+◌, ◌≤◌, true, false, List, [], ◌∷◌, ◌++◌, length, drop, Option, Some, None, refl, sym, ap, subst, ◌∙◌, arith, append_assoc, append-nil}
use Rattle.std.specs.List.{between}
use Rattle.std.proofs.lemmas.Bool.{cond-true, cond-false}
use Rattle.text_ops.specs.declared.line_runs.LineRuns.{LineRuns}
use Rattle.text_ops.specs.Lines.{lines_of, text_of, ended, IsNormal}
use Rattle.text_ops.specs.Repeats.{changes, without_repeats}
use Rattle.text_ops.specs.TextMeaning.{uniq_meaning}
use Rattle.text_ops.specs.inside.Keeping.{HasKept}
use Rattle.text_ops.specs.inside.Repeating.{is_repeated, changes_after, UniqSoFar}
use Rattle.text_ops.proofs.LineSteps.{text_is, line_inside, next_rest, line_between, line_between_normal}

pub UniqSoFar-start : (text bytes : List ℕ) (runs : LineRuns) (lines : List (List ℕ)) → HasKept text [] runs → runs.end ≡ 0 → IsNormal text → bytes ≡ text → lines ≡ lines_of bytes → UniqSoFar text runs None 0 lines
UniqSoFar-start text bytes runs lines kept end is same are =
    let all = are ∙ ap lines_of same in
    record {
      all = [];
      kept = kept;
      behind = omega (arith, end);
      within = omega arith;
      rest = text_is text is ∙ ap text_of (sym all);
      same = ap (λ l. text_of (without_repeats l)) all;
    }

-- a line that differs from the one before it, and one that doesn't
changes-kept : (before : Option (List ℕ)) (line : List ℕ) (lines : List (List ℕ)) → is_repeated before line ≡ false → changes_after before (line ∷ lines) ≡ line ∷ changes line lines
changes-kept None line lines differs = refl
changes-kept (Some before) line lines differs = cond-false _ _ _ differs

changes-left : (before : Option (List ℕ)) (line : List ℕ) (lines : List (List ℕ)) → is_repeated before line ≡ true → changes_after before (line ∷ lines) ≡ changes line lines
changes-left None line lines same = cc
changes-left (Some before) line lines same = cond-true _ _ _ same

module _ (text : List ℕ) (runs : LineRuns) (before : Option (List ℕ)) (at : ℕ) (line : List ℕ) (lines more : List (List ℕ)) (so_far : UniqSoFar text runs before at lines) (is : lines ≡ line ∷ more) where
  rest : drop at text ≡ text_of (line ∷ more)
  rest = so_far.rest ∙ ap text_of is

  pub next_inside : at + length line + 1 ≤ length text
  next_inside = line_inside text at line more rest so_far.within

  pub next_normal : IsNormal (between at (at + length line + 1) text)
  next_normal = line_between_normal text at line more rest

  pub UniqSoFar-kept : (next : LineRuns) → is_repeated before line ≡ false → HasKept text (so_far.all ++ between at (at + length line + 1) text) next → next.end ≤ at + length line + 1 → UniqSoFar text next (Some line) (at + length line + 1) more
  UniqSoFar-kept next differs kept behind =
      let changed = text_of (changes line more) in
      record {
        all = so_far.all ++ between at (at + length line + 1) text;
        kept = kept;
        behind = behind;
        within = next_inside;
        rest = next_rest text at line more rest;
        same =
            ap (λ l. so_far.all ++ l ++ changed) (line_between text at line more rest)
            ∙ append_assoc so_far.all (ended line) changed
            ∙ ap (λ l. so_far.all ++ text_of l) (sym (ap (changes_after before) is ∙ changes-kept before line more differs))
            ∙ so_far.same;
      }

  pub UniqSoFar-left : (next : LineRuns) → next ≡ runs → is_repeated before line ≡ true → UniqSoFar text next (Some line) (at + length line + 1) more
  UniqSoFar-left next same_runs same =
      record {
        all = so_far.all;
        kept = subst (HasKept text so_far.all) (sym same_runs) so_far.kept;
        behind = omega (arith, so_far.behind, ap (λ (r : LineRuns). r.end) same_runs);
        within = next_inside;
        rest = next_rest text at line more rest;
        same = ap (λ l. so_far.all ++ text_of l) (sym (ap (changes_after before) is ∙ changes-left before line more same)) ∙ so_far.same;
      }

-- at the end all is kept that is to be
pub UniqSoFar-end : (text : List ℕ) (runs : LineRuns) (before : Option (List ℕ)) (at : ℕ) (lines : List (List ℕ)) (so_far : UniqSoFar text runs before at lines) → lines ≡ [] → so_far.all ≡ uniq_meaning text
UniqSoFar-end text runs before at lines so_far none = sym (append-nil so_far.all) ∙ ap (λ l. so_far.all ++ text_of l) (sym (ap (changes_after before) none ∙ nothing before)) ∙ so_far.same
  where
    nothing : (b : Option (List ℕ)) → changes_after b [] ≡ []
    nothing None = refl
    nothing (Some line) = refl
