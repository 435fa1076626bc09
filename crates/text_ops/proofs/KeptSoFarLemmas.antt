-- Steps of loops that keep lines.
use Rattle.std.proofs.Common.{◌≡◌, ℕ, ◌+◌, ◌-◌, ◌≤◌, List, [], ◌++◌, length, take, drop, refl, sym, ap, subst, ◌∙◌, arith, append_assoc}
use Rattle.std.specs.List.{between}
use Rattle.std.proofs.lemmas.List.{drop-drop}
use Rattle.std.proofs.lemmas.List.Edits.{length-between}
use Rattle.std.proofs.lemmas.Slice.{between_to_end}
use Rattle.text_ops.specs.declared.found_line.FoundLine.{FoundLine}
use Rattle.text_ops.specs.declared.line_runs.LineRuns.{LineRuns}
use Rattle.text_ops.specs.Lines.{IsNormal}
use Rattle.text_ops.specs.TextMeaning.{keep_meaning, without_meaning}
use Rattle.text_ops.specs.inside.FoundLine.{IsFirstKept, IsNowhere}
use Rattle.text_ops.specs.inside.Keeping.{HasKept}
use Rattle.text_ops.specs.inside.KeptSoFar.{KeptSoFar}
use Rattle.text_ops.proofs.LineLemmas.{IsNormal-drop}

-- nothing at the beginning
pub KeptSoFar-start : (kept_of : List ℕ → List ℕ) (text : List ℕ) (runs : LineRuns) → HasKept text [] runs → runs.end ≡ 0 → IsNormal text → KeptSoFar kept_of text runs 0
KeptSoFar-start kept_of text runs kept end is =
    record { all = []; kept = kept; behind = omega (arith, end); within = omega arith; rest = is; same = refl }

-- some lines from the place on are kept, and the place moves on
pub KeptSoFar-step : (kept_of : List ℕ → List ℕ) (text : List ℕ) (runs next : LineRuns) (at place : ℕ) (more : List ℕ) (so_far : KeptSoFar kept_of text runs at) → HasKept text (so_far.all ++ more) next → next.end ≤ place → place ≤ length text → IsNormal (drop place text) → kept_of (drop at text) ≡ more ++ kept_of (drop place text) → KeptSoFar kept_of text next place
KeptSoFar-step kept_of text runs next at place more so_far kept behind within rest is =
    record {
      all = so_far.all ++ more;
      kept = kept;
      behind = behind;
      within = within;
      rest = rest;
      same = append_assoc so_far.all more (kept_of (drop place text)) ∙ ap (λ l. so_far.all ++ l) (sym is) ∙ so_far.same;
    }

-- The first line in which a word occurs, of the rest of a text.
module _ (word text : List ℕ) (at : ℕ) (line : FoundLine) (within : at ≤ length text) (found : IsFirstKept word (between at (length text) text) line) where
  rest_is : between at (length text) text ≡ drop at text
  rest_is = between_to_end text at (length text) (omega arith)

  pub line_within : at + line.end ≤ length text
  line_within = omega (arith, found.within, length-between text at (length text) (omega arith))

  line_is : between line.start line.end (between at (length text) text) ≡ between (at + line.start) (at + line.end) text
  line_is =
      let long : line.end - line.start ≡ at + line.end - (at + line.start) = omega arith in
      ap (between line.start line.end) rest_is
      ∙ ap (take (line.end - line.start)) (drop-drop line.start at text)
      ∙ ap (λ n. take n (drop (at + line.start) text)) long

  front_is : take line.start (between at (length text) text) ≡ between at (at + line.start) text
  front_is =
      let long : line.start ≡ at + line.start - at = omega arith in
      ap (take line.start) rest_is ∙ ap (λ n. take n (drop at text)) long

  after_is : drop line.end (between at (length text) text) ≡ drop (at + line.end) text
  after_is = ap (drop line.end) rest_is ∙ drop-drop line.end at text

  pub line_whole : IsNormal (between (at + line.start) (at + line.end) text)
  line_whole = subst IsNormal line_is found.whole

  pub front_whole : IsNormal (between at (at + line.start) text)
  front_whole = subst IsNormal front_is found.before

  pub after_whole : IsNormal (drop at text) → IsNormal (drop (at + line.end) text)
  after_whole is = subst IsNormal (drop-drop line.end at text) (IsNormal-drop (drop at text) line.end is)

  pub next_kept : keep_meaning word (drop at text) ≡ between (at + line.start) (at + line.end) text ++ keep_meaning word (drop (at + line.end) text)
  next_kept =
      ap (keep_meaning word) (sym rest_is) ∙ found.kept
      ∙ ap (λ l. l ++ keep_meaning word (drop line.end (between at (length text) text))) line_is
      ∙ ap (λ l. between (at + line.start) (at + line.end) text ++ keep_meaning word l) after_is

  pub next_others : without_meaning word (drop at text) ≡ between at (at + line.start) text ++ without_meaning word (drop (at + line.end) text)
  next_others =
      ap (without_meaning word) (sym rest_is) ∙ found.others
      ∙ ap (λ l. l ++ without_meaning word (drop line.end (between at (length text) text))) front_is
      ∙ ap (λ l. between at (at + line.start) text ++ without_meaning word l) after_is

-- the word occurs in no line of the rest
pub rest_nowhere : (word text : List ℕ) (at : ℕ) → IsNowhere word (between at (length text) text) → IsNowhere word (drop at text)
rest_nowhere word text at none = subst (IsNowhere word) (between_to_end text at (length text) (omega arith)) none
