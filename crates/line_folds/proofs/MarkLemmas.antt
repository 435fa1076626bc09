-- Where lines begin.
use Rattle.std.proofs.Common.{◌≡◌, ℕ, zero, suc, ◌+◌, ◌*◌, ◌-◌, ◌<◌, ◌≤◌, Bool, true, false, cond, List, [], ◌∷◌, ◌++◌, length, take, drop, get_or, refl, sym, ap, subst, ◌∙◌, arith, ⊎_elim, length-append, length-take, length-drop}
use Rattle.std.specs.List.{between, onto_first}
use Rattle.std.specs.Prelude.{slice_index}
use Rattle.std.proofs.lemmas.Slice.{between_to_end}
use Rattle.std.proofs.Math.Seq.{take-add, get_or-append_seam}
use Rattle.std.proofs.Math.ListN.{get_or-append}
use Rattle.std.proofs.lemmas.Bool.{cases_lt}
use Rattle.std.proofs.lemmas.List.{drop-drop, drop_all, length_push}
use Rattle.text_ops.specs.Lines.{line_end, lines_of, IsNormal}
use Rattle.text_ops.specs.LineParts.{IsCut}
use Rattle.text_ops.proofs.LineLemmas.{lines_of-append, IsNormal-append, IsNormal-drop, text_of-lines_of, normal_same}
use Rattle.line_folds.specs.inside.Marks.{AreLineMarks, mark_step}

-- what is behind a place, as code cuts it off
pub behind : (text : List ℕ) (place : ℕ) → between place (length text) text ≡ drop place text
behind text place = between_to_end text place (length text) (omega arith)

pub IsNormal-behind : (text : List ℕ) (place : ℕ) → IsNormal text → IsNormal (between place (length text) text)
IsNormal-behind text place is = subst IsNormal (sym (behind text place)) (IsNormal-drop text place is)

-- a cut of what is behind a cut
pub IsCut-further : (text : List ℕ) (m n place gap : ℕ) → IsCut text m place → IsCut (drop place text) n gap → IsCut text (m + n) (place + gap)
IsCut-further text m n place gap here there =
    let lines = lines_of text in
    let rest = drop place text in
    let front : take (place + gap) text ≡ take place text ++ take gap rest = take-add place gap text in
    record {
      within = omega (arith, here.within, there.within, length-drop place text);
      whole = subst IsNormal (sym front) (IsNormal-append (take place text) (take gap rest) here.whole there.whole);
      before =
          take-add m n lines
          ∙ ap (λ l. l ++ take n (drop m lines)) here.before
          ∙ ap (λ l. lines_of (take place text) ++ take n l) here.behind
          ∙ ap (λ l. lines_of (take place text) ++ l) there.before
          ∙ sym (lines_of-append (take place text) (take gap rest) here.whole)
          ∙ ap lines_of (sym front);
      behind = sym (drop-drop n m lines) ∙ ap (drop n) here.behind ∙ there.behind ∙ ap lines_of (drop-drop gap place text);
    }

-- a text that isn't empty has a line
pub some_line : (text : List ℕ) → IsNormal text → 0 < length text → 0 < length (lines_of text)
some_line text is some = by_lines (lines_of text) (text_of-lines_of text ∙ normal_same text is)
  where
    by_lines : (lines : List (List ℕ)) → Rattle.text_ops.specs.Lines.text_of lines ≡ text → 0 < length lines
    by_lines [] same = absurd (omega (arith, some, ap length same))
    by_lines (line ∷ lines) same = omega arith

-- behind a place before the end of a text there are more lines
pub more_lines : (text : List ℕ) (n at : ℕ) → IsNormal text → IsCut text n at → at < length text → n < length (lines_of text)
more_lines text n at is cut before =
    let rest = some_line (drop at text) (IsNormal-drop text at is) (omega (arith, before, length-drop at text)) in
    omega (arith, rest, ap length cut.behind, length-drop n (lines_of text))

-- the lines before a place and those from there on
pub lines_counted : (text : List ℕ) (n at : ℕ) → IsCut text n at → n ≤ length (lines_of text) → n + length (lines_of (drop at text)) ≡ length (lines_of text)
lines_counted text n at cut within = omega (arith, within, ap length cut.behind, length-drop n (lines_of text))

-- the first lines of a text that isn't empty have a byte
pub IsCut-moves : (text : List ℕ) (n place : ℕ) → IsNormal text → 0 < length text → 0 < n → IsCut text n place → 0 < place
IsCut-moves [] n place is some more cut = absurd (omega arith)
IsCut-moves (byte ∷ text) zero place is some more cut = absurd (omega arith)
IsCut-moves (byte ∷ text) (suc n) (suc place) is some more cut = omega arith
IsCut-moves (byte ∷ text) (suc n) zero is some more cut = no_line (lines_of (byte ∷ text)) (text_of-lines_of (byte ∷ text) ∙ normal_same (byte ∷ text) is) cut.before
  where
    no_line : (lines : List (List ℕ)) → Rattle.text_ops.specs.Lines.text_of lines ≡ byte ∷ text → take (suc n) lines ≡ [] → 0 < zero
    no_line [] same none = cc
    no_line (line ∷ lines) same none = cc

pub lines_le : (text : List ℕ) → length (lines_of text) ≤ length text
lines_le [] = omega arith
lines_le (byte ∷ rest) = by_test (Rattle.std.proofs.Common.◌==◌ byte line_end) (lines_le rest)
  where
    onto_le : (parts : List (List ℕ)) → length parts ≤ length rest → length (onto_first byte parts) ≤ suc (length rest)
    onto_le [] few = omega arith
    onto_le (line ∷ more) few = omega (arith, few)

    by_test : (b : Bool) → length (lines_of rest) ≤ length rest → length (cond b ([] ∷ lines_of rest) (onto_first byte (lines_of rest))) ≤ suc (length rest)
    by_test true few = omega (arith, few)
    by_test false few = onto_le (lines_of rest) few

-- the places so far, and one more
pub each_more : (text marks : List ℕ) (at : ℕ) → ((k : ℕ) → k < length marks → IsCut text (k * mark_step) (get_or marks k 0)) → IsCut text (length marks * mark_step) at
    → (k : ℕ) → k < length (marks ++ at ∷ []) → IsCut text (k * mark_step) (get_or (marks ++ at ∷ []) k 0)
each_more text marks at each last k below =
    ⊎_elim
    (λ before. subst (IsCut text (k * mark_step)) (sym (get_or-append marks (at ∷ []) 0 k before)) (each k before))
    (λ behind.
    let same : k ≡ length marks = omega (arith, behind, below, length_push marks at) in
    subst (λ j. IsCut text (j * mark_step) (get_or (marks ++ at ∷ []) j 0)) (sym same)
    (subst (IsCut text (length marks * mark_step)) (sym (get_or-append_seam marks at [] 0)) last))
    (cases_lt k (length marks))

-- at the end of the text there are no more lines
pub no_more : (text : List ℕ) (n at : ℕ) → IsCut text n at → length text ≤ at → length (lines_of text) ≤ n
no_more text n at cut end =
    let none = cut.behind ∙ ap lines_of (drop_all at text end) in
    omega (arith, ap length none, length-drop n (lines_of text))

-- the lines before the last place of an index
pub lines_before : (text marks : List ℕ) → AreLineMarks text marks → 0 < length marks → (length marks - 1) * mark_step ≤ length (lines_of text)
lines_before text marks are some = omega (arith, some, are.none_behind)

-- and all lines, with those from there on
pub lines_marked : (text marks : List ℕ) (place rest : ℕ) → AreLineMarks text marks → 0 < length marks → place ≡ slice_index marks (length marks - 1) → rest ≡ length (lines_of (between place (length text) text))
    → (length marks - 1) * mark_step + rest ≡ length (lines_of text)
lines_marked text marks place rest are some is counted =
    let n = (length marks - 1) * mark_step in
    let cut : IsCut text n place = subst (IsCut text n) (sym is) (are.each (length marks - 1) (omega (arith, some))) in
    omega (arith, counted, ap (λ l. length (lines_of l)) (behind text place), lines_counted text n place cut (lines_before text marks are some))
