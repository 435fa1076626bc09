-- Where the line around a place starts and ends.
use Rattle.std.proofs.Common.{◌≡◌, ℕ, ◌+◌, ◌-◌, ◌<◌, ◌≤◌, List, [], ◌∷◌, ◌++◌, None, Some, length, take, get_or, sym, ap, subst, ◌∙◌, arith}
use Rattle.std.specs.List.{between}
use Rattle.std.proofs.lemmas.Bool.{eq-eqb, eqb-true}
use Rattle.std.proofs.lemmas.List.{take_more, length-take-le, get_or-take}
use Rattle.std.proofs.lemmas.List.Edits.{get_or-between, length-between}
use Rattle.memchr.specs.Find.{IsFirstByte, IsLastByte, is_byte}
use Rattle.text_ops.specs.Lines.{line_end, IsNormal}
use Rattle.text_ops.specs.inside.FoundLine.{StartsLine, EndsLine}
use Rattle.text_ops.proofs.LineLemmas.{IsNormal-ended, last_of_normal}

-- behind the last line end before the place
pub StartsLine-behind : (text : List ℕ) (place end : ℕ) → place ≤ length text → IsLastByte (is_byte line_end) (take place text) (Some end) → StartsLine text place (end + 1)
StartsLine-behind text place end inside found =
    let long = length-take-le place text inside in
    let reads : (k : ℕ) → k < place → get_or (take place text) k 0 ≡ get_or text k 0 = λ k low. get_or-take place text k 0 low in
    let low : end < place = omega (arith, found.0.high) in
    let ends = sym (reads end low) ∙ eqb-true _ line_end found.1 in
    record {
      before = omega arith;
      whole_lines = subst IsNormal (sym (take_more text end 0 (omega arith) ∙ ap (λ byte. take end text ++ byte ∷ []) ends)) (IsNormal-ended (take end text));
      plain = λ k behind before is. found.0.after k behind (omega (arith, long)) (eq-eqb _ line_end (reads k before ∙ is));
    }

module _ (text : List ℕ) (place : ℕ) (inside : place ≤ length text) where
  abbrev rest : List ℕ
  rest = between place (length text) text

  rest_reads : (k : ℕ) → place ≤ k → k < length text → get_or rest (k - place) 0 ≡ get_or text k 0
  rest_reads k behind within =
      let same : place + (k - place) ≡ k = omega arith in
      get_or-between text place (length text) (k - place) 0 (omega arith) ∙ ap (λ j. get_or text j 0) same

  length-rest : length rest ≡ length text - place
  length-rest = length-between text place (length text) (omega arith)

  -- behind the first line end at the place or behind it
  pub EndsLine-at : (gap : ℕ) → IsFirstByte (is_byte line_end) rest (Some gap) → EndsLine text place (place + gap + 1)
  EndsLine-at gap found =
      let low : gap < length text - place = omega (arith, found.0.high, length-rest) in
      let back : place + gap + 1 - 1 - place ≡ gap = omega arith in
      let read = sym (rest_reads (place + gap + 1 - 1) (omega arith) (omega arith)) ∙ ap (λ j. get_or rest j 0) back in
      record {
        past = omega arith;
        within = omega arith;
        ends = read ∙ eqb-true _ line_end found.1;
        plain = λ k behind before is. found.0.before (k - place) (omega arith) (omega arith) (eq-eqb _ line_end (rest_reads k behind (omega arith) ∙ is));
      }

  -- a normal text has one
  pub EndsLine-none : (end : ℕ) → place < length text → IsNormal text → IsFirstByte (is_byte line_end) rest None → EndsLine text place end
  EndsLine-none end before is none =
      let k = length text - 1 in
      absurd (none (k - place) (omega arith) (omega (arith, length-rest))
      (eq-eqb _ line_end (rest_reads k (omega arith) (omega arith) ∙ last_of_normal text k is (omega arith))))
