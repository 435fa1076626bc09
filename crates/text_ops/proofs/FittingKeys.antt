-- How long a text's lines are, for the sort keys that hold their lengths.
use Rattle.std.proofs.Common.{◌≡◌, ℕ, suc, ◌+◌, ◌-◌, ◌^◌, ◌<◌, ◌≤◌, List, [], ◌∷◌, ◌++◌, length, take, drop, get_or, None, Some, refl, sym, ap, subst, ◌∙◌, arith, length-append, length-take, length-drop, get_or-take, append_assoc}
use Rattle.std.specs.List.{between}
use Rattle.std.proofs.lemmas.Bool.{eqb-true, eq-eqb}
use Rattle.std.proofs.lemmas.List.{length_push, take-append-drop, take-take, take_more, drop-drop, drop_at, get_or_at}
use Rattle.std.proofs.lemmas.List.Elements.{All-nil, All-cons, All-append, All-drop}
use Rattle.memchr.specs.Find.{IsLastByte, is_byte}
use Rattle.text_ops.specs.Lines.{line_end, lines_of, text_of, ended, IsNormal}
use Rattle.text_ops.specs.inside.SortKeys.{AreUpTo, KeysFit}
use Rattle.text_ops.proofs.LineLemmas.{lines_of-append, IsNormal-ended, IsNormal-drop}
use Rattle.text_ops.proofs.LineSteps.{text_is}

-- lines that aren't longer, the first and the others
module _ (most : ℕ) (lines : List (List ℕ)) (line : List ℕ) (more : List (List ℕ)) (is : lines ≡ line ∷ more) (short : AreUpTo most lines) where
  parts : AreUpTo most (line ∷ more)
  parts = subst (AreUpTo most) is short

  pub AreUpTo-first : length line ≤ most
  AreUpTo-first = parts 0 [] (omega arith)

  pub AreUpTo-rest : AreUpTo most more
  AreUpTo-rest k d low = parts (suc k) d (omega arith)

-- lines are shorter than what they are together
AreUpTo-lines : (most : ℕ) (lines : List (List ℕ)) → length (text_of lines) ≤ most + 1 → AreUpTo most lines
AreUpTo-lines most [] few = All-nil (λ (line : List ℕ). length line ≤ most)
AreUpTo-lines most (line ∷ lines) few =
    let long = length-append (ended line) (text_of lines) in
    All-cons (λ (line : List ℕ). length line ≤ most) line lines (omega (arith, few, long, length_push line line_end))
    (AreUpTo-lines most lines (omega (arith, few, long)))

pub AreUpTo-text : (most : ℕ) (text : List ℕ) → IsNormal text → length text ≤ most + 1 → AreUpTo most (lines_of text)
AreUpTo-text most text is few = AreUpTo-lines most (lines_of text) (omega (arith, few, ap length (text_is text is)))

pub KeysFit-long : (text : List ℕ) → IsNormal text → length text < 2 ^ 64 → KeysFit (2 ^ 64 - 1) (2 ^ 64 - 1) text
KeysFit-long text is few =
    record {
      starts = omega arith;
      lens = AreUpTo-text (2 ^ 64 - 1) text is (omega arith);
    }

-- A line end is found within a line's reach. The lines up to it aren't longer, so it depends on the others.
module _ (most at end : ℕ) (text : List ℕ) (found : IsLastByte (is_byte line_end) (between at (at + (most + 1)) text) (Some end)) where
  abbrev rest : List ℕ
  rest = drop at text

  abbrev reach : List ℕ
  reach = take (most + 1) rest

  in_reach : IsLastByte (is_byte line_end) reach (Some end)
  in_reach =
      let long : at + (most + 1) - at ≡ most + 1 = omega arith in
      subst (λ n. IsLastByte (is_byte line_end) (take n rest) (Some end)) long found

  end_low : (end < most + 1) × (end < length rest)
  end_low = let long = length-take (most + 1) rest in (omega (arith, in_reach.0.high, long), omega (arith, in_reach.0.high, long))

  pub end_within : at ≤ length text → at + (end + 1) ≤ length text
  end_within within = omega (arith, end_low.1, length-drop at text, within)

  front_normal : IsNormal (take (end + 1) rest)
  front_normal =
      let ends = take_more reach end 0 in_reach.0.high ∙ ap (λ byte. take end reach ++ byte ∷ []) (eqb-true _ line_end in_reach.1) in
      subst IsNormal (sym (sym (take-take (end + 1) (most + 1) rest (omega (arith, end_low.0))) ∙ ends)) (IsNormal-ended (take end reach))

  parts_of : lines_of rest ≡ lines_of (take (end + 1) rest) ++ lines_of (drop (end + 1) rest)
  parts_of = ap lines_of (sym (take-append-drop (end + 1) rest)) ∙ lines_of-append (take (end + 1) rest) (drop (end + 1) rest) front_normal

  pub AreUpTo-further : AreUpTo most (lines_of (drop (at + (end + 1)) text)) → AreUpTo most (lines_of rest)
  AreUpTo-further later =
      let front = take (end + 1) rest in
      let behind = drop (end + 1) rest in
      let few : length front ≤ most + 1 = omega (arith, length-take (end + 1) rest, end_low.0) in
      subst (AreUpTo most) (sym parts_of)
      (All-append (λ (line : List ℕ). length line ≤ most) (lines_of front) (lines_of behind) (AreUpTo-text most front front_normal few)
      (subst (λ l. AreUpTo most (lines_of l)) (sym (drop-drop (end + 1) at text)) later))

  pub AreUpTo-behind : AreUpTo most (lines_of rest) → AreUpTo most (lines_of (drop (at + (end + 1)) text))
  AreUpTo-behind short =
      let front = lines_of (take (end + 1) rest) in
      let behind = lines_of (drop (end + 1) rest) in
      subst (λ l. AreUpTo most (lines_of l)) (drop-drop (end + 1) at text)
      (subst (AreUpTo most) (drop_at front behind (length front) refl)
      (All-drop (λ (line : List ℕ). length line ≤ most) (length front) (front ++ behind) (subst (AreUpTo most) parts_of short)))

-- Where none is found there, the next line is longer.
no_end : (most : ℕ) (rest : List ℕ) (lines : List (List ℕ)) → rest ≡ text_of lines → 0 < length rest → IsLastByte (is_byte line_end) (take (most + 1) rest) None → ¬ AreUpTo most lines
no_end most rest [] is some none short = omega (arith, ap length is)
no_end most rest (line ∷ lines) is some none short =
    let low : length line < most + 1 = omega (arith, AreUpTo-first most (line ∷ lines) line lines refl short) in
    let parts = is ∙ append_assoc line (line_end ∷ []) (text_of lines) in
    let long = ap length parts ∙ length-append line (line_end ∷ text_of lines) in
    let ends = get_or-take (most + 1) rest (length line) 0 low ∙ ap (λ l. get_or l (length line) 0) parts ∙ get_or_at line line_end (text_of lines) 0 (length line) refl in
    none (length line) (omega arith) (omega (arith, low, long, length-take (most + 1) rest)) (eq-eqb _ line_end ends)

pub AreUpTo-never : (most at : ℕ) (text : List ℕ) → IsNormal text → at < length text → IsLastByte (is_byte line_end) (between at (at + (most + 1)) text) None → ¬ AreUpTo most (lines_of (drop at text))
AreUpTo-never most at text is low none =
    let rest = drop at text in
    let long : at + (most + 1) - at ≡ most + 1 = omega arith in
    no_end most rest (lines_of rest) (text_is rest (IsNormal-drop text at is)) (omega (arith, length-drop at text))
    (subst (λ n. IsLastByte (is_byte line_end) (take n rest) None) long none)
