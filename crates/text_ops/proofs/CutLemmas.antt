-- What holds of places between lines.
use Rattle.std.proofs.Common.{◌≡◌, ◌≢◌, ℕ, ◌+◌, ◌-◌, ◌<◌, ◌≤◌, cond, ◌==◌, List, [], ◌∷◌, ◌++◌, length, take, drop, get_or, None, Some, refl, sym, ap, subst, ◌∙◌, arith, length-drop, append-nil, append_assoc}
use Rattle.std.specs.List.{between}
use Rattle.std.proofs.Math.Seq.{take-add}
use Rattle.std.proofs.lemmas.Bool.{eqb-true, eq-eqb}
use Rattle.std.proofs.lemmas.List.{take-append-drop, take_all, drop_all, take_at, drop_at, take_more, length-take-le, get_or-take}
use Rattle.std.proofs.lemmas.List.Sums.{sum_by-append}
use Rattle.std.proofs.lemmas.Slice.{between_to_end}
use Rattle.std.proofs.lemmas.List.Edits.{length-between, get_or-between}
use Rattle.memchr.specs.Find.{IsFirstByte, IsLastByte, is_byte}
use Rattle.text_ops.specs.Lines.{line_end, lines_of, text_of, ended, IsNormal, IsPlain}
use Rattle.text_ops.specs.LineParts.{IsCut}
use Rattle.text_ops.specs.inside.Cuts.{end_count, LeftBehind, LeftBefore}
use Rattle.text_ops.proofs.LineLemmas.{lines_of-append, text_of-lines_of, normal_same, count_by-lines_of, ended_once, IsNormal-ended, IsNormal-drop}
use Rattle.text_ops.proofs.WalkLemmas.{no_line, first_line_plain}

pub end_count-append : (xs ys : List ℕ) → end_count (xs ++ ys) ≡ end_count xs + end_count ys
end_count-append xs ys = sum_by-append (λ byte. cond (byte == line_end) 1 0) xs ys

-- whole lines before a place cut the text
pub IsCut-counted : (text : List ℕ) (n place : ℕ) → place ≤ length text → IsNormal (take place text) → end_count (take place text) ≡ n → IsCut text n place
IsCut-counted text n place within whole counted =
    let front = lines_of (take place text) in
    let back = lines_of (drop place text) in
    let parts = ap lines_of (sym (take-append-drop place text)) ∙ lines_of-append (take place text) (drop place text) whole in
    let long : length front ≡ n = sym (count_by-lines_of (take place text) whole) ∙ counted in
    record {
      within = within;
      whole = whole;
      before = ap (take n) parts ∙ take_at front back n long;
      behind = ap (drop n) parts ∙ drop_at front back n long;
    }

-- all lines, where there are no more
pub IsCut-all : (text : List ℕ) (n : ℕ) → IsNormal text → end_count text ≤ n → IsCut text n (length text)
IsCut-all text n is few =
    let lines = lines_of text in
    let short : length lines ≤ n = omega (arith, count_by-lines_of text is) in
    let all = take_all (length text) text (omega arith) in
    record {
      within = omega arith;
      whole = subst IsNormal (sym all) is;
      before = take_all n lines short ∙ ap lines_of (sym all);
      behind = drop_all n lines short ∙ ap lines_of (sym (drop_all (length text) text (omega arith)));
    }

-- no line
pub IsCut-none : (text : List ℕ) (n : ℕ) → n ≡ 0 → IsCut text n 0
IsCut-none text n none = subst (λ m. IsCut text m 0) (sym none) (record { within = omega arith; whole = refl; before = refl; behind = refl })

-- what stands before a cut and behind it
pub text_before : (text : List ℕ) (n place : ℕ) → IsCut text n place → text_of (take n (lines_of text)) ≡ take place text
text_before text n place cut = ap text_of cut.before ∙ text_of-lines_of (take place text) ∙ normal_same (take place text) cut.whole

pub text_behind : (text : List ℕ) (n place : ℕ) → IsNormal text → IsCut text n place → text_of (drop n (lines_of text)) ≡ drop place text
text_behind text n place is cut = ap text_of cut.behind ∙ text_of-lines_of (drop place text) ∙ normal_same (drop place text) (IsNormal-drop text place is)

-- line ends before a place further on
end_count-further : (text : List ℕ) (at more : ℕ) → end_count (take (at + more) text) ≡ end_count (take at text) + end_count (take more (drop at text))
end_count-further text at more = ap end_count (take-add at more text) ∙ end_count-append (take at text) (take more (drop at text))

-- one line has one
end_count-line : (text : List ℕ) (end : ℕ) → IsFirstByte (is_byte line_end) text (Some end) → end_count (take (end + 1) text) ≡ 1
end_count-line text end found =
    let line = take end text in
    let is : take (end + 1) text ≡ ended line = take_more text end 0 found.0.high ∙ ap (λ byte. line ++ byte ∷ []) (eqb-true _ line_end found.1) in
    ap end_count is ∙ ended_once line (first_line_plain text end found)

-- the next line end
module _ (text : List ℕ) (n at left gap : ℕ) (so_far : LeftBehind text n at left) (found : IsFirstByte (is_byte line_end) (between at (length text) text) (Some gap)) where
  rest_is : between at (length text) text ≡ drop at text
  rest_is = between_to_end text at (length text) (omega arith)

  in_rest : IsFirstByte (is_byte line_end) (drop at text) (Some gap)
  in_rest = subst (λ rest. IsFirstByte (is_byte line_end) rest (Some gap)) rest_is found

  pub next_within : at + (gap + 1) ≤ length text
  next_within = omega (arith, in_rest.0.high, length-drop at text, so_far.within)

  pub next_counted : end_count (take (at + (gap + 1)) text) + left ≡ n + 1
  next_counted = omega (arith, end_count-further text at (gap + 1), end_count-line (drop at text) gap in_rest, so_far.ends)

  pub next_whole : IsNormal (take (at + (gap + 1)) text)
  next_whole =
      let one = take_more (drop at text) gap 0 in_rest.0.high ∙ ap (λ byte. take gap (drop at text) ++ byte ∷ []) (eqb-true _ line_end in_rest.1) in
      subst IsNormal (sym (take-add at (gap + 1) text ∙ ap (λ l. take at text ++ l) one ∙ sym (append_assoc (take at text) (take gap (drop at text)) (line_end ∷ []))))
      (IsNormal-ended (take at text ++ take gap (drop at text)))

-- no line end is left
pub LeftBehind-none : (text : List ℕ) (n at left : ℕ) → IsNormal text → LeftBehind text n at left → IsFirstByte (is_byte line_end) (between at (length text) text) None → IsCut text n (length text)
LeftBehind-none text n at left is so_far none =
    let rest = between_to_end text at (length text) (omega arith) in
    let empty = no_line (drop at text) (IsNormal-drop text at is) (subst (λ l. IsFirstByte (is_byte line_end) l None) rest none) in
    let whole : text ≡ take at text = sym (take-append-drop at text) ∙ ap (λ l. take at text ++ l) empty ∙ append-nil (take at text) in
    IsCut-all text n is (omega (arith, ap end_count whole, so_far.ends))

-- a block further on
pub LeftBehind-block : (text : List ℕ) (n at left more ends : ℕ) → LeftBehind text n at left → at + more ≤ length text → ends ≡ end_count (between at (at + more) text) → ends < left → LeftBehind text n (at + more) (left - ends)
LeftBehind-block text n at left more ends so_far within counted few =
    let long : at + more - at ≡ more = omega arith in
    let block = counted ∙ ap (λ k. end_count (take k (drop at text))) long in
    record {
      within = within;
      some = omega arith;
      ends = omega (arith, end_count-further text at more, block, so_far.ends);
    }

-- line ends before a place and behind it
end_count-split : (text : List ℕ) (place : ℕ) → end_count (take place text) + end_count (drop place text) ≡ end_count text
end_count-split text place = sym (end_count-append (take place text) (drop place text)) ∙ ap end_count (take-append-drop place text)

-- none in a line
end_count-plain : (line : List ℕ) → IsPlain line → end_count line ≡ 0
end_count-plain line plain =
    let one = ended_once line plain in
    omega (arith, one, end_count-append line (line_end ∷ []))

-- a block from the end back
pub LeftBefore-block : (text : List ℕ) (n end left more ends : ℕ) → LeftBefore text n end left → more ≤ end → ends ≡ end_count (between (end - more) end text) → ends < left → LeftBefore text n (end - more) (left - ends)
LeftBefore-block text n end left more ends so_far within counted few =
    let at : end - more + more ≡ end = omega arith in
    let long : end - (end - more) ≡ more = omega arith in
    let block = counted ∙ ap (λ k. end_count (take k (drop (end - more) text))) long in
    let whole = end_count-further text (end - more) more in
    let here = ap (λ k. end_count (take k text)) at in
    record {
      within = omega (arith, so_far.within);
      some = omega arith;
      ends = omega (arith, whole, here, block, so_far.ends, end_count-split text (end - more), end_count-split text end);
    }

pub LeftBefore-all : (text : List ℕ) (n : ℕ) → 0 < n → LeftBefore text n (length text) n
LeftBefore-all text n some =
    record { within = omega arith; some = some; ends = ap (λ l. end_count l + n) (drop_all (length text) text (omega arith)) ∙ omega arith }

-- the line end before a place
module _ (text : List ℕ) (n end left place : ℕ) (so_far : LeftBefore text n end left) (found : IsLastByte (is_byte line_end) (take end text) (Some place)) where
  pub place_before : place < end
  place_before = omega (arith, found.0.high, length-take-le end text so_far.within)

  line_before : take (place + 1) text ≡ ended (take place text)
  line_before =
      take_more text place 0 (omega (arith, place_before, so_far.within))
      ∙ ap (λ byte. take place text ++ byte ∷ []) (sym (get_or-take end text place 0 place_before) ∙ eqb-true _ line_end found.1)

  plain_behind : IsPlain (between (place + 1) end text)
  plain_behind k low is =
      let long : length (between (place + 1) end text) ≡ end - (place + 1) = length-between text (place + 1) end so_far.within in
      let read = get_or-between text (place + 1) end k 0 (omega arith) in
      let byte : get_or (take end text) (place + 1 + k) 0 ≡ line_end = get_or-take end text (place + 1 + k) 0 (omega (arith, place_before)) ∙ sym read ∙ is in
      found.0.after (place + 1 + k) (omega arith) (omega (arith, place_before, length-take-le end text so_far.within)) (eq-eqb _ line_end byte)

  counted_behind : end_count (drop (place + 1) text) ≡ end_count (drop end text)
  counted_behind =
      let at : place + 1 + (end - (place + 1)) ≡ end = omega (arith, place_before) in
      let further = end_count-further text (place + 1) (end - (place + 1)) in
      let here = ap (λ k. end_count (take k text)) at in
      omega (arith, further, here, end_count-plain (between (place + 1) end text) plain_behind, end_count-split text (place + 1), end_count-split text end)

  counted_at : end_count (take (place + 1) text) ≡ end_count (take place text) + 1
  counted_at = ap end_count line_before ∙ end_count-append (take place text) (line_end ∷ [])

  pub LeftBefore-next : left - 1 ≢ 0 → LeftBefore text n place (left - 1)
  LeftBefore-next more =
      record {
        within = omega (arith, place_before, so_far.within);
        some = omega arith;
        ends = omega (arith, counted_at, counted_behind, end_count-split text (place + 1), end_count-split text place, so_far.ends, so_far.some);
      }

  pub IsCut-last : (lines : ℕ) → n ≡ lines + 1 → IsNormal text → left - 1 ≡ 0 → IsCut text (length (lines_of text) - lines) (place + 1)
  IsCut-last lines same is last =
      IsCut-counted text (length (lines_of text) - lines) (place + 1) (omega (arith, place_before, so_far.within))
      (subst IsNormal (sym line_before) (IsNormal-ended (take place text)))
      (omega (arith, counted_behind, end_count-split text (place + 1), so_far.ends, so_far.some, count_by-lines_of text is))

-- none before it
pub IsCut-first : (text : List ℕ) (n end left lines : ℕ) → n ≡ lines + 1 → IsNormal text → LeftBefore text n end left → IsLastByte (is_byte line_end) (take end text) None → IsCut text (length (lines_of text) - lines) 0
IsCut-first text n end left lines same is so_far none =
    let plain : IsPlain (take end text) = λ k low at. none k (omega arith) low (eq-eqb _ line_end at) in
    IsCut-none text (length (lines_of text) - lines)
    (omega (arith, end_count-plain (take end text) plain, end_count-split text end, so_far.ends, so_far.some, count_by-lines_of text is))

-- the parts that are cut
pub part_before : (text bytes : List ℕ) (n place : ℕ) → bytes ≡ text → IsCut bytes n place → between 0 place text ≡ text_of (take n (lines_of text))
part_before text bytes n place same cut =
    let long : place - 0 ≡ place = omega arith in
    ap (λ k. take k text) long ∙ sym (text_before text n place (subst (λ b. IsCut b n place) same cut))

pub part_behind : (text bytes : List ℕ) (n place : ℕ) → bytes ≡ text → IsNormal text → IsCut bytes n place → between place (length bytes) text ≡ text_of (drop n (lines_of text))
part_behind text bytes n place same is cut =
    between_to_end text place (length bytes) (omega (arith, ap length same)) ∙ sym (text_behind text n place is (subst (λ b. IsCut b n place) same cut))

pub IsNormal-behind : (text bytes : List ℕ) (place : ℕ) → bytes ≡ text → IsNormal text → IsNormal (between place (length bytes) text)
IsNormal-behind text bytes place same is = subst IsNormal (sym (between_to_end text place (length bytes) (omega (arith, ap length same)))) (IsNormal-drop text place is)
