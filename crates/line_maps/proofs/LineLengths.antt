-- How long the values of single lines are.
use Rattle.std.proofs.Common.{◌≡◌, ℕ, zero, suc, ◌+◌, ◌-◌, ◌<◌, ◌≤◌, Bool, true, false, cond, not, decimal, List, ◌==◌, [], ◌∷◌, ◌++◌, length, take, drop, filter, map, get_or, refl, sym, ap, subst, ◌∙◌, arith, append-nil, length-append}
use Rattle.std.specs.Fmt.{digits}
use Rattle.std.specs.List.{AllByRecursion, onto_first}
use Rattle.std.specs.Str.{bytes_eq}
use Rattle.std.proofs.lemmas.List.{drop_more, length_push}
use Rattle.std.proofs.lemmas.List.Sums.{sum_by-cons}
use Rattle.graph_plans.specs.declared.ops.TextOp.{TextOp}
use Rattle.graph_plans.specs.declared.ops.TextOp.TheVariants.{Pass, Keep, Without, Head, Tail, Skip, Sort, Uniq, Count, Tally}
use Rattle.text_ops.specs.Lines.{line_end, lines_of, text_of, ended, occurs, IsPlain}
use Rattle.text_ops.specs.LineParts.{IsCut}
use Rattle.text_ops.specs.Repeats.{count_of}
use Rattle.text_ops.specs.TextMeaning.{tally_line}
use Rattle.text_ops.proofs.KeepLemmas.{lines_plain}
use Rattle.text_ops.proofs.LineLemmas.{lines_of-ended, normal_same, text_of-lines_of}
use Rattle.text_ops.specs.Values.{value_limit}
use Rattle.text_tasks.specs.OpMeaning.{text_op_value}
use Rattle.line_maps.specs.LineMaps.{line_map_limit}

none_digit : decimal 0 ≡ 48 ∷ []
unfolding digits
none_digit = refl

one_digit : decimal 1 ≡ 49 ∷ []
unfolding digits
one_digit = refl

module _ (line : List ℕ) where
  -- the text of one line or of none
  abbrev IsShort : List (List ℕ) → Type 0
  IsShort lines = length (text_of lines) ≤ length line + 3

  one_short : IsShort (line ∷ [])
  one_short = omega (arith, ap length (append-nil (ended line)), length_push line line_end)

  none_short : IsShort []
  none_short = omega arith

  by_test : (b : Bool) → IsShort (cond b (line ∷ []) [])
  by_test true = one_short
  by_test false = none_short

  taken_short : (n : ℕ) → IsShort (take n (line ∷ []))
  taken_short zero = none_short
  taken_short (suc zero) = one_short
  taken_short (suc (suc n)) = one_short

  dropped_short : (n : ℕ) → IsShort (drop n (line ∷ []))
  dropped_short zero = one_short
  dropped_short (suc zero) = none_short
  dropped_short (suc (suc n)) = none_short

  counted_short : (b : Bool) → length (text_of ((decimal (cond b 1 0 + 0) ++ 32 ∷ line) ∷ [])) ≤ length line + 3
  counted_short true = subst (λ digit. length (text_of ((digit ++ 32 ∷ line) ∷ [])) ≤ length line + 3) (sym one_digit) (omega (arith, ap length (append-nil (ended (49 ∷ 32 ∷ line))), length_push (49 ∷ 32 ∷ line) line_end))
  counted_short false = subst (λ digit. length (text_of ((digit ++ 32 ∷ line) ∷ [])) ≤ length line + 3) (sym none_digit) (omega (arith, ap length (append-nil (ended (48 ∷ 32 ∷ line))), length_push (48 ∷ 32 ∷ line) line_end))

  -- what an operation makes of one line has at most two bytes more
  of_line : (op : TextOp) → lines_of (ended line) ≡ line ∷ [] → length (text_op_value op (ended line)) ≤ length line + 3
  of_line Pass is = omega (arith, length_push line line_end)
  of_line (Keep word) is = subst (λ lines. length (text_of (filter (occurs word) lines)) ≤ length line + 3) (sym is) (by_test (occurs word line))
  of_line (Without word) is = subst (λ lines. length (text_of (filter (λ l. not (occurs word l)) lines)) ≤ length line + 3) (sym is) (by_test (not (occurs word line)))
  of_line (Head n) is = subst (λ lines. length (text_of (take n lines)) ≤ length line + 3) (sym is) (taken_short n)
  of_line (Tail n) is = subst (λ lines. length (text_of (drop (length lines - n) lines)) ≤ length line + 3) (sym is) (dropped_short (1 - n))
  of_line (Skip n) is = subst (λ lines. length (text_of (drop n lines)) ≤ length line + 3) (sym is) (dropped_short n)
  of_line Sort is = subst (λ lines. length (text_of (Rattle.text_ops.specs.LineOrder.in_order lines)) ≤ length line + 3) (sym is) one_short
  of_line Uniq is = subst (λ lines. length (text_of (Rattle.text_ops.specs.Repeats.without_repeats lines)) ≤ length line + 3) (sym is) one_short
  of_line Count is = subst (λ lines. length (text_of (decimal (length lines) ∷ [])) ≤ length line + 3) (sym is) (subst (λ digit. length (text_of (digit ∷ [])) ≤ length line + 3) (sym one_digit) (omega arith))
  of_line Tally is =
      subst (λ lines. length (text_of (map (tally_line lines) (Rattle.text_ops.specs.Repeats.without_repeats (Rattle.text_ops.specs.LineOrder.in_order lines)))) ≤ length line + 3) (sym is)
      (subst (λ n. length (text_of ((decimal n ++ 32 ∷ line) ∷ [])) ≤ length line + 3) (sym (sum_by-cons (λ l. cond (bytes_eq line l) 1 0) line [])) (counted_short (bytes_eq line line)))

pub value_short : (op : TextOp) (line : List ℕ) → IsPlain line → length (text_op_value op (ended line)) ≤ length line + 3
value_short op line plain = of_line line op (lines_of-ended line plain)

-- no line is longer than the text
lines_short : (text : List ℕ) → AllByRecursion (λ line. length line ≤ length text) (lines_of text)
lines_short [] = tt
lines_short (byte ∷ rest) = by_end (byte == line_end) (longer (lines_of rest) (lines_short rest))
  where
    longer : (lines : List (List ℕ)) → AllByRecursion (λ line. length line ≤ length rest) lines → AllByRecursion (λ line. length line ≤ suc (length rest)) lines × AllByRecursion (λ line. length line ≤ suc (length rest)) (onto_first byte lines)
    longer [] all = (tt, (omega arith, tt))
    longer (line ∷ lines) all =
        let more = (longer lines all.1).0 in
        ((omega (arith, all.0), more), (omega (arith, all.0), more))

    by_end : (b : Bool) → AllByRecursion (λ line. length line ≤ suc (length rest)) (lines_of rest) × AllByRecursion (λ line. length line ≤ suc (length rest)) (onto_first byte (lines_of rest))
        → AllByRecursion (λ line. length line ≤ suc (length rest)) (cond b ([] ∷ lines_of rest) (onto_first byte (lines_of rest)))
    by_end true all = (omega arith, all.0)
    by_end false all = all.1

all_at : {X : Type 0} (P : X → Type 0) (xs : List X) (i : ℕ) (d : X) → i < length xs → AllByRecursion P xs → P (get_or xs i d)
all_at P [] i d below all = absurd (omega arith)
all_at P (x ∷ xs) zero d below all = all.0
all_at P (x ∷ xs) (suc i) d below all = all_at P xs i d (omega arith) all.1

module _ (text rest : List ℕ) (i end : ℕ) (below : i < length (lines_of text)) (lines : lines_of rest ≡ drop i (lines_of text)) (cut : IsCut rest 1 end) where
  abbrev line_at : List ℕ
  line_at = get_or (lines_of text) i []

  -- the bytes up to the end of the first line are that line's text
  pub line_is : take end rest ≡ ended line_at
  line_is =
      let only : take 1 (lines_of rest) ≡ line_at ∷ [] = ap (take 1) (lines ∙ drop_more (lines_of text) i [] below) in
      sym (normal_same (take end rest) cut.whole) ∙ sym (text_of-lines_of (take end rest)) ∙ ap text_of (sym cut.before ∙ only) ∙ append-nil (ended line_at)

  -- what an operation makes of it isn't too long
  pub line_value_short : (op : TextOp) → length text ≤ line_map_limit → length (text_op_value op (take end rest)) ≤ value_limit
  line_value_short op few =
      let plain = all_at IsPlain (lines_of text) i [] below (lines_plain text) in
      let long = all_at (λ line. length line ≤ length text) (lines_of text) i [] below (lines_short text) in
      let short = value_short op line_at plain in
      omega (arith, ap (λ line. length (text_op_value op line)) line_is, short, long, few)
