-- What the fold of a word comes to.
use Rattle.std.proofs.Common.{◌≡◌, ℕ, zero, suc, ◌+◌, ◌<◌, ◌≤◌, min, Bool, cond, List, [], ◌∷◌, length, take, drop, get_or, map, refl, sym, ap, ◌∙◌, arith, length-take}
use Rattle.std.specs.List.{count_by, fold, range_with_len, sum_by}
use Rattle.std.proofs.lemmas.List.{drop_more, take_all}
use Rattle.std.proofs.lemmas.List.Sums.{count_by-le-length, sum_by-cons}
use Rattle.text_ops.specs.Lines.{lines_of, occurs}
use Rattle.text_ops.specs.TextMeaning.{word_lines}
use Rattle.grain_tasks.specs.Folds.{fold_from, plain_fold}
use Rattle.line_folds.specs.WordFolds.{WordText, max_count, word_fold, word_text}
use Rattle.line_folds.proofs.MarkLemmas.{lines_le}

-- a sum that stays at the greatest number
sum_kept : (x : ℕ) (ns : List ℕ) → x ≤ max_count → fold (λ a b. min (a + b) max_count) x ns ≡ min (x + sum_by (λ n. n) ns) max_count
sum_kept x [] few = omega (arith, few)
sum_kept x (n ∷ ns) few = omega (arith, sum_kept (min (x + n) max_count) ns (omega arith), sum_by-cons (λ n. n) n ns)

module _ (p : List ℕ → Bool) (lines : List (List ℕ)) where
  abbrev value : ℕ → ℕ
  value i = cond (p (get_or lines i [])) 1 0

  -- the values at some neighbours, added up
  values_counted : (from n : ℕ) → from + n ≤ length lines → sum_by (λ n. n) (map value (range_with_len from n)) ≡ count_by p (take n (drop from lines))
  values_counted from zero within = refl
  values_counted from (suc n) within =
      let here = drop_more lines from [] (omega (arith, within)) in
      let later = values_counted (from + 1) n (omega (arith, within)) in
      sum_by-cons (λ n. n) (value from) (map value (range_with_len (from + 1) n))
      ∙ ap (λ k. value from + k) later
      ∙ sym (sum_by-cons (λ line. cond (p line) 1 0) (get_or lines from []) (take n (drop (from + 1) lines)))
      ∙ ap (λ l. count_by p (take (suc n) l)) (sym here)

pub counts_lines : (f : WordText) (from n : ℕ) → from + n ≤ length (lines_of f.text) → length (lines_of f.text) ≤ max_count
    → fold_from word_fold f from n ≡ count_by (occurs f.word) (take n (drop from (lines_of f.text)))
counts_lines f from n within few =
    let lines = lines_of f.text in
    let p = occurs f.word in
    let counted = values_counted p lines from n within in
    let least = count_by-le-length p (take n (drop from lines)) in
    omega (arith, sum_kept 0 (map (value p lines) (range_with_len from n)) (omega arith), counted, least, length-take n (drop from lines), within, few)

-- the fold of all lines
pub counts_all_lines : (word text : List ℕ) (f : WordText) (count : ℕ) → f ≡ word_text word text → count ≡ length (lines_of f.text) → length text ≤ 1099511627776
    → plain_fold word_fold f count ≡ word_lines word text
counts_all_lines word text f count is all short =
    let lines = lines_of text in
    let of = word_text word text in
    let same : count ≡ length lines = all ∙ ap (λ (f : WordText). length (lines_of f.text)) is in
    ap (λ (f : WordText). plain_fold word_fold f count) is
    ∙ counts_lines of 0 count (omega (arith, same)) (omega (arith, lines_le text, short))
    ∙ ap (count_by (occurs word)) (take_all count lines (omega (arith, same)))
