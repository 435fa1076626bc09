-- In how many lines a word occurs.
use Rattle.std.proofs.Common.{◌≡◌, ℕ, ◌+◌, ◌≤◌, Bool, true, false, cond, List, [], ◌∷◌, length, drop, refl, sym, ap, ◌∙◌, arith, filter}
use Rattle.std.specs.List.{AllByRecursion, between}
use Rattle.std.proofs.lemmas.List.Sums.{length-filter, count_by-le-length}
use Rattle.text_ops.specs.declared.found_line.FoundLine.{FoundLine}
use Rattle.text_ops.specs.Lines.{lines_of, text_of, ended, occurs, IsNormal, IsPlain}
use Rattle.text_ops.specs.TextMeaning.{keep_meaning, word_lines}
use Rattle.text_ops.specs.inside.Cuts.{end_count}
use Rattle.text_ops.specs.inside.FoundLine.{IsFirstKept, IsNowhere}
use Rattle.text_ops.proofs.CountLemmas.{length-lines_of-le}
use Rattle.text_ops.proofs.CutLemmas.{end_count-append}
use Rattle.text_ops.proofs.KeepLemmas.{all_kept, keep_meaning-broken_word, lines_plain}
use Rattle.text_ops.proofs.LineLemmas.{ended_once}

ends_of_text : (lines : List (List ℕ)) → AllByRecursion IsPlain lines → end_count (text_of lines) ≡ length lines
ends_of_text [] plain = refl
ends_of_text (line ∷ lines) plain =
    let here = ended_once line plain.0 in
    let later = ends_of_text lines plain.1 in
    omega (arith, end_count-append (ended line) (text_of lines), here, later)

kept_plain : (p : List ℕ → Bool) (lines : List (List ℕ)) → AllByRecursion IsPlain lines → AllByRecursion IsPlain (filter p lines)
kept_plain p [] plain = tt
kept_plain p (line ∷ lines) plain = by_test (p line) (kept_plain p lines plain.1)
  where
    by_test : (b : Bool) → AllByRecursion IsPlain (filter p lines) → AllByRecursion IsPlain (cond b (line ∷ filter p lines) (filter p lines))
    by_test true later = (plain.0, later)
    by_test false later = later

-- the lines that are kept have a line end each
word_lines-ends : (word text : List ℕ) → end_count (keep_meaning word text) ≡ word_lines word text
word_lines-ends word text = ends_of_text (filter (occurs word) (lines_of text)) (kept_plain (occurs word) (lines_of text) (lines_plain text)) ∙ length-filter (occurs word) (lines_of text)

pub word_lines-nowhere : (word text : List ℕ) → IsNowhere word text → word_lines word text ≡ 0
word_lines-nowhere word text none = sym (word_lines-ends word text) ∙ ap end_count none.kept

pub word_lines-first : (word text : List ℕ) (line : FoundLine) → IsFirstKept word text line → word_lines word text ≡ 1 + word_lines word (drop line.end text)
word_lines-first word text line found =
    let counted = ap end_count found.kept ∙ end_count-append (between line.start line.end text) (keep_meaning word (drop line.end text)) in
    omega (arith, counted, found.one, word_lines-ends word text, word_lines-ends word (drop line.end text))

pub word_lines-empty : (word text : List ℕ) → length word ≡ 0 → word_lines word text ≡ length (lines_of text)
word_lines-empty [] text empty = sym (length-filter (occurs []) (lines_of text)) ∙ ap length (all_kept (lines_of text))
word_lines-empty (byte ∷ word) text empty = absurd (omega arith)

pub word_lines-broken : (word text : List ℕ) → ¬ IsPlain word → word_lines word text ≡ 0
word_lines-broken word text broken = sym (word_lines-ends word text) ∙ ap end_count (keep_meaning-broken_word word text broken)

pub word_lines-le : (word text : List ℕ) → IsNormal text → word_lines word text ≤ length text
word_lines-le word text is = omega (arith, count_by-le-length (occurs word) (lines_of text), length-lines_of-le text is)
