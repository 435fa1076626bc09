-- Steps over the lines of a text.
use Rattle.std.proofs.Common.{◌≡◌, ℕ, ◌+◌, ◌-◌, ◌≤◌, List, ◌∷◌, length, take, drop, sym, ap, subst, ◌∙◌, arith, length-drop, length-append}
use Rattle.std.specs.List.{between}
use Rattle.std.proofs.lemmas.List.{drop-drop, take_at, drop_at, length_push}
use Rattle.text_ops.specs.Lines.{line_end, lines_of, text_of, ended, IsNormal}
use Rattle.text_ops.proofs.LineLemmas.{text_of-lines_of, normal_same, IsNormal-ended}

-- a normal text is its lines
pub text_is : (text : List ℕ) → IsNormal text → text ≡ text_of (lines_of text)
text_is text is = sym (text_of-lines_of text ∙ normal_same text is)

-- The next line of a text.
module _ (text : List ℕ) (at : ℕ) (line : List ℕ) (lines : List (List ℕ)) (rest : drop at text ≡ text_of (line ∷ lines)) where
  length-ended : length (ended line) ≡ length line + 1
  length-ended = length_push line line_end

  -- it ends within the text
  pub line_inside : at ≤ length text → at + length line + 1 ≤ length text
  line_inside within = omega (arith, ap length rest, length-drop at text, length-append (ended line) (text_of lines), length-ended)

  -- the place behind it
  pub next_rest : drop (at + length line + 1) text ≡ text_of lines
  next_rest =
      let place : at + length line + 1 ≡ at + (length line + 1) = omega arith in
      ap (λ n. drop n text) place ∙ sym (drop-drop (length line + 1) at text) ∙ ap (drop (length line + 1)) rest
      ∙ drop_at (ended line) (text_of lines) (length line + 1) length-ended

  -- it stands there
  pub line_between : between at (at + length line + 1) text ≡ ended line
  line_between =
      let long : at + length line + 1 - at ≡ length line + 1 = omega arith in
      ap (λ n. take n (drop at text)) long ∙ ap (take (length line + 1)) rest ∙ take_at (ended line) (text_of lines) (length line + 1) length-ended

  pub line_between_normal : IsNormal (between at (at + length line + 1) text)
  line_between_normal = subst IsNormal (sym line_between) (IsNormal-ended line)
