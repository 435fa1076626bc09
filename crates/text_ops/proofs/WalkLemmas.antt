-- The first line of a text.
use Rattle.std.proofs.Common.{◌≡◌, ℕ, ◌+◌, ◌<◌, List, [], ◌∷◌, ◌++◌, length, take, drop, None, Some, refl, sym, ap, subst, ◌∙◌, arith, get_or-take}
use Rattle.std.specs.List.{between}
use Rattle.std.proofs.lemmas.Bool.{eq-eqb, eqb-true}
use Rattle.std.proofs.lemmas.List.{take_more, take-append-drop, length-take-le}
use Rattle.std.proofs.lemmas.Slice.{between_to_end}
use Rattle.memchr.specs.Find.{IsFirstByte, is_byte}
use Rattle.text_ops.specs.Lines.{line_end, lines_of, ended, IsNormal, IsPlain}
use Rattle.text_ops.proofs.LineLemmas.{lines_of-append, lines_of-ended, IsNormal-ended, IsNormal-drop, last_of_normal}

-- a normal text without a line end is empty
pub no_line : (text : List ℕ) → IsNormal text → IsFirstByte (is_byte line_end) text None → text ≡ []
no_line [] is none = refl
no_line (byte ∷ rest) is none =
    let k = length rest in
    absurd (none k (omega arith) (omega arith) (eq-eqb _ line_end (last_of_normal (byte ∷ rest) k is refl)))

module _ (text : List ℕ) (end : ℕ) (found : IsFirstByte (is_byte line_end) text (Some end)) where
  -- the text is its first line with its end, and the rest
  pub first_line_parts : text ≡ ended (take end text) ++ drop (end + 1) text
  first_line_parts =
      sym (take-append-drop (end + 1) text)
      ∙ ap (λ l. l ++ drop (end + 1) text) (take_more text end 0 found.0.high ∙ ap (λ byte. take end text ++ byte ∷ []) (eqb-true _ line_end found.1))

  pub first_line_plain : IsPlain (take end text)
  first_line_plain k low is =
      let below : k < end = omega (arith, length-take-le end text (omega (arith, found.0.high))) in
      found.0.before k (omega arith) below (eq-eqb _ line_end (sym (get_or-take end text k 0 below) ∙ is))

  -- so are its lines
  pub first_line_is : lines_of text ≡ take end text ∷ lines_of (between (end + 1) (length text) text)
  first_line_is =
      ap lines_of first_line_parts
      ∙ lines_of-append (ended (take end text)) (drop (end + 1) text) (IsNormal-ended (take end text))
      ∙ ap (λ first. first ++ lines_of (drop (end + 1) text)) (lines_of-ended (take end text) first_line_plain)
      ∙ ap (λ l. take end text ∷ lines_of l) (sym (between_to_end text (end + 1) (length text) (omega arith)))

  pub rest_normal : IsNormal text → IsNormal (between (end + 1) (length text) text)
  rest_normal is = subst IsNormal (sym (between_to_end text (end + 1) (length text) (omega arith))) (IsNormal-drop text (end + 1) is)
