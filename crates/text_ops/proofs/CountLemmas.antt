-- What holds of counts of lines.
use Rattle.std.proofs.Common.{◌≡◌, ℕ, ◌<◌, ◌≤◌, ◌^◌, ◌==◌, List, [], ◌∷◌, length, drop, sym, ap, ◌∙◌, arith, append-nil, decimal}
use Rattle.std.specs.List.{between}
use Rattle.std.proofs.lemmas.Fmt.{length-decimal-le}
use Rattle.std.proofs.lemmas.List.{length_push}
use Rattle.std.proofs.lemmas.List.Sums.{count_by-le-length}
use Rattle.std.proofs.lemmas.Slice.{between_to_end}
use Rattle.text_ops.specs.Lines.{line_end, lines_of, text_of, ended, IsNormal}
use Rattle.text_ops.proofs.LineLemmas.{count_by-lines_of}

-- a normal text has no more lines than bytes
pub length-lines_of-le : (text : List ℕ) → IsNormal text → length (lines_of text) ≤ length text
length-lines_of-le text is = omega (arith, count_by-lines_of text is, count_by-le-length (λ byte. byte == line_end) text)

-- the digits stand at the end of a buffer, before its last byte
pub counted_line : (lines : ℕ) (buffer : List ℕ) (start : ℕ) → drop start buffer ≡ ended (decimal lines) → length buffer ≤ 21 → between start 21 buffer ≡ text_of (decimal lines ∷ [])
counted_line lines buffer start written short = between_to_end buffer start 21 short ∙ written ∙ sym (append-nil (ended (decimal lines)))

-- the line of a count is short
pub length-counted-le : (lines : ℕ) → lines < 2 ^ 64 → length (text_of (decimal lines ∷ [])) ≤ 21
length-counted-le lines few =
    let digits = length-decimal-le 20 lines (omega arith) (omega arith) (omega arith) in
    omega (arith, ap length (append-nil (ended (decimal lines))), length_push (decimal lines) line_end)
