-- What holds of a text that is cut into parts.
use Rattle.std.proofs.Common.{◌≡◌, ℕ, zero, suc, ◌+◌, ◌-◌, ◌*◌, ◌≤◌, List, [], ◌∷◌, ◌++◌, length, map, take, drop, sym, ap, subst, ◌∙◌, arith, length-drop, drop-drop, append-nil}
use Rattle.std.proofs.Math.Seq.{take-add}
use Rattle.std.proofs.lemmas.Grind.{div_ceil_times}
use Rattle.std.proofs.lemmas.List.{take_all}
use Rattle.std.proofs.lemmas.List.Concat.{flat_map-append}
use Rattle.std.specs.List.{between, flat_map, range_with_len}
use Rattle.std.proofs.lemmas.List.FromFn.{map-range_with_len_more}
use Rattle.text_ops.specs.Lines.{ended, lines_of, normal, text_of, IsNormal}
use Rattle.text_ops.specs.LineParts.{IsCut, line_part, line_parts, part_count}
use Rattle.text_ops.specs.inside.Parting.{PartsSoFar}
use Rattle.text_ops.proofs.CutLemmas.{text_before}
use Rattle.text_ops.proofs.LineLemmas.{text_of-lines_of}

times_next : (a b : ℕ) → a * b + b ≡ (a + 1) * b
times_next a b = omega arith

-- the piece from a place on that has so many bytes
pub piece_from : (text : List ℕ) (place gap : ℕ) → between place (place + gap) text ≡ take gap (drop place text)
piece_from text place gap = let long : place + gap - place ≡ gap = omega arith in ap (λ k. take k (drop place text)) long

pub piece_normal : (text : List ℕ) (n place gap : ℕ) → IsCut (drop place text) n gap → IsNormal (between place (place + gap) text)
piece_normal text n place gap cut = subst IsNormal (sym (piece_from text place gap)) cut.whole

pub piece_within : (text : List ℕ) (n place gap : ℕ) → place ≤ length text → IsCut (drop place text) n gap → place + gap ≤ length text
piece_within text n place gap within cut = omega (arith, cut.within, length-drop place text)

-- with the next part
pub PartsSoFar-next : (n : ℕ) (text : List ℕ) (parts : List (List ℕ)) (part place gap : ℕ) → PartsSoFar n text parts part place → IsCut (drop place text) n gap → PartsSoFar n text (parts ++ between place (place + gap) text ∷ []) (part + 1) (place + gap)
PartsSoFar-next n text parts part place gap so_far cut =
    let piece : between place (place + gap) text ≡ line_part n text part =
    piece_from text place gap ∙ sym (text_before (drop place text) n gap cut) ∙ ap (λ lines. text_of (take n lines)) so_far.left in
    let further : part * n + n ≡ (part + 1) * n = times_next part n in
    record {
      within = piece_within text n place gap so_far.within cut;
      cut = ap (λ l. l ++ between place (place + gap) text ∷ []) so_far.cut
          ∙ ap (λ p. map (line_part n text) (range_with_len 0 part) ++ p ∷ []) piece
          ∙ sym (map-range_with_len_more (line_part n text) 0 part part (omega arith));
      left = ap lines_of (sym (drop-drop gap place text)) ∙ sym cut.behind
          ∙ ap (drop n) so_far.left ∙ drop-drop n (part * n) (lines_of text)
          ∙ ap (λ k. drop k (lines_of text)) further;
    }

-- So many parts, one behind the other, are so many times n lines.
parts_together : (n : ℕ) (text : List ℕ) (k : ℕ) → flat_map (λ part. part) (map (line_part n text) (range_with_len 0 k)) ≡ text_of (take (k * n) (lines_of text))
parts_together n text zero = let none : 0 * n ≡ 0 = omega arith in ap (λ m. text_of (take m (lines_of text))) (sym none)
parts_together n text (suc k) =
    let lines : List (List ℕ) = lines_of text in
    let next : suc k ≡ k + 1 = omega arith in
    ap (λ m. flat_map (λ part. part) (map (line_part n text) (range_with_len 0 m))) next
    ∙ ap (flat_map (λ part. part)) (map-range_with_len_more (line_part n text) 0 k k (omega arith))
    ∙ flat_map-append (λ part. part) (map (line_part n text) (range_with_len 0 k)) (line_part n text k ∷ [])
    ∙ ap (λ l. flat_map (λ part. part) (map (line_part n text) (range_with_len 0 k)) ++ l) (append-nil (line_part n text k))
    ∙ ap (λ l. l ++ line_part n text k) (parts_together n text k)
    ∙ sym (flat_map-append ended (take (k * n) lines) (take n (drop (k * n) lines)))
    ∙ ap text_of (sym (take-add (k * n) n lines))
    ∙ ap (λ m. text_of (take m lines)) (times_next k n ∙ ap (λ m. m * n) (sym next))

-- the parts of a text, one behind the other, are the text
pub all_parts : (n : ℕ) (text : List ℕ) → 1 ≤ n → flat_map (λ part. part) (line_parts n text) ≡ normal text
all_parts n text some =
    let lines : List (List ℕ) = lines_of text in
    let enough : length lines ≤ part_count n text * n = (div_ceil_times (length lines) n some).0 in
    parts_together n text (part_count n text) ∙ ap text_of (take_all (part_count n text * n) lines enough) ∙ text_of-lines_of text
