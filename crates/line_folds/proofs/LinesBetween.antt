-- The lines between two places where lines begin.
use Rattle.std.proofs.Common.{◌≡◌, ℕ, ◌+◌, ◌-◌, ◌≤◌, List, ◌++◌, length, take, drop, sym, ap, subst, ◌∙◌, arith, length-append, length-drop}
use Rattle.std.proofs.Math.Seq.{take-append_seam}
use Rattle.std.proofs.lemmas.List.{drop-drop, take-append-drop}
use Rattle.std.proofs.lemmas.List.Concat.{flat_map-append}
use Rattle.text_ops.specs.Lines.{ended, lines_of, text_of, IsNormal}
use Rattle.text_ops.proofs.LineLemmas.{lines_of-append, text_of-lines_of, normal_same, IsNormal-text_of}

module _ (lines : List (List ℕ)) (from to : ℕ) (order : from ≤ to) (rest behind : List ℕ)
    (rest_normal : IsNormal rest) (rest_lines : lines_of rest ≡ drop from lines)
    (behind_normal : IsNormal behind) (behind_lines : lines_of behind ≡ drop to lines) where
  abbrev count : ℕ
  count = to - from

  abbrev part : List ℕ
  part = text_of (take count (drop from lines))

  is_given : (text : List ℕ) → IsNormal text → text ≡ text_of (lines_of text)
  is_given text is = sym (text_of-lines_of text ∙ normal_same text is)

  lines_behind : lines_of behind ≡ drop count (lines_of rest)
  lines_behind = behind_lines ∙ ap (λ n. drop n lines) (omega (arith, order)) ∙ sym (drop-drop count from lines) ∙ ap (drop count) (sym rest_lines)

  parted : rest ≡ part ++ behind
  parted =
      is_given rest rest_normal
      ∙ ap text_of (sym (take-append-drop count (lines_of rest)))
      ∙ flat_map-append ended (take count (lines_of rest)) (drop count (lines_of rest))
      ∙ ap (λ l. text_of (take count l) ++ text_of (drop count (lines_of rest))) rest_lines
      ∙ ap (λ l. part ++ text_of l) (sym lines_behind)
      ∙ ap (λ l. part ++ l) (sym (is_given behind behind_normal))

  -- the text behind is no longer than the text from the first of these lines on
  pub behind_within : length behind ≤ length rest
  behind_within = omega (arith, ap length parted, length-append part behind)

  between : take (length rest - length behind) rest ≡ part
  between =
      let len : length rest - length behind ≡ length part = omega (arith, ap length parted, length-append part behind) in
      ap (λ n. take n rest) len ∙ ap (take (length part)) parted ∙ take-append_seam part behind

  -- what is before it has these lines
  pub between_normal : IsNormal (take (length rest - length behind) rest)
  between_normal = subst IsNormal (sym between) (IsNormal-text_of (take count (drop from lines)))

  pub between_lines : lines_of (take (length rest - length behind) rest) ≡ take count (drop from lines)
  between_lines =
      let whole : lines_of part ++ lines_of behind ≡ lines_of rest = sym (lines_of-append part behind (IsNormal-text_of (take count (drop from lines)))) ∙ ap lines_of (sym parted) in
      let halves : take count (lines_of rest) ++ lines_of behind ≡ lines_of rest = ap (λ l. take count (lines_of rest) ++ l) lines_behind ∙ take-append-drop count (lines_of rest) in
      let same_length : length (lines_of part) ≡ length (take count (lines_of rest)) =
      omega (arith, ap length whole, ap length halves, length-append (lines_of part) (lines_of behind), length-append (take count (lines_of rest)) (lines_of behind)) in
      ap lines_of between
      ∙ sym (take-append_seam (lines_of part) (lines_of behind))
      ∙ ap (take (length (lines_of part))) (whole ∙ sym halves)
      ∙ ap (λ n. take n (take count (lines_of rest) ++ lines_of behind)) same_length
      ∙ take-append_seam (take count (lines_of rest)) (lines_of behind)
      ∙ ap (take count) rest_lines
