-- The lead of a piece that has at most six bytes is the piece's bytes, with room for a line end behind them.
use Rattle.std.proofs.Common.{◌≡◌, ℕ, zero, suc, ◌+◌, ◌*◌, ◌<◌, ◌≤◌, List, [], ◌∷◌, ◌++◌, length, take, get_or, refl, sym, ap, ◌∙◌, arith}
use Rattle.std.specs.Prelude.{slice_set}
use Rattle.std.specs.Int.{w64, to_be_bytes, from_be_bytes}
use Rattle.std.proofs.lemmas.List.{take_more_set}
use Rattle.std.proofs.lemmas.Nat.{be_bytes_8}
use Rattle.text_ops.specs.Lines.{line_end, ended}
use Rattle.text_ops.specs.inside.SortKeys.{lead_of}

-- the first six bytes, with zeros for those that aren't there, and two zeros
abbrev first_six : List ℕ → List ℕ
first_six piece = get_or piece 0 0 ∷ get_or piece 1 0 ∷ get_or piece 2 0 ∷ get_or piece 3 0 ∷ get_or piece 4 0 ∷ get_or piece 5 0 ∷ 0 ∷ 0 ∷ []

-- the lead, two bytes further up, is their number
lead_is : (piece : List ℕ) → lead_of piece * 65536 ≡ from_be_bytes w64 (first_six piece)
lead_is [] = refl
lead_is (a ∷ []) = omega arith
lead_is (a ∷ b ∷ []) = omega arith
lead_is (a ∷ b ∷ c ∷ []) = omega arith
lead_is (a ∷ b ∷ c ∷ d ∷ []) = omega arith
lead_is (a ∷ b ∷ c ∷ d ∷ e ∷ []) = omega arith
lead_is (a ∷ b ∷ c ∷ d ∷ e ∷ f ∷ rest) = omega arith

-- so it is less than 2 ^ 48
pub lead_of-low : (piece : List ℕ) → ((k : ℕ) → get_or piece k 0 < 256) → lead_of piece < 281474976710656
lead_of-low piece bytes = omega (arith, lead_is piece, bytes 0, bytes 1, bytes 2, bytes 3, bytes 4, bytes 5)

first_six-bytes : (piece : List ℕ) → ((k : ℕ) → get_or piece k 0 < 256) → (k : ℕ) → get_or (first_six piece) k 0 < 256
first_six-bytes piece bytes zero = bytes 0
first_six-bytes piece bytes (suc zero) = bytes 1
first_six-bytes piece bytes (suc (suc zero)) = bytes 2
first_six-bytes piece bytes (suc (suc (suc zero))) = bytes 3
first_six-bytes piece bytes (suc (suc (suc (suc zero)))) = bytes 4
first_six-bytes piece bytes (suc (suc (suc (suc (suc zero))))) = bytes 5
first_six-bytes piece bytes (suc (suc (suc (suc (suc (suc zero)))))) = omega arith
first_six-bytes piece bytes (suc (suc (suc (suc (suc (suc (suc zero))))))) = omega arith
first_six-bytes piece bytes (suc (suc (suc (suc (suc (suc (suc (suc k)))))))) = omega arith

-- a piece of at most six bytes is a prefix of them
prefix : (piece : List ℕ) → length piece ≤ 6 → take (length piece) (first_six piece) ≡ piece
prefix [] short = refl
prefix (a ∷ []) short = refl
prefix (a ∷ b ∷ []) short = refl
prefix (a ∷ b ∷ c ∷ []) short = refl
prefix (a ∷ b ∷ c ∷ d ∷ []) short = refl
prefix (a ∷ b ∷ c ∷ d ∷ e ∷ []) short = refl
prefix (a ∷ b ∷ c ∷ d ∷ e ∷ f ∷ []) short = refl
prefix (a ∷ b ∷ c ∷ d ∷ e ∷ f ∷ g ∷ rest) short = absurd (omega (arith, short))

-- A line end is put behind as many bytes of the lead as the piece has.
pub ended_from_lead : (piece digits : List ℕ) (lead len : ℕ) → ((k : ℕ) → get_or piece k 0 < 256) → lead ≡ lead_of piece * 65536 → length piece ≡ len → len ≤ 6 → digits ≡ to_be_bytes w64 lead → take (len + 1) (slice_set digits len line_end) ≡ ended piece
ended_from_lead piece digits lead len bytes is same short shown =
    let first = shown ∙ be_bytes_8 (first_six piece) lead refl (first_six-bytes piece bytes) (is ∙ lead_is piece) in
    take_more_set digits len line_end (omega (arith, short, ap length first))
    ∙ ap (λ l. l ++ line_end ∷ []) (ap (take len) first ∙ ap (λ n. take n (first_six piece)) (sym same) ∙ prefix piece (omega (arith, same, short)))
