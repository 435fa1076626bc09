-- Words and numbers at the front of a text.
use Rattle.std.proofs.Common.{◌≡◌, ℕ, suc, ◌+◌, ◌-◌, ◌*◌, ◌<◌, ◌≤◌, ◌^◌, Bool, true, false, cond, ◌==◌, List, [], ◌∷◌, length, take, drop, get_or, refl, sym, ap, ◌∙◌, arith, Some, None, ⊎_elim, length-drop, not, nat_lt}
use Rattle.std.proofs.Math.Seq.{drop-cons}
use Rattle.std.specs.Str.{bytes_eq}
use Rattle.std.proofs.lemmas.Slice.Eq.{bytes_eq-Decides}
use Rattle.std.specs.Char.{is_ascii_digit}
use Rattle.std.proofs.lemmas.Bool.{le-ltb, cases_Bool, cond-true, cond-false, eqb-true, eq-eqb}
use Rattle.std.proofs.lemmas.List.{take_all}
use Rattle.journal_text.specs.inside.Reading.{word_at, number_on}

-- a word that stands at the front
pub word_there : (word bytes : List ℕ) → length word ≤ length bytes → take (length word) bytes ≡ word → word_at word bytes ≡ Some (drop (length word) bytes)
word_there [] bytes fits same = refl
word_there (w ∷ ws) [] fits same = absurd (omega arith)
word_there (w ∷ ws) (b ∷ bs) fits same =
    let first : b ≡ w = cc in
    let others : take (length ws) bs ≡ ws = cc in
    cond-true _ _ _ (eq-eqb b w first) ∙ word_there ws bs (omega arith) others

pub no_word : (word bytes : List ℕ) → length word ≤ length bytes → (take (length word) bytes ≡ word → ⊥) → word_at word bytes ≡ None
no_word [] bytes fits other = absurd (other refl)
no_word (w ∷ ws) [] fits other = absurd (omega arith)
no_word (w ∷ ws) (b ∷ bs) fits other =
    ⊎_elim
    (λ yes. cond-true _ _ _ yes ∙ no_word ws bs (omega arith) (λ same. other (let first = eqb-true b w yes in cc)))
    (λ no. cond-false _ _ _ no)
    (cases_Bool (b == w))

pub short_of_word : (word bytes : List ℕ) → length bytes < length word → word_at word bytes ≡ None
short_of_word [] bytes short = absurd (omega arith)
short_of_word (w ∷ ws) [] short = refl
short_of_word (w ∷ ws) (b ∷ bs) short =
    ⊎_elim
    (λ yes. cond-true _ _ _ yes ∙ short_of_word ws bs (omega arith))
    (λ no. cond-false _ _ _ no)
    (cases_Bool (b == w))

not_true : (b : Bool) → not b ≡ true → b ≡ false
not_true true is = sym is
not_true false is = refl

not_false : (b : Bool) → not b ≡ false → b ≡ true
not_false true is = refl
not_false false is = sym is

pub same_bytes : (xs ys : List ℕ) → not (bytes_eq xs ys) ≡ false → xs ≡ ys
same_bytes xs ys is = (bytes_eq-Decides xs ys).0 (not_false _ is)

pub other_bytes : (xs ys : List ℕ) → not (bytes_eq xs ys) ≡ true → xs ≡ ys → ⊥
other_bytes xs ys is same = let yes = (bytes_eq-Decides xs ys).1 same in let no = not_true _ is in cc

pub rest_after : (word bytes : List ℕ) → Some (drop (length word) bytes) ≡ Some (take (length bytes - length word) (drop (length word) bytes))
rest_after word bytes = ap Some (sym (take_all (length bytes - length word) (drop (length word) bytes) (omega (arith, length-drop (length word) bytes))))

-- further digits make a number no less
pub number_on-grows : (value : ℕ) (bytes : List ℕ) → value ≤ (number_on value bytes).0
number_on-grows value [] = omega arith
number_on-grows value (byte ∷ rest) =
    ⊎_elim
    (λ yes. let e = ap (λ (x : ℕ × List ℕ). x.0) (cond-true (is_ascii_digit byte) (number_on (value * 10 + (byte - 48)) rest) (value, byte ∷ rest) yes) in
    let more = number_on-grows (value * 10 + (byte - 48)) rest in omega arith)
    (λ no. let e = ap (λ (x : ℕ × List ℕ). x.0) (cond-false (is_ascii_digit byte) (number_on (value * 10 + (byte - 48)) rest) (value, byte ∷ rest) no) in omega arith)
    (cases_Bool (is_ascii_digit byte))

-- a number that has become too large stays so
pub too_large : (bytes : List ℕ) (i value byte : ℕ) → i < length bytes → byte ≡ get_or bytes i 0 → is_ascii_digit byte ≡ true
    → number_on value (drop i bytes) ≡ number_on 0 bytes → 2 ^ 64 ≤ value * 10 + (byte - 48)
    → None ≡ cond (nat_lt (number_on 0 bytes).0 (2 ^ 64)) (Some (number_on 0 bytes)) None
too_large bytes i value byte within read digit so_far large =
    let next : drop i bytes ≡ byte ∷ drop (suc i) bytes = drop-cons bytes i 0 within ∙ rw (← read) refl in
    let step : number_on value (byte ∷ drop (suc i) bytes) ≡ number_on (value * 10 + (byte - 48)) (drop (suc i) bytes) = cond-true _ _ _ digit in
    let all : (number_on 0 bytes).0 ≡ (number_on (value * 10 + (byte - 48)) (drop (suc i) bytes)).0 = ap (λ (x : ℕ × List ℕ). x.0) (sym so_far ∙ ap (number_on value) next ∙ step) in
    let grown = number_on-grows (value * 10 + (byte - 48)) (drop (suc i) bytes) in
    sym (cond-false _ _ _ (le-ltb (number_on 0 bytes).0 (2 ^ 64) (omega arith)))
