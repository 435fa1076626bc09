-- Numbers at the front of a text.
use Rattle.std.proofs.Common.{◌≡◌, ℕ, zero, suc, ◌+◌, ◌-◌, ◌*◌, ◌<◌, ◌^◌, Bool, true, false, cond, not, ◌&&◌, ◌==◌, List, [], ◌∷◌, ◌++◌, length, get_or, refl, sym, ap, ◌∙◌, arith, rules, Some, ⊎_elim, decimal}
use Rattle.std.specs.Char.{is_ascii_digit}
use Rattle.std.specs.Str.{all_ascii_digits}
use Rattle.std.proofs.lemmas.Str.Parse.{IsNumeralModel, numerals_by_fold, tells_all_ascii_digits}
use Rattle.std.proofs.lemmas.Fmt.{digits_decimal, digits_value-decimal, decimal-digits_value, decimal_nonempty, first_decimal, decimal_digit}
use Rattle.std.proofs.lemmas.Bool.{cases_Bool, cond-true, cond-false, lt-ltb, ltb-true, ne_eqb, eq-eqb}
use Rattle.journal_text.specs.inside.Reading.{begins_number, number_on, number_at, index_at}
use Rattle.journal_text.proofs.Steps.{bind_some, guard_some, first_of_both, second_of_both, both_true}

-- the number that digits go on with
abbrev read_on : ℕ → List ℕ → ℕ
read_on value [] = value
read_on value (d ∷ ds) = read_on (value * 10 + (d - 48)) ds

own : IsNumeralModel (λ ds. all_ascii_digits ds ≡ true) (read_on 0)
own = numerals_by_fold _ tells_all_ascii_digits read_on (search rules)

-- the digits at the front
abbrev run : List ℕ → List ℕ
run [] = []
run (byte ∷ rest) = cond (is_ascii_digit byte) (byte ∷ run rest) []

-- what the digits at the front are, at a first byte of either kind
run_yes : (byte : ℕ) (rest : List ℕ) → is_ascii_digit byte ≡ true → run (byte ∷ rest) ≡ byte ∷ run rest
run_yes byte rest it = cond-true _ _ _ it

run_no : (byte : ℕ) (rest : List ℕ) → is_ascii_digit byte ≡ false → run (byte ∷ rest) ≡ []
run_no byte rest other = cond-false _ _ _ other

on_yes : (value byte : ℕ) (rest : List ℕ) → is_ascii_digit byte ≡ true → number_on value (byte ∷ rest) ≡ number_on (value * 10 + (byte - 48)) rest
on_yes value byte rest it = cond-true _ _ _ it

on_no : (value byte : ℕ) (rest : List ℕ) → is_ascii_digit byte ≡ false → number_on value (byte ∷ rest) ≡ (value, byte ∷ rest)
on_no value byte rest other = cond-false _ _ _ other

run_digits : (bytes : List ℕ) → all_ascii_digits (run bytes) ≡ true
run_digits [] = refl
run_digits (byte ∷ rest) = ⊎_elim
    (λ yes. ap all_ascii_digits (run_yes byte rest yes) ∙ both_true _ _ yes (run_digits rest))
    (λ no. ap all_ascii_digits (run_no byte rest no))
    (cases_Bool (is_ascii_digit byte))

run_read : (value : ℕ) (bytes : List ℕ) → ((number_on value bytes).0 ≡ read_on value (run bytes)) × (bytes ≡ run bytes ++ (number_on value bytes).1)
run_read value [] = (refl, refl)
run_read value (byte ∷ rest) = ⊎_elim
    (λ yes. let more = run_read (value * 10 + (byte - 48)) rest in rw (on_yes value byte rest yes, run_yes byte rest yes) (more.0, ap (λ bytes. byte ∷ bytes) more.1))
    (λ no. rw (on_no value byte rest no, run_no byte rest no) (refl, refl))
    (cases_Bool (is_ascii_digit byte))

not_both : (a b : Bool) → not (a && b) ≡ true → b ≡ true → a ≡ false
not_both true b neither is = absurd (let e = ap not is in cc)
not_both false b neither is = refl

run_begins : (bytes : List ℕ) → begins_number bytes ≡ true → (0 < length (run bytes)) × (get_or (run bytes) 0 0 ≡ 48 → length (run bytes) ≡ 1)
run_begins [] begins = absurd (cc)
run_begins (byte ∷ []) begins = rw (run_yes byte [] begins) (omega arith, λ _. refl)
run_begins (byte ∷ next ∷ rest) begins =
    let first : is_ascii_digit byte ≡ true = first_of_both _ (not ((byte == 48) && is_ascii_digit next)) begins in
    let alone : not ((byte == 48) && is_ascii_digit next) ≡ true = second_of_both (is_ascii_digit byte) _ begins in
    rw (run_yes byte (next ∷ rest) first) (
      omega arith,
      λ zero_first. ⊎_elim
          (λ yes. absurd (let other = not_both (byte == 48) (is_ascii_digit next) alone yes in let same = eq-eqb byte 48 zero_first in cc))
          (λ no. ap (λ ds. suc (length ds)) (run_no next rest no))
          (cases_Bool (is_ascii_digit next)),
    )

-- a number that is read stands there in decimal
pub number_sound : (bytes : List ℕ) (n : ℕ) (rest : List ℕ) → number_at bytes ≡ Some (n, rest) → (bytes ≡ decimal n ++ rest) × (n < 2 ^ 64)
unfolding number_at
number_sound bytes n rest is =
    let guard = guard_some _ _ _ is in
    let begins = run_begins bytes (first_of_both _ _ guard.0) in
    let fits : (number_on 0 bytes).0 < 2 ^ 64 = ltb-true _ _ (second_of_both _ _ guard.0) in
    let read = run_read 0 bytes in
    let value : n ≡ read_on 0 (run bytes) = ap (λ (x : ℕ × List ℕ). x.0) (sym guard.1) ∙ read.0 in
    let behind : (number_on 0 bytes).1 ≡ rest = ap (λ (x : ℕ × List ℕ). x.1) guard.1 in
    let digits : decimal (read_on 0 (run bytes)) ≡ run bytes = decimal-digits_value own (run bytes) (run_digits bytes) begins.0 begins.1 (rw (sym read.0) fits) in
    (read.1 ∙ rw (value, digits, behind) refl, rw (value, sym read.0) fits)

number_on-run : (value : ℕ) (ds : List ℕ) (byte : ℕ) (rest : List ℕ) → all_ascii_digits ds ≡ true → is_ascii_digit byte ≡ false → number_on value (ds ++ byte ∷ rest) ≡ (read_on value ds, byte ∷ rest)
number_on-run value [] byte rest digits other = on_no value byte rest other
number_on-run value (d ∷ ds) byte rest digits other =
    on_yes value d (ds ++ byte ∷ rest) (first_of_both _ _ digits) ∙ number_on-run (value * 10 + (d - 48)) ds byte rest (second_of_both _ _ digits) other

alone_true : (b : Bool) → not (b && false) ≡ true
alone_true true = refl
alone_true false = refl

begins_again : (ds : List ℕ) (byte : ℕ) (rest : List ℕ) → all_ascii_digits ds ≡ true → is_ascii_digit byte ≡ false → 0 < length ds → (get_or ds 0 0 ≡ 48 → length ds ≡ 1) → begins_number (ds ++ byte ∷ rest) ≡ true
begins_again [] byte rest digits other some alone = absurd (omega arith)
begins_again (d ∷ []) byte rest digits other some alone = let first : is_ascii_digit d ≡ true = first_of_both (is_ascii_digit d) true digits in rw (first, other) (alone_true (d == 48))
begins_again (d ∷ e ∷ ds) byte rest digits other some alone =
    let first : is_ascii_digit d ≡ true = first_of_both (is_ascii_digit d) (all_ascii_digits (e ∷ ds)) digits in
    let apart : (d == 48) ≡ false = ne_eqb d 48 (λ same. absurd (let h = alone same in omega arith)) in
    rw (first, apart) refl

decimal_alone : (n : ℕ) → n < 2 ^ 64 → get_or (decimal n) 0 0 ≡ 48 → length (decimal n) ≡ 1
decimal_alone zero fits is = ap length (decimal_digit 0 (omega arith))
decimal_alone (suc n) fits is = absurd (let h = first_decimal (suc n) (omega arith) fits in omega arith)

pub decimal_digits : (n : ℕ) → n < 2 ^ 64 → all_ascii_digits (decimal n) ≡ true
decimal_digits n fits = digits_decimal own n fits

-- a number that stands there is read
pub number_again : (n byte : ℕ) (rest : List ℕ) → n < 2 ^ 64 → is_ascii_digit byte ≡ false → number_at (decimal n ++ byte ∷ rest) ≡ Some (n, byte ∷ rest)
unfolding number_at
number_again n byte rest fits other =
    let digits = digits_decimal own n fits in
    let read : number_on 0 (decimal n ++ byte ∷ rest) ≡ (n, byte ∷ rest) = number_on-run 0 (decimal n) byte rest digits other ∙ ap (λ m. (m, byte ∷ rest)) (digits_value-decimal own n fits) in
    let begins = begins_again (decimal n) byte rest digits other (decimal_nonempty n fits) (decimal_alone n fits) in
    rw (begins, read, lt-ltb n (2 ^ 64) fits) refl

pub index_sound : (bytes : List ℕ) (n : ℕ) (rest : List ℕ) → index_at bytes ≡ Some (n, rest) → (bytes ≡ decimal n ++ rest) × (n < 2 ^ 32)
unfolding index_at
index_sound bytes n rest is =
    let step = bind_some _ _ _ is in
    let guard = guard_some _ _ _ step.2 in
    let read = number_sound bytes n rest (step.1 ∙ ap Some guard.1) in
    let small : n < 2 ^ 32 = let b = ltb-true _ _ guard.0 in let e = ap (λ (x : ℕ × List ℕ). x.0) guard.1 in omega arith in
    (read.0, small)

pub index_again : (n byte : ℕ) (rest : List ℕ) → n < 2 ^ 32 → is_ascii_digit byte ≡ false → index_at (decimal n ++ byte ∷ rest) ≡ Some (n, byte ∷ rest)
unfolding index_at
index_again n byte rest fits other = rw (number_again n byte rest (omega arith) other, lt-ltb n (2 ^ 32) fits) refl
