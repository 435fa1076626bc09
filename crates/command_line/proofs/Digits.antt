-- Texts of digits.
use Rattle.std.proofs.Common.{◌≡◌, ◌<◌, ◌≤◌, ◌^◌, ◌&&◌, Bool, true, false, List, [], ◌∷◌, ℕ, zero, suc, refl, arith, length}
use Rattle.std.specs.Prelude.{All, IsTrue, Err, nat_le}
use Rattle.std.specs.Char.{is_ascii_digit}
use Rattle.std.specs.Str.{all_ascii_digits}
use Rattle.std.specs.Str.Parse.{ParsesUnsigned, digits_value}
use Rattle.std.proofs.lemmas.Str.Parse.{parse_digits, numerals_by_value, tells_all_ascii_digits}
use Rattle.std.proofs.lemmas.Int.Digits.{digits_value-lt}
use Rattle.std.proofs.lemmas.Bool.Decides.{nat_tests}
use Rattle.std.proofs.Math.Nat.{pow-le-pow_right}
use Rattle.command_line.specs.Numbers.{is_short_number}

first_of_both : (a b : Bool) → a && b ≡ true → a ≡ true
first_of_both true b both = refl
first_of_both false b both = both

second_of_both : (a b : Bool) → a && b ≡ true → b ≡ true
second_of_both true b both = both
second_of_both false b both = absurd (cc (both))

pub digits_from_each : (text : List ℕ) → All (λ byte. IsTrue (is_ascii_digit byte)) text → IsTrue (all_ascii_digits text)
digits_from_each [] each = refl
digits_from_each (byte ∷ rest) each = rw (each 0 0 (omega arith)) (digits_from_each rest (λ k d below. each (suc k) d (omega arith)))

pub each_from_digits : (text : List ℕ) → IsTrue (all_ascii_digits text) → All (λ byte. IsTrue (is_ascii_digit byte)) text
each_from_digits [] digits k d below = absurd (omega arith)
each_from_digits (byte ∷ rest) digits zero d below = first_of_both (is_ascii_digit byte) (all_ascii_digits rest) digits
each_from_digits (byte ∷ rest) digits (suc k) d below = each_from_digits rest (second_of_both (is_ascii_digit byte) (all_ascii_digits rest) digits) k d (omega arith)

-- 1 to 7 digits write a number far below what a word holds, so they are read as that number
short_digits : (text : List ℕ) → IsTrue (is_short_number text) → all_ascii_digits text ≡ true
short_digits text short = second_of_both (nat_le 1 (length text) && nat_le (length text) 7) (all_ascii_digits text) short

short_is_small : (text : List ℕ) → IsTrue (is_short_number text) → (0 < length text) × (digits_value 10 text < 2 ^ 64)
short_is_small text short =
    let bounds = first_of_both (nat_le 1 (length text) && nat_le (length text) 7) (all_ascii_digits text) short in
    let least : 1 ≤ length text = let b = first_of_both (nat_le 1 (length text)) (nat_le (length text) 7) bounds in grind (arith, nat_tests) in
    let most : length text ≤ 7 = let b = second_of_both (nat_le 1 (length text)) (nat_le (length text) 7) bounds in grind (arith, nat_tests) in
    let below : digits_value 10 text < 10 ^ length text = digits_value-lt 10 text ((numerals_by_value (λ ds. all_ascii_digits ds ≡ true) tells_all_ascii_digits).to text (short_digits text short)) in
    let power : 10 ^ length text ≤ 10 ^ 7 = pow-le-pow_right (omega arith) most in
    omega (arith, least, below, power)

pub short_is_no_error : (E : Type 0) (text : List ℕ) (e : E) → ParsesUnsigned 64 10 text (Err e) → IsTrue (is_short_number text) → ⊥
short_is_no_error E text e reads short = parse_digits (numerals_by_value (λ ds. all_ascii_digits ds ≡ true) tells_all_ascii_digits) 64 text (Err e) reads (short_digits text short) (short_is_small text short)
