-- Numbers of a command line.
use Rattle.std.specs.Prelude.{ℕ, Bool, ◌&&◌, List, length, nat_le, Option, Some, None, if◌then◌else◌}
use Rattle.std.specs.Str.{all_ascii_digits}
use Rattle.std.specs.Str.Parse.{digits_value}

-- 1 to 7 ASCII digits
abbrev pub is_short_number : List ℕ → Bool
is_short_number text = nat_le 1 (length text) && nat_le (length text) 7 && all_ascii_digits text

-- the number that a text writes, if it is from `least` to `most`
abbrev pub number_in : ℕ → ℕ → List ℕ → Option ℕ
number_in least most text =
    if is_short_number text && nat_le least (digits_value 10 text) && nat_le (digits_value 10 text) most
    then Some (digits_value 10 text) else None
