-- Flags with which a list's numbers are marked.
use Rattle.std.specs.Prelude.{◌≡◌, ◌↔◌, ℕ, ◌<◌, ◌==◌, Bool, false, List, length, slice_index_or, IsTrue}
use Rattle.std.specs.List.{list_any, IsDistinct}

-- none is set
abbrev pub AreClear : List Bool → Type 0
AreClear flags = (k : ℕ) (d : Bool) → k < length flags → slice_index_or flags k d ≡ false

-- these numbers are marked, and whether they differ
pub record Marked (old now : List Bool) (distinct : Bool) (numbers : List ℕ) : Type 0 where
  pub len : length now ≡ length old
  pub each : (k : ℕ) (d : Bool) → k < length old → slice_index_or now k d ≡ list_any (λ n. n == k) numbers
  pub differ : IsTrue distinct ↔ IsDistinct ◌==◌ numbers
