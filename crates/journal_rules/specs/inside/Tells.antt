-- Lists that hold the values of a function.
use Rattle.std.specs.Prelude.{◌≡◌, ℕ, ◌<◌, List, length, slice_index_or}

-- the list has the values of f at 0, 1 and so on below n
pub record Tells {X : Type 0} (f : ℕ → X) (xs : List X) (n : ℕ) : Type 0 where
  pub len : length xs ≡ n
  pub each : (k : ℕ) (d : X) → k < n → slice_index_or xs k d ≡ f k
