-- What was gathered.
use Rattle.std.specs.Prelude.{◌≡◌, ℕ, ◌≤◌, List, length}
use Rattle.text_ops.specs.declared.gathered.Gathered.{Gathered}
use Rattle.text_ops.specs.Values.{value_limit}

-- These bytes were added: all are counted, and held where they aren't too many.
pub record IsGathered (all : List ℕ) (made : Gathered) : Type 0 where
  pub total : made.total ≡ length all
  pub bytes : length all ≤ value_limit → made.bytes ≡ all
