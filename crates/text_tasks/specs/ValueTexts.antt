-- Texts that may be values.
use Rattle.std.specs.Prelude.{ℕ, ◌≤◌, List, length}
use Rattle.text_ops.specs.Lines.{IsNormal}
use Rattle.text_ops.specs.Values.{value_limit}

-- a normal text that isn't too long
pub record IsValueText (text : List ℕ) : Type 0 where
  pub normal : IsNormal text
  pub short : length text ≤ value_limit
