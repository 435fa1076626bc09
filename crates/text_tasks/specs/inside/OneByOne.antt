-- Operations that go from one text to the next.
use Rattle.std.specs.Prelude.{◌≡◌, ℕ, List, ◌++◌}
use Rattle.text_ops.specs.declared.joined.Joined.{Joined}
use Rattle.text_ops.specs.Joining.{IsJoined}
use Rattle.graph_plans.specs.declared.ops.TextOp.{TextOp}
use Rattle.graph_plans.specs.declared.ops.TextOp.TheVariants.{Pass, Keep, Without, Head, Tail, Skip, Sort, Uniq, Count, Tally}

-- The operation keeps a line or leaves it out whatever the others are.
abbrev pub GoesByLines : TextOp → Type 0
GoesByLines Pass = ⊥
GoesByLines (Keep word) = Unit {0}
GoesByLines (Without word) = Unit {0}
GoesByLines (Head n) = ⊥
GoesByLines (Tail n) = ⊥
GoesByLines (Skip n) = ⊥
GoesByLines Sort = ⊥
GoesByLines Uniq = ⊥
GoesByLines Count = ⊥
GoesByLines Tally = ⊥

-- What was put together, and the rest of the value, are the value.
pub record JoinedSoFar (rest value : List ℕ) (made : Joined) : Type 0 where
  pub all : List ℕ
  pub joined : IsJoined all made
  pub same : all ++ rest ≡ value
