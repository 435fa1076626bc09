-- The value of an End, with an owner for each edge that the End gives.
use Rattle.std.specs.Prelude.{ℕ, Bool}

-- the value, how many edges it is for, and whether its owners go into slots bare
pub record SharedState (V : Type 0) : Type 0 where
  pub value : V
  pub edges : ℕ
  pub bare : Bool

abbrev pub shared_state : {V : Type 0} → V → ℕ → Bool → SharedState V
shared_state value edges bare = record { value = value; edges = edges; bare = bare }
