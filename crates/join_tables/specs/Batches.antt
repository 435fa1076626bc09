-- Turns that are done and not yet with the keeper.
use Rattle.std.specs.Prelude.{ℕ, List, Option}
use Rattle.atomic_table.specs.Seated.{TableId}
use Rattle.join_tables.specs.declared.fates.Fate.{Fate}

-- their table where there are any, their fates in the order in which they were gathered, and for how many there is room
pub record BatchState (V : Type 0) : Type 0 where
  pub table : Option TableId
  pub fates : List (Fate V)
  pub room : ℕ

abbrev pub batch_state : {V : Type 0} → Option TableId → List (Fate V) → ℕ → BatchState V
batch_state table fates room = record { table = table; fates = fates; room = room }
