-- What taking a unit of a semaphore leads to, as contracts see it.
use Rattle.std.specs.Prelude.{◌≡◌, ℕ, ◌<◌, ◌≤◌, ◌∷◌, None}
use Rattle.task_graph.specs.NetRows.{NetRows}
use Rattle.journal_rules.specs.SemaphoreRule.{max_of}
use Rattle.join_tables.specs.Findings.{FindsOne}
use Rattle.join_tables.specs.States.{TurnState, turn_with}
use Rattle.join_tables.specs.declared.turns.UnitTake.{UnitTake}
use Rattle.join_tables.specs.declared.turns.UnitTake.TheVariants.{Got, NoUnit}

-- A turn has a unit more where its step found in the unit word fewer than the semaphore has, and else the units that it
-- had.
abbrev pub TakesUnit : {V : Type 0} → NetRows → TurnState → ℕ → UnitTake V → Type 0
TakesUnit net t s (Got u) = (u ≡ turn_with t.table t.task t.cause None (s ∷ t.held) u.found) × FindsOne (λ n. n < max_of net s) t.found u.found
TakesUnit net t s (NoUnit u) = (u ≡ turn_with t.table t.task t.cause None t.held u.found) × FindsOne (λ n. max_of net s ≤ n) t.found u.found
