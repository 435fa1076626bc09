-- What taking the units of a release leads to.
use Rattle.std.specs.Prelude.{◌≡◌, ℕ, ◌≤◌, take, reverse, slice_get, IsSomeAnd}
use Rattle.task_graph.specs.NetRows.{NetRows}
use Rattle.journal_rules.specs.SemaphoreRule.{max_of}
use Rattle.table_steps.specs.Holding.{HoldsEachUnit}
use Rattle.join_tables.specs.States.{TurnState}
use Rattle.semaphore_turns.specs.Semaphores.{taken_by}
use Rattle.semaphore_turns.specs.declared.takes.TakenUnits.{TakenUnits}
use Rattle.semaphore_turns.specs.declared.takes.TakenUnits.TheVariants.{All, Lacks}

-- a turn has a unit of each of the first n semaphores that its task takes
abbrev pub HoldsFirst : NetRows → ℕ → TurnState → Type 0
HoldsFirst net n turn = turn.held ≡ reverse (take n (taken_by net turn.task))

-- it has one of each
pub record HoldsAll (net : NetRows) (turn : TurnState) : Type 0 where
  pub held : turn.held ≡ reverse (taken_by net turn.task)
  pub each : HoldsEachUnit net turn.task turn.held

-- two states of one turn
pub record IsSameTurn (one other : TurnState) : Type 0 where
  pub table : other.table ≡ one.table
  pub task : other.task ≡ one.task
  pub cause : other.cause ≡ one.cause
  pub refused : other.refused ≡ one.refused

-- What a turn found last is how many units of this semaphore were taken: as many as it has.
abbrev pub FoundNone : NetRows → ℕ → TurnState → Type 0
FoundNone net sem turn = IsSomeAnd (slice_get turn.found 0) (λ n. max_of net sem ≤ n)

-- A turn lacks a unit of the semaphore at this place of those that its task takes, and has one of each before.
pub record LacksUnit (net : NetRows) (place : ℕ) (turn : TurnState) : Type 0 where
  pub holds : HoldsFirst net place turn
  pub none : IsSomeAnd (slice_get (taken_by net turn.task) place) (λ sem. FoundNone net sem turn)

abbrev pub TakesUnits : {V : Type 0} → NetRows → TurnState → TakenUnits V → Type 0
TakesUnits net old (All turn) = IsSameTurn old turn × HoldsAll net turn
TakesUnits net old (Lacks turn place) = IsSameTurn old turn × LacksUnit net place turn
