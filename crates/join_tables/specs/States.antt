-- The states of a table and of its turns. Each turn but a release that is not set again, and one that owes nothing, has
-- the numbers that its steps found, the newest first.
use Rattle.std.specs.Prelude.{ℕ, Bool, List, [], Option, None}
use Rattle.task_graph.specs.NetRows.{NetRows}
use Rattle.atomic_table.specs.Seated.{TableId}
use Rattle.journal_rules.specs.declared.entry.Cause.{Cause}
use Rattle.journal_rules.specs.declared.entry.DropWhy.{DropWhy}
use Rattle.join_words.specs.declared.ins.Ins.{Ins}
use Rattle.join_tables.specs.declared.turns.EndedStart.{EndedStart}
use Rattle.join_tables.specs.declared.fates.Fate.{Fate}

-- a table's name, its net, and how many starts it may have
pub record TableState : Type 0 where
  pub table : TableId
  pub net : NetRows
  pub limit : ℕ

-- a release of a task, by its cause
pub record FreshState : Type 0 where
  pub table : TableId
  pub task : ℕ
  pub cause : Cause

-- one that is set again, and the edges whose tokens it has still to collect
pub record CollectingState : Type 0 where
  pub table : TableId
  pub task : ℕ
  pub cause : Cause
  pub left : List ℕ
  pub found : List ℕ

-- one that has collected all: why it was refused, if it was, and the semaphores of the units that it holds
pub record TurnState : Type 0 where
  pub table : TableId
  pub task : ℕ
  pub cause : Cause
  pub refused : Option DropWhy
  pub held : List ℕ
  pub found : List ℕ

-- one that may start its task
pub record AdmittedState : Type 0 where
  pub table : TableId
  pub task : ℕ
  pub cause : Cause
  pub held : List ℕ
  pub found : List ℕ

-- The semaphores of a start: of the units that its end gives back, as far as it has them; of those that it took and its
-- task doesn't put, which are still to be credited, and which are credited; and of those that its task puts and doesn't
-- take, which are still to be claimed. Then the one of which a claim was refused, if one was.
pub record StartUnits : Type 0 where
  pub back : List ℕ
  pub to_credit : List ℕ
  pub credited : List ℕ
  pub to_claim : List ℕ
  pub refused : Option ℕ

-- a start that runs, its place in the journal, what it found, and its units
pub record RunningState (V : Type 0) : Type 0 where
  pub table : TableId
  pub task : ℕ
  pub cause : Cause
  pub place : ℕ
  pub ins : Ins V
  pub units : StartUnits
  pub found : List ℕ

-- a run that ended, the edges that it has still to give, the semaphores of the units that it has to give back, and
-- whether its value goes into their slots bare
pub record OwingState (V : Type 0) : Type 0 where
  pub table : TableId
  pub ended : EndedStart V
  pub left : List ℕ
  pub units : List ℕ
  pub found : List ℕ
  pub bare : Bool

-- one that owes nothing
pub record SpentState (V : Type 0) : Type 0 where
  pub table : TableId
  pub fate : Fate V

abbrev pub fresh_state : TableId → ℕ → Cause → FreshState
fresh_state n t cause = record { table = n; task = t; cause = cause }

abbrev pub collecting_state : TableId → ℕ → Cause → List ℕ → List ℕ → CollectingState
collecting_state n t cause left found = record { table = n; task = t; cause = cause; left = left; found = found }

abbrev pub turn_with : TableId → ℕ → Cause → Option DropWhy → List ℕ → List ℕ → TurnState
turn_with n t cause refused held found = record { table = n; task = t; cause = cause; refused = refused; held = held; found = found }

abbrev pub turn_state : TableId → ℕ → Cause → List ℕ → TurnState
turn_state n t cause found = turn_with n t cause None [] found

abbrev pub admitted_state : TableId → ℕ → Cause → List ℕ → List ℕ → AdmittedState
admitted_state n t cause held found = record { table = n; task = t; cause = cause; held = held; found = found }

abbrev pub running_state : {V : Type 0} → TableId → ℕ → Cause → ℕ → Ins V → StartUnits → List ℕ → RunningState V
running_state n t cause place ins units found = record { table = n; task = t; cause = cause; place = place; ins = ins; units = units; found = found }

abbrev pub owing_state : {V : Type 0} → TableId → EndedStart V → List ℕ → List ℕ → List ℕ → Bool → OwingState V
owing_state n ended left units found bare = record { table = n; ended = ended; left = left; units = units; found = found; bare = bare }

abbrev pub spent_state : {V : Type 0} → TableId → Fate V → SpentState V
spent_state n fate = record { table = n; fate = fate }
