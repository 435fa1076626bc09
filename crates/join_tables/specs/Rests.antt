-- Rests, as contracts see them.
use Rattle.std.specs.Prelude.{◌≡◌, ◌≢◌, ◌↔◌, ◌-◌, ℕ, ◌<◌, ◌≤◌, true, false, IsTrue, IsSomeAnd, Option, Some, None, List, [], ◌∷◌, ◌++◌, length, slice_get}
use Rattle.task_graph.specs.NetRows.{NetRows}
use Rattle.atomic_table.specs.Seated.{TableId}
use Rattle.journal_rules.specs.declared.entry.DropWhy.{DropWhy}
use Rattle.journal_rules.specs.declared.entry.DropWhy.TheVariants.{Stuck, Limit, Halted as AfterFault}
use Rattle.journal_rules.specs.SemaphoreRule.{takes, max_of}
use Rattle.table_steps.specs.Giving.{times}
use Rattle.join_tables.specs.Findings.{FindsOne, FindsTwo}
use Rattle.join_tables.specs.States.{TurnState, turn_with}
use Rattle.join_tables.specs.RestStates.{RestState, rest_with, parked_as}
use Rattle.join_tables.specs.declared.fates.Dropping.{Dropping}
use Rattle.join_tables.specs.declared.fates.Fate.{Fate}
use Rattle.join_tables.specs.declared.fates.Fate.TheVariants.{AllDropped}
use Rattle.join_tables.specs.declared.rests.Parked.{Parked}
use Rattle.join_tables.specs.declared.rests.Checked.{Checked}
use Rattle.join_tables.specs.declared.rests.Checked.TheVariants.{Busy, Alone}
use Rattle.join_tables.specs.declared.rests.UnitLook.{UnitLook}
use Rattle.join_tables.specs.declared.rests.UnitLook.TheVariants.{Exhausted, Available}
use Rattle.join_tables.specs.declared.rests.RestDrop.{RestDrop}
use Rattle.join_tables.specs.declared.rests.RestDrop.TheVariants.{More, Last}

-- the turns of a rest, if it has any, are of this table
abbrev pub IsOfTable : TableId → Option TableId → Type 0
IsOfTable n None = Unit {0}
IsOfTable n (Some m) = m ≡ n

-- what the seat of a rest found, after it took a turn in: where the rest had none, that is the turn's seat
abbrev pub found_with : Option TableId → List ℕ → List ℕ → List ℕ
found_with None rest turn = turn
found_with (Some n) rest turn = rest

-- and after it handed one out, so that these are left
abbrev pub found_left : List Parked → List ℕ → List ℕ
found_left [] rest = []
found_left (p ∷ left) rest = rest

-- its table is known while it has a turn
abbrev pub table_left : TableId → List Parked → Option TableId
table_left n [] = None
table_left n (p ∷ left) = Some n

-- A rest handed out its last turn, which found nothing yet, and isn't known to be alone.
pub record HandsOut (n : TableId) (r s : RestState) (turn : TurnState) : Type 0 where
  pub turns : r.turns ≡ s.turns ++ parked_as turn.task turn.cause ∷ []
  pub is : turn ≡ turn_with n turn.task turn.cause None [] []
  pub left : s ≡ rest_with (table_left n s.turns) r.room s.turns [] None [] (found_left s.turns r.found)
  pub table : IsOfTable n s.table

-- A rest is alone where its load of the live word finds the number of its turns, and then says whether its load of the
-- halt mark finds it set; else it is Busy, with the number that it found.
abbrev pub ChecksRest : {V : Type 0} → TableId → RestState → Checked V → Type 0
ChecksRest n r (Busy s live) = (s ≡ rest_with (Some n) r.room r.turns r.dropped None [] (live ∷ r.found)) × (live ≢ length r.turns)
ChecksRest n r (Alone s faulted) = (s ≡ rest_with (Some n) r.room r.turns r.dropped (Some faulted) [] s.found) × FindsTwo (λ live h. (live ≡ length r.turns) × (IsTrue faulted ↔ (h ≢ 0))) r.found s.found

-- A semaphore has no unit where the load finds in its unit word as many takes as it has units.
abbrev pub LooksForUnit : {V : Type 0} → NetRows → TableId → RestState → ℕ → UnitLook V → Type 0
LooksForUnit net n r sem (Exhausted s) = (s ≡ rest_with (Some n) r.room r.turns r.dropped r.alone (sem ∷ r.full) s.found) × FindsOne (λ k. max_of net sem ≤ k) r.found s.found
LooksForUnit net n r sem (Available s) = (s ≡ rest_with (Some n) r.room r.turns r.dropped r.alone r.full s.found) × FindsOne (λ k. k < max_of net sem) r.found s.found

-- the last of these turns is of a task that takes the semaphore
abbrev pub LastTakes : NetRows → ℕ → List Parked → Type 0
LastTakes net sem turns = IsSomeAnd (slice_get turns (length turns - 1)) (λ (p : Parked). IsTrue (takes net sem p.task))

-- A rest that is alone may drop its last turn: after a Fault, or, where the journal has none, for want of a
-- unit that the turn's task takes.
abbrev pub MayDropOf : NetRows → RestState → DropWhy → Type 0
MayDropOf net r AfterFault = r.alone ≡ Some true
MayDropOf net r (Stuck sem) = (r.alone ≡ Some false) × (1 ≤ times sem r.full) × LastTakes net sem r.turns
MayDropOf net r Limit = ⊥

-- the last turn of a rest was dropped for this reason, and these are left
pub record DropsLast (r : RestState) (why : DropWhy) (turns : List Parked) (dropped : List Dropping) : Type 0 where
  pub last : Parked
  pub place : ℕ
  pub turns_are : r.turns ≡ turns ++ last ∷ []
  pub dropped_are : dropped ≡ r.dropped ++ record { task = last.task; cause = last.cause; place = place; why = why } ∷ []

-- a fate is that releases were dropped, of which this is true
abbrev pub IsOfDrops : {V : Type 0} → Fate V → (List Dropping → Type 0) → Type 0
IsOfDrops (AllDropped drops) p = p drops.items
IsOfDrops _ p = ⊥

-- It is Last where the turn was the only one.
abbrev pub DropsOf : {V : Type 0} → TableId → RestState → DropWhy → RestDrop V → Type 0
DropsOf n r why (More s) = (s ≡ rest_with (Some n) r.room s.turns s.dropped r.alone r.full r.found) × DropsLast r why s.turns s.dropped × (s.turns ≢ [])
DropsOf n r why (Last spent) = (spent.table ≡ n) × IsOfDrops spent.fate (λ drops. DropsLast r why [] drops)
