-- What the calls of a turn lead to, as contracts see it.
use Rattle.std.specs.Prelude.{◌≡◌, ◌≢◌, ℕ, ◌<◌, ◌≤◌, Bool, true, false, Some, List, [], ◌∷◌}
use Rattle.std.specs.Arc.{arc_value}
use Rattle.task_graph.specs.NetRows.{NetRows}
use Rattle.task_graph.specs.Net.{is_weak}
use Rattle.journal_rules.specs.declared.entry.Cause.{Cause}
use Rattle.journal_rules.specs.declared.entry.Cause.TheVariants.{Strong, Weak}
use Rattle.journal_rules.specs.declared.entry.DropWhy.TheVariants.{Limit, Halted as AfterFault}
use Rattle.table_steps.specs.Giving.{target}
use Rattle.join_tables.specs.declared.turns.Collected.{Collected}
use Rattle.join_tables.specs.declared.turns.Collected.TheVariants.{More, Last, LastAgain}
use Rattle.join_tables.specs.declared.turns.Gave.{Gave}
use Rattle.join_tables.specs.declared.turns.Gave.TheVariants.{Next, Released, Finished}
use Rattle.join_tables.specs.declared.turns.Admitted.{Admitted}
use Rattle.join_tables.specs.declared.turns.Admitted.TheVariants.{Go, Over, Halted}
use Rattle.join_tables.specs.declared.turns.EndedStart.{EndedStart}
use Rattle.join_tables.specs.declared.fates.Fate.TheVariants.{Ended}
use Rattle.join_tables.specs.Findings.{FindsOne, FindsTwo, TakesToken, GivesToken}
use Rattle.join_tables.specs.States.{CollectingState, TurnState, RunningState, OwingState, fresh_state, collecting_state, turn_state, turn_with, admitted_state, owing_state, spent_state}

-- What collecting from the next edge of a release leads to: More where another is left. Where none is, LastAgain, with
-- another release of the task by its strong in-edges, where the edge was counted and that count found one left in the
-- join word; else Last. Without an edge it is Last, and nothing is found.
abbrev pub CollectsFrom : {V : Type 0} → CollectingState → List ℕ → Collected V → Type 0
CollectsFrom c [] (Last turn) = turn ≡ turn_state c.table c.task c.cause c.found
CollectsFrom c [] _ = ⊥
CollectsFrom c (e ∷ []) (Last turn) = (turn ≡ turn_state c.table c.task c.cause turn.found) × TakesToken c.cause false c.found turn.found
CollectsFrom c (e ∷ []) (LastAgain turn fresh) = (turn ≡ turn_state c.table c.task c.cause turn.found) × (fresh ≡ fresh_state c.table c.task Strong) × TakesToken c.cause true c.found turn.found
CollectsFrom c (e ∷ []) (More d) = ⊥
CollectsFrom c (e ∷ f ∷ left) (More d) = (d ≡ collecting_state c.table c.task c.cause (f ∷ left) d.found) × TakesToken c.cause false c.found d.found
CollectsFrom c (e ∷ f ∷ left) _ = ⊥

-- A turn is refused for a Fault of the run where its load finds the halt mark set. Where it finds 0, the turn may start
-- its task if the number that it then draws is below the limit, and is refused at the limit else.
abbrev pub Admits : {V : Type 0} → ℕ → TurnState → Admitted V → Type 0
Admits limit t (Go ticket) = (ticket ≡ admitted_state t.table t.task t.cause t.held ticket.found) × FindsTwo (λ h n. (h ≡ 0) × (n < limit)) t.found ticket.found
Admits limit t (Over turn) = (turn ≡ turn_with t.table t.task t.cause (Some Limit) t.held turn.found) × FindsTwo (λ h n. (h ≡ 0) × (limit ≤ n)) t.found turn.found
Admits limit t (Halted turn) = (turn ≡ turn_with t.table t.task t.cause (Some AfterFault) t.held turn.found) × FindsOne (λ h. h ≢ 0) t.found turn.found

-- the run of a start that ended with this value and gives these edges
abbrev pub EndedAs : {V : Type 0} → RunningState V → List ℕ → V → Bool → EndedStart V → Type 0
EndedAs r gives value inner ended = (ended.task ≡ r.task) × (ended.cause ≡ r.cause) × (ended.start ≡ r.place) × (ended.found.ins.value ≡ r.ins) × (arc_value ended.value ≡ value) × (ended.gives ≡ gives) × (ended.inner ≡ inner)

-- the cause of the release that a token of an edge makes
abbrev pub cause_of : Bool → ℕ → Cause
cause_of true e = Weak e
cause_of false e = Strong

abbrev pub release_cause : NetRows → ℕ → Cause
release_cause net e = cause_of (is_weak net e) e

-- What giving the next edge that is owed leads to: Released where its token released its target, else Next. A token of
-- a weak edge always releases its target; one of a strong edge does where the edge was counted and that count found one
-- left in the join word. Finished is returned where no edge is left: the turn is then spent, with this end for its
-- fate.
abbrev pub GivesNext : {V : Type 0} → NetRows → OwingState V → List ℕ → Gave V → Type 0
GivesNext net o [] (Finished spent) = spent ≡ spent_state o.table (Ended o.ended)
GivesNext net o [] _ = ⊥
GivesNext net o (e ∷ left) (Next p) = (p ≡ owing_state o.table o.ended left [] p.found o.bare) × GivesToken (is_weak net e) false o.found p.found
GivesNext net o (e ∷ left) (Released p fresh) = (p ≡ owing_state o.table o.ended left [] p.found o.bare) × (fresh ≡ fresh_state o.table (target net e) (release_cause net e)) × GivesToken (is_weak net e) true o.found p.found
GivesNext net o (e ∷ left) (Finished spent) = ⊥
