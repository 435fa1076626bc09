-- How far a start is with its units, list by list.
use Rattle.std.specs.Prelude.{◌≡◌, ℕ, ◌+◌, Bool, not, ◌&&◌, ◌==◌, List, [], ◌∷◌, None, drop}
use Rattle.task_graph.specs.NetRows.{NetRows}
use Rattle.journal_rules.specs.SemaphoreRule.{takes, puts}
use Rattle.table_steps.specs.Giving.{one_if, times}
use Rattle.table_steps.specs.Holding.{PutsBack, PutsAlone}
use Rattle.join_tables.specs.Claims.{HasCredited}
use Rattle.join_tables.specs.States.{StartUnits}
use Rattle.semaphore_turns.specs.Semaphores.{taken_by, put_by}

-- how often a semaphore is among those of a list that pass a test
abbrev pub count_kept : (ℕ → Bool) → ℕ → List ℕ → ℕ
count_kept keep s [] = 0
count_kept keep s (x ∷ xs) = one_if ((x == s) && keep x) + count_kept keep s xs

abbrev pub taken_alone : NetRows → ℕ → ℕ → Bool
taken_alone net t s = not (puts net s t)

abbrev pub put_alone : NetRows → ℕ → ℕ → Bool
put_alone net t s = not (takes net s t)

-- A start has credited what it has to of the first i semaphores that its task takes.
pub record CreditsSoFar (net : NetRows) (t i : ℕ) (units : StartUnits) : Type 0 where
  pub left : (s : ℕ) → times s units.to_credit ≡ count_kept (taken_alone net t) s (drop i (taken_by net t))
  pub done : (s : ℕ) → times s units.credited + times s units.to_credit ≡ count_kept (taken_alone net t) s (taken_by net t)
  pub back : PutsBack net t units.back
  pub to_claim : PutsAlone net t units.to_claim
  pub refused : units.refused ≡ None

-- A start has claimed what it has to of the first i semaphores that its task puts, and none was refused.
pub record ClaimsSoFar (net : NetRows) (t i : ℕ) (units : StartUnits) : Type 0 where
  pub credited : HasCredited net t units
  pub left : (s : ℕ) → times s units.to_claim ≡ count_kept (put_alone net t) s (drop i (put_by net t))
  pub done : (s : ℕ) → times s units.back + times s units.to_claim ≡ one_if (takes net s t && puts net s t) + count_kept (put_alone net t) s (put_by net t)
  pub refused : units.refused ≡ None

-- these units are one of each semaphore of a list
abbrev pub AreOneEach : List ℕ → List ℕ → Type 0
AreOneEach sems units = (s : ℕ) → times s units ≡ times s sems
