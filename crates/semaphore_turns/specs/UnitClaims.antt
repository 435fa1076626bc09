-- What a start does with its units from its Start to its end.
use Rattle.std.specs.Prelude.{◌≡◌, ℕ, Some, None}
use Rattle.task_graph.specs.NetRows.{NetRows}
use Rattle.table_steps.specs.Holding.{PutsBack, PutsAlone}
use Rattle.table_steps.specs.Credits.{AllowsOver}
use Rattle.join_tables.specs.Claims.{HasCredited, HasClaimed, with_units}
use Rattle.join_tables.specs.States.{RunningState, StartUnits, TableState}
use Rattle.semaphore_turns.specs.declared.claims.ClaimedUnits.{ClaimedUnits}
use Rattle.semaphore_turns.specs.declared.claims.ClaimedUnits.TheVariants.{All, Refused}

-- a start that has credited all that it had to, and claimed nothing
pub record HasToClaim (net : NetRows) (t : ℕ) (units : StartUnits) : Type 0 where
  pub credited : HasCredited net t units
  pub back : PutsBack net t units.back
  pub to_claim : PutsAlone net t units.to_claim
  pub refused : units.refused ≡ None

-- A start has claimed all that its task puts and doesn't take, or one of its claims was refused. Then a legal journal
-- with this start at its place allows a Fault of it for an over-release of that semaphore.
abbrev pub ClaimsUnits : {V : Type 0} → TableState → RunningState V → ClaimedUnits V → Type 0
ClaimsUnits table old (All r) = (r ≡ with_units old r.units r) × HasCredited table.net r.task r.units × HasClaimed table.net r.task r.units
ClaimsUnits table old (Refused r sem) = (r ≡ with_units old r.units r) × HasCredited table.net r.task r.units × (r.units.refused ≡ Some sem) × AllowsOver table.net table.limit sem r.place r.task
