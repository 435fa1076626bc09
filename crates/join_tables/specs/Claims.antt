-- What a start has to do with semaphores, as contracts see it.
use Rattle.std.specs.Prelude.{◌≡◌, ℕ, ◌<◌, ◌≤◌, List, [], ◌∷◌, Some, None}
use Rattle.task_graph.specs.NetRows.{NetRows}
use Rattle.table_steps.specs.Credits.{first_credit, AllowsOver}
use Rattle.table_steps.specs.Holding.{PutsEach, PutsBack, TakesAlone, PutsAlone, without}
use Rattle.join_tables.specs.Findings.{FindsOne}
use Rattle.join_tables.specs.States.{StartUnits, RunningState, running_state}
use Rattle.join_tables.specs.declared.turns.Claim.{Claim}
use Rattle.join_tables.specs.declared.turns.Claim.TheVariants.{Granted, Refused}

-- At first it gives back what its task takes and puts. What that only takes is to be credited, and what it only puts to
-- be claimed.
pub record BeginsUnits (net : NetRows) (t : ℕ) (units : StartUnits) : Type 0 where
  pub back : PutsBack net t units.back
  pub to_credit : TakesAlone net t units.to_credit
  pub credited : units.credited ≡ []
  pub to_claim : PutsAlone net t units.to_claim
  pub refused : units.refused ≡ None

-- all that its task takes and doesn't put is credited
pub record HasCredited (net : NetRows) (t : ℕ) (units : StartUnits) : Type 0 where
  pub none_left : units.to_credit ≡ []
  pub all : TakesAlone net t units.credited

-- it has all that its task puts
pub record HasClaimed (net : NetRows) (t : ℕ) (units : StartUnits) : Type 0 where
  pub none_left : units.to_claim ≡ []
  pub not_refused : units.refused ≡ None
  pub all : PutsEach net t units.back

-- a start that has from the first all that it gives back, and nothing to credit or to claim
pub record HasAllUnits (net : NetRows) (t : ℕ) (held : List ℕ) (units : StartUnits) : Type 0 where
  pub back : units.back ≡ held
  pub credited : HasCredited net t units
  pub claimed : HasClaimed net t units

-- a unit credited
abbrev pub credit_one : ℕ → StartUnits → StartUnits
credit_one s u = record { back = u.back; to_credit = without s u.to_credit; credited = s ∷ u.credited; to_claim = u.to_claim; refused = u.refused }

-- a claim granted, and one refused
abbrev pub grant_one : ℕ → StartUnits → StartUnits
grant_one s u = record { back = s ∷ u.back; to_credit = u.to_credit; credited = u.credited; to_claim = without s u.to_claim; refused = u.refused }

abbrev pub refuse_one : ℕ → StartUnits → StartUnits
refuse_one s u = record { back = u.back; to_credit = u.to_credit; credited = u.credited; to_claim = without s u.to_claim; refused = Some s }

-- the start after a call on its units
abbrev pub with_units : {V : Type 0} → RunningState V → StartUnits → RunningState V → RunningState V
with_units r units q = running_state r.table r.task r.cause r.place r.ins units q.found

-- A claim is granted where its step found more in the credit word than was there at first. Else it is refused, and then
-- a legal journal with this start at its place allows a Fault of it for an over-release of the semaphore.
abbrev pub ClaimsUnit : {V : Type 0} → NetRows → ℕ → RunningState V → ℕ → Claim V → Type 0
ClaimsUnit net limit r s (Granted q) = (q ≡ with_units r (grant_one s r.units) q) × FindsOne (λ n. first_credit < n) r.found q.found
ClaimsUnit net limit r s (Refused q) = (q ≡ with_units r (refuse_one s r.units) q) × FindsOne (λ n. n ≤ first_credit) r.found q.found × AllowsOver net limit s r.place r.task
