-- What the steps on credit words ask of the seat's notes, and what they leave.
use Rattle.std.specs.Prelude.{◌≡◌, ℕ, ◌<◌, ◌≤◌, Bool, true, false, nat_lt, List, [], ◌∷◌, ◌++◌, length}
use Rattle.task_graph.specs.NetRows.{NetRows}
use Rattle.journal_rules.specs.SemaphoreRule.{puts}
use Rattle.table_steps.specs.Giving.{times}
use Rattle.table_steps.specs.Holding.{without}
use Rattle.table_steps.specs.Credits.{first_credit, AllowsOver}
use Rattle.table_steps.specs.declared.view.TurnDuty.TheVariants.{Open}
use Rattle.table_steps.specs.declared.view.SemaphoreRole.TheVariants.{Both, Credit, Credited, Claim, Granted, Refusing, Denied}
use Rattle.table_steps.specs.declared.view.SeatMark.TheVariants.{Live}
use Rattle.table_steps.specs.declared.view.Note.{Note}
use Rattle.table_steps.specs.declared.view.Note.TheVariants.{Duty, Sems, Has, Unfit}
use Rattle.table_steps.specs.inside.Kinds.{Lone}

-- CREDIT ADDED, of a unit that a start took and doesn't put
abbrev pub MayCredit : NetRows → ℕ → List Note → Type 0
MayCredit net a (Duty (Open m t) ∷ Has Live ∷ Sems Both b ∷ Sems Credit c ∷ Sems Credited d ∷ rest) = (1 ≤ times a c) × (a < length net.sems) × Lone rest
MayCredit net a _ = ⊥

abbrev pub credited : ℕ → List Note → List Note
credited a (Duty (Open m t) ∷ Has Live ∷ Sems Both b ∷ Sems Credit c ∷ Sems Credited d ∷ rest) = Duty (Open m t) ∷ Has Live ∷ Sems Both b ∷ Sems Credit (without a c) ∷ Sems Credited (a ∷ d) ∷ rest
credited a notes = notes

-- CREDIT CLAIMED, of a unit that a start puts and didn't take. Where there is none, the claim is refused, and is to be
-- undone.
abbrev pub MayClaim : NetRows → ℕ → List Note → Type 0
MayClaim net a (Duty (Open m t) ∷ Has Live ∷ Sems Both b ∷ Sems Credit c ∷ Sems Credited d ∷ Sems Claim l ∷ Sems Granted g ∷ rest) = (1 ≤ times a l) × (a < length net.sems) × (puts net a t ≡ true) × Lone rest
MayClaim net a _ = ⊥

abbrev pub after_claim : Bool → ℕ → ℕ → ℕ → List ℕ → List ℕ → List Note
after_claim true a m t l g = Sems Claim (without a l) ∷ Sems Granted (a ∷ g) ∷ []
after_claim false a m t l g = Sems Claim (without a l) ∷ Sems Granted g ∷ Sems Refusing (a ∷ []) ∷ Unfit a m t ∷ []

abbrev pub claimed : ℕ → ℕ → List Note → List Note
claimed a n (Duty (Open m t) ∷ Has Live ∷ Sems Both b ∷ Sems Credit c ∷ Sems Credited d ∷ Sems Claim l ∷ Sems Granted g ∷ rest) = Duty (Open m t) ∷ Has Live ∷ Sems Both b ∷ Sems Credit c ∷ Sems Credited d ∷ after_claim (nat_lt first_credit n) a m t l g ++ rest
claimed a n notes = notes

-- a claim that found no credit would give back a unit that isn't out
abbrev pub RefusesClaim : NetRows → ℕ → ℕ → List Note → Type 0
RefusesClaim net limit a (Duty (Open m t) ∷ rest) = AllowsOver net limit a m t
RefusesClaim net limit a _ = ⊥

-- CLAIM UNDONE
abbrev pub MayUnclaim : NetRows → ℕ → List Note → Type 0
MayUnclaim net a (Duty (Open m t) ∷ Has Live ∷ Sems Both b ∷ Sems Credit c ∷ Sems Credited d ∷ Sems Claim l ∷ Sems Granted g ∷ Sems Refusing (z ∷ []) ∷ rest) = (z ≡ a) × (a < length net.sems) × Lone rest
MayUnclaim net a _ = ⊥

abbrev pub unclaimed : List Note → List Note
unclaimed (Duty (Open m t) ∷ Has Live ∷ Sems Both b ∷ Sems Credit c ∷ Sems Credited d ∷ Sems Claim l ∷ Sems Granted g ∷ Sems Refusing z ∷ rest) = Duty (Open m t) ∷ Has Live ∷ Sems Both b ∷ Sems Credit c ∷ Sems Credited d ∷ Sems Claim l ∷ Sems Granted g ∷ Sems Denied z ∷ rest
unclaimed notes = notes
