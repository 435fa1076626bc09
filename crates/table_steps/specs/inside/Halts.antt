-- What the steps of halts and drops ask of the seat's notes, and what they leave.
use Rattle.std.specs.Prelude.{◌≡◌, ℕ, zero, suc, List, [], ◌∷◌}
use Rattle.task_graph.specs.NetRows.{NetRows}
use Rattle.journal_rules.specs.declared.entry.Entry.TheVariants.{Fault, Drop}
use Rattle.journal_rules.specs.declared.entry.Why.{Why}
use Rattle.journal_rules.specs.declared.entry.DropWhy.TheVariants.{Limit, Halted as AfterFault}
use Rattle.journal_rules.specs.declared.entry.Why.TheVariants.{OverRelease}
use Rattle.table_steps.specs.Holding.{TakesAlone}
use Rattle.table_steps.specs.declared.view.SemaphoreRole.TheVariants.{Held, Both, Credit, Credited, Claim, Granted}
use Rattle.table_steps.specs.declared.view.TurnDuty.TheVariants.{Told, Collecting, Open, Owes}
use Rattle.table_steps.specs.declared.view.SeatMark.TheVariants.{Live, Over, ToMark, Halted, Asked}
use Rattle.table_steps.specs.declared.view.Note.{Note}
use Rattle.table_steps.specs.declared.view.Note.TheVariants.{Duty, Sems, Has, Unfit}
use Rattle.table_steps.specs.inside.Kinds.{Lone}
use Rattle.table_steps.specs.inside.Slots.{FindsFirst, after_lots}

-- HALT LOAD, by a turn that asks for an admission. One that finds the mark knows that the journal has a Fault; one that
-- doesn't may draw an admission.
abbrev pub MayAsk : List Note → Type 0
MayAsk (Duty (Collecting t cause taken left) ∷ Has Live ∷ rest) = Lone rest
MayAsk _ = ⊥

abbrev pub halt_read : ℕ → List Note → List Note
halt_read zero (Duty x ∷ Has Live ∷ rest) = Duty x ∷ Has Live ∷ Has Asked ∷ rest
halt_read (suc n) (Duty x ∷ Has Live ∷ rest) = Duty x ∷ Has Live ∷ Has Halted ∷ rest
halt_read n notes = notes

-- of an over-release a seat knows it, since it was refused the claim
abbrev pub KnowsWhy : Why → ℕ → List Note → Type 0
KnowsWhy (OverRelease s) m (Sems Claim l ∷ Sems Granted g ∷ x ∷ Unfit a n t ∷ rest) = (a ≡ s) × (n ≡ m)
KnowsWhy (OverRelease s) m _ = ⊥
KnowsWhy _ m _ = Unit {0}

-- FAULT DRAWN, of a start with nothing left to credit. The halt mark is then to be set.
abbrev pub MayFault : NetRows → Why → List Note → Type 0
MayFault net why (Duty (Open m t) ∷ Has Live ∷ Sems Both b ∷ Sems Credit c ∷ Sems Credited d ∷ rest) = KnowsWhy why m rest × (c ≡ []) × TakesAlone net t d × Lone rest
MayFault net why _ = ⊥

abbrev pub with_fault_drawn : Why → ℕ → List Note → List Note
with_fault_drawn why n (Duty (Open m t) ∷ Has Live ∷ Sems Both b ∷ Sems Credit c ∷ Sems Credited d ∷ rest) = Duty (Owes []) ∷ Has Live ∷ Has ToMark ∷ Duty (Told n (Fault m why)) ∷ Sems Both b ∷ rest
with_fault_drawn why n notes = notes

-- HALT MARK set
abbrev pub MayMark : List Note → Type 0
MayMark (Duty (Owes []) ∷ Has Live ∷ Has ToMark ∷ rest) = Lone rest
MayMark _ = ⊥

abbrev pub marked : List Note → List Note
marked (Duty (Owes []) ∷ Has Live ∷ Has ToMark ∷ rest) = Duty (Owes []) ∷ Has Live ∷ rest
marked notes = notes

-- DROP DRAWN, of a release that was refused, at the limit or after a Fault, and has put its units back. What it found
-- falls away.
abbrev pub MayDrop : List Note → Type 0
MayDrop (Duty (Collecting t cause taken []) ∷ Has Over ∷ Sems Held [] ∷ rest) = FindsFirst taken rest × Lone rest
MayDrop (Duty (Collecting t cause taken []) ∷ Has Live ∷ Has Halted ∷ Sems Held [] ∷ rest) = FindsFirst taken rest × Lone rest
MayDrop _ = ⊥

abbrev pub dropped : ℕ → List Note → List Note
dropped n (Duty (Collecting t cause taken left) ∷ Has Over ∷ Sems Held l ∷ rest) = Duty (Owes []) ∷ Has Live ∷ Duty (Told n (Drop t cause Limit)) ∷ after_lots taken rest
dropped n (Duty (Collecting t cause taken left) ∷ Has Live ∷ Has Halted ∷ Sems Held l ∷ rest) = Duty (Owes []) ∷ Has Live ∷ Duty (Told n (Drop t cause AfterFault)) ∷ after_lots taken rest
dropped n notes = notes
