-- What the steps on unit words ask of the seat's notes, and what they leave.
use Rattle.std.specs.Prelude.{◌≡◌, ℕ, ◌<◌, ◌≤◌, Bool, true, false, nat_lt, List, [], ◌∷◌, ◌++◌, length}
use Rattle.task_graph.specs.NetRows.{NetRows}
use Rattle.journal_rules.specs.SemaphoreRule.{max_of}
use Rattle.table_steps.specs.Giving.{times}
use Rattle.table_steps.specs.Holding.{without}
use Rattle.table_steps.specs.declared.view.TurnDuty.{TurnDuty}
use Rattle.table_steps.specs.declared.view.TurnDuty.TheVariants.{Collecting, Owes}
use Rattle.table_steps.specs.declared.view.SemaphoreRole.TheVariants.{Held, Undo, Owed}
use Rattle.table_steps.specs.declared.view.SeatMark.TheVariants.{Live, Over, Halted}
use Rattle.table_steps.specs.declared.view.Note.{Note}
use Rattle.table_steps.specs.declared.view.Note.TheVariants.{Duty, Sems, Has}
use Rattle.table_steps.specs.inside.Kinds.{Lone}

-- the units that a turn holds, as notes
abbrev pub held_notes : List ℕ → List Note
held_notes l = Sems Held l ∷ []

-- UNIT TAKEN, or none found, which is to be undone
abbrev pub MayTake : NetRows → ℕ → List Note → Type 0
MayTake net a (Duty (Collecting t cause taken left) ∷ Has Live ∷ Sems Held l ∷ rest) = (a < length net.sems) × Lone rest
MayTake net a _ = ⊥

abbrev pub after_unit : Bool → ℕ → TurnDuty → List ℕ → List Note
after_unit true a x l = Duty x ∷ Has Live ∷ Sems Held (a ∷ l) ∷ []
after_unit false a x l = Duty x ∷ Sems Undo (a ∷ []) ∷ held_notes l

abbrev pub took_unit : NetRows → ℕ → ℕ → List Note → List Note
took_unit net a n (Duty x ∷ Has Live ∷ Sems Held l ∷ rest) = after_unit (nat_lt n (max_of net a)) a x l ++ rest
took_unit net a n notes = notes

-- TAKE UNDONE
abbrev pub MayUndo : NetRows → ℕ → List Note → Type 0
MayUndo net a (Duty x ∷ Sems Undo (b ∷ []) ∷ rest) = (b ≡ a) × (a < length net.sems) × Lone rest
MayUndo net a _ = ⊥

abbrev pub undone : List Note → List Note
undone (Duty x ∷ Sems Undo (b ∷ []) ∷ rest) = Duty x ∷ Has Live ∷ rest
undone notes = notes

-- UNIT BACK, before the start: the turn may have been refused
abbrev pub MayPut : NetRows → ℕ → List Note → Type 0
MayPut net a (Duty x ∷ Has Over ∷ Sems Held l ∷ rest) = (1 ≤ times a l) × (a < length net.sems) × Lone rest
MayPut net a (Duty x ∷ Has Live ∷ Has Halted ∷ Sems Held l ∷ rest) = (1 ≤ times a l) × (a < length net.sems) × Lone rest
MayPut net a (Duty x ∷ Has Live ∷ Sems Held l ∷ rest) = (1 ≤ times a l) × (a < length net.sems) × Lone rest
MayPut net a _ = ⊥

abbrev pub put_back : ℕ → List Note → List Note
put_back a (Duty x ∷ Has Over ∷ Sems Held l ∷ rest) = Duty x ∷ Has Over ∷ held_notes (without a l) ++ rest
put_back a (Duty x ∷ Has Live ∷ Has Halted ∷ Sems Held l ∷ rest) = Duty x ∷ Has Live ∷ Has Halted ∷ held_notes (without a l) ++ rest
put_back a (Duty x ∷ Has Live ∷ Sems Held l ∷ rest) = Duty x ∷ Has Live ∷ held_notes (without a l) ++ rest
put_back a notes = notes

-- and after the End
abbrev pub MayReturn : NetRows → ℕ → List Note → Type 0
MayReturn net a (Duty (Owes gives) ∷ Has Live ∷ Sems Owed l ∷ rest) = (1 ≤ times a l) × (a < length net.sems) × Lone rest
MayReturn net a _ = ⊥

abbrev pub returned : ℕ → List Note → List Note
returned a (Duty (Owes gives) ∷ Has Live ∷ Sems Owed l ∷ rest) = Duty (Owes gives) ∷ Has Live ∷ Sems Owed (without a l) ∷ rest
returned a notes = notes
