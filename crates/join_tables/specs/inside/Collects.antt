-- What collecting from one edge leads to.
use Rattle.std.specs.Prelude.{◌≡◌, ◌↔◌, ◌+◌, length, ℕ, List, [], ◌∷◌, ◌++◌, IfSome, IsTrue, is_some}
use Rattle.atomic_table.specs.Seated.{TableId}
use Rattle.journal_rules.specs.declared.entry.Cause.{Cause}
use Rattle.journal_rules.specs.declared.entry.Cause.TheVariants.{Strong}
use Rattle.table_steps.specs.declared.view.Note.{Note}
use Rattle.join_tables.specs.declared.calls.Step.{Step}
use Rattle.join_tables.specs.declared.calls.Step.TheVariants.{NoneLeft, Taken}
use Rattle.join_tables.specs.Findings.{TakesToken}
use Rattle.join_tables.specs.declared.parts.Inputs.{Inputs}
use Rattle.join_tables.specs.Inputs.{parts_found, room_in}
use Rattle.join_tables.specs.States.{fresh_state}
use Rattle.join_tables.specs.inside.Seated.{collecting_view}

-- one part was added
abbrev pub AddsPart : {V : Type 0} → Inputs V → Inputs V → Type 0
AddsPart before after = (length (parts_found after) ≡ length (parts_found before) + 1) × (room_in after ≡ room_in before)

-- what collecting from one edge leads to, and what the seat knows and has found then
abbrev pub CollectsOne : {V : Type 0} → TableId → ℕ → Cause → List ℕ → List ℕ → Inputs V → List ℕ → Step V → List Note → Inputs V → List ℕ → Type 0
CollectsOne n t cause taken [] ins before NoneLeft v ins' after = (v ≡ collecting_view t cause taken (parts_found ins) []) × (ins' ≡ ins) × (after ≡ before)
CollectsOne n t cause taken (f ∷ left) ins before (Taken made is_last) v ins' after =
    (v ≡ collecting_view t cause (taken ++ f ∷ []) (parts_found ins') left) × AddsPart ins ins' × IfSome made (λ fresh. (fresh ≡ fresh_state n t Strong) × (left ≡ [])) × TakesToken cause (is_some made) before after × (IsTrue is_last ↔ (left ≡ []))
CollectsOne n t cause taken left ins before step v ins' after = ⊥
