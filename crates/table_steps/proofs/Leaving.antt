-- Taking off the last live turn leaves a whole run with the keeper.
use Rattle.std.proofs.Common.{◌≡◌, ℕ, ◌+◌, ◌-◌, ◌%◌, ◌^◌, List, [], ◌∷◌, set, refl, sym, ap, ◌∙◌, arith}
use Rattle.std.specs.Prelude.{slice_index}
use mathlib.Core.Option.{some}
use lib.ListN.{get_elem?}
use Rattle.atomic_table.specs.Table.{Act, keeps, Valid, carried_after, stepped, Allows}
use Rattle.task_graph.specs.NetRows.{NetRows}
use Rattle.journal_rules.specs.declared.entry.Part.{Part}
use Rattle.table_steps.specs.OneJournal.{entries_in, AreInOneJournal}
use Rattle.table_steps.specs.declared.view.TurnDuty.TheVariants.{Owes}
use Rattle.table_steps.specs.declared.view.SeatMark.TheVariants.{Live}
use Rattle.table_steps.specs.declared.view.Note.{Note}
use Rattle.table_steps.specs.declared.view.Note.TheVariants.{Duty, Has}
use Rattle.table_steps.specs.inside.Accounts.{mark, total, KeepsAccounts}
use Rattle.table_steps.proofs.Totals.{total_swap}
use Rattle.table_steps.proofs.Stepping.{Seated}
use Rattle.table_steps.specs.inside.Kinds.{MayLeave, left_by, IsWhole}
use Rattle.table_steps.proofs.Views.{get_set}
use Rattle.table_steps.proofs.MarkSteps.{turn_off}
use Rattle.table_steps.proofs.Closing.{all_complete, all_told}
use Rattle.table_steps.proofs.OneJournal.{in_journal}

pub leave_allowed : {S : Type 0} {part : S → List Part} (net : NetRows) (limit slots id : ℕ) (me : Seated S) → id ≡ 0 → MayLeave me.0
    → Allows (KeepsAccounts part net limit) slots id me 16 (λ n. (n + (2 ^ 64 - 1)) % 2 ^ 64) (λ n m. (m.0 ≡ left_by me.0) × (m.1 ≡ me.1) × (n ≡ 1 → IsWhole net limit m.0) × AreInOneJournal net limit (entries_in m.0))
leave_allowed {S} {part} net limit slots id me first may s h _ at small = from me.0 may at
  where
    n : ℕ
    n = slice_index s.words 16

    k : ℕ
    k = (n + 18446744073709551615) % 18446744073709551616

    from : (v : List Note) → MayLeave v → get_elem? s.views id ≡ some v
        → (u : List Note) × (z : Act _) × Valid s.homes me.1 z × KeepsAccounts part net limit (stepped s 16 k id me.1 u z) × ((u ≡ left_by v) × (carried_after me.1 z ≡ me.1) × (n ≡ 1 → IsWhole net limit u) × AreInOneJournal net limit (entries_in u))
    from (Duty (Owes []) ∷ Has Live ∷ rest) may at =
        let kept = turn_off net limit s h id me.1 rest may (λ far. absurd (far first)) at small in
        (rest, keeps, tt, kept, (refl, refl, (λ one. whole kept one), in_journal net limit (stepped s 16 k id me.1 rest keeps) kept id rest (get_set s.views id rest _ at)))
      where
        whole : KeepsAccounts part net limit (stepped s 16 k id me.1 rest keeps) → n ≡ 1 → IsWhole net limit rest
        whole kept one =
            let at_rest : get_elem? (set s.views id rest) id ≡ some rest = get_set s.views id rest _ at in
            let none : total (mark Live) (set s.views id rest) ≡ 0 = omega (arith, one, h.balanced.by_live, total_swap (mark Live) s.views id (Duty (Owes []) ∷ Has Live ∷ []) [] rest at) in
            record {
              journal = kept.journal;
              legal = kept.balanced.by_journal.legal;
              meets = kept.slots.parts.meets;
              complete = all_complete net limit (stepped s 16 k id me.1 rest keeps) kept none;
              each = all_told net limit (stepped s 16 k id me.1 rest keeps) kept rest (ap (get_elem? (set s.views id rest)) (sym first) ∙ at_rest) none;
              stand = (kept.views id rest at_rest).stand;
            }
    from v may at = absurd may
