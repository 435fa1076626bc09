-- What the steps on the clock ask is met.
use Rattle.std.proofs.Common.{◌≡◌, ℕ, suc, length, ◌+◌, ◌%◌, ◌^◌, ◌≤◌, Bool, List, [], ◌∷◌, ◌++◌, Some, set, refl, sym, ap, ◌∙◌, arith}
use Rattle.std.specs.Prelude.{slice_index, slice_get, count_by}
use mathlib.Core.Option.{some}
use lib.ListN.{get_elem?}
use Rattle.atomic_table.specs.Table.{keeps, stepped}
use Rattle.task_graph.specs.NetRows.{NetRows}
use Rattle.journal_rules.specs.declared.entry.Cause.{Cause}
use Rattle.journal_rules.specs.declared.entry.Entry.{Entry}
use Rattle.journal_rules.specs.declared.entry.Entry.TheVariants.{Start, End}
use Rattle.journal_rules.specs.DataRule.{edges_of}
use Rattle.journal_rules.proofs.Tallying.{count_by_push_no}
use Rattle.journal_rules.specs.declared.entry.Part.{Part}
use Rattle.table_steps.specs.Releases.{MayBeReleased}
use Rattle.table_steps.specs.declared.view.TurnDuty.TheVariants.{Told, Collecting, Ticket, Open, Owes}
use Rattle.table_steps.specs.Giving.{MayEndGiving}
use Rattle.table_steps.specs.Holding.{HoldsEachUnit, PutsEach, TakesAlone}
use Rattle.table_steps.specs.declared.view.SemaphoreRole.TheVariants.{Held, Undo, Owed, Both, Credit, Credited, Claim, Granted, Refusing, Denied}
use Rattle.table_steps.specs.inside.Kinds.{started_notes}
use Rattle.table_steps.proofs.Counting.{times_append}
use Rattle.table_steps.proofs.Sharing.{puts_back, takes_alone, puts_alone}
use Rattle.table_steps.proofs.Raising.{told_last}
use Rattle.table_steps.specs.declared.view.SeatMark.TheVariants.{Live, New, Over, ToMark}
use Rattle.table_steps.specs.declared.view.Note.{Note}
use Rattle.table_steps.specs.declared.view.Note.TheVariants.{Duty, Sems, Has}
use Rattle.table_steps.specs.inside.Accounts.{duty, sem, mark, turning, owing, resting, weigh, total, Balanced, Moves, is_drop, with_clock, reading, KeepsAccounts}
use Rattle.table_steps.specs.declared.view.Lot.TheVariants.{Putting, Taking}
use Rattle.table_steps.specs.inside.Slots.{lot, slot_total, SlotMoves, SlotPart, HoldsAlike, slots_in, found_lots, our_lots}
use Rattle.table_steps.specs.inside.SlotMarks.{label_of}
use Rattle.table_steps.proofs.Lots.{found_none, our_none}
use Rattle.table_steps.proofs.LotEntries.{start_slots, end_slots}
use Rattle.table_steps.proofs.SlotBounds.{slot_bounds}
use Rattle.table_steps.proofs.SlotViews.{slots_moved, found_weigh, our_weigh, our_stand}
use Rattle.table_steps.proofs.Totals.{total_swap, weigh_append}
use Rattle.table_steps.proofs.Views.{OwnView, longer, none_stuck, sticking_rests}
use Rattle.table_steps.proofs.Stepping.{St, own_lone, after_step}
use Rattle.journal_rules.specs.HaltLimitStuckRule.{is_stuck}
use Rattle.table_steps.proofs.Reading.{clock_read}
use Rattle.table_steps.proofs.Starting.{start_kept}
use Rattle.table_steps.proofs.Ending.{end_kept}

-- the clock is far below what a word holds
pub clock_small : {S : Type 0} {part : S → List Part} (net : NetRows) (limit : ℕ) (s : St S) (h : KeepsAccounts part net limit s) → slice_index s.words 8 ≤ 4194306 + 1152921504606846976
clock_small net limit s h = omega (arith, h.fits.limited, h.balanced.by_journal.clock, h.balanced.by_journal.size, h.balanced.by_admissions.room, h.few_drops)

-- a number drawn
pub drawn : {S : Type 0} {part : S → List Part} (net : NetRows) (limit : ℕ) (s : St S) (h : KeepsAccounts part net limit s) (id : ℕ) (carried : List (ℕ × S)) (old new rest : List Note) (x : Entry)
    → get_elem? s.views id ≡ some (old ++ rest) → HoldsAlike old new → OwnView net (h.journal ++ x ∷ []) (λ c. total c s.views) id old new rest → weigh (mark Live) new ≡ weigh (mark Live) old → count_by is_drop (h.journal ++ x ∷ []) ≤ 1152921504606846976
    → (SlotMoves (λ c. slot_total c s.views) old (λ c. slot_total c (set s.views id (new ++ rest))) new → SlotPart net (h.journal ++ x ∷ []) ((reading net s.words).edge) (λ c. slot_total c (set s.views id (new ++ rest))) (label_of part s.homes))
    → (Moves (λ c. total c s.views) old (λ c. total c (set s.views id (new ++ rest))) new
    → Balanced net limit (with_clock (reading net s.words) (suc (slice_index s.words 8))) h.counted (h.journal ++ x ∷ []) (λ c. total c (set s.views id (new ++ rest))))
    → KeepsAccounts part net limit (stepped s 8 ((slice_index s.words 8 + 1) % 2 ^ 64) id carried (new ++ rest) keeps)
drawn net limit s h id carried old new rest x at same own live_is few slots kept =
    let n = slice_index s.words 8 in
    let sum : (n + 1) % 18446744073709551616 ≡ suc n = omega (arith, clock_small net limit s h) in
    after_step net limit s h id 8 ((n + 1) % 18446744073709551616) carried old new rest (h.journal ++ x ∷ []) h.counted _ at same (λ e b z. omega arith) (longer net h.journal x) own
    (omega (arith, h.few, live_is, total_swap (mark Live) s.views id old new rest at)) few
    (clock_read net s.words _ (omega (arith, h.size)) ∙ ap (with_clock (reading net s.words)) sum) slots kept

pub told : {S : Type 0} {part : S → List Part} (net : NetRows) (limit : ℕ) (s : St S) (h : KeepsAccounts part net limit s) (x : Entry) → slice_get (h.journal ++ x ∷ []) (slice_index s.words 8) ≡ Some x
told net limit s h x = told_last h.journal (slice_index s.words 8) x h.balanced.by_journal.clock

-- a seat with a turn that is no rest
pub unstuck : {S : Type 0} {part : S → List Part} (net : NetRows) (limit : ℕ) (s : St S) (h : KeepsAccounts part net limit s) (id : ℕ) (v : List Note) → get_elem? s.views id ≡ some v → 1 ≤ weigh (mark Live) v → weigh resting v ≡ 0 → count_by is_stuck h.journal ≡ 0
unstuck net limit s h id v at lives lone = none_stuck net h.journal s.views id v h.views h.balanced.by_stuck at lives (omega (arith, lone, sticking_rests v))

-- a Start
pub start_drawn : {S : Type 0} {part : S → List Part} (net : NetRows) (limit : ℕ) (s : St S) (h : KeepsAccounts part net limit s) (id t : ℕ) (cause : Cause) (l : List ℕ) (ins : List Part) (carried : List (ℕ × S)) (rest : List Note) → MayBeReleased net t cause → HoldsEachUnit net t l → length ins ≡ length (edges_of net t cause)
    → weigh resting rest ≡ 0 → get_elem? s.views id ≡ some (Duty (Collecting t cause (edges_of net t cause) []) ∷ Duty Ticket ∷ Has Live ∷ Sems Held l ∷ found_lots (edges_of net t cause) ins ++ rest)
    → KeepsAccounts part net limit (stepped s 8 ((slice_index s.words 8 + 1) % 2 ^ 64) id carried (started_notes net (slice_index s.words 8) t cause l ins ++ rest) keeps)
start_drawn {S} {part} net limit s h id t cause l ins carried rest may holds full lone at =
    let n = slice_index s.words 8 in let x = Start t cause ins in let es = edges_of net t cause in
    let old = Duty (Collecting t cause es []) ∷ Duty Ticket ∷ Has Live ∷ Sems Held l ∷ found_lots es ins in let new = started_notes net n t cause l ins in
    drawn net limit s h id carried old new rest x at (λ e. (omega (arith, found_none (lot Putting e) tt es ins), omega (arith, found_none (lot Taking e) tt es ins)))
    (own_lone net (h.journal ++ x ∷ []) (λ c. total c s.views) old new rest (tt, (tt, (tt, (tt, (tt, (tt, (tt, (told net limit s h x, tt)))))))) (omega arith) (omega arith) (omega (arith, lone))) (omega (arith, found_weigh (mark Live) es ins))
    (omega (arith, count_by_push_no is_drop h.journal x refl, h.few_drops))
    (λ moved. start_slots net h.journal _ _ _ (label_of part s.homes) t cause ins h.slots full (slots_moved _ _ old new (Duty (Collecting t cause es []) ∷ found_lots es ins) [] moved refl refl))
    (λ moved. start_kept net limit (reading net s.words) h.counted h.journal (λ c. total c s.views) _ t cause ins h.balanced may
    (unstuck net limit s h id (old ++ rest) at (omega arith) (omega (arith, lone, weigh_append resting old rest, found_weigh resting es ins))) (record {
      duties = λ c. omega (arith, moved (duty c), found_weigh (duty c) es ins);
      held = λ z. omega (arith, moved (sem Held z), found_weigh (sem Held z) es ins, holds z);
      undo = λ z. omega (arith, moved (sem Undo z), found_weigh (sem Undo z) es ins);
      owed = λ z. omega (arith, moved (sem Owed z), found_weigh (sem Owed z) es ins);
      both = λ z. omega (arith, moved (sem Both z), found_weigh (sem Both z) es ins, puts_back net t l holds z);
      credit = λ z. omega (arith, moved (sem Credit z), found_weigh (sem Credit z) es ins, takes_alone net t l holds z);
      credited = λ z. omega (arith, moved (sem Credited z), found_weigh (sem Credited z) es ins);
      claim = λ z. omega (arith, moved (sem Claim z), found_weigh (sem Claim z) es ins, puts_alone net t h.fits.rows z);
      granted = λ z. omega (arith, moved (sem Granted z), found_weigh (sem Granted z) es ins);
      refusing = λ z. omega (arith, moved (sem Refusing z), found_weigh (sem Refusing z) es ins);
      denied = λ z. omega (arith, moved (sem Denied z), found_weigh (sem Denied z) es ins);
      live = omega (arith, moved (mark Live), found_weigh (mark Live) es ins);
      new = omega (arith, moved (mark New), found_weigh (mark New) es ins);
      over = omega (arith, moved (mark Over), found_weigh (mark Over) es ins);
      to_mark = omega (arith, moved (mark ToMark), found_weigh (mark ToMark) es ins);
      turning_is = omega (arith, moved turning, found_weigh turning es ins);
      owing_is = omega (arith, moved owing, found_weigh owing es ins);
    }))

-- an End
pub end_drawn : {S : Type 0} {part : S → List Part} (net : NetRows) (limit : ℕ) (s : St S) (h : KeepsAccounts part net limit s) (id m t : ℕ) (gives : List ℕ) (inner : Bool) (b d g : List ℕ) (carried : List (ℕ × S)) (rest : List Note) → MayEndGiving net t gives inner → PutsEach net t (g ++ b) → TakesAlone net t d
    → weigh resting rest ≡ 0 → get_elem? s.views id ≡ some (Duty (Open m t) ∷ Has Live ∷ Sems Both b ∷ Sems Credit [] ∷ Sems Credited d ∷ Sems Claim [] ∷ Sems Granted g ∷ rest)
    → KeepsAccounts part net limit (stepped s 8 ((slice_index s.words 8 + 1) % 2 ^ 64) id carried (Duty (Owes gives) ∷ Has Live ∷ Sems Owed (g ++ b) ∷ Duty (Told (slice_index s.words 8) (End m gives inner)) ∷ our_lots (slice_index s.words 8) gives ++ rest) keeps)
end_drawn {S} {part} net limit s h id m t gives inner b d g carried rest may each alone lone at =
    let n = slice_index s.words 8 in let x = End m gives inner in
    let old = Duty (Open m t) ∷ Has Live ∷ Sems Both b ∷ Sems Credit [] ∷ Sems Credited d ∷ Sems Claim [] ∷ Sems Granted g ∷ [] in let new = Duty (Owes gives) ∷ Has Live ∷ Sems Owed (g ++ b) ∷ Duty (Told n x) ∷ our_lots n gives in
    drawn net limit s h id carried old new rest x at (λ e. (omega (arith, our_none (lot Putting e) tt n gives), omega (arith, our_none (lot Taking e) tt n gives)))
    (own_lone net (h.journal ++ x ∷ []) (λ c. total c s.views) old new rest (may.in_range, (tt, (tt, (told net limit s h x, our_stand net (h.journal ++ x ∷ []) n gives)))) (omega arith) (omega arith) (omega (arith, lone, weigh_append resting new rest, our_weigh resting n gives))) (omega (arith, our_weigh (mark Live) n gives))
    (omega (arith, count_by_push_no is_drop h.journal x refl, h.few_drops))
    (λ moved. end_slots net h.journal _ _ _ (label_of part s.homes) m gives inner h.slots (slot_bounds net limit s h) may.once (slots_moved _ _ old new [] (Duty (Owes gives) ∷ our_lots (length h.journal) gives) moved refl (ap (λ k. Duty (Owes gives) ∷ slots_in (our_lots k gives)) (sym h.balanced.by_journal.clock))))
    (λ moved. end_kept net limit (reading net s.words) h.counted h.journal (λ c. total c s.views) _ m t gives inner h.balanced may
    (unstuck net limit s h id (old ++ rest) at (omega arith) (omega (arith, lone))) (record {
      duties = λ c. omega (arith, moved (duty c), our_weigh (duty c) n gives);
      held = λ z. omega (arith, moved (sem Held z), our_weigh (sem Held z) n gives);
      undo = λ z. omega (arith, moved (sem Undo z), our_weigh (sem Undo z) n gives);
      owed = λ z. omega (arith, moved (sem Owed z), our_weigh (sem Owed z) n gives, each z);
      paid = λ z. omega (arith, moved (sem Both z), our_weigh (sem Both z) n gives, moved (sem Granted z), our_weigh (sem Granted z) n gives, each z, times_append z g b);
      credit = λ z. omega (arith, moved (sem Credit z), our_weigh (sem Credit z) n gives);
      credited = λ z. omega (arith, moved (sem Credited z), our_weigh (sem Credited z) n gives, alone z);
      claim = λ z. omega (arith, moved (sem Claim z), our_weigh (sem Claim z) n gives);
      refusing = λ z. omega (arith, moved (sem Refusing z), our_weigh (sem Refusing z) n gives);
      denied = λ z. omega (arith, moved (sem Denied z), our_weigh (sem Denied z) n gives);
      live = omega (arith, moved (mark Live), our_weigh (mark Live) n gives);
      new = omega (arith, moved (mark New), our_weigh (mark New) n gives);
      over = omega (arith, moved (mark Over), our_weigh (mark Over) n gives);
      to_mark = omega (arith, moved (mark ToMark), our_weigh (mark ToMark) n gives);
      turning_is = omega (arith, moved turning, our_weigh turning n gives);
      owing_is = omega (arith, moved owing, our_weigh owing n gives);
    }))
