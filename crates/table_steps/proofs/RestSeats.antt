-- What the steps of a rest ask is met.
use Rattle.std.proofs.Common.{◌≡◌, ◌≢◌, ◌⊎◌, inl, inr, ℕ, zero, suc, ◌+◌, ◌-◌, ◌%◌, ◌^◌, ◌<◌, ◌≤◌, true, false, eqb, List, [], ◌∷◌, ◌++◌, length, set, refl, sym, ap, ◌∙◌, subst, arith}
use Rattle.std.specs.Prelude.{slice_index, count_by, nat_lt, ◌==◌, IsTrue}
use Rattle.std.proofs.lemmas.Bool.Decides.{nat_tests}
use Rattle.std.proofs.lemmas.Bool.{cases_eq, cases_lt}
use Rattle.std.proofs.lemmas.List.{append-nil}
use mathlib.Core.Option.{some}
use lib.ListN.{get_elem?}
use Rattle.atomic_table.proofs.Lists.{set_else}
use Rattle.atomic_table.specs.Table.{Act, keeps, Valid, carried_after, stepped, Allows, Splits, Joins}
use Rattle.task_graph.specs.NetRows.{NetRows}
use Rattle.journal_rules.specs.declared.entry.Cause.{Cause}
use Rattle.journal_rules.specs.declared.entry.DropWhy.{DropWhy}
use Rattle.journal_rules.specs.declared.entry.DropWhy.TheVariants.{Stuck, Halted as AfterFault}
use Rattle.journal_rules.specs.declared.entry.Entry.{Entry}
use Rattle.journal_rules.specs.declared.entry.Entry.TheVariants.{Drop}
use Rattle.journal_rules.specs.Counts.{faults, is_fault, started}
use Rattle.journal_rules.specs.DataRule.{edges_of}
use Rattle.journal_rules.specs.HaltLimitStuckRule.{MayBeStuck}
use Rattle.journal_rules.specs.SemaphoreRule.{takes, taken, back, max_of}
use Rattle.journal_rules.proofs.Snoc.{count_by_push}
use Rattle.journal_rules.proofs.Tallying.{count_by_push_no, count_by_push_yes}
use Rattle.journal_rules.proofs.TaskSemaphores.{takes_in_range}
use Rattle.std.specs.Option.{option_map_or}
use Rattle.journal_rules.specs.declared.entry.Part.{Part}
use Rattle.table_steps.specs.Releases.{MayBeReleased}
use Rattle.table_steps.specs.declared.view.TurnDuty.TheVariants.{Told, Fresh, Collecting, Ticket, Open, Owes, Counting}
use Rattle.table_steps.specs.declared.view.SemaphoreRole.TheVariants.{Held, Full}
use Rattle.table_steps.specs.declared.view.SeatMark.TheVariants.{Live, New, Over, ToMark, Halted, Alone, Quiet, Sticking}
use Rattle.table_steps.specs.declared.view.Note.{Note}
use Rattle.table_steps.specs.declared.view.Note.TheVariants.{Duty, Sems, Has, Unfit, Lies, Queued}
use Rattle.table_steps.specs.Giving.{one_if, times}
use Rattle.table_steps.specs.inside.Duties.{running, runs}
use Rattle.table_steps.specs.inside.Accounts.{Coord, duty, sem, mark, turning, owing, resting, weigh, total, AllStand, Balanced, Moves, is_drop, with_clock, reading, KeepsAccounts}
use Rattle.table_steps.specs.inside.Kinds.{IsTurn, left_by}
use Rattle.table_steps.specs.inside.RestKinds.{known_part, bare_part, MayPark, parked, HasLast, MayHandOut, last_turn, other_turns, handed_out, left_behind, alone_notes, live_found, MayLook, looked, HasNoUnit, MayAskForUnit, full_with, with_unit_asked, MayDropLast, last_dropped, MayThin}
use Rattle.table_steps.proofs.Totals.{weigh_append}
use Rattle.table_steps.proofs.Journals.{back_push}
use Rattle.table_steps.proofs.Views.{OwnView, two_views, stand_left, stand_both, longer, none_stuck, quiet_rests, full_rests_too}
use Rattle.table_steps.specs.declared.view.Lot.TheVariants.{Putting, Taking}
use Rattle.table_steps.specs.inside.Slots.{SlotCoord, lot, slot_weigh, slot_total, SlotMoves, SlotPart, HoldsAlike, slots_in, found_lots, first_parts, first_lots, after_lots}
use Rattle.table_steps.specs.inside.SlotMarks.{label_of}
use Rattle.table_steps.proofs.UnitAccounts.{no_units}
use Rattle.table_steps.proofs.Lots.{slot_append, found_none}
use Rattle.table_steps.proofs.LotEntries.{drop_slots}
use Rattle.table_steps.proofs.SlotViews.{slots_same, slots_append, slots_moved, owes_none, found_weigh, first_found, after_weigh, parts_length, split_lots, first_weigh}
use Rattle.table_steps.specs.inside.Accounts.{marks_from}
use Rattle.table_steps.proofs.Stepping.{St, Seated, still_step, done}
use Rattle.table_steps.proofs.Drawing.{drawn, told}
use Rattle.table_steps.proofs.MarkSteps.{reads_same, turn_off}
use Rattle.table_steps.proofs.Marking.{alike_kept, RestMarks, marks_none}
use Rattle.table_steps.proofs.Halting.{halt_found}
use Rattle.table_steps.proofs.HaltSteps.{drop_room}
use Rattle.table_steps.proofs.Seats.{nothing_done, split_allowed, join_allowed}
use Rattle.table_steps.proofs.DropAccounts.{halted_kept}
use Rattle.table_steps.proofs.RestAlone.{has_all, none_open, to_mark_bound, units_alone}
use Rattle.table_steps.proofs.RestAccounts.{stuck_kept, halt_none}

-- WHAT IS KNOWN
bare_same : (v : List Note) → weigh resting v ≡ 0 → bare_part v ≡ v
bare_same (Sems Full l ∷ Has Quiet ∷ rest) none = absurd (omega (arith, none))
bare_same (Sems Full l ∷ Has Alone ∷ Has Halted ∷ rest) none = absurd (omega (arith, none))
bare_same v none = refl

known_is : (v : List Note) → v ≡ known_part v ++ bare_part v
known_is (Sems Full l ∷ Has Quiet ∷ rest) = refl
known_is (Sems Full l ∷ Has Alone ∷ Has Halted ∷ rest) = refl
known_is v = refl

known_marks : (v : List Note) → RestMarks (known_part v)
known_marks (Sems Full l ∷ Has Quiet ∷ rest) = tt
known_marks (Sems Full l ∷ Has Alone ∷ Has Halted ∷ rest) = tt
known_marks v = tt

-- JOIN
pub park_allowed : {S : Type 0} {part : S → List Part} (net : NetRows) (limit id : ℕ) (v : List Note) (other : ℕ) (w : List Note) → MayPark v w → Joins (KeepsAccounts part net limit) id v other w (parked v w) []
park_allowed {S} {part} net limit id v other w may = by_rest (cases_eq (weigh resting v) 0)
  where
    by_rest : (weigh resting v ≡ 0) ⊎ (weigh resting v ≢ 0) → Joins (KeepsAccounts part net limit) id v other w (w ++ bare_part v) []
    by_rest (inl none) = subst (λ u. Joins (KeepsAccounts part net limit) id v other w (w ++ u) []) (sym (bare_same v none)) (join_allowed net limit id v other w (λ _. may.rests))
    -- a rest that is alone finds no other turn
    by_rest (inr some_there) = λ s h at apart at_other.
        let at_w : get_elem? s.views other ≡ some w = sym (set_else s.views id other (w ++ bare_part v) apart) ∙ at_other in
        absurd (omega (arith, (h.views id v at).alone some_there, two_views (mark Live) s.views id other v w at at_w apart, may.lives))

-- SPLIT
pub hand_out_allowed : {S : Type 0} {part : S → List Part} (net : NetRows) (limit id : ℕ) (v : List Note) → MayHandOut v → Splits (KeepsAccounts part net limit) id v (left_behind v) (handed_out v)
hand_out_allowed {S} {part} net limit id v may = from (bare_part v) (known_is v) may
  where
    from : (b : List Note) → v ≡ known_part v ++ b → HasLast b → Splits (KeepsAccounts part net limit) id v (other_turns b) (last_turn b)
    from (Duty (Collecting t cause taken []) ∷ Has Live ∷ Sems Held [] ∷ rest) is may =
        let own = Duty (Collecting t cause taken []) ∷ Has Live ∷ Sems Held [] ∷ first_lots taken rest in let others = may.1 in
        split_allowed net limit id v (known_part v) (after_lots taken rest) own (is ∙ ap (λ l. known_part v ++ Duty (Collecting t cause taken []) ∷ Has Live ∷ Sems Held [] ∷ l) (sym (split_lots taken rest))) (known_marks v)
        others.lone (omega (arith, first_weigh resting taken rest may.0)) others.covered (λ none. absurd (omega (arith, none))) (λ far. others.told) (λ none. absurd (omega (arith, none)))
    from b is may = absurd may

-- A step of a seat that stays a rest.
known_own : {S : Type 0} {part : S → List Part} (net : NetRows) (limit : ℕ) (s : St S) (h : KeepsAccounts part net limit s) (id : ℕ) (old new rest : List Note) → get_elem? s.views id ≡ some (old ++ rest) → 1 ≤ weigh (mark Live) rest → weigh resting (old ++ rest) ≢ 0 → AllStand net h.journal new
    → (weigh (mark Quiet) (new ++ rest) ≢ 0 → faults h.journal ≡ 0) → ((z : ℕ) → weigh (sem Full z) (new ++ rest) ≢ 0 → back net z h.journal + max_of net z ≤ taken net z h.journal)
    → OwnView net h.journal (λ c. total c s.views) id old new rest
known_own net limit s h id old new rest at lives rested stand quiet full = record {
  lives = omega (arith, lives, weigh_append (mark Live) old rest);
  stand = stand;
  covered = λ none. absurd (omega (arith, none, lives, weigh_append (mark Live) new rest));
  told = λ far none. absurd (omega (arith, none, lives, weigh_append (mark Live) new rest));
  alone = λ _. (h.views id (old ++ rest) at).alone rested;
  quiet = quiet;
  full = full;
}

-- a load of which a rest learns nothing
known_done : {S : Type 0} {part : S → List Part} (net : NetRows) (limit : ℕ) (s : St S) (h : KeepsAccounts part net limit s) (id i : ℕ) (carried : List (ℕ × S)) (rest : List Note) → 1 ≤ weigh (mark Live) rest → weigh resting rest ≢ 0 → i < length s.words → ((e : ℕ) → e < length net.edges → i ≢ marks_from net + e) → get_elem? s.views id ≡ some rest → KeepsAccounts part net limit (stepped s i (slice_index s.words i) id carried rest keeps)
known_done net limit s h id i carried rest lives rested below apart at = let p = h.views id rest at in
    still_step net limit s h id i _ carried [] [] rest (reading net s.words) at refl apart (known_own net limit s h id [] [] rest at lives rested tt p.quiet p.full) (omega arith) (ap (reading net) (reads_same net s.words i below))
    refl (λ moved. alike_kept net limit (reading net s.words) h.counted h.journal (λ c. total c s.views) _ h.balanced (λ c a. omega (arith, moved c)))

-- LIVE LOAD
found_alone : {S : Type 0} {part : S → List Part} (net : NetRows) (limit : ℕ) (s : St S) (h : KeepsAccounts part net limit s) (id : ℕ) (carried : List (ℕ × S)) (rest : List Note) → IsTurn rest → get_elem? s.views id ≡ some rest → slice_index s.words 16 ≡ weigh (mark Live) rest
    → KeepsAccounts part net limit (stepped s 16 (slice_index s.words 16) id carried (Has Alone ∷ rest) keeps)
found_alone net limit s h id carried rest may at found =
    still_step net limit s h id 16 _ carried [] (Has Alone ∷ []) rest (reading net s.words) at refl (λ e b z. omega arith)
    (record {
      lives = may.1;
      stand = (tt, tt);
      covered = λ none. absurd (omega (arith, none, may.1));
      told = λ far none. absurd (omega (arith, none, may.1));
      alone = λ _. sym h.balanced.by_live ∙ found;
      quiet = λ more. absurd (more (omega (arith, may.0, quiet_rests rest)));
      full = λ z more. absurd (more (omega (arith, may.0, full_rests_too z rest)));
    }) (omega arith)
    (ap (reading net) (reads_same net s.words 16 (omega (arith, h.size))))
    refl (λ moved. alike_kept net limit (reading net s.words) h.counted h.journal (λ c. total c s.views) _ h.balanced (λ c a. omega (arith, moved c, marks_none c a (Has Alone ∷ []) tt)))

pub live_allowed : {S : Type 0} {part : S → List Part} (net : NetRows) (limit slots id : ℕ) (me : Seated S) → IsTurn me.0 → Allows (KeepsAccounts part net limit) slots id me 16 (λ n. n) (λ n m. (m.0 ≡ live_found n me.0) × (m.1 ≡ me.1))
live_allowed {S} {part} net limit slots id me may s h _ at small = by_number (cases_eq n live)
  where
    n : ℕ
    n = slice_index s.words 16

    live : ℕ
    live = weigh (mark Live) me.0

    by_number : (n ≡ live) ⊎ (n ≢ live) → (u : List Note) × (z : Act _) × Valid s.homes me.1 z × KeepsAccounts part net limit (stepped s 16 n id me.1 u z) × ((u ≡ alone_notes (n == live) ++ me.0) × (carried_after me.1 z ≡ me.1))
    by_number (inl same) = let hit : eqb n live ≡ true = grind (arith, nat_tests) in
        done net limit s id 16 _ me (Has Alone ∷ me.0) _ (ap (λ b. alone_notes b ++ me.0) (sym hit)) (found_alone net limit s h id me.1 me.0 may at same)
    by_number (inr other) = let miss : eqb n live ≡ false = grind (arith, nat_tests) in
        done net limit s id 16 _ me me.0 _ (ap (λ b. alone_notes b ++ me.0) (sym miss)) (nothing_done net limit s h id 16 me.1 me.0 may.0 may.1 (omega (arith, h.size)) (λ e b z. omega arith) at)

-- HALT LOAD
found_quiet : {S : Type 0} {part : S → List Part} (net : NetRows) (limit : ℕ) (s : St S) (h : KeepsAccounts part net limit s) (id : ℕ) (carried : List (ℕ × S)) (rest : List Note) → weigh resting rest ≡ 0 → 1 ≤ weigh (mark Live) rest → weigh (mark ToMark) rest ≡ 0 → get_elem? s.views id ≡ some (Has Alone ∷ rest) → slice_index s.words 32 ≡ 0
    → KeepsAccounts part net limit (stepped s 32 (slice_index s.words 32) id carried (Sems Full [] ∷ Has Quiet ∷ rest) keeps)
found_quiet net limit s h id carried rest lone lives clear at found =
    let all : total (mark Live) s.views ≡ weigh (mark Live) (Has Alone ∷ rest) = (h.views id (Has Alone ∷ rest) at).alone (λ z. omega arith) in
    let none = halt_none (slice_index s.words 32) h.journal (λ c. total c s.views) h.balanced.by_halt found (omega (arith, clear, has_all net h.journal (mark ToMark) s.views id (Has Alone ∷ rest) to_mark_bound h.views at all)) in
    still_step net limit s h id 32 _ carried (Has Alone ∷ []) (Sems Full [] ∷ Has Quiet ∷ []) rest (reading net s.words) at refl (λ e b z. omega arith)
    (known_own net limit s h id (Has Alone ∷ []) (Sems Full [] ∷ Has Quiet ∷ []) rest at lives (λ z. omega arith) (tt, (tt, tt)) (λ _. none) (λ z more. absurd (more (omega (arith, lone, full_rests_too z rest))))) (omega arith)
    (ap (reading net) (reads_same net s.words 32 (omega (arith, h.size))))
    refl (λ moved. alike_kept net limit (reading net s.words) h.counted h.journal (λ c. total c s.views) _ h.balanced (λ c a. omega (arith, moved c, marks_none c a (Has Alone ∷ []) tt, marks_none c a (Sems Full [] ∷ Has Quiet ∷ []) tt)))

found_halted : {S : Type 0} {part : S → List Part} (net : NetRows) (limit : ℕ) (s : St S) (h : KeepsAccounts part net limit s) (id : ℕ) (carried : List (ℕ × S)) (rest : List Note) → weigh resting rest ≡ 0 → 1 ≤ weigh (mark Live) rest → get_elem? s.views id ≡ some (Has Alone ∷ rest) → slice_index s.words 32 ≢ 0
    → KeepsAccounts part net limit (stepped s 32 (slice_index s.words 32) id carried (Sems Full [] ∷ Has Alone ∷ Has Halted ∷ rest) keeps)
found_halted net limit s h id carried rest lone lives at found =
    let new = Sems Full [] ∷ Has Alone ∷ Has Halted ∷ [] in
    still_step net limit s h id 32 _ carried (Has Alone ∷ []) new rest (reading net s.words) at refl (λ e b z. omega arith)
    (known_own net limit s h id (Has Alone ∷ []) new rest at lives (λ z. omega arith) (tt, (tt, (halt_found (slice_index s.words 32) h.journal (λ c. total c s.views) h.balanced.by_halt found, tt)))
    (λ more. absurd (more (omega (arith, lone, quiet_rests rest)))) (λ z more. absurd (more (omega (arith, lone, full_rests_too z rest))))) (omega arith)
    (ap (reading net) (reads_same net s.words 32 (omega (arith, h.size))))
    refl (λ moved. alike_kept net limit (reading net s.words) h.counted h.journal (λ c. total c s.views) _ h.balanced (λ c a. omega (arith, moved c, marks_none c a (Has Alone ∷ []) tt, marks_none c a new tt)))

pub look_allowed : {S : Type 0} {part : S → List Part} (net : NetRows) (limit slots id : ℕ) (me : Seated S) → MayLook me.0 → Allows (KeepsAccounts part net limit) slots id me 32 (λ n. n) (λ n m. (m.0 ≡ looked n me.0) × (m.1 ≡ me.1))
look_allowed {S} {part} net limit slots id me may s h _ at small = from me.0 may at
  where
    n : ℕ
    n = slice_index s.words 32

    from : (v : List Note) → MayLook v → get_elem? s.views id ≡ some v
        → (u : List Note) × (z : Act _) × Valid s.homes me.1 z × KeepsAccounts part net limit (stepped s 32 (slice_index s.words 32) id me.1 u z) × ((u ≡ looked (slice_index s.words 32) v) × (carried_after me.1 z ≡ me.1))
    from (Has Alone ∷ rest) may at = by_zero (cases_eq n 0)
      where
        quiet_is : (k : ℕ) → k ≡ 0 → Sems Full [] ∷ Has Quiet ∷ rest ≡ looked k (Has Alone ∷ rest)
        quiet_is zero none = refl
        quiet_is (suc k) none = absurd (omega (arith, none))

        halted_is : (k : ℕ) → k ≢ 0 → Sems Full [] ∷ Has Alone ∷ Has Halted ∷ rest ≡ looked k (Has Alone ∷ rest)
        halted_is zero some_there = absurd (some_there refl)
        halted_is (suc k) some_there = refl

        by_zero : (n ≡ 0) ⊎ (n ≢ 0) → (u : List Note) × (z : Act _) × Valid s.homes me.1 z × KeepsAccounts part net limit (stepped s 32 n id me.1 u z) × ((u ≡ looked n (Has Alone ∷ rest)) × (carried_after me.1 z ≡ me.1))
        by_zero (inl none) = done net limit s id 32 _ me _ _ (quiet_is n none) (found_quiet net limit s h id me.1 rest may.0 may.1 may.2 at none)
        by_zero (inr found) = done net limit s id 32 _ me _ _ (halted_is n found) (found_halted net limit s h id me.1 rest may.0 may.1 at found)
    from v may at = absurd may

-- UNIT LOAD
found_full : {S : Type 0} {part : S → List Part} (net : NetRows) (limit : ℕ) (s : St S) (h : KeepsAccounts part net limit s) (id a : ℕ) (carried : List (ℕ × S)) (l : List ℕ) (rest : List Note) → a < length net.sems → 1 ≤ weigh (mark Live) rest → weigh resting rest ≢ 0 → HasNoUnit a rest
    → get_elem? s.views id ≡ some (Sems Full l ∷ rest) → max_of net a ≤ slice_index s.words (40 + a) → KeepsAccounts part net limit (stepped s (40 + a) (slice_index s.words (40 + a)) id carried (Sems Full (a ∷ l) ∷ rest) keeps)
found_full net limit s h id a carried l rest below lives rested none at found =
    let p = h.views id (Sems Full l ∷ rest) at in
    let rested_all : weigh resting (Sems Full l ∷ rest) ≢ 0 = λ z. rested (omega (arith, z)) in
    let units = units_alone net limit s h id a (Sems Full l ∷ rest) below at rested_all (record { held = omega (arith, none.held); owed = omega (arith, none.owed); undo = omega (arith, none.undo) }) in
    still_step net limit s h id (40 + a) _ carried (Sems Full l ∷ []) (Sems Full (a ∷ l) ∷ []) rest (reading net s.words) at refl (λ e b z. omega (arith, below))
    (known_own net limit s h id (Sems Full l ∷ []) (Sems Full (a ∷ l) ∷ []) rest at lives rested_all (tt, tt) p.quiet (λ z more. by_eq units z more (cases_eq a z))) (omega arith)
    (ap (reading net) (reads_same net s.words (40 + a) (omega (arith, h.size, below))))
    refl (λ moved. alike_kept net limit (reading net s.words) h.counted h.journal (λ c. total c s.views) _ h.balanced (λ c q. omega (arith, moved c, marks_none c q (Sems Full l ∷ []) tt, marks_none c q (Sems Full (a ∷ l) ∷ []) tt)))
  where
    by_eq : slice_index s.words (40 + a) + back net a h.journal ≡ taken net a h.journal → (z : ℕ) → weigh (sem Full z) (Sems Full (a ∷ l) ∷ rest) ≢ 0 → (a ≡ z) ⊎ (a ≢ z) → back net z h.journal + max_of net z ≤ taken net z h.journal
    by_eq units z more (inl same) = omega (arith, units, found, ap (λ q. back net q h.journal) same, ap (max_of net) same, ap (λ q. taken net q h.journal) same)
    by_eq units z more (inr other) = let miss : eqb a z ≡ false = grind (arith, nat_tests) in (h.views id (Sems Full l ∷ rest) at).full z (λ none. more (omega (arith, none, ap one_if miss)))

pub ask_allowed : {S : Type 0} {part : S → List Part} (net : NetRows) (limit slots id : ℕ) (me : Seated S) (a : ℕ) → MayAskForUnit net a me.0 → Allows (KeepsAccounts part net limit) slots id me (40 + a) (λ n. n) (λ n m. (m.0 ≡ with_unit_asked net a n me.0) × (m.1 ≡ me.1))
ask_allowed {S} {part} net limit slots id me a may s h _ at small = from me.0 may at
  where
    n : ℕ
    n = slice_index s.words (40 + a)

    from : (v : List Note) → MayAskForUnit net a v → get_elem? s.views id ≡ some v
        → (u : List Note) × (z : Act _) × Valid s.homes me.1 z × KeepsAccounts part net limit (stepped s (40 + a) (slice_index s.words (40 + a)) id me.1 u z) × ((u ≡ with_unit_asked net a (slice_index s.words (40 + a)) v) × (carried_after me.1 z ≡ me.1))
    from (Sems Full l ∷ rest) may at = by_room (cases_lt n (max_of net a))
      where
        by_room : (n < max_of net a) ⊎ (max_of net a ≤ n) → (u : List Note) × (z : Act _) × Valid s.homes me.1 z × KeepsAccounts part net limit (stepped s (40 + a) n id me.1 u z) × ((u ≡ Sems Full (full_with (nat_lt n (max_of net a)) a l) ∷ rest) × (carried_after me.1 z ≡ me.1))
        by_room (inl room) = let is : nat_lt n (max_of net a) ≡ true = grind (arith, nat_tests) in
            done net limit s id (40 + a) _ me (Sems Full l ∷ rest) _ (ap (λ b. Sems Full (full_with b a l) ∷ rest) (sym is))
            (known_done net limit s h id (40 + a) me.1 (Sems Full l ∷ rest) (omega (arith, may.1)) (λ z. may.2 (omega (arith, z))) (omega (arith, h.size, may.0)) (λ e b z. omega (arith, may.0)) at)
        by_room (inr full) = let is : nat_lt n (max_of net a) ≡ false = grind (arith, nat_tests) in
            done net limit s id (40 + a) _ me (Sems Full (a ∷ l) ∷ rest) _ (ap (λ b. Sems Full (full_with b a l) ∷ rest) (sym is)) (found_full net limit s h id a me.1 l rest may.0 may.1 may.2 may.3 at full)
    from v may at = absurd may

-- DROP DRAWN
runs_few : (m t : ℕ) (v : List Note) → weigh (duty running) v ≡ 0 → weigh (duty (runs m t)) v ≡ 0
runs_few m t [] z = refl
runs_few m t (Duty (Told n x) ∷ v) z = omega (arith, runs_few m t v (omega arith))
runs_few m t (Duty (Fresh u c) ∷ v) z = omega (arith, runs_few m t v (omega arith))
runs_few m t (Duty (Collecting u c es left) ∷ v) z = omega (arith, runs_few m t v (omega arith))
runs_few m t (Duty Ticket ∷ v) z = omega (arith, runs_few m t v (omega arith))
runs_few m t (Duty (Open n u) ∷ v) z = absurd (omega arith)
runs_few m t (Duty (Owes g) ∷ v) z = omega (arith, runs_few m t v (omega arith))
runs_few m t (Duty (Counting e) ∷ v) z = omega (arith, runs_few m t v (omega arith))
runs_few m t (Sems k l ∷ v) z = omega (arith, runs_few m t v (omega arith))
runs_few m t (Has k ∷ v) z = omega (arith, runs_few m t v (omega arith))
runs_few m t (Unfit n q u ∷ v) z = omega (arith, runs_few m t v (omega arith))
runs_few m t (Lies k e p ∷ v) z = omega (arith, runs_few m t v (omega arith))
runs_few m t (Queued q qs ∷ v) z = omega (arith, runs_few m t v (omega arith))

-- a number drawn by a seat that exchanges all its notes
drawn_all : {S : Type 0} {part : S → List Part} (net : NetRows) (limit : ℕ) (s : St S) (h : KeepsAccounts part net limit s) (id : ℕ) (carried : List (ℕ × S)) (v v' : List Note) (x : Entry)
    → get_elem? s.views id ≡ some v → HoldsAlike v v' → OwnView net (h.journal ++ x ∷ []) (λ c. total c s.views) id v v' [] → weigh (mark Live) v' ≡ weigh (mark Live) v → count_by is_drop (h.journal ++ x ∷ []) ≤ 1152921504606846976
    → (SlotMoves (λ c. slot_total c s.views) v (λ c. slot_total c (set s.views id (v' ++ []))) v' → SlotPart net (h.journal ++ x ∷ []) ((reading net s.words).edge) (λ c. slot_total c (set s.views id (v' ++ []))) (label_of part s.homes))
    → (Moves (λ c. total c s.views) v (λ c. total c (set s.views id (v' ++ []))) v'
    → Balanced net limit (with_clock (reading net s.words) (suc (slice_index s.words 8))) h.counted (h.journal ++ x ∷ []) (λ c. total c (set s.views id (v' ++ []))))
    → KeepsAccounts part net limit (stepped s 8 ((slice_index s.words 8 + 1) % 2 ^ 64) id carried v' keeps)
drawn_all {S} {part} net limit s h id carried v v' x at same own live_is few slots kept =
    subst (λ u. KeepsAccounts part net limit (stepped s 8 ((slice_index s.words 8 + 1) % 2 ^ 64) id carried u keeps)) (append-nil v') (drawn net limit s h id carried v v' [] x (at ∙ ap some (sym (append-nil v))) same own live_is few slots kept)

-- for want of a unit
stuck_drawn : {S : Type 0} {part : S → List Part} (net : NetRows) (limit : ℕ) (s : St S) (h : KeepsAccounts part net limit s) (id t a : ℕ) (cause : Cause) (carried : List (ℕ × S)) (l : List ℕ) (ps : List Part) (rest : List Note) → MayBeReleased net t cause → length ps ≡ length (edges_of net t cause) → IsTrue (takes net a t) → 1 ≤ times a l → weigh (duty running) rest ≡ 0
    → get_elem? s.views id ≡ some (Sems Full l ∷ Has Quiet ∷ Duty (Collecting t cause (edges_of net t cause) []) ∷ Has Live ∷ Sems Held [] ∷ found_lots (edges_of net t cause) ps ++ rest)
    → KeepsAccounts part net limit (stepped s 8 ((slice_index s.words 8 + 1) % 2 ^ 64) id carried (Duty (Owes []) ∷ Has Live ∷ Sems Full l ∷ Has Quiet ∷ rest ++ Duty (Told (slice_index s.words 8) (Drop t cause (Stuck a))) ∷ Has Sticking ∷ []) keeps)
stuck_drawn {S} {part} net limit s h id t a cause carried l ps rest may each takes_it full idle at =
    let es = edges_of net t cause in let lots = found_lots es ps in
    let n = slice_index s.words 8 in let x = Drop t cause (Stuck a) in let j = h.balanced.by_journal in
    let tail = Duty (Told n x) ∷ Has Sticking ∷ [] in
    let old = Sems Full l ∷ Has Quiet ∷ Duty (Collecting t cause es []) ∷ Has Live ∷ Sems Held [] ∷ lots ++ rest in let new = Duty (Owes []) ∷ Has Live ∷ Sems Full l ∷ Has Quiet ∷ rest ++ tail in
    let p = h.views id old at in
    let none : (c : Coord) → weigh c (lots ++ rest) ≡ weigh c rest = λ c. omega (arith, weigh_append c lots rest, found_weigh c es ps) in
    let lots_slots : (c : SlotCoord) → slot_weigh c (lots ++ rest) ≡ slot_weigh c lots + slot_weigh c rest = λ c. slot_append c lots rest in
    let kept_slots : slots_in (rest ++ tail) ≡ slots_in rest = slots_append rest tail ∙ append-nil (slots_in rest) in
    let all : total (mark Live) s.views ≡ weigh (mark Live) old = p.alone (λ z. omega (arith, z)) in
    let no_fault : faults h.journal ≡ 0 = p.quiet (λ z. omega (arith, z)) in
    let no_unit : back net a h.journal + max_of net a ≤ taken net a h.journal = p.full a (λ z. omega (arith, z, full)) in
    let stuck : MayBeStuck net h.journal t a = record {
      no_fault = no_fault;
      none_open = none_open net limit _ h.journal s.views id old j h.views at all (λ m u. omega (arith, runs_few m u rest idle, none (duty (runs m u))));
      takes_it = takes_it;
      no_unit = λ has. omega (arith, has, no_unit);
    } in
    drawn_all net limit s h id carried old new x at (λ e. (omega (arith, lots_slots (lot Putting e), found_none (lot Putting e) tt es ps, slots_same rest (rest ++ tail) kept_slots (lot Putting e)), omega (arith, lots_slots (lot Taking e), found_none (lot Taking e) tt es ps, slots_same rest (rest ++ tail) kept_slots (lot Taking e))))
    (record {
      lives = omega arith;
      stand = (tt, (tt, (tt, (tt, stand_both net (h.journal ++ x ∷ []) rest tail (longer net h.journal x rest (stand_left net h.journal lots rest p.stand.1.1.1.1.1).1) (told net limit s h x, (tt, tt))))));
      covered = λ none. absurd (omega (arith, none));
      told = λ far none. absurd (omega (arith, none));
      alone = λ _. omega (arith, all, weigh_append (mark Live) (lots ++ rest) []);
      quiet = λ _. count_by_push_no is_fault h.journal x refl ∙ no_fault;
      full = λ z more. omega (
        arith,
        p.full z (λ q. more (omega (arith, q, weigh_append (sem Full z) (rest ++ tail) [], weigh_append (sem Full z) rest tail, none (sem Full z)))),
        count_by_push (λ y. option_map_or (takes net z) (started y) false) h.journal x,
        back_push net z h.journal x j.unclosed,
      );
    }) (omega (arith, weigh_append (mark Live) rest tail, none (mark Live)))
    (omega (arith, count_by_push_yes is_drop h.journal x refl, drop_room net limit s h))
    (λ moved. drop_slots net h.journal _ _ _ (label_of part s.homes) x t cause es ps h.slots each tt (λ e. refl) (λ e test. refl)
    (λ c. omega (arith, slots_moved _ _ old new (Duty (Collecting t cause es []) ∷ lots ++ rest) (Duty (Owes []) ∷ rest) moved refl (ap (λ l. Duty (Owes []) ∷ l) (sym kept_slots)) c, lots_slots c, owes_none c)))
    (λ moved. stuck_kept net limit (reading net s.words) h.counted h.journal (λ c. total c s.views) _ t a cause h.balanced may (takes_in_range net a t h.fits.rows takes_it) stuck (record {
      duties = λ c. omega (arith, moved (duty c), none (duty c), weigh_append (duty c) rest tail);
      sems = λ k z. omega (arith, no_units (sem k z), moved (sem k z), none (sem k z), weigh_append (sem k z) rest tail);
      live = omega (arith, moved (mark Live), none (mark Live), weigh_append (mark Live) rest tail);
      to_mark = omega (arith, moved (mark ToMark), none (mark ToMark), weigh_append (mark ToMark) rest tail);
      new = omega (arith, moved (mark New), none (mark New), weigh_append (mark New) rest tail);
      turning_is = omega (arith, moved turning, none turning, weigh_append turning rest tail);
      owing_is = omega (arith, moved owing, none owing, weigh_append owing rest tail);
    }) (omega (arith, moved (mark Over), none (mark Over), weigh_append (mark Over) rest tail)) (omega (arith, moved (mark Sticking), none (mark Sticking), weigh_append (mark Sticking) rest tail)))

-- and after a Fault
halted_drawn : {S : Type 0} {part : S → List Part} (net : NetRows) (limit : ℕ) (s : St S) (h : KeepsAccounts part net limit s) (id t : ℕ) (cause : Cause) (carried : List (ℕ × S)) (l : List ℕ) (ps : List Part) (rest : List Note) → MayBeReleased net t cause → length ps ≡ length (edges_of net t cause) → weigh (mark Sticking) rest ≡ 0
    → get_elem? s.views id ≡ some (Sems Full l ∷ Has Alone ∷ Has Halted ∷ Duty (Collecting t cause (edges_of net t cause) []) ∷ Has Live ∷ Sems Held [] ∷ found_lots (edges_of net t cause) ps ++ rest)
    → KeepsAccounts part net limit (stepped s 8 ((slice_index s.words 8 + 1) % 2 ^ 64) id carried (Duty (Owes []) ∷ Has Live ∷ Sems Full l ∷ Has Alone ∷ Has Halted ∷ rest ++ Duty (Told (slice_index s.words 8) (Drop t cause AfterFault)) ∷ []) keeps)
halted_drawn {S} {part} net limit s h id t cause carried l ps rest may each free at =
    let es = edges_of net t cause in let lots = found_lots es ps in
    let n = slice_index s.words 8 in let x = Drop t cause AfterFault in let j = h.balanced.by_journal in
    let tail = Duty (Told n x) ∷ [] in
    let old = Sems Full l ∷ Has Alone ∷ Has Halted ∷ Duty (Collecting t cause es []) ∷ Has Live ∷ Sems Held [] ∷ lots ++ rest in let new = Duty (Owes []) ∷ Has Live ∷ Sems Full l ∷ Has Alone ∷ Has Halted ∷ rest ++ tail in
    let p = h.views id old at in
    let none : (c : Coord) → weigh c (lots ++ rest) ≡ weigh c rest = λ c. omega (arith, weigh_append c lots rest, found_weigh c es ps) in
    let lots_slots : (c : SlotCoord) → slot_weigh c (lots ++ rest) ≡ slot_weigh c lots + slot_weigh c rest = λ c. slot_append c lots rest in
    let kept_slots : slots_in (rest ++ tail) ≡ slots_in rest = slots_append rest tail ∙ append-nil (slots_in rest) in
    let all : total (mark Live) s.views ≡ weigh (mark Live) old = p.alone (λ z. omega (arith, z)) in
    drawn_all net limit s h id carried old new x at (λ e. (omega (arith, lots_slots (lot Putting e), found_none (lot Putting e) tt es ps, slots_same rest (rest ++ tail) kept_slots (lot Putting e)), omega (arith, lots_slots (lot Taking e), found_none (lot Taking e) tt es ps, slots_same rest (rest ++ tail) kept_slots (lot Taking e))))
    (record {
      lives = omega arith;
      stand = (tt, (tt, (tt, (tt, (omega (arith, p.stand.1.1.0, count_by_push_no is_fault h.journal x refl), stand_both net (h.journal ++ x ∷ []) rest tail (longer net h.journal x rest (stand_left net h.journal lots rest p.stand.1.1.1.1.1.1).1) (told net limit s h x, tt))))));
      covered = λ none. absurd (omega (arith, none));
      told = λ far none. absurd (omega (arith, none));
      alone = λ _. omega (arith, all, weigh_append (mark Live) (lots ++ rest) []);
      quiet = λ more. count_by_push_no is_fault h.journal x refl ∙ p.quiet (λ q. more (omega (arith, q, weigh_append (mark Quiet) (rest ++ tail) [], weigh_append (mark Quiet) rest tail, none (mark Quiet))));
      full = λ z more. omega (
        arith,
        p.full z (λ q. more (omega (arith, q, weigh_append (sem Full z) (rest ++ tail) [], weigh_append (sem Full z) rest tail, none (sem Full z)))),
        count_by_push (λ y. option_map_or (takes net z) (started y) false) h.journal x,
        back_push net z h.journal x j.unclosed,
      );
    }) (omega (arith, weigh_append (mark Live) rest tail, none (mark Live)))
    (omega (arith, count_by_push_yes is_drop h.journal x refl, drop_room net limit s h))
    (λ moved. drop_slots net h.journal _ _ _ (label_of part s.homes) x t cause es ps h.slots each tt (λ e. refl) (λ e test. refl)
    (λ c. omega (arith, slots_moved _ _ old new (Duty (Collecting t cause es []) ∷ lots ++ rest) (Duty (Owes []) ∷ rest) moved refl (ap (λ l. Duty (Owes []) ∷ l) (sym kept_slots)) c, lots_slots c, owes_none c)))
    (λ moved. halted_kept net limit (reading net s.words) h.counted h.journal (λ c. total c s.views) _ t cause h.balanced may
    (none_stuck net h.journal s.views id old h.views h.balanced.by_stuck at (omega arith) (omega (arith, free, none (mark Sticking)))) p.stand.1.1.0 (record {
      duties = λ c. omega (arith, moved (duty c), none (duty c), weigh_append (duty c) rest tail);
      sems = λ k z. omega (arith, no_units (sem k z), moved (sem k z), none (sem k z), weigh_append (sem k z) rest tail);
      live = omega (arith, moved (mark Live), none (mark Live), weigh_append (mark Live) rest tail);
      to_mark = omega (arith, moved (mark ToMark), none (mark ToMark), weigh_append (mark ToMark) rest tail);
      new = omega (arith, moved (mark New), none (mark New), weigh_append (mark New) rest tail);
      turning_is = omega (arith, moved turning, none turning, weigh_append turning rest tail);
      owing_is = omega (arith, moved owing, none owing, weigh_append owing rest tail);
    }) (omega (arith, moved (mark Over), none (mark Over), weigh_append (mark Over) rest tail)))

pub drop_last_allowed : {S : Type 0} {part : S → List Part} (net : NetRows) (limit slots id : ℕ) (me : Seated S) (why : DropWhy) → MayDropLast net why me.0 → Allows (KeepsAccounts part net limit) slots id me 8 (λ n. (n + 1) % 2 ^ 64) (λ n m. (m.0 ≡ last_dropped why n me.0) × (m.1 ≡ me.1))
drop_last_allowed {S} {part} net limit slots id me why may s h _ at small = from why me.0 may at
  where
    from : (q : DropWhy) (v : List Note) → MayDropLast net q v → get_elem? s.views id ≡ some v
        → (u : List Note) × (z : Act _) × Valid s.homes me.1 z × KeepsAccounts part net limit (stepped s 8 ((slice_index s.words 8 + 1) % 2 ^ 64) id me.1 u z) × ((u ≡ last_dropped q (slice_index s.words 8) v) × (carried_after me.1 z ≡ me.1))
    from (Stuck a) (Sems Full l ∷ Has Quiet ∷ Duty (Collecting t cause taken []) ∷ Has Live ∷ Sems Held [] ∷ rest) may at =
        let stand = (h.views id _ at).stand.1.1.0 in let ps = first_parts taken rest in let more = after_lots taken rest in
        let all : taken ≡ edges_of net t cause = sym (append-nil taken) ∙ stand.1 in
        done net limit s id 8 _ me _ _ refl
        (stuck_drawn net limit s h id t a cause me.1 l ps more stand.0 (parts_length taken rest may.3 ∙ ap length all) may.0 may.1 (omega (arith, may.2, after_weigh (duty running) taken rest may.3))
        (at ∙ ap (λ v. some (Sems Full l ∷ Has Quiet ∷ Duty (Collecting t cause taken []) ∷ Has Live ∷ Sems Held [] ∷ v)) (first_found taken rest may.3) ∙ ap (λ es. some (Sems Full l ∷ Has Quiet ∷ Duty (Collecting t cause es []) ∷ Has Live ∷ Sems Held [] ∷ found_lots es ps ++ more)) all))
    from AfterFault (Sems Full l ∷ Has Alone ∷ Has Halted ∷ Duty (Collecting t cause taken []) ∷ Has Live ∷ Sems Held [] ∷ rest) may at =
        let stand = (h.views id _ at).stand.1.1.1.0 in let ps = first_parts taken rest in let more = after_lots taken rest in
        let all : taken ≡ edges_of net t cause = sym (append-nil taken) ∙ stand.1 in
        done net limit s id 8 _ me _ _ refl
        (halted_drawn net limit s h id t cause me.1 l ps more stand.0 (parts_length taken rest may.1 ∙ ap length all) (omega (arith, may.0, after_weigh (mark Sticking) taken rest may.1))
        (at ∙ ap (λ v. some (Sems Full l ∷ Has Alone ∷ Has Halted ∷ Duty (Collecting t cause taken []) ∷ Has Live ∷ Sems Held [] ∷ v)) (first_found taken rest may.1) ∙ ap (λ es. some (Sems Full l ∷ Has Alone ∷ Has Halted ∷ Duty (Collecting t cause es []) ∷ Has Live ∷ Sems Held [] ∷ found_lots es ps ++ more)) all))
    from q v may at = absurd may

-- TURN TAKEN OFF
pub thin_allowed : {S : Type 0} {part : S → List Part} (net : NetRows) (limit slots id : ℕ) (me : Seated S) → MayThin me.0 → Allows (KeepsAccounts part net limit) slots id me 16 (λ n. (n + (2 ^ 64 - 1)) % 2 ^ 64) (λ n m. (m.0 ≡ left_by me.0) × (m.1 ≡ me.1))
thin_allowed {S} {part} net limit slots id me may s h _ at small = from me.0 may at
  where
    from : (v : List Note) → MayThin v → get_elem? s.views id ≡ some v
        → (u : List Note) × (z : Act _) × Valid s.homes me.1 z × KeepsAccounts part net limit (stepped s 16 ((slice_index s.words 16 + 18446744073709551615) % 2 ^ 64) id me.1 u z) × ((u ≡ left_by v) × (carried_after me.1 z ≡ me.1))
    from (Duty (Owes []) ∷ Has Live ∷ rest) may at =
        done net limit s id 16 _ me rest _ refl (turn_off net limit s h id me.1 rest (λ none. absurd (omega (arith, none, may))) (λ far none. absurd (omega (arith, none, may))) at small)
    from v may at = absurd may
