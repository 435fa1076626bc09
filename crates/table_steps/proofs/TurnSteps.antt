-- What the steps on the clock and on the words of turns and starts ask is met, and so is what splits, joins and loads
-- ask.
use Rattle.std.proofs.Common.{◌≡◌, ◌⊎◌, inl, inr, ℕ, zero, suc, ◌+◌, ◌%◌, ◌^◌, ◌<◌, ◌≤◌, Bool, true, false, List, [], ◌∷◌, ◌++◌, length, set, sym, refl, ap, ◌∙◌, subst, arith}
use Rattle.std.specs.Prelude.{slice_index, nat_lt}
use Rattle.std.proofs.lemmas.Bool.Decides.{nat_tests}
use Rattle.std.proofs.lemmas.Bool.{cases_lt}
use Rattle.std.proofs.lemmas.List.{append-nil}
use mathlib.Core.Option.{some, some-injective}
use lib.ListN.{get_elem?}
use Rattle.atomic_table.specs.Table.{Act, keeps, Valid, carried_after, stepped, Allows, Splits, Joins}
use Rattle.task_graph.specs.NetRows.{NetRows}
use Rattle.task_graph.specs.Net.{IsNet}
use Rattle.journal_rules.specs.declared.entry.Cause.{Cause}
use Rattle.journal_rules.specs.declared.entry.Cause.TheVariants.{Source, Weak}
use Rattle.journal_rules.specs.DataRule.{edges_of}
use Rattle.journal_rules.specs.declared.entry.Part.{Part}
use Rattle.table_steps.specs.OneJournal.{entries_in, AreInOneJournal}
use Rattle.table_steps.specs.declared.view.TurnDuty.{TurnDuty}
use Rattle.table_steps.specs.declared.view.TurnDuty.TheVariants.{Fresh, Collecting, Ticket, Open, Owes}
use Rattle.table_steps.specs.declared.view.SeatMark.TheVariants.{Live, New, Asked}
use Rattle.table_steps.specs.declared.view.Note.{Note}
use Rattle.table_steps.specs.declared.view.SemaphoreRole.TheVariants.{Held, Both, Credit, Credited, Claim, Granted}
use Rattle.table_steps.specs.declared.view.Note.TheVariants.{Duty, Sems, Has}
use Rattle.table_steps.specs.inside.Duties.{place, runs, running, tickets, token, source, weakly, awaits, unset}
use Rattle.table_steps.specs.inside.Accounts.{Coord, duty, sem, mark, busy, resting, turning, owing, telling, weight, weigh, total, AllFitNotes, KeepsAccounts, reading}
use Rattle.table_steps.specs.inside.Kinds.{IsTurn, MayTakeUp, collecting_notes, taken_up, MayAdd, with_turn_added, MayDeal, dealt, kept_back, MayAdmit, admitted_notes, admitted, MayDrawStart, with_start_drawn, MayEnd, with_end_drawn, left_by, MayGather, both_turns}
use Rattle.table_steps.specs.inside.RestKinds.{MayThin}
use Rattle.table_steps.proofs.Stepping.{St, Seated, own_lone, after_step, done}
use Rattle.table_steps.specs.declared.view.Lot.TheVariants.{Putting, Taking}
use Rattle.table_steps.specs.inside.Slots.{lot, awaited_lots, found_lots, first_parts, after_lots}
use Rattle.table_steps.specs.inside.SlotMarks.{label_of}
use Rattle.table_steps.proofs.Totals.{total_swap, weigh_append}
use Rattle.table_steps.proofs.UnitAccounts.{no_units}
use Rattle.table_steps.proofs.Lots.{awaited_none, slot_append}
use Rattle.table_steps.proofs.LotEntries.{taken_up_slots}
use Rattle.table_steps.proofs.SlotViews.{slots_moved, awaited_weigh, awaited_stand, first_found, after_weigh, parts_length}
use Rattle.table_steps.proofs.Marking.{alike_kept}
use Rattle.table_steps.proofs.MarkSteps.{admit_drawn, over_drawn, turn_added, reads_same}
use Rattle.table_steps.proofs.Drawing.{start_drawn, end_drawn}
use Rattle.table_steps.proofs.Seats.{nothing_done, split_allowed, join_allowed, join_as}
use Rattle.table_steps.proofs.Views.{stand_both}
use Rattle.table_steps.proofs.FewTurns.{fits_of, room_for_turn}
use Rattle.table_steps.proofs.OneJournal.{in_journal}

-- LOADS
-- what is written where it stands already
word_again : (xs : List ℕ) (i : ℕ) → set xs i (slice_index xs i) ≡ xs
word_again [] i = refl
word_again (x ∷ xs) zero = refl
word_again (x ∷ xs) (suc i) = ap (λ l. x ∷ l) (word_again xs i)

view_again : (views : List (List Note)) (id : ℕ) (v : List Note) → get_elem? views id ≡ some v → set views id v ≡ views
view_again [] id v at = refl
view_again (x ∷ xs) zero v at = ap (λ y. y ∷ xs) (sym (some-injective x v at))
view_again (x ∷ xs) (suc id) v at = ap (λ l. x ∷ l) (view_again xs id v at)

pub learn_allowed : {S : Type 0} {part : S → List Part} (net : NetRows) (limit slots id : ℕ) (me : Seated S) → Allows (KeepsAccounts part net limit) slots id me 0 (λ n. n) (λ n m. (m.0 ≡ me.0) × (m.1 ≡ me.1) × AllFitNotes net me.0 × (length net.edges < 4294967296) × AreInOneJournal net limit (entries_in me.0))
learn_allowed {S} {part} net limit slots id me s h _ at small =
    let same : stepped s 0 (slice_index s.words 0) id me.1 me.0 keeps ≡ s = λ i. record { words = word_again s.words 0 i; homes = s.homes; views = view_again s.views id me.0 at i } in
    (me.0, keeps, tt, subst (KeepsAccounts part net limit) (sym same) h, (refl, refl, fits_of net h.journal me.0 (h.views id me.0 at).stand, h.fits.rows.edge_count, in_journal net limit s h id me.0 at))

source_alike : (c : Coord) (t : ℕ) → weight c (Duty (Fresh t Source)) ≡ weight c (Duty (Collecting t Source [] []))
source_alike (duty (place m)) t = refl
source_alike (duty (runs m u)) t = refl
source_alike (duty running) t = refl
source_alike (duty tickets) t = refl
source_alike (duty (token e)) t = refl
source_alike (duty (source u)) t = refl
source_alike (duty (weakly e)) t = refl
source_alike (duty (awaits e)) t = refl
source_alike (duty (unset u)) t = refl
source_alike (sem k s) t = refl
source_alike (mark m) t = refl
source_alike busy t = refl
source_alike resting t = refl
source_alike turning t = refl
source_alike owing t = refl
source_alike telling t = refl

weak_alike : (c : Coord) (t e : ℕ) → weight c (Duty (Fresh t (Weak e))) ≡ weight c (Duty (Collecting t (Weak e) [] (e ∷ [])))
weak_alike (duty (place m)) t e = refl
weak_alike (duty (runs m u)) t e = refl
weak_alike (duty running) t e = refl
weak_alike (duty tickets) t e = refl
weak_alike (duty (token f)) t e = refl
weak_alike (duty (source u)) t e = refl
weak_alike (duty (weakly f)) t e = omega arith
weak_alike (duty (awaits f)) t e = refl
weak_alike (duty (unset u)) t e = refl
weak_alike (sem k s) t e = refl
weak_alike (mark m) t e = refl
weak_alike busy t e = refl
weak_alike resting t e = refl
weak_alike turning t e = refl
weak_alike owing t e = refl
weak_alike telling t e = refl

-- a release taken up without a change of words
one_alike : {S : Type 0} {part : S → List Part} (net : NetRows) (limit : ℕ) (s : St S) (h : KeepsAccounts part net limit s) (id : ℕ) (carried : List (ℕ × S)) (t : ℕ) (cause : Cause) (rest : List Note) → weigh resting rest ≡ 0
    → ((c : Coord) → weight c (Duty (Fresh t cause)) ≡ weight c (Duty (Collecting t cause [] (edges_of net t cause)))) → get_elem? s.views id ≡ some (Duty (Fresh t cause) ∷ Has Live ∷ rest)
    → KeepsAccounts part net limit (stepped s 0 (slice_index s.words 0) id carried (collecting_notes t cause (edges_of net t cause) ++ rest) keeps)
one_alike {S} {part} net limit s h id carried t cause rest lone alike at =
    let es = edges_of net t cause in
    let old = Duty (Fresh t cause) ∷ Has Live ∷ [] in let new = collecting_notes t cause es in
    after_step net limit s h id 0 _ carried old new rest h.journal h.counted (reading net s.words) at (λ e. (omega (arith, awaited_none (lot Putting e) tt es), omega (arith, awaited_none (lot Taking e) tt es))) (λ e b z. omega arith) (λ v stand. stand)
    (own_lone net h.journal (λ c. total c s.views) old new rest (((h.views id _ at).stand.0, refl), (tt, (tt, awaited_stand net h.journal es))) (omega arith) (omega arith) (omega (arith, lone, weigh_append resting new rest, awaited_weigh resting es)))
    (omega (arith, h.few, total_swap (mark Live) s.views id old new rest at, awaited_weigh (mark Live) es)) h.few_drops
    (ap (reading net) (reads_same net s.words 0 (omega (arith, h.size))))
    (λ moved. taken_up_slots net h.journal _ _ _ (label_of part s.homes) t cause es h.slots (slots_moved _ _ old new [] (Duty (Collecting t cause [] es) ∷ awaited_lots es) moved refl refl))
    (λ moved. alike_kept net limit (reading net s.words) h.counted h.journal (λ c. total c s.views) _ h.balanced (λ c a. omega (arith, moved c, alike c, no_units c, awaited_weigh c es)))

pub take_up_allowed : {S : Type 0} {part : S → List Part} (net : NetRows) (limit slots id : ℕ) (me : Seated S) → MayTakeUp me.0 → Allows (KeepsAccounts part net limit) slots id me 0 (λ n. n) (λ n m. (m.0 ≡ taken_up net me.0) × (m.1 ≡ me.1))
take_up_allowed {S} {part} net limit slots id me may s h _ at small = from me.0 may at
  where
    from : (v : List Note) → MayTakeUp v → get_elem? s.views id ≡ some v
        → (u : List Note) × (a : Act _) × Valid s.homes me.1 a × KeepsAccounts part net limit (stepped s 0 (slice_index s.words 0) id me.1 u a) × ((u ≡ taken_up net v) × (carried_after me.1 a ≡ me.1))
    from (Duty (Fresh t Source) ∷ Has Live ∷ rest) may at = done net limit s id 0 _ me _ _ refl (one_alike net limit s h id me.1 t Source rest may (λ c. source_alike c t) at)
    from (Duty (Fresh t (Weak e)) ∷ Has Live ∷ rest) may at = done net limit s id 0 _ me _ _ refl (one_alike net limit s h id me.1 t (Weak e) rest may (λ c. weak_alike c t e) at)
    from v may at = absurd may

-- ADMISSION DRAWN
pub admit_allowed : {S : Type 0} {part : S → List Part} (net : NetRows) (limit slots id : ℕ) (me : Seated S) → MayAdmit me.0 → Allows (KeepsAccounts part net limit) slots id me 24 (λ n. (n + 1) % 2 ^ 64) (λ n m. (m.0 ≡ admitted limit n me.0) × (m.1 ≡ me.1))
admit_allowed {S} {part} net limit slots id me may s h _ at small = from me.0 may at
  where
    from : (v : List Note) → MayAdmit v → get_elem? s.views id ≡ some v
        → (u : List Note) × (z : Act _) × Valid s.homes me.1 z × KeepsAccounts part net limit (stepped s 24 ((slice_index s.words 24 + 1) % 2 ^ 64) id me.1 u z) × ((u ≡ admitted limit (slice_index s.words 24) v) × (carried_after me.1 z ≡ me.1))
    from (Duty (Collecting t cause taken left) ∷ Has Live ∷ Has Asked ∷ rest) may at = by_room (cases_lt (slice_index s.words 24) limit)
      where
        n : ℕ
        n = slice_index s.words 24

        x : TurnDuty
        x = Collecting t cause taken left

        by_room : (n < limit) ⊎ (limit ≤ n) → (u : List Note) × (z : Act _) × Valid s.homes me.1 z × KeepsAccounts part net limit (stepped s 24 ((n + 1) % 18446744073709551616) id me.1 u z) × ((u ≡ admitted_notes (nat_lt n limit) x ++ rest) × (carried_after me.1 z ≡ me.1))
        by_room (inl room) = let is : nat_lt n limit ≡ true = grind (arith, nat_tests) in
            done net limit s id 24 _ me _ _ (ap (λ b. admitted_notes b x ++ rest) (sym is)) (admit_drawn net limit s h id me.1 x rest may at room)
        by_room (inr full) = let is : nat_lt n limit ≡ false = grind (arith, nat_tests) in
            done net limit s id 24 _ me _ _ (ap (λ b. admitted_notes b x ++ rest) (sym is)) (over_drawn net limit s h id me.1 x rest may at full)
    from v may at = absurd may

-- TURN ADDED
pub add_allowed : {S : Type 0} {part : S → List Part} (net : NetRows) (limit slots id : ℕ) (me : Seated S) → MayAdd me.0 → Allows (KeepsAccounts part net limit) slots id me 16 (λ n. (n + 1) % 2 ^ 64) (λ n m. (m.0 ≡ with_turn_added me.0) × (m.1 ≡ me.1))
add_allowed {S} {part} net limit slots id me may s h _ at small = from me.0 may at
  where
    from : (v : List Note) → MayAdd v → get_elem? s.views id ≡ some v
        → (u : List Note) × (z : Act _) × Valid s.homes me.1 z × KeepsAccounts part net limit (stepped s 16 ((slice_index s.words 16 + 1) % 2 ^ 64) id me.1 u z) × ((u ≡ with_turn_added v) × (carried_after me.1 z ≡ me.1))
    from (Duty (Fresh t cause) ∷ Has New ∷ rest) may at =
        done net limit s id 16 _ me _ _ refl (turn_added net limit s h id me.1 (Fresh t cause) rest may.0 may.1 at (room_for_turn net limit s h))
    from v may at = absurd may

-- START DRAWN
pub start_allowed : {S : Type 0} {part : S → List Part} (net : NetRows) (limit slots id : ℕ) (me : Seated S) → MayDrawStart net me.0 → Allows (KeepsAccounts part net limit) slots id me 8 (λ n. (n + 1) % 2 ^ 64) (λ n m. (m.0 ≡ with_start_drawn net n me.0) × (m.1 ≡ me.1) × IsNet net)
start_allowed {S} {part} net limit slots id me may s h _ at small = from me.0 may at
  where
    from : (v : List Note) → MayDrawStart net v → get_elem? s.views id ≡ some v
        → (u : List Note) × (z : Act _) × Valid s.homes me.1 z × KeepsAccounts part net limit (stepped s 8 ((slice_index s.words 8 + 1) % 2 ^ 64) id me.1 u z) × ((u ≡ with_start_drawn net (slice_index s.words 8) v) × (carried_after me.1 z ≡ me.1) × IsNet net)
    from (Duty (Collecting t cause taken []) ∷ Duty Ticket ∷ Has Live ∷ Sems Held l ∷ rest) may at =
        let stand = (h.views id _ at).stand.0 in let ins = first_parts taken rest in let more = after_lots taken rest in
        let all : taken ≡ edges_of net t cause = sym (append-nil taken) ∙ stand.1 in (
          _,
          keeps,
          tt,
          start_drawn net limit s h id t cause l ins me.1 more stand.0 may.0 (parts_length taken rest may.1 ∙ ap length all) (omega (arith, may.2, after_weigh resting taken rest may.1))
              (at ∙ ap (λ v. some (Duty (Collecting t cause taken []) ∷ Duty Ticket ∷ Has Live ∷ Sems Held l ∷ v)) (first_found taken rest may.1) ∙ ap (λ es. some (Duty (Collecting t cause es []) ∷ Duty Ticket ∷ Has Live ∷ Sems Held l ∷ found_lots es ins ++ more)) all),
          (refl, refl, h.fits.rows),
        )
    from v may at = absurd may

-- END DRAWN
pub end_allowed : {S : Type 0} {part : S → List Part} (net : NetRows) (limit slots id : ℕ) (me : Seated S) (gives : List ℕ) (inner : Bool) → MayEnd net gives inner me.0
    → Allows (KeepsAccounts part net limit) slots id me 8 (λ n. (n + 1) % 2 ^ 64) (λ n m. (m.0 ≡ with_end_drawn gives inner n me.0) × (m.1 ≡ me.1))
end_allowed {S} {part} net limit slots id me gives inner may s h _ at small = from me.0 may at
  where
    from : (v : List Note) → MayEnd net gives inner v → get_elem? s.views id ≡ some v
        → (u : List Note) × (z : Act _) × Valid s.homes me.1 z × KeepsAccounts part net limit (stepped s 8 ((slice_index s.words 8 + 1) % 2 ^ 64) id me.1 u z) × ((u ≡ with_end_drawn gives inner (slice_index s.words 8) v) × (carried_after me.1 z ≡ me.1))
    from (Duty (Open m t) ∷ Has Live ∷ Sems Both b ∷ Sems Credit c ∷ Sems Credited d ∷ Sems Claim l ∷ Sems Granted g ∷ rest) may at =
        done net limit s id 8 _ me _ _ refl (end_drawn net limit s h id m t gives inner b d g me.1 rest may.0 may.4 may.2 may.5
        (at ∙ (λ i. some (Duty (Open m t) ∷ Has Live ∷ Sems Both b ∷ Sems Credit (may.1 i) ∷ Sems Credited d ∷ Sems Claim (may.3 i) ∷ Sems Granted g ∷ rest))))
    from v may at = absurd may

-- SPLIT
pub deal_allowed : {S : Type 0} {part : S → List Part} (net : NetRows) (limit id : ℕ) (v : List Note) → MayDeal id v → Splits (KeepsAccounts part net limit) id v (kept_back v) (dealt v)
deal_allowed net limit id (Duty (Fresh t cause) ∷ Has Live ∷ rest) may =
    split_allowed net limit id (Duty (Fresh t cause) ∷ Has Live ∷ rest) [] rest (Duty (Fresh t cause) ∷ Has Live ∷ []) refl tt may.0 refl may.1 (λ none. absurd (omega (arith, none))) may.2 (λ none. absurd (omega (arith, none)))
deal_allowed net limit id v may = absurd may

-- JOIN, with the keeper's seat
pub take_in_allowed : {S : Type 0} {part : S → List Part} (net : NetRows) (limit id : ℕ) (v : List Note) (other : ℕ) (w : List Note) → id ≡ 0 → Joins (KeepsAccounts part net limit) id v other w (w ++ v) []
take_in_allowed net limit id v other w first = join_allowed net limit id v other w (λ far. absurd (far first))

-- JOIN, of two turns that are done
pub gather_allowed : {S : Type 0} {part : S → List Part} (net : NetRows) (limit id : ℕ) (v : List Note) (other : ℕ) (w : List Note) → MayGather v w → Joins (KeepsAccounts part net limit) id v other w (both_turns v w) []
gather_allowed net limit id (Duty (Owes []) ∷ Has Live ∷ rest) other w may =
    join_as net limit id (Duty (Owes []) ∷ Has Live ∷ rest) other w (Duty (Owes []) ∷ Has Live ∷ w ++ rest) (λ c. omega (arith, weigh_append c w rest)) (λ c. omega (arith, slot_append c w rest))
    (λ journal taken own. (own.0, (own.1.0, stand_both net journal w rest taken own.1.1))) (λ far. omega arith)
gather_allowed net limit id v other w may = absurd may

-- then the turn that stays in front may be taken off
pub both_thin : (v w : List Note) → MayGather v w → MayThin (both_turns v w) × (left_by (both_turns v w) ≡ w ++ left_by v)
both_thin (Duty (Owes []) ∷ Has Live ∷ rest) w may = (omega (arith, may, weigh_append (mark Live) w rest), refl)
both_thin v w may = absurd may
