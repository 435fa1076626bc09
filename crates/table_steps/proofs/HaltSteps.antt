-- What the steps of halts and drops ask is met.
use Rattle.std.proofs.Common.{◌≡◌, ◌≢◌, ◌⊎◌, inl, inr, ℕ, zero, suc, ◌+◌, ◌%◌, ◌^◌, ◌<◌, ◌≤◌, List, [], ◌∷◌, ◌++◌, length, subst, refl, sym, ap, ◌∙◌, arith}
use Rattle.std.specs.Prelude.{slice_index, count_by, IsSomeAnd, Some}
use Rattle.std.proofs.lemmas.Bool.{cases_eq}
use Rattle.std.proofs.lemmas.List.{append-nil}
use mathlib.Core.Option.{some}
use lib.ListN.{get_elem?}
use Rattle.atomic_table.specs.Table.{Act, keeps, Valid, carried_after, stepped, Allows}
use Rattle.task_graph.specs.NetRows.{NetRows}
use Rattle.task_graph.specs.Net.{IsNet}
use Rattle.journal_rules.proofs.TaskSemaphores.{puts_in_range}
use Rattle.journal_rules.specs.declared.entry.Cause.{Cause}
use Rattle.journal_rules.specs.declared.entry.DropWhy.TheVariants.{Limit, Halted as AfterFault}
use Rattle.journal_rules.specs.declared.entry.Entry.{Entry}
use Rattle.journal_rules.specs.declared.entry.Entry.TheVariants.{Fault, Drop}
use Rattle.journal_rules.specs.declared.entry.Why.{Why}
use Rattle.journal_rules.specs.declared.entry.Why.TheVariants.{Long, Wide, Unmet, Inner, OverRelease}
use Rattle.journal_rules.specs.DataRule.{edges_of}
use Rattle.journal_rules.specs.Counts.{start_at}
use Rattle.journal_rules.specs.SemaphoreRule.{IsOverRelease, OverReleaseRule}
use Rattle.journal_rules.specs.ShapeLegal.{WhyInRange}
use Rattle.journal_rules.proofs.Tallying.{count_by_push_no, count_by_push_yes}
use Rattle.journal_rules.specs.declared.entry.Part.{Part}
use Rattle.table_steps.specs.Releases.{MayBeReleased}
use Rattle.table_steps.specs.declared.view.TurnDuty.{TurnDuty}
use Rattle.table_steps.specs.declared.view.TurnDuty.TheVariants.{Told, Collecting, Open, Owes}
use Rattle.table_steps.specs.declared.view.SemaphoreRole.TheVariants.{Held, Undo, Owed, Both, Credit, Credited, Claim, Granted, Refusing, Denied}
use Rattle.table_steps.specs.declared.view.SeatMark.TheVariants.{Live, New, Over, ToMark, Halted, Asked}
use Rattle.table_steps.specs.declared.view.Note.{Note}
use Rattle.table_steps.specs.declared.view.Note.TheVariants.{Duty, Sems, Has, Unfit}
use Rattle.table_steps.specs.inside.Accounts.{AllStand, duty, sem, mark, turning, owing, resting, weigh, total, is_drop, reading, KeepsAccounts}
use Rattle.table_steps.specs.inside.Halts.{MayAsk, halt_read, KnowsWhy, MayFault, with_fault_drawn, MayMark, marked, MayDrop, dropped}
use Rattle.table_steps.specs.Holding.{TakesAlone}
use Rattle.table_steps.proofs.Stepping.{St, Seated, own_lone, still_step, done}
use Rattle.table_steps.proofs.Reading.{halt_word_read}
use Rattle.table_steps.proofs.Drawing.{drawn, told, unstuck}
use Rattle.table_steps.proofs.MarkSteps.{reads_same, asked_none}
use Rattle.table_steps.proofs.Marking.{alike_kept, marks_none}
use Rattle.table_steps.proofs.Bounds.{few_uses}
use Rattle.table_steps.proofs.Halting.{marked_kept, halt_found}
use Rattle.table_steps.proofs.Faulting.{fault_kept}
use Rattle.table_steps.proofs.DropAccounts.{limit_kept, halted_kept}
use Rattle.table_steps.specs.declared.view.Lot.TheVariants.{Putting, Taking}
use Rattle.table_steps.specs.inside.Slots.{lot, found_lots, first_parts, after_lots}
use Rattle.table_steps.specs.inside.SlotMarks.{label_of}
use Rattle.table_steps.proofs.Totals.{weigh_append}
use Rattle.table_steps.proofs.UnitAccounts.{no_units}
use Rattle.table_steps.proofs.Lots.{found_none}
use Rattle.table_steps.proofs.LotEntries.{drop_slots, quiet_slots}
use Rattle.table_steps.proofs.SlotViews.{slots_moved, owes_none, found_weigh, first_found, after_weigh, parts_length}

-- the halt mark set
mark_set : {S : Type 0} {part : S → List Part} (net : NetRows) (limit : ℕ) (s : St S) (h : KeepsAccounts part net limit s) (id : ℕ) (carried : List (ℕ × S)) (rest : List Note) → weigh resting rest ≡ 0 → get_elem? s.views id ≡ some (Duty (Owes []) ∷ Has Live ∷ Has ToMark ∷ rest)
    → KeepsAccounts part net limit (stepped s 32 1 id carried (Duty (Owes []) ∷ Has Live ∷ rest) keeps)
mark_set net limit s h id carried rest lone at =
    let old = Duty (Owes []) ∷ Has Live ∷ Has ToMark ∷ [] in let new = Duty (Owes []) ∷ Has Live ∷ [] in
    still_step net limit s h id 32 1 carried old new rest _ at refl (λ e b z. omega arith)
    (own_lone net h.journal (λ c. total c s.views) old new rest (tt, (tt, tt)) (omega arith) (omega arith) (omega (arith, lone))) (omega arith)
    (halt_word_read net s.words 1 (omega (arith, h.size)))
    refl (λ moved. marked_kept net limit (reading net s.words) h.counted h.journal (λ c. total c s.views) _ 1 h.balanced (λ z. omega arith) (λ c. omega (arith, moved c)))

-- a halt load that found the mark
halt_loaded : {S : Type 0} {part : S → List Part} (net : NetRows) (limit : ℕ) (s : St S) (h : KeepsAccounts part net limit s) (id : ℕ) (carried : List (ℕ × S)) (x : TurnDuty) (rest : List Note) → weigh resting rest ≡ 0 → get_elem? s.views id ≡ some (Duty x ∷ Has Live ∷ rest) → slice_index s.words 32 ≢ 0
    → KeepsAccounts part net limit (stepped s 32 (slice_index s.words 32) id carried (Duty x ∷ Has Live ∷ Has Halted ∷ rest) keeps)
halt_loaded net limit s h id carried x rest lone at found =
    let old = Duty x ∷ Has Live ∷ [] in let new = Duty x ∷ Has Live ∷ Has Halted ∷ [] in
    still_step net limit s h id 32 _ carried old new rest (reading net s.words) at refl (λ e b z. omega arith)
    (own_lone net h.journal (λ c. total c s.views) old new rest ((h.views id _ at).stand.0, (tt, (halt_found (slice_index s.words 32) h.journal (λ c. total c s.views) h.balanced.by_halt found, tt))) (omega arith) (omega arith) (omega (arith, lone))) (omega arith)
    (ap (reading net) (reads_same net s.words 32 (omega (arith, h.size))))
    refl (λ moved. alike_kept net limit (reading net s.words) h.counted h.journal (λ c. total c s.views) _ h.balanced (λ c a. omega (arith, moved c, marks_none c a (Has Halted ∷ []) tt)))

-- and one that found none
halt_asked : {S : Type 0} {part : S → List Part} (net : NetRows) (limit : ℕ) (s : St S) (h : KeepsAccounts part net limit s) (id : ℕ) (carried : List (ℕ × S)) (x : TurnDuty) (rest : List Note) → weigh resting rest ≡ 0 → get_elem? s.views id ≡ some (Duty x ∷ Has Live ∷ rest)
    → KeepsAccounts part net limit (stepped s 32 (slice_index s.words 32) id carried (Duty x ∷ Has Live ∷ Has Asked ∷ rest) keeps)
halt_asked net limit s h id carried x rest lone at =
    let old = Duty x ∷ Has Live ∷ [] in let new = Duty x ∷ Has Live ∷ Has Asked ∷ [] in
    still_step net limit s h id 32 _ carried old new rest (reading net s.words) at refl (λ e b z. omega arith)
    (own_lone net h.journal (λ c. total c s.views) old new rest ((h.views id _ at).stand.0, (tt, (tt, tt))) (omega arith) (omega arith) (omega (arith, lone))) (omega arith)
    (ap (reading net) (reads_same net s.words 32 (omega (arith, h.size))))
    refl (λ moved. alike_kept net limit (reading net s.words) h.counted h.journal (λ c. total c s.views) _ h.balanced (λ c a. omega (arith, moved c, asked_none c)))

-- a Fault drawn
fault_drawn : {S : Type 0} {part : S → List Part} (net : NetRows) (limit : ℕ) (s : St S) (h : KeepsAccounts part net limit s) (id m t : ℕ) (why : Why) (b d : List ℕ) (carried : List (ℕ × S)) (rest : List Note) → WhyInRange net why → OverReleaseRule net h.journal m why → TakesAlone net t d
    → weigh resting rest ≡ 0 → get_elem? s.views id ≡ some (Duty (Open m t) ∷ Has Live ∷ Sems Both b ∷ Sems Credit [] ∷ Sems Credited d ∷ rest)
    → KeepsAccounts part net limit (stepped s 8 ((slice_index s.words 8 + 1) % 2 ^ 64) id carried (Duty (Owes []) ∷ Has Live ∷ Has ToMark ∷ Duty (Told (slice_index s.words 8) (Fault m why)) ∷ Sems Both b ∷ rest) keeps)
fault_drawn {S} {part} net limit s h id m t why b d carried rest in_range over alone lone at =
    let n = slice_index s.words 8 in let x = Fault m why in
    let old = Duty (Open m t) ∷ Has Live ∷ Sems Both b ∷ Sems Credit [] ∷ Sems Credited d ∷ [] in let new = Duty (Owes []) ∷ Has Live ∷ Has ToMark ∷ Duty (Told n x) ∷ Sems Both b ∷ [] in
    drawn net limit s h id carried old new rest x at (λ e. (refl, refl))
    (own_lone net (h.journal ++ x ∷ []) (λ c. total c s.views) old new rest (tt, (tt, (tt, (told net limit s h x, (tt, tt))))) (omega arith) (omega arith) (omega (arith, lone))) (omega arith)
    (omega (arith, count_by_push_no is_drop h.journal x refl, h.few_drops))
    (λ moved. quiet_slots net h.journal _ _ _ (label_of part s.homes) x h.slots tt (λ e. refl) (λ e test. refl) (λ c. omega (arith, slots_moved _ _ old new [] (Duty (Owes []) ∷ []) moved refl refl c, owes_none c)))
    (λ moved. fault_kept net limit (reading net s.words) h.counted h.journal (λ c. total c s.views) _ m t why h.balanced in_range over
    (unstuck net limit s h id (old ++ rest) at (omega arith) (omega (arith, lone))) (record {
      duties = λ c. omega (arith, moved (duty c));
      held = λ z. omega (arith, moved (sem Held z));
      undo = λ z. omega (arith, moved (sem Undo z));
      owed = λ z. omega (arith, moved (sem Owed z));
      both = λ z. omega (arith, moved (sem Both z));
      credit = λ z. omega (arith, moved (sem Credit z));
      credited = λ z below. omega (arith, moved (sem Credited z), alone z);
      claim = λ z. omega (arith, moved (sem Claim z));
      granted = λ z. omega (arith, moved (sem Granted z));
      refusing = λ z. omega (arith, moved (sem Refusing z));
      denied = λ z. omega (arith, moved (sem Denied z));
      live = omega (arith, moved (mark Live));
      new = omega (arith, moved (mark New));
      over = omega (arith, moved (mark Over));
      to_mark = omega (arith, moved (mark ToMark));
      turning_is = omega (arith, moved turning);
      owing_is = omega (arith, moved owing);
    }))

-- a Drop may always be drawn
pub drop_room : {S : Type 0} {part : S → List Part} (net : NetRows) (limit : ℕ) (s : St S) (h : KeepsAccounts part net limit s) → count_by is_drop h.journal + 1 ≤ 1152921504606846976
drop_room net limit s h = omega (arith, few_uses net limit s h)

-- a Drop at the limit
limit_drawn : {S : Type 0} {part : S → List Part} (net : NetRows) (limit : ℕ) (s : St S) (h : KeepsAccounts part net limit s) (id t : ℕ) (cause : Cause) (ps : List Part) (carried : List (ℕ × S)) (rest : List Note) → MayBeReleased net t cause → length ps ≡ length (edges_of net t cause)
    → weigh resting rest ≡ 0 → get_elem? s.views id ≡ some (Duty (Collecting t cause (edges_of net t cause) []) ∷ Has Over ∷ Sems Held [] ∷ found_lots (edges_of net t cause) ps ++ rest)
    → KeepsAccounts part net limit (stepped s 8 ((slice_index s.words 8 + 1) % 2 ^ 64) id carried (Duty (Owes []) ∷ Has Live ∷ Duty (Told (slice_index s.words 8) (Drop t cause Limit)) ∷ rest) keeps)
limit_drawn {S} {part} net limit s h id t cause ps carried rest may full lone at =
    let n = slice_index s.words 8 in let es = edges_of net t cause in let x = Drop t cause Limit in
    let old = Duty (Collecting t cause (edges_of net t cause) []) ∷ Has Over ∷ Sems Held [] ∷ found_lots es ps in let new = Duty (Owes []) ∷ Has Live ∷ Duty (Told n x) ∷ [] in
    drawn net limit s h id carried old new rest x at (λ e. (omega (arith, found_none (lot Putting e) tt es ps), omega (arith, found_none (lot Taking e) tt es ps)))
    (own_lone net (h.journal ++ x ∷ []) (λ c. total c s.views) old new rest (tt, (tt, (told net limit s h x, tt))) (omega arith) (omega arith) (omega (arith, lone))) (omega (arith, found_weigh (mark Live) es ps))
    (omega (arith, count_by_push_yes is_drop h.journal x refl, drop_room net limit s h))
    (λ moved. drop_slots net h.journal _ _ _ (label_of part s.homes) x t cause es ps h.slots full tt (λ e. refl) (λ e test. refl) (λ c. omega (arith, slots_moved _ _ old new (Duty (Collecting t cause es []) ∷ found_lots es ps) (Duty (Owes []) ∷ []) moved refl refl c, owes_none c)))
    (λ moved. limit_kept net limit (reading net s.words) h.counted h.journal (λ c. total c s.views) _ t cause h.balanced may
    (unstuck net limit s h id (old ++ rest) at (omega arith) (omega (arith, lone, weigh_append resting old rest, found_weigh resting es ps))) (record {
      duties = λ c. omega (arith, moved (duty c), found_weigh (duty c) es ps);
      sems = λ k z. omega (arith, no_units (sem k z), moved (sem k z), found_weigh (sem k z) es ps);
      live = omega (arith, moved (mark Live), found_weigh (mark Live) es ps);
      to_mark = omega (arith, moved (mark ToMark), found_weigh (mark ToMark) es ps);
      new = omega (arith, moved (mark New), found_weigh (mark New) es ps);
      turning_is = omega (arith, moved turning, found_weigh turning es ps);
      owing_is = omega (arith, moved owing, found_weigh owing es ps);
    }) (omega (arith, moved (mark Over), found_weigh (mark Over) es ps)))

-- and one after a Fault
halted_drawn : {S : Type 0} {part : S → List Part} (net : NetRows) (limit : ℕ) (s : St S) (h : KeepsAccounts part net limit s) (id t : ℕ) (cause : Cause) (ps : List Part) (carried : List (ℕ × S)) (rest : List Note) → MayBeReleased net t cause → length ps ≡ length (edges_of net t cause)
    → weigh resting rest ≡ 0 → get_elem? s.views id ≡ some (Duty (Collecting t cause (edges_of net t cause) []) ∷ Has Live ∷ Has Halted ∷ Sems Held [] ∷ found_lots (edges_of net t cause) ps ++ rest)
    → KeepsAccounts part net limit (stepped s 8 ((slice_index s.words 8 + 1) % 2 ^ 64) id carried (Duty (Owes []) ∷ Has Live ∷ Duty (Told (slice_index s.words 8) (Drop t cause AfterFault)) ∷ rest) keeps)
halted_drawn {S} {part} net limit s h id t cause ps carried rest may full lone at =
    let n = slice_index s.words 8 in let es = edges_of net t cause in let x = Drop t cause AfterFault in
    let old = Duty (Collecting t cause (edges_of net t cause) []) ∷ Has Live ∷ Has Halted ∷ Sems Held [] ∷ found_lots es ps in let new = Duty (Owes []) ∷ Has Live ∷ Duty (Told n x) ∷ [] in
    let stand = (h.views id (old ++ rest) at).stand in
    drawn net limit s h id carried old new rest x at (λ e. (omega (arith, found_none (lot Putting e) tt es ps), omega (arith, found_none (lot Taking e) tt es ps)))
    (own_lone net (h.journal ++ x ∷ []) (λ c. total c s.views) old new rest (tt, (tt, (told net limit s h x, tt))) (omega arith) (omega arith) (omega (arith, lone))) (omega (arith, found_weigh (mark Live) es ps))
    (omega (arith, count_by_push_yes is_drop h.journal x refl, drop_room net limit s h))
    (λ moved. drop_slots net h.journal _ _ _ (label_of part s.homes) x t cause es ps h.slots full tt (λ e. refl) (λ e test. refl) (λ c. omega (arith, slots_moved _ _ old new (Duty (Collecting t cause es []) ∷ found_lots es ps) (Duty (Owes []) ∷ []) moved refl refl c, owes_none c)))
    (λ moved. halted_kept net limit (reading net s.words) h.counted h.journal (λ c. total c s.views) _ t cause h.balanced may
    (unstuck net limit s h id (old ++ rest) at (omega arith) (omega (arith, lone, weigh_append resting old rest, found_weigh resting es ps))) stand.1.1.0 (record {
      duties = λ c. omega (arith, moved (duty c), found_weigh (duty c) es ps);
      sems = λ k z. omega (arith, no_units (sem k z), moved (sem k z), found_weigh (sem k z) es ps);
      live = omega (arith, moved (mark Live), found_weigh (mark Live) es ps);
      to_mark = omega (arith, moved (mark ToMark), found_weigh (mark ToMark) es ps);
      new = omega (arith, moved (mark New), found_weigh (mark New) es ps);
      turning_is = omega (arith, moved turning, found_weigh turning es ps);
      owing_is = omega (arith, moved owing, found_weigh owing es ps);
    }) (omega (arith, moved (mark Over), found_weigh (mark Over) es ps)))

-- HALT LOAD
pub halt_allowed : {S : Type 0} {part : S → List Part} (net : NetRows) (limit slots id : ℕ) (me : Seated S) → MayAsk me.0 → Allows (KeepsAccounts part net limit) slots id me 32 (λ n. n) (λ n m. (m.0 ≡ halt_read n me.0) × (m.1 ≡ me.1))
halt_allowed {S} {part} net limit slots id me may s h _ at small = from me.0 may at
  where
    n : ℕ
    n = slice_index s.words 32

    from : (v : List Note) → MayAsk v → get_elem? s.views id ≡ some v
        → (u : List Note) × (z : Act _) × Valid s.homes me.1 z × KeepsAccounts part net limit (stepped s 32 (slice_index s.words 32) id me.1 u z) × ((u ≡ halt_read (slice_index s.words 32) v) × (carried_after me.1 z ≡ me.1))
    from (Duty (Collecting t cause taken left) ∷ Has Live ∷ rest) may at = by_zero (cases_eq n 0)
      where
        v : List Note
        v = Duty (Collecting t cause taken left) ∷ Has Live ∷ rest

        read_is : (k : ℕ) → k ≢ 0 → Duty (Collecting t cause taken left) ∷ Has Live ∷ Has Halted ∷ rest ≡ halt_read k v
        read_is zero some_there = absurd (some_there refl)
        read_is (suc k) some_there = refl

        by_zero : (n ≡ 0) ⊎ (n ≢ 0) → (u : List Note) × (z : Act _) × Valid s.homes me.1 z × KeepsAccounts part net limit (stepped s 32 n id me.1 u z) × ((u ≡ halt_read n v) × (carried_after me.1 z ≡ me.1))
        by_zero (inl none) = done net limit s id 32 _ me _ _ (ap (λ k. halt_read k v) (sym none)) (halt_asked net limit s h id me.1 (Collecting t cause taken left) rest may at)
        by_zero (inr found) = done net limit s id 32 _ me _ _ (read_is n found) (halt_loaded net limit s h id me.1 (Collecting t cause taken left) rest may at found)
    from v may at = absurd may

-- what a seat knows of an over-release for which it faults
told_over : (net : NetRows) (journal : List Entry) (z m n a u : ℕ) → a ≡ z → n ≡ m → (start_at journal n ≡ Some u) × IsOverRelease net journal a n u → OverReleaseRule net journal m (OverRelease z)
told_over net journal z m n a u same_sem same_place known =
    subst (λ k. IsSomeAnd (start_at journal k) (IsOverRelease net journal z k)) same_place
    (subst (λ k. IsSomeAnd (start_at journal n) (IsOverRelease net journal k n)) same_sem
    (subst (λ o. IsSomeAnd o (IsOverRelease net journal a n)) (sym known.0) known.1))

why_stands : (net : NetRows) (journal : List Entry) (q : Why) (m : ℕ) (rest : List Note) → IsNet net → KnowsWhy q m rest → AllStand net journal rest → WhyInRange net q × OverReleaseRule net journal m q
why_stands net journal (Long n) m rest rows fits stand = (tt, tt)
why_stands net journal (Wide n) m rest rows fits stand = (tt, tt)
why_stands net journal (Unmet n) m rest rows fits stand = (tt, tt)
why_stands net journal Inner m rest rows fits stand = (tt, tt)
why_stands net journal (OverRelease z) m (Sems Claim l ∷ Sems Granted g ∷ x ∷ Unfit a n u ∷ rest) rows fits stand =
    (subst (λ k. k < length net.sems) fits.0 (puts_in_range net a u rows stand.1.1.1.0.1.0), told_over net journal z m n a u fits.0 fits.1 stand.1.1.1.0)
why_stands net journal (OverRelease z) m rest rows fits stand = absurd fits

-- FAULT DRAWN
pub fault_allowed : {S : Type 0} {part : S → List Part} (net : NetRows) (limit slots id : ℕ) (me : Seated S) (why : Why) → MayFault net why me.0 → Allows (KeepsAccounts part net limit) slots id me 8 (λ n. (n + 1) % 2 ^ 64) (λ n m. (m.0 ≡ with_fault_drawn why n me.0) × (m.1 ≡ me.1))
fault_allowed {S} {part} net limit slots id me why may s h _ at small = from me.0 may at
  where
    from : (v : List Note) → MayFault net why v → get_elem? s.views id ≡ some v
        → (u : List Note) × (z : Act _) × Valid s.homes me.1 z × KeepsAccounts part net limit (stepped s 8 ((slice_index s.words 8 + 1) % 2 ^ 64) id me.1 u z) × ((u ≡ with_fault_drawn why (slice_index s.words 8) v) × (carried_after me.1 z ≡ me.1))
    from (Duty (Open m t) ∷ Has Live ∷ Sems Both b ∷ Sems Credit c ∷ Sems Credited d ∷ rest) may at =
        let fits = why_stands net h.journal why m rest h.fits.rows may.0 (h.views id _ at).stand.1.1.1.1.1 in
        done net limit s id 8 _ me _ _ refl (fault_drawn net limit s h id m t why b d me.1 rest fits.0 fits.1 may.2 may.3 (at ∙ ap (λ l. some (Duty (Open m t) ∷ Has Live ∷ Sems Both b ∷ Sems Credit l ∷ Sems Credited d ∷ rest)) may.1))
    from v may at = absurd may

-- HALT MARK
pub mark_allowed : {S : Type 0} {part : S → List Part} (net : NetRows) (limit slots id : ℕ) (me : Seated S) → MayMark me.0 → Allows (KeepsAccounts part net limit) slots id me 32 (λ n. 1) (λ n m. (m.0 ≡ marked me.0) × (m.1 ≡ me.1))
mark_allowed {S} {part} net limit slots id me may s h _ at small = from me.0 may at
  where
    from : (v : List Note) → MayMark v → get_elem? s.views id ≡ some v
        → (u : List Note) × (z : Act _) × Valid s.homes me.1 z × KeepsAccounts part net limit (stepped s 32 1 id me.1 u z) × ((u ≡ marked v) × (carried_after me.1 z ≡ me.1))
    from (Duty (Owes []) ∷ Has Live ∷ Has ToMark ∷ rest) may at = done net limit s id 32 _ me _ _ refl (mark_set net limit s h id me.1 rest may at)
    from v may at = absurd may

-- DROP DRAWN
pub drop_allowed : {S : Type 0} {part : S → List Part} (net : NetRows) (limit slots id : ℕ) (me : Seated S) → MayDrop me.0 → Allows (KeepsAccounts part net limit) slots id me 8 (λ n. (n + 1) % 2 ^ 64) (λ n m. (m.0 ≡ dropped n me.0) × (m.1 ≡ me.1))
drop_allowed {S} {part} net limit slots id me may s h _ at small = from me.0 may at
  where
    from : (v : List Note) → MayDrop v → get_elem? s.views id ≡ some v
        → (u : List Note) × (z : Act _) × Valid s.homes me.1 z × KeepsAccounts part net limit (stepped s 8 ((slice_index s.words 8 + 1) % 2 ^ 64) id me.1 u z) × ((u ≡ dropped (slice_index s.words 8) v) × (carried_after me.1 z ≡ me.1))
    from (Duty (Collecting t cause taken []) ∷ Has Over ∷ Sems Held [] ∷ rest) may at =
        let stand = (h.views id _ at).stand.0 in let ps = first_parts taken rest in let more = after_lots taken rest in
        let all : taken ≡ edges_of net t cause = sym (append-nil taken) ∙ stand.1 in
        done net limit s id 8 _ me _ _ refl
        (limit_drawn net limit s h id t cause ps me.1 more stand.0 (parts_length taken rest may.0 ∙ ap length all) (omega (arith, may.1, after_weigh resting taken rest may.0))
        (at ∙ ap (λ v. some (Duty (Collecting t cause taken []) ∷ Has Over ∷ Sems Held [] ∷ v)) (first_found taken rest may.0) ∙ ap (λ es. some (Duty (Collecting t cause es []) ∷ Has Over ∷ Sems Held [] ∷ found_lots es ps ++ more)) all))
    from (Duty (Collecting t cause taken []) ∷ Has Live ∷ Has Halted ∷ Sems Held [] ∷ rest) may at =
        let stand = (h.views id _ at).stand.0 in let ps = first_parts taken rest in let more = after_lots taken rest in
        let all : taken ≡ edges_of net t cause = sym (append-nil taken) ∙ stand.1 in
        done net limit s id 8 _ me _ _ refl
        (halted_drawn net limit s h id t cause ps me.1 more stand.0 (parts_length taken rest may.0 ∙ ap length all) (omega (arith, may.1, after_weigh resting taken rest may.0))
        (at ∙ ap (λ v. some (Duty (Collecting t cause taken []) ∷ Has Live ∷ Has Halted ∷ Sems Held [] ∷ v)) (first_found taken rest may.0) ∙ ap (λ es. some (Duty (Collecting t cause es []) ∷ Has Live ∷ Has Halted ∷ Sems Held [] ∷ found_lots es ps ++ more)) all))
    from v may at = absurd may
