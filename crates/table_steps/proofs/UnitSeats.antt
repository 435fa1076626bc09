-- What the steps on unit words ask is met.
use Rattle.std.proofs.Common.{◌≡◌, ◌⊎◌, inl, inr, ℕ, ◌+◌, ◌-◌, ◌%◌, ◌^◌, ◌<◌, ◌≤◌, true, false, List, [], ◌∷◌, ◌++◌, length, refl, sym, ap, ◌∙◌, arith}
use Rattle.std.specs.Prelude.{slice_index, nat_lt}
use Rattle.std.proofs.lemmas.Bool.Decides.{nat_tests}
use Rattle.std.proofs.lemmas.Bool.{cases_lt}
use mathlib.Core.Option.{some}
use lib.ListN.{get_elem?}
use Rattle.atomic_table.specs.Table.{Act, keeps, Valid, carried_after, stepped, Allows}
use Rattle.task_graph.specs.NetRows.{NetRows}
use Rattle.journal_rules.specs.SemaphoreRule.{max_of}
use Rattle.journal_rules.specs.declared.entry.Part.{Part}
use Rattle.table_steps.specs.Giving.{times}
use Rattle.table_steps.specs.Holding.{without}
use Rattle.table_steps.specs.declared.view.TurnDuty.{TurnDuty}
use Rattle.table_steps.specs.declared.view.TurnDuty.TheVariants.{Collecting, Owes}
use Rattle.table_steps.specs.declared.view.SemaphoreRole.TheVariants.{Held, Undo, Owed, Both, Credit, Credited, Claim, Granted, Refusing, Denied, Full}
use Rattle.table_steps.specs.declared.view.SeatMark.TheVariants.{Live, Over, Halted}
use Rattle.table_steps.specs.declared.view.Note.{Note}
use Rattle.table_steps.specs.declared.view.Note.TheVariants.{Duty, Sems, Has, Unfit, Lies, Queued}
use Rattle.table_steps.specs.inside.Accounts.{sem, mark, resting, weight, weigh, total, AllStand, reading, KeepsAccounts}
use Rattle.table_steps.specs.inside.UnitKinds.{held_notes, MayTake, after_unit, took_unit, MayUndo, undone, MayPut, put_back, MayReturn, returned}
use Rattle.table_steps.proofs.StartDuties.{one_self}
use Rattle.table_steps.proofs.Totals.{weigh_append}
use Rattle.table_steps.proofs.Views.{at_most, times_short, stand_left, stand_both}
use Rattle.table_steps.proofs.SlotViews.{slots_append}
use Rattle.table_steps.proofs.Stepping.{St, Seated, own_lone, still_step, done}
use Rattle.table_steps.proofs.UnitSteps.{total_less, lowered}
use Rattle.table_steps.proofs.UnitReads.{unit_at, unit_read, unit_more, unit_less}
use Rattle.table_steps.proofs.UnitAccounts.{take_kept, refuse_kept, undo_kept, put_kept, return_kept, without_fewer, held_weigh}

-- takes to be undone are no more than live turns
undo_lives : (s : ℕ) (x : Note) → weight (sem Undo s) x ≤ weight (mark Live) x
undo_lives s (Duty i) = omega arith
undo_lives s (Sems Held l) = omega arith
undo_lives s (Sems Undo l) = omega (arith, times_short s l)
undo_lives s (Sems Owed l) = omega arith
undo_lives s (Sems Both l) = omega arith
undo_lives s (Sems Credit l) = omega arith
undo_lives s (Sems Credited l) = omega arith
undo_lives s (Sems Claim l) = omega arith
undo_lives s (Sems Granted l) = omega arith
undo_lives s (Sems Refusing l) = omega arith
undo_lives s (Sems Denied l) = omega arith
undo_lives s (Sems Full l) = omega arith
undo_lives s (Has m) = omega arith
undo_lives s (Unfit z n t) = omega arith
undo_lives s (Lies k e p) = omega arith
undo_lives s (Queued q qs) = omega arith

-- a unit word is far below what a word holds
unit_small : {S : Type 0} {part : S → List Part} (net : NetRows) (limit : ℕ) (s : St S) (h : KeepsAccounts part net limit s) (a : ℕ) → a < length net.sems → slice_index s.words (40 + a) ≤ 1152921504606846976 + 4294967296
unit_small net limit s h a below = let u = h.balanced.by_units a below in
    omega (arith, u.tells, u.within, unit_at net s.words a below, h.fits.maxima a, h.few, total_less (sem Undo a) (mark Live) (undo_lives a) s.views)

-- and not below the units that a seat has
unit_there : {S : Type 0} {part : S → List Part} (net : NetRows) (limit : ℕ) (s : St S) (h : KeepsAccounts part net limit s) (a : ℕ) → a < length net.sems → total (sem Held a) s.views + total (sem Owed a) s.views + total (sem Undo a) s.views ≤ slice_index s.words (40 + a)
unit_there net limit s h a below = omega (arith, (h.balanced.by_units a below).tells, (h.balanced.by_credits a below).backed, unit_at net s.words a below)

-- a unit taken
take_got : {S : Type 0} {part : S → List Part} (net : NetRows) (limit : ℕ) (s : St S) (h : KeepsAccounts part net limit s) (id a k : ℕ) (carried : List (ℕ × S)) (x : TurnDuty) (l : List ℕ) (rest : List Note) → a < length net.sems → weigh resting rest ≡ 0 → get_elem? s.views id ≡ some (Duty x ∷ Has Live ∷ held_notes l ++ rest)
    → k ≡ slice_index s.words (40 + a) + 1 → slice_index s.words (40 + a) < max_of net a → KeepsAccounts part net limit (stepped s (40 + a) k id carried (Duty x ∷ Has Live ∷ Sems Held (a ∷ l) ∷ rest) keeps)
take_got net limit s h id a k carried x l rest below lone at sum room =
    let old = Duty x ∷ Has Live ∷ held_notes l in let new = Duty x ∷ Has Live ∷ Sems Held (a ∷ l) ∷ [] in
    still_step net limit s h id (40 + a) k carried old new rest _ at refl (λ e b z. omega (arith, below))
    (own_lone net h.journal (λ c. total c s.views) old new rest ((h.views id _ at).stand.0, (tt, (tt, tt))) (omega arith) (omega arith) (omega (arith, lone))) (omega (arith, held_weigh (mark Live) l))
    (unit_read net s.words a k below)
    refl (λ moved. take_kept net limit (reading net s.words) h.counted h.journal (λ c. total c s.views) _ _ a l h.balanced (unit_more net s.words a k below (omega (arith, h.size, below)) sum) (omega (arith, room, unit_at net s.words a below)) (λ c. omega (arith, moved c, held_weigh c l)))

-- none found
take_lost : {S : Type 0} {part : S → List Part} (net : NetRows) (limit : ℕ) (s : St S) (h : KeepsAccounts part net limit s) (id a k : ℕ) (carried : List (ℕ × S)) (x : TurnDuty) (l : List ℕ) (rest : List Note) → a < length net.sems → weigh resting (held_notes l ++ rest) ≡ 0 → get_elem? s.views id ≡ some (Duty x ∷ Has Live ∷ held_notes l ++ rest)
    → k ≡ slice_index s.words (40 + a) + 1 → KeepsAccounts part net limit (stepped s (40 + a) k id carried (Duty x ∷ Sems Undo (a ∷ []) ∷ held_notes l ++ rest) keeps)
take_lost net limit s h id a k carried x l rest below lone at sum =
    let old = Duty x ∷ Has Live ∷ [] in let new = Duty x ∷ Sems Undo (a ∷ []) ∷ [] in
    still_step net limit s h id (40 + a) k carried old new (held_notes l ++ rest) _ at refl (λ e b z. omega (arith, below))
    (own_lone net h.journal (λ c. total c s.views) old new (held_notes l ++ rest) ((h.views id _ at).stand.0, (tt, tt)) (omega arith) (omega arith) (omega (arith, lone))) (omega arith)
    (unit_read net s.words a k below)
    refl (λ moved. refuse_kept net limit (reading net s.words) h.counted h.journal (λ c. total c s.views) _ _ a h.balanced (unit_more net s.words a k below (omega (arith, h.size, below)) sum) (λ c. omega (arith, moved c)))

pub take_allowed : {S : Type 0} {part : S → List Part} (net : NetRows) (limit slots id : ℕ) (me : Seated S) (a : ℕ) → MayTake net a me.0
    → Allows (KeepsAccounts part net limit) slots id me (40 + a) (λ n. (n + 1) % 2 ^ 64) (λ n m. (m.0 ≡ took_unit net a n me.0) × (m.1 ≡ me.1))
take_allowed {S} {part} net limit slots id me a may s h _ at small = from me.0 may at
  where
    n : ℕ
    n = slice_index s.words (40 + a)

    by_room : (x : TurnDuty) (l : List ℕ) (rest : List Note) → a < length net.sems → weigh resting rest ≡ 0 → weigh resting (held_notes l ++ rest) ≡ 0 → get_elem? s.views id ≡ some (Duty x ∷ Has Live ∷ held_notes l ++ rest) → (n < max_of net a) ⊎ (max_of net a ≤ n)
        → (u : List Note) × (z : Act _) × Valid s.homes me.1 z × KeepsAccounts part net limit (stepped s (40 + a) ((n + 1) % 18446744073709551616) id me.1 u z) × ((u ≡ after_unit (nat_lt n (max_of net a)) a x l ++ rest) × (carried_after me.1 z ≡ me.1))
    by_room x l rest below lone both at (inl room) =
        let is : nat_lt n (max_of net a) ≡ true = grind (arith, nat_tests) in let sum : (n + 1) % 18446744073709551616 ≡ n + 1 = omega (arith, unit_small net limit s h a below) in
        done net limit s id (40 + a) _ me _ _ (ap (λ b. after_unit b a x l ++ rest) (sym is)) (take_got net limit s h id a _ me.1 x l rest below lone at sum room)
    by_room x l rest below lone both at (inr full) =
        let is : nat_lt n (max_of net a) ≡ false = grind (arith, nat_tests) in let sum : (n + 1) % 18446744073709551616 ≡ n + 1 = omega (arith, unit_small net limit s h a below) in
        done net limit s id (40 + a) _ me _ _ (ap (λ b. after_unit b a x l ++ rest) (sym is)) (take_lost net limit s h id a _ me.1 x l rest below both at sum)

    from : (v : List Note) → MayTake net a v → get_elem? s.views id ≡ some v
        → (u : List Note) × (z : Act _) × Valid s.homes me.1 z × KeepsAccounts part net limit (stepped s (40 + a) ((slice_index s.words (40 + a) + 1) % 2 ^ 64) id me.1 u z) × ((u ≡ took_unit net a (slice_index s.words (40 + a)) v) × (carried_after me.1 z ≡ me.1))
    from (Duty (Collecting t cause taken left) ∷ Has Live ∷ Sems Held l ∷ rest) may at = by_room (Collecting t cause taken left) l rest may.0 (omega (arith, may.1)) (omega (arith, may.1)) at (cases_lt n (max_of net a))
    from v may at = absurd may

-- a take undone
pub undo_allowed : {S : Type 0} {part : S → List Part} (net : NetRows) (limit slots id : ℕ) (me : Seated S) (a : ℕ) → MayUndo net a me.0
    → Allows (KeepsAccounts part net limit) slots id me (40 + a) (λ n. (n + (2 ^ 64 - 1)) % 2 ^ 64) (λ n m. (m.0 ≡ undone me.0) × (m.1 ≡ me.1))
undo_allowed {S} {part} net limit slots id me a may s h _ at small = from me.0 may at
  where
    from : (v : List Note) → MayUndo net a v → get_elem? s.views id ≡ some v
        → (u : List Note) × (z : Act _) × Valid s.homes me.1 z × KeepsAccounts part net limit (stepped s (40 + a) ((slice_index s.words (40 + a) + 18446744073709551615) % 2 ^ 64) id me.1 u z) × ((u ≡ undone v) × (carried_after me.1 z ≡ me.1))
    from (Duty x ∷ Sems Undo (b ∷ []) ∷ rest) may at =
        let old = Duty x ∷ Sems Undo (a ∷ []) ∷ [] in let new = Duty x ∷ Has Live ∷ [] in
        let at_a : get_elem? s.views id ≡ some (Duty x ∷ Sems Undo (a ∷ []) ∷ rest) = at ∙ ap (λ k. some (Duty x ∷ Sems Undo (k ∷ []) ∷ rest)) may.0 in
        let there : 1 ≤ slice_index s.words (40 + a) = omega (arith, unit_there net limit s h a may.1, at_most (sem Undo a) s.views id _ at_a, one_self a) in
        let less = lowered (slice_index s.words (40 + a)) 0 there small in
        done net limit s id (40 + a) _ me (new ++ rest) _ refl
        (still_step net limit s h id (40 + a) _ me.1 old new rest _ at_a refl (λ e b z. omega (arith, may.1))
        (own_lone net h.journal (λ c. total c s.views) old new rest ((h.views id _ at).stand.0, (tt, tt)) (omega arith) (omega arith) (omega (arith, may.2))) (omega arith)
        (unit_read net s.words a _ may.1)
        refl (λ moved. undo_kept net limit (reading net s.words) h.counted h.journal (λ c. total c s.views) _ _ a h.balanced (unit_less net s.words a _ may.1 (omega (arith, h.size, may.1)) less) (λ c. omega (arith, moved c))))
    from v may at = absurd may

-- a unit back, after these notes
put_at : {S : Type 0} {part : S → List Part} (net : NetRows) (limit : ℕ) (s : St S) (h : KeepsAccounts part net limit s) (id a k : ℕ) (carried : List (ℕ × S)) (front : List Note) (l : List ℕ) (rest : List Note) → a < length net.sems → 1 ≤ times a l → 1 ≤ weigh (mark Live) front → weigh resting front ≡ 0 → weigh resting rest ≡ 0
    → get_elem? s.views id ≡ some ((front ++ Sems Held l ∷ []) ++ rest) → k + 1 ≡ slice_index s.words (40 + a) → KeepsAccounts part net limit (stepped s (40 + a) k id carried ((front ++ held_notes (without a l)) ++ rest) keeps)
put_at net limit s h id a k carried front l rest below there lives none lone at less =
    let m = without a l in let old = front ++ Sems Held l ∷ [] in let new = front ++ held_notes m in
    let stand = stand_left net h.journal front (Sems Held l ∷ []) (stand_left net h.journal old rest (h.views id _ at).stand).0 in
    still_step net limit s h id (40 + a) k carried old new rest _ at (slots_append front (held_notes m) ∙ sym (slots_append front (Sems Held l ∷ []))) (λ e b z. omega (arith, below))
    (own_lone net h.journal (λ c. total c s.views) old new rest (stand_both net h.journal front (held_notes m) stand.0 (units_stand m))
    (omega (arith, lives, weigh_append (mark Live) old rest, weigh_append (mark Live) front (Sems Held l ∷ [])))
    (omega (arith, lives, weigh_append (mark Live) new rest, weigh_append (mark Live) front (held_notes m)))
    (omega (arith, none, lone, weigh_append resting new rest, weigh_append resting front (held_notes m), held_weigh resting m)))
    (omega (arith, weigh_append (mark Live) front (Sems Held l ∷ []), weigh_append (mark Live) front (held_notes m), held_weigh (mark Live) m))
    (unit_read net s.words a k below)
    refl (λ moved. put_kept net limit (reading net s.words) h.counted h.journal (λ c. total c s.views) _ _ a l m h.balanced (unit_less net s.words a k below (omega (arith, h.size, below)) less) (without_fewer a l there)
    (λ c. omega (arith, moved c, weigh_append c front (Sems Held l ∷ []), weigh_append c front (held_notes m), held_weigh c m)))
  where
    units_stand : (m : List ℕ) → AllStand net h.journal (held_notes m)
    units_stand m = (tt, tt)

-- a seat that holds a unit finds one
put_there : {S : Type 0} {part : S → List Part} (net : NetRows) (limit : ℕ) (s : St S) (h : KeepsAccounts part net limit s) (id a : ℕ) (front : List Note) (l : List ℕ) (rest : List Note) → a < length net.sems → 1 ≤ times a l → get_elem? s.views id ≡ some ((front ++ Sems Held l ∷ []) ++ rest) → slice_index s.words (40 + a) < 18446744073709551616
    → (slice_index s.words (40 + a) + 18446744073709551615) % 18446744073709551616 + 1 ≡ slice_index s.words (40 + a)
put_there net limit s h id a front l rest below there at small =
    lowered (slice_index s.words (40 + a)) 0 (omega (arith, unit_there net limit s h a below, at_most (sem Held a) s.views id _ at, weigh_append (sem Held a) (front ++ Sems Held l ∷ []) rest, weigh_append (sem Held a) front (Sems Held l ∷ []), there)) small

pub put_allowed : {S : Type 0} {part : S → List Part} (net : NetRows) (limit slots id : ℕ) (me : Seated S) (a : ℕ) → MayPut net a me.0
    → Allows (KeepsAccounts part net limit) slots id me (40 + a) (λ n. (n + (2 ^ 64 - 1)) % 2 ^ 64) (λ n m. (m.0 ≡ put_back a me.0) × (m.1 ≡ me.1))
put_allowed {S} {part} net limit slots id me a may s h _ at small = from me.0 may at
  where
    from : (v : List Note) → MayPut net a v → get_elem? s.views id ≡ some v
        → (u : List Note) × (z : Act _) × Valid s.homes me.1 z × KeepsAccounts part net limit (stepped s (40 + a) ((slice_index s.words (40 + a) + 18446744073709551615) % 2 ^ 64) id me.1 u z) × ((u ≡ put_back a v) × (carried_after me.1 z ≡ me.1))
    from (Duty x ∷ Has Over ∷ Sems Held l ∷ rest) may at = let front = Duty x ∷ Has Over ∷ [] in
        done net limit s id (40 + a) _ me ((front ++ held_notes (without a l)) ++ rest) _ refl (put_at net limit s h id a _ me.1 front l rest may.1 may.0 (omega arith) refl may.2 at (put_there net limit s h id a front l rest may.1 may.0 at small))
    from (Duty x ∷ Has Live ∷ Has Halted ∷ Sems Held l ∷ rest) may at = let front = Duty x ∷ Has Live ∷ Has Halted ∷ [] in
        done net limit s id (40 + a) _ me ((front ++ held_notes (without a l)) ++ rest) _ refl (put_at net limit s h id a _ me.1 front l rest may.1 may.0 (omega arith) refl may.2 at (put_there net limit s h id a front l rest may.1 may.0 at small))
    from (Duty x ∷ Has Live ∷ Sems Held l ∷ rest) may at = let front = Duty x ∷ Has Live ∷ [] in
        done net limit s id (40 + a) _ me ((front ++ held_notes (without a l)) ++ rest) _ refl (put_at net limit s h id a _ me.1 front l rest may.1 may.0 (omega arith) refl may.2 at (put_there net limit s h id a front l rest may.1 may.0 at small))
    from v may at = absurd may

-- and after the End
pub return_allowed : {S : Type 0} {part : S → List Part} (net : NetRows) (limit slots id : ℕ) (me : Seated S) (a : ℕ) → MayReturn net a me.0
    → Allows (KeepsAccounts part net limit) slots id me (40 + a) (λ n. (n + (2 ^ 64 - 1)) % 2 ^ 64) (λ n m. (m.0 ≡ returned a me.0) × (m.1 ≡ me.1))
return_allowed {S} {part} net limit slots id me a may s h _ at small = from me.0 may at
  where
    from : (v : List Note) → MayReturn net a v → get_elem? s.views id ≡ some v
        → (u : List Note) × (z : Act _) × Valid s.homes me.1 z × KeepsAccounts part net limit (stepped s (40 + a) ((slice_index s.words (40 + a) + 18446744073709551615) % 2 ^ 64) id me.1 u z) × ((u ≡ returned a v) × (carried_after me.1 z ≡ me.1))
    from (Duty (Owes gives) ∷ Has Live ∷ Sems Owed l ∷ rest) may at =
        let m = without a l in let old = Duty (Owes gives) ∷ Has Live ∷ Sems Owed l ∷ [] in let new = Duty (Owes gives) ∷ Has Live ∷ Sems Owed m ∷ [] in
        let there : 1 ≤ slice_index s.words (40 + a) = omega (arith, unit_there net limit s h a may.1, at_most (sem Owed a) s.views id _ at, may.0) in
        let less = lowered (slice_index s.words (40 + a)) 0 there small in
        done net limit s id (40 + a) _ me (new ++ rest) _ refl
        (still_step net limit s h id (40 + a) _ me.1 old new rest _ at refl (λ e b z. omega (arith, may.1))
        (own_lone net h.journal (λ c. total c s.views) old new rest ((h.views id _ at).stand.0, (tt, (tt, tt))) (omega arith) (omega arith) (omega (arith, may.2))) (omega arith)
        (unit_read net s.words a _ may.1)
        refl (λ moved. return_kept net limit (reading net s.words) h.counted h.journal (λ c. total c s.views) _ _ a l m h.balanced (unit_less net s.words a _ may.1 (omega (arith, h.size, may.1)) less) (without_fewer a l may.0) (λ c. omega (arith, moved c))))
    from v may at = absurd may
