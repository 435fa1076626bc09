-- What the steps of a rest ask is met, and splits and joins.
use Rattle.std.proofs.Common.{◌≡◌, ◌≢◌, ◌⊎◌, inl, inr, ℕ, zero, suc, ◌+◌, ◌<◌, ◌≤◌, List, [], ◌∷◌, ◌++◌, length, set, refl, sym, ap, ◌∙◌, subst, arith}
use Rattle.std.specs.Prelude.{slice_index}
use mathlib.Core.Option.{some}
use lib.ListN.{get_elem?}
use Rattle.atomic_table.specs.Table.{keeps, stepped}
use Rattle.task_graph.specs.NetRows.{NetRows}
use Rattle.journal_rules.specs.declared.entry.Entry.{Entry}
use Rattle.journal_rules.specs.Counts.{faults}
use Rattle.journal_rules.specs.SemaphoreRule.{taken, back, max_of}
use Rattle.journal_rules.specs.declared.entry.Part.{Part}
use Rattle.table_steps.specs.declared.view.SemaphoreRole.TheVariants.{Full}
use Rattle.table_steps.specs.declared.view.SeatMark.TheVariants.{Live, Quiet}
use Rattle.table_steps.specs.declared.view.Note.{Note}
use Rattle.table_steps.specs.inside.Accounts.{Coord, sem, mark, busy, resting, telling, weigh, total, AllStand, Balanced, ViewPart, reading, KeepsAccounts}
use Rattle.table_steps.proofs.Totals.{weigh_append}
use Rattle.table_steps.proofs.Stepping.{St, own_lone, still_step}
use Rattle.std.proofs.lemmas.Bool.{cases_eq}
use Rattle.atomic_table.specs.Table.{Splits, Joins}
use Rattle.atomic_table.proofs.Lists.{set_else}
use mathlib.Core.Option.{some-injective, some-ne-none}
use Rattle.table_steps.proofs.Totals.{total_set, total_push}
use Rattle.table_steps.proofs.Views.{two_views, stand_left, stand_both, get_set, quiet_rests, full_rests_too}
use Rattle.table_steps.proofs.Marking.{alike_kept, RestMarks, marks_none}
use Rattle.table_steps.proofs.MarkSteps.{reads_same}
use Rattle.table_steps.specs.inside.Slots.{SlotCoord, lot, slot_weigh, slot_total}
use Rattle.table_steps.specs.inside.Accounts.{marks_from}
use Rattle.table_steps.proofs.Lots.{slot_append}
use Rattle.table_steps.proofs.LotSteps.{slots_alike}
use Rattle.table_steps.proofs.SlotViews.{slots_same}
use Rattle.table_steps.proofs.Homing.{slot_total_set, slot_total_push, rest_slots, homes_alike}

-- a load of which nothing is learned
pub nothing_done : {S : Type 0} {part : S → List Part} (net : NetRows) (limit : ℕ) (s : St S) (h : KeepsAccounts part net limit s) (id i : ℕ) (carried : List (ℕ × S)) (rest : List Note) → weigh resting rest ≡ 0 → 1 ≤ weigh (mark Live) rest → i < length s.words → ((e : ℕ) → e < length net.edges → i ≢ marks_from net + e) → get_elem? s.views id ≡ some rest → KeepsAccounts part net limit (stepped s i (slice_index s.words i) id carried rest keeps)
nothing_done net limit s h id i carried rest lone lives below apart at =
    still_step net limit s h id i _ carried [] [] rest (reading net s.words) at refl apart (own_lone net h.journal (λ c. total c s.views) [] [] rest tt lives lives lone) (omega arith) (ap (reading net) (reads_same net s.words i below))
    refl (λ moved. alike_kept net limit (reading net s.words) h.counted h.journal (λ c. total c s.views) _ h.balanced (λ c a. omega (arith, moved c)))

pushed : {X : Type 0} (xs : List X) (x : X) (i : ℕ) (y : X) → get_elem? (xs ++ x ∷ []) i ≡ some y → (get_elem? xs i ≡ some y) ⊎ (x ≡ y)
pushed [] x zero y h = inr (some-injective x y h)
pushed [] x (suc i) y h = absurd (some-ne-none y (sym h))
pushed (z ∷ zs) x zero y h = inl h
pushed (z ∷ zs) x (suc i) y h = pushed zs x i y h

-- a seat's notes are dealt to two seats
pub split_allowed : {S : Type 0} {part : S → List Part} (net : NetRows) (limit id : ℕ) (v marks left right : List Note) → v ≡ marks ++ (right ++ left) → RestMarks marks → weigh resting left ≡ 0 → weigh resting right ≡ 0 → (weigh (mark Live) left ≡ 0 → weigh busy left ≡ 0) → (weigh (mark Live) right ≡ 0 → weigh busy right ≡ 0) → (id ≢ 0 → weigh (mark Live) left ≡ 0 → weigh telling left ≡ 0) → (weigh (mark Live) right ≡ 0 → weigh telling right ≡ 0) → Splits (KeepsAccounts part net limit) id v left right
split_allowed net limit id v marks left right is forgets none_left none_right covered_left covered_right told_left told_right s h at = record {
  fits = h.fits;
  size = h.size;
  journal = h.journal;
  counted = h.counted;
  balanced = alike_kept net limit (reading net s.words) h.counted h.journal (λ c. total c s.views) _ h.balanced (λ c a. omega (arith, same c, marks_none c a marks forgets));
  few = omega (arith, h.few, same (mark Live), marks_none (mark Live) tt marks forgets);
  few_drops = h.few_drops;
  views = each;
  homes = homes_alike net s.words s.homes s.views (set s.views id left ++ right ∷ []) h.homes (λ j e. same_slots (lot j e));
  slots = slots_alike net h.journal _ _ _ _ h.slots same_slots;
}
  where
    same : (c : Coord) → total c (set s.views id left ++ right ∷ []) + weigh c marks ≡ total c s.views
    same c = omega (arith, total_push c (set s.views id left) right, total_set c s.views id v left at, ap (weigh c) is, weigh_append c marks (right ++ left), weigh_append c right left)

    same_slots : (c : SlotCoord) → slot_total c (set s.views id left ++ right ∷ []) ≡ slot_total c s.views
    same_slots c = omega (arith, slot_total_push c (set s.views id left) right, slot_total_set c s.views id v left at, ap (slot_weigh c) is, slot_append c marks (right ++ left), slot_append c right left, slots_same [] marks (rest_slots marks forgets) c)

    parts : AllStand net h.journal right × AllStand net h.journal left
    parts = stand_left net h.journal right left (stand_left net h.journal marks (right ++ left) (subst (λ u. AllStand net h.journal u) is (h.views id v at).stand)).1

    lone_part : (k : ℕ) (w : List Note) → AllStand net h.journal w → (weigh (mark Live) w ≡ 0 → weigh busy w ≡ 0) → (k ≢ 0 → weigh (mark Live) w ≡ 0 → weigh telling w ≡ 0) → weigh resting w ≡ 0 → ViewPart net h.journal (λ c. total c (set s.views id left ++ right ∷ [])) k w
    lone_part k w stand covered telling_all none = record {
      stand = stand;
      covered = covered;
      told = telling_all;
      alone = λ more. absurd (more none);
      quiet = λ more. absurd (more (omega (arith, none, quiet_rests w)));
      full = λ z more. absurd (more (omega (arith, none, full_rests_too z w)));
    }

    other_part : (k : ℕ) (w : List Note) → ViewPart net h.journal (λ c. total c s.views) k w → ViewPart net h.journal (λ c. total c (set s.views id left ++ right ∷ [])) k w
    other_part k w p = record { stand = p.stand; covered = p.covered; told = p.told; alone = λ more. omega (arith, same (mark Live), marks_none (mark Live) tt marks forgets, p.alone more); quiet = p.quiet; full = p.full }

    set_part : (other : ℕ) (w : List Note) → get_elem? (set s.views id left) other ≡ some w → (other ≡ id) ⊎ (other ≢ id) → ViewPart net h.journal (λ c. total c (set s.views id left ++ right ∷ [])) other w
    set_part other w at_w (inl eq) =
        let is_w : left ≡ w = some-injective left w (sym (get_set s.views id left v at) ∙ sym (ap (get_elem? (set s.views id left)) eq) ∙ at_w) in
        subst (λ u. ViewPart net h.journal (λ c. total c (set s.views id left ++ right ∷ [])) other u) is_w (lone_part other left parts.1 covered_left (λ far. told_left (λ z. far (eq ∙ z))) none_left)
    set_part other w at_w (inr apart) = other_part other w (h.views other w (sym (set_else s.views id other left apart) ∙ at_w))

    each : (other : ℕ) (w : List Note) → get_elem? (set s.views id left ++ right ∷ []) other ≡ some w → ViewPart net h.journal (λ c. total c (set s.views id left ++ right ∷ [])) other w
    each other w at_w = by_end (pushed (set s.views id left) right other w at_w)
      where
        by_end : (get_elem? (set s.views id left) other ≡ some w) ⊎ (right ≡ w) → ViewPart net h.journal (λ c. total c (set s.views id left ++ right ∷ [])) other w
        by_end (inl there) = set_part other w there (cases_eq other id)
        by_end (inr is_w) = subst (λ u. ViewPart net h.journal (λ c. total c (set s.views id left ++ right ∷ [])) other u) is_w (lone_part other right parts.0 covered_right (λ far. told_right) none_right)

-- a seat takes in another's notes, in any order of all of them
pub join_as : {S : Type 0} {part : S → List Part} (net : NetRows) (limit id : ℕ) (v : List Note) (other : ℕ) (w both : List Note) → ((c : Coord) → weigh c both ≡ weigh c w + weigh c v) → ((c : SlotCoord) → slot_weigh c both ≡ slot_weigh c w + slot_weigh c v)
    → ((journal : List Entry) → AllStand net journal w → AllStand net journal v → AllStand net journal both) → (id ≢ 0 → 1 ≤ weigh (mark Live) v) → Joins (KeepsAccounts part net limit) id v other w both []
join_as net limit id v other w both sums slot_sums stands lives s h at apart at_other = record {
  fits = h.fits;
  size = h.size;
  journal = h.journal;
  counted = h.counted;
  balanced = subst (λ (f : Coord → ℕ). Balanced net limit (reading net s.words) h.counted h.journal f) (λ i c. sym (same c) i) h.balanced;
  few = omega (arith, h.few, same (mark Live));
  few_drops = h.few_drops;
  views = λ k u at_u. by_two k u at_u (cases_eq k other) (cases_eq k id);
  homes = homes_alike net s.words s.homes s.views (set (set s.views id both) other []) h.homes (λ j e. same_slots (lot j e));
  slots = slots_alike net h.journal _ _ _ _ h.slots same_slots;
}
  where
    same : (c : Coord) → total c (set (set s.views id both) other []) ≡ total c s.views
    same c = omega (arith, total_set c (set s.views id both) other w [] at_other, total_set c s.views id v both at, sums c)

    same_slots : (c : SlotCoord) → slot_total c (set (set s.views id both) other []) ≡ slot_total c s.views
    same_slots c = omega (arith, slot_total_set c (set s.views id both) other w [] at_other, slot_total_set c s.views id v both at, slot_sums c)

    at_w : get_elem? s.views other ≡ some w
    at_w = sym (set_else s.views id other both apart) ∙ at_other

    either : (a b c : ℕ) → c ≡ a + b → c ≢ 0 → (a ≢ 0) ⊎ (b ≢ 0)
    either zero b c is more = inr (λ z. more (omega (arith, is, z)))
    either (suc a) b c is more = inl (λ z. omega arith)

    together : weigh (mark Live) v + weigh (mark Live) w ≤ total (mark Live) s.views
    together = two_views (mark Live) s.views id other v w at at_w apart

    joined : (k : ℕ) → k ≡ id → ViewPart net h.journal (λ c. total c (set (set s.views id both) other [])) k both
    joined k eq = let p = h.views id v at in let q = h.views other w at_w in record {
      stand = stands h.journal q.stand p.stand;
      covered = λ none. omega (arith, sums busy, p.covered (omega (arith, none, sums (mark Live))), q.covered (omega (arith, none, sums (mark Live))));
      told = λ far none. absurd (omega (arith, none, sums (mark Live), lives (λ z. far (eq ∙ z))));
      alone = λ more. alone_by p q (either (weigh resting w) (weigh resting v) (weigh resting both) (sums resting) more);
      quiet = λ more. quiet_by p q (either (weigh (mark Quiet) w) (weigh (mark Quiet) v) (weigh (mark Quiet) both) (sums (mark Quiet)) more);
      full = λ z more. full_by z p q (either (weigh (sem Full z) w) (weigh (sem Full z) v) (weigh (sem Full z) both) (sums (sem Full z)) more);
    }
      where
        alone_by : ViewPart net h.journal (λ c. total c s.views) id v → ViewPart net h.journal (λ c. total c s.views) other w → (weigh resting w ≢ 0) ⊎ (weigh resting v ≢ 0) → total (mark Live) (set (set s.views id both) other []) ≡ weigh (mark Live) both
        alone_by p q (inl more) = omega (arith, same (mark Live), q.alone more, together, sums (mark Live))
        alone_by p q (inr more) = omega (arith, same (mark Live), p.alone more, together, sums (mark Live))

        quiet_by : ViewPart net h.journal (λ c. total c s.views) id v → ViewPart net h.journal (λ c. total c s.views) other w → (weigh (mark Quiet) w ≢ 0) ⊎ (weigh (mark Quiet) v ≢ 0) → faults h.journal ≡ 0
        quiet_by p q (inl more) = q.quiet more
        quiet_by p q (inr more) = p.quiet more

        full_by : (z : ℕ) → ViewPart net h.journal (λ c. total c s.views) id v → ViewPart net h.journal (λ c. total c s.views) other w → (weigh (sem Full z) w ≢ 0) ⊎ (weigh (sem Full z) v ≢ 0) → back net z h.journal + max_of net z ≤ taken net z h.journal
        full_by z p q (inl more) = q.full z more
        full_by z p q (inr more) = p.full z more

    by_two : (k : ℕ) (u : List Note) → get_elem? (set (set s.views id both) other []) k ≡ some u → (k ≡ other) ⊎ (k ≢ other) → (k ≡ id) ⊎ (k ≢ id) → ViewPart net h.journal (λ c. total c (set (set s.views id both) other [])) k u
    by_two k u at_u (inl eq) any =
        let is_u : [] ≡ u = some-injective [] u (sym (get_set (set s.views id both) other [] w at_other) ∙ sym (ap (get_elem? (set (set s.views id both) other [])) eq) ∙ at_u) in
        subst (λ r. ViewPart net h.journal (λ c. total c (set (set s.views id both) other [])) k r) is_u
        (record { stand = tt; covered = λ z. refl; told = λ far z. refl; alone = λ more. absurd (more refl); quiet = λ more. absurd (more refl); full = λ z more. absurd (more refl) })
    by_two k u at_u (inr far) (inl eq) =
        let at_set : get_elem? (set s.views id both) k ≡ some u = sym (set_else (set s.views id both) other k [] far) ∙ at_u in
        let is_u : both ≡ u = some-injective both u (sym (get_set s.views id both v at) ∙ sym (ap (get_elem? (set s.views id both)) eq) ∙ at_set) in
        subst (λ r. ViewPart net h.journal (λ c. total c (set (set s.views id both) other [])) k r) is_u (joined k eq)
    by_two k u at_u (inr far) (inr off) =
        let p = h.views k u (sym (set_else s.views id k both off) ∙ sym (set_else (set s.views id both) other k [] far) ∙ at_u) in
        record { stand = p.stand; covered = p.covered; told = p.told; alone = λ more. same (mark Live) ∙ p.alone more; quiet = p.quiet; full = p.full }

-- that seat's first
pub join_allowed : {S : Type 0} {part : S → List Part} (net : NetRows) (limit id : ℕ) (v : List Note) (other : ℕ) (w : List Note) → (id ≢ 0 → 1 ≤ weigh (mark Live) v) → Joins (KeepsAccounts part net limit) id v other w (w ++ v) []
join_allowed net limit id v other w lives = join_as net limit id v other w (w ++ v) (λ c. weigh_append c w v) (λ c. slot_append c w v) (λ journal. stand_both net journal w v) lives
