-- The account of slots after each step on a slot, at the table.
use Rattle.std.proofs.Common.{◌≡◌, ℕ, ◌+◌, ◌<◌, Bool, true, false, cond, List, [], ◌∷◌, ◌++◌, ◌≤◌, length, set, refl, sym, ap, ◌∙◌, arith}
use Rattle.std.specs.Prelude.{◌==◌}
use mathlib.Core.Option.{none, some}
use lib.ListN.{get_elem?}
use Rattle.task_graph.specs.NetRows.{NetRows}
use Rattle.journal_rules.specs.OnceNets.{IsOnceNet}
use Rattle.journal_rules.specs.declared.entry.Part.{Part}
use Rattle.journal_rules.specs.declared.entry.Part.TheVariants.{From, Nothing}
use Rattle.journal_rules.specs.declared.entry.Entry.{Entry}
use Rattle.table_steps.specs.declared.view.Lot.{Lot}
use Rattle.table_steps.specs.declared.view.Lot.TheVariants.{Ours, Putting, Put, Awaited, Taking, Fetched}
use Rattle.table_steps.specs.declared.view.Note.{Note}
use Rattle.table_steps.specs.declared.view.Note.TheVariants.{Duty, Sems, Has, Unfit, Lies, Queued}
use Rattle.journal_rules.proofs.OnceGiven.{given_once}
use Rattle.table_steps.specs.inside.Accounts.{reading, KeepsAccounts}
use Rattle.table_steps.specs.inside.Parcels.{part_times}
use Rattle.table_steps.specs.inside.SlotKinds.{oldest, later}
use Rattle.table_steps.specs.inside.Slots.{SlotCoord, lot, queue, slot_weigh, slot_total, SlotMoves, holders, SlotPart, relot}
use Rattle.table_steps.specs.inside.SlotMarks.{label_in, label_of}
use Rattle.table_steps.proofs.Slots.{lay, data_alike}
use Rattle.table_steps.proofs.SlotViews.{duty_queue}
use Rattle.table_steps.proofs.Bounds.{few_given}
use Rattle.table_steps.proofs.SlotMarks.{label_set}
use Rattle.table_steps.proofs.Stepping.{St}
use Rattle.table_steps.proofs.Lots.{slot_append}
use Rattle.table_steps.proofs.LotSteps.{put_taken, put_left, put_back, take_taken, take_left, take_back}
use Rattle.table_steps.proofs.Homing.{slot_total_set}
use Rattle.table_steps.proofs.Relotting.{HasLot, relot_slots}
use Rattle.table_steps.proofs.SlotBounds.{slot_bounds}

-- what a seat exchanges whose lot becomes one of another kind
lot_moves : (views : List (List Note)) (id f : ℕ) (j k : Lot) (g : Part → Part) (p q : Part) (v : List Note) (r : HasLot j f v) → r.part ≡ p → g r.part ≡ q → get_elem? views id ≡ some v
    → SlotMoves (λ c. slot_total c views) (Lies j f p ∷ []) (λ c. slot_total c (set views id (relot j k g f v))) (Lies k f q ∷ [])
lot_moves views id f j k g p q v r is becomes at c =
    omega (
      arith,
      slot_total_set c views id v (relot j k g f v) at,
      ap (slot_weigh c) r.is,
      ap (slot_weigh c) (r.after k g),
      slot_append c r.front (Lies j f r.part ∷ r.rest),
      slot_append c r.front (Lies k f (g r.part) ∷ r.rest),
      ap (λ z. slot_weigh c (Lies j f z ∷ [])) is,
      ap (λ z. slot_weigh c (Lies k f z ∷ [])) becomes,
    )

-- labels that are the same
relabel : (net : NetRows) (journal : List Entry) (edge : ℕ → ℕ) (T : SlotCoord → ℕ) (label label' : ℕ → List Part) → SlotPart net journal edge T label → ((e : ℕ) → label' e ≡ label e) → SlotPart net journal edge T label'
relabel net journal edge T label label' d same = record {
  parts = data_alike net journal edge _ _ _ _ _ _ _ _ d.parts (λ e p. refl) (λ e p. omega (arith, ap (part_times p) (same e))) (λ e. refl) (λ e. refl);
  owing = d.owing;
  reached = d.reached;
  found = d.found;
  held = d.held;
  few = λ e. omega (arith, d.few e, ap length (same e));
}

-- what a seat exchanges that takes a slot
queue_moves : (views : List (List Note)) (id f : ℕ) (j k : Lot) (qs rs : List Part) (v : List Note) (r : HasLot j f v) → qs ≡ rs → get_elem? views id ≡ some v
    → SlotMoves (λ c. slot_total c views) (Lies j f r.part ∷ []) (λ c. slot_total c (set views id (Queued f qs ∷ relot j k (λ p. p) f v))) (Queued f rs ∷ Lies k f r.part ∷ [])
queue_moves views id f j k qs rs v r same at c =
    omega (arith, slot_total_set c views id v (Queued f qs ∷ relot j k (λ p. p) f v) at, relot_slots c j k (λ p. p) f v r, ap (λ l. slot_weigh c (Queued f l ∷ [])) same)

-- and that gives it back
back_moves : (views : List (List Note)) (id f : ℕ) (j k : Lot) (g : Part → Part) (p : Part) (qs : List Part) (v : List Note) (r : HasLot j f v) → r.part ≡ p → get_elem? views id ≡ some (Queued f qs ∷ v)
    → SlotMoves (λ c. slot_total c views) (Queued f qs ∷ Lies j f p ∷ []) (λ c. slot_total c (set views id (relot j k g f v))) (Lies k f (g p) ∷ [])
back_moves views id f j k g p qs v r is at c =
    omega (arith, slot_total_set c views id (Queued f qs ∷ v) (relot j k g f v) at, relot_slots c j k g f v r, ap (λ z. slot_weigh c (Lies j f z ∷ [])) is, ap (λ z. slot_weigh c (Lies k f (g z) ∷ [])) is)

-- where no seat holds a slot, none knows what lay there
none_queued : (e : ℕ) (p : Part) (v : List Note) → slot_weigh (queue (λ qs. 1) e) v ≡ 0 → slot_weigh (queue (part_times p) e) v ≡ 0
none_queued e p [] zero_there = refl
none_queued e p (Duty x ∷ xs) zero_there = omega (arith, duty_queue (part_times p) e x, none_queued e p xs (omega (arith, zero_there)))
none_queued e p (Sems k l ∷ xs) zero_there = omega (arith, none_queued e p xs (omega (arith, zero_there)))
none_queued e p (Has m ∷ xs) zero_there = omega (arith, none_queued e p xs (omega (arith, zero_there)))
none_queued e p (Unfit s n t ∷ xs) zero_there = omega (arith, none_queued e p xs (omega (arith, zero_there)))
none_queued e p (Lies k f q ∷ xs) zero_there = omega (arith, none_queued e p xs (omega (arith, zero_there)))
none_queued e p (Queued f qs ∷ xs) zero_there = omega (arith, by_bit (f == e) (omega (arith, zero_there)), none_queued e p xs (omega (arith, zero_there)))
  where
    by_bit : (b : Bool) → ◌≡◌ {A = ℕ} (cond b 1 0) 0 → cond b (part_times p qs) 0 ≡ 0
    by_bit true h = absurd (omega (arith, h))
    by_bit false h = refl

all_queued : (e : ℕ) (p : Part) (vs : List (List Note)) → slot_total (queue (λ qs. 1) e) vs ≡ 0 → slot_total (queue (part_times p) e) vs ≡ 0
all_queued e p [] zero_there = refl
all_queued e p (v ∷ vs) zero_there = omega (arith, none_queued e p v (omega (arith, zero_there)), all_queued e p vs (omega (arith, zero_there)))

-- SLOT TAKEN, to put a parcel there
pub put_taken_kept : {S : Type 0} (net : NetRows) (limit : ℕ) (part : S → List Part) (s : St S) (h : KeepsAccounts part net limit s) (id f : ℕ) (y : S) (v : List Note) → HasLot Ours f v → get_elem? s.views id ≡ some v → get_elem? s.homes f ≡ some (some y) → f < length s.homes
    → SlotPart net h.journal ((reading net s.words).edge) (λ c. slot_total c s.views) (label_of part s.homes)
    → SlotPart net h.journal ((reading net s.words).edge) (λ c. slot_total c (set s.views id (Queued f (part y) ∷ relot Ours Putting (λ p. p) f v))) (label_of part (set s.homes f none))
put_taken_kept net limit part s h id f y v r at home below d =
    relabel net h.journal _ _ _ (label_of part (set s.homes f none)) (put_taken net h.journal _ _ _ (label_of part s.homes) f r.part d (queue_moves s.views id f Ours Putting (part y) (label_of part s.homes f) v r (sym (ap (label_in part) home)) at)) (label_set part s.homes f none below)

-- or to take one
pub take_taken_kept : {S : Type 0} (net : NetRows) (limit : ℕ) (part : S → List Part) (s : St S) (h : KeepsAccounts part net limit s) (id f : ℕ) (y : S) (v : List Note) → HasLot Awaited f v → get_elem? s.views id ≡ some v → get_elem? s.homes f ≡ some (some y) → f < length s.homes
    → SlotPart net h.journal ((reading net s.words).edge) (λ c. slot_total c s.views) (label_of part s.homes)
    → SlotPart net h.journal ((reading net s.words).edge) (λ c. slot_total c (set s.views id (Queued f (part y) ∷ relot Awaited Taking (λ p. p) f v))) (label_of part (set s.homes f none))
take_taken_kept net limit part s h id f y v r at home below d =
    relabel net h.journal _ _ _ (label_of part (set s.homes f none)) (take_taken net h.journal _ _ _ (label_of part s.homes) f r.part d (queue_moves s.views id f Awaited Taking (part y) (label_of part s.homes f) v r (sym (ap (label_in part) home)) at)) (label_set part s.homes f none below)

-- and so few parcels lie there that one more has room
pub few_lie : {S : Type 0} (net : NetRows) (limit : ℕ) (part : S → List Part) (s : St S) (h : KeepsAccounts part net limit s) (f : ℕ) (y : S) → get_elem? s.homes f ≡ some (some y) → length (part y) + 1 < 9223372036854775808
few_lie net limit part s h f y home = omega (arith, h.slots.few f, few_given net limit s h f, ap length (ap (label_in part) home))

-- and none before the one token that an edge is given
pub none_lie : {S : Type 0} (net : NetRows) (limit : ℕ) (part : S → List Part) (s : St S) (h : KeepsAccounts part net limit s) (id f : ℕ) (y : S) (v : List Note) → IsOnceNet net → 1 ≤ slot_weigh (lot Ours f) v → get_elem? s.views id ≡ some v → get_elem? s.homes f ≡ some (some y) → part y ≡ []
none_lie net limit part s h id f y v once ours at home =
    let label : label_of part s.homes f ≡ part y = ap (label_in part) home in
    no_length (part y) (omega (arith, h.slots.few f, given_once net limit h.journal once h.balanced.by_journal.legal f, slot_total_set (lot Ours f) s.views id v [] at, ours, ap length label))
  where
    no_length : (xs : List Part) → length xs ≡ 0 → xs ≡ []
    no_length [] empty = refl
    no_length (x ∷ xs) empty = absurd (omega (arith, empty))

-- A turn GIVES UP: its parcel is left away
pub put_left_kept : {S : Type 0} (net : NetRows) (limit : ℕ) (part : S → List Part) (s : St S) (h : KeepsAccounts part net limit s) (id f n : ℕ) (v : List Note) (r : HasLot Ours f v) → r.part ≡ From n → get_elem? s.views id ≡ some v → holders (λ c. slot_total c s.views) f ≡ 1
    → SlotPart net h.journal ((reading net s.words).edge) (λ c. slot_total c s.views) (label_of part s.homes)
    → SlotPart net h.journal ((reading net s.words).edge) (λ c. slot_total c (set s.views id (relot Ours Put (λ p. p) f v))) (label_of part s.homes)
put_left_kept net limit part s h id f n v r is at held d =
    put_left net h.journal _ _ _ (label_of part s.homes) f n d (slot_bounds net limit s h) held (lot_moves s.views id f Ours Put (λ p. p) (From n) (From n) v r is is at)

-- or nothing is found
pub take_left_kept : {S : Type 0} (net : NetRows) (limit : ℕ) (part : S → List Part) (s : St S) (h : KeepsAccounts part net limit s) (id f : ℕ) (v : List Note) (r : HasLot Awaited f v) → get_elem? s.views id ≡ some v → holders (λ c. slot_total c s.views) f ≡ 1
    → SlotPart net h.journal ((reading net s.words).edge) (λ c. slot_total c s.views) (label_of part s.homes)
    → SlotPart net h.journal ((reading net s.words).edge) (λ c. slot_total c (set s.views id (relot Awaited Fetched (λ p. Nothing) f v))) (label_of part s.homes)
take_left_kept net limit part s h id f v r at held d =
    take_left net h.journal _ _ _ (label_of part s.homes) f r.part d (slot_bounds net limit s h) held (lot_moves s.views id f Awaited Fetched (λ p. Nothing) r.part Nothing v r refl refl at)

-- SLOT GIVEN BACK, with a parcel behind the others
pub put_back_kept : {S : Type 0} (net : NetRows) (limit : ℕ) (part : S → List Part) (s : St S) (h : KeepsAccounts part net limit s) (id f n : ℕ) (y : S) (qs : List Part) (v : List Note) (r : HasLot Putting f v) → r.part ≡ From n → part y ≡ qs ++ From n ∷ [] → get_elem? s.views id ≡ some (Queued f qs ∷ v) → get_elem? s.homes f ≡ some none → f < length s.homes
    → SlotPart net h.journal ((reading net s.words).edge) (λ c. slot_total c s.views) (label_of part s.homes)
    → SlotPart net h.journal ((reading net s.words).edge) (λ c. slot_total c (set s.views id (relot Putting Put (λ p. p) f v))) (label_of part (set s.homes f (some y)))
put_back_kept net limit part s h id f n y qs v r is lies at out below d =
    relabel net h.journal _ _ _ (label_of part (set s.homes f (some y)))
    (put_back net h.journal _ _ _ (label_of part s.homes) f n qs d (ap (label_in part) out) (back_moves s.views id f Putting Put (λ p. p) (From n) qs v r is at))
    (λ e. label_set part s.homes f (some y) below e ∙ ap (λ l. lay (label_of part s.homes) f l e) lies)

-- or without the oldest of them
pub take_back_kept : {S : Type 0} (net : NetRows) (limit : ℕ) (part : S → List Part) (s : St S) (h : KeepsAccounts part net limit s) (id f : ℕ) (y : S) (qs : List Part) (v : List Note) (r : HasLot Taking f v) → part y ≡ later qs → get_elem? s.views id ≡ some (Queued f qs ∷ v) → get_elem? s.homes f ≡ some none → f < length s.homes → holders (λ c. slot_total c s.views) f ≡ 1
    → SlotPart net h.journal ((reading net s.words).edge) (λ c. slot_total c s.views) (label_of part s.homes)
    → SlotPart net h.journal ((reading net s.words).edge) (λ c. slot_total c (set s.views id (relot Taking Fetched (λ p. oldest qs) f v))) (label_of part (set s.homes f (some y)))
take_back_kept net limit part s h id f y qs v r lies at out below held d =
    relabel net h.journal _ _ _ (label_of part (set s.homes f (some y)))
    (take_back net h.journal _ _ _ (label_of part s.homes) f r.part qs d (slot_bounds net limit s h) (ap (label_in part) out) held (λ zero_there q. all_queued f q (set s.views id (relot Taking Fetched (λ p. oldest qs) f v)) zero_there)
    (back_moves s.views id f Taking Fetched (λ p. oldest qs) r.part qs v r refl at))
    (λ e. label_set part s.homes f (some y) below e ∙ ap (λ l. lay (label_of part s.homes) f l e) lies)
