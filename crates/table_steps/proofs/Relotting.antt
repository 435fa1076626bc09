-- A lot that a seat has, found in its view.
use Rattle.std.proofs.Common.{◌≡◌, ℕ, zero, suc, ◌≤◌, true, eqb, List, [], ◌∷◌, ◌++◌, refl, sym, ap, ◌∙◌, subst, ◌+◌, arith}
use Rattle.std.specs.Prelude.{◌==◌}
use Rattle.std.proofs.lemmas.Bool.Decides.{nat_tests}
use Rattle.journal_rules.specs.declared.entry.Part.{Part}
use Rattle.table_steps.specs.Giving.{one_if}
use Rattle.table_steps.specs.declared.view.Lot.{Lot}
use Rattle.table_steps.specs.declared.view.Lot.TheVariants.{Ours, Putting, Put, Awaited, Taking, Fetched, Found}
use Rattle.table_steps.specs.declared.view.Note.{Note}
use Rattle.table_steps.specs.declared.view.Note.TheVariants.{Duty, Sems, Has, Unfit, Lies, Queued}
use Rattle.table_steps.proofs.Homing.{duty_lot}
use Rattle.table_steps.specs.inside.Slots.{SlotCoord, lot, lot_weight, slot_weight, slot_weigh, part_in, pick, relot, unlot}
use Rattle.atomic_table.specs.Table.{rest}
use Rattle.table_steps.specs.inside.SlotKinds.{pick_part, lot_part, HoldsSlot}
use Rattle.table_steps.proofs.Counting.{is_one}
use Rattle.task_graph.specs.NetRows.{NetRows}
use Rattle.journal_rules.specs.declared.entry.Entry.{Entry}
use Rattle.table_steps.specs.inside.Accounts.{Coord, weigh, AllStand}
use Rattle.table_steps.proofs.Totals.{weigh_append}
use Rattle.table_steps.proofs.Views.{stand_left, stand_both}
use Rattle.table_steps.proofs.Lots.{slot_append}
use Rattle.table_steps.proofs.SlotViews.{lies_none}

-- what counts as a lot of this kind is one
lot_is : (j k : Lot) (n : ℕ) → 1 ≤ lot_weight j k n → j ≡ k
lot_is Ours Ours n h = refl
lot_is Ours Putting n h = absurd (omega arith)
lot_is Ours Put n h = absurd (omega arith)
lot_is Ours Awaited n h = absurd (omega arith)
lot_is Ours Taking n h = absurd (omega arith)
lot_is Ours Fetched n h = absurd (omega arith)
lot_is Ours Found n h = absurd (omega arith)
lot_is Putting Ours n h = absurd (omega arith)
lot_is Putting Putting n h = refl
lot_is Putting Put n h = absurd (omega arith)
lot_is Putting Awaited n h = absurd (omega arith)
lot_is Putting Taking n h = absurd (omega arith)
lot_is Putting Fetched n h = absurd (omega arith)
lot_is Putting Found n h = absurd (omega arith)
lot_is Put Ours n h = absurd (omega arith)
lot_is Put Putting n h = absurd (omega arith)
lot_is Put Put n h = refl
lot_is Put Awaited n h = absurd (omega arith)
lot_is Put Taking n h = absurd (omega arith)
lot_is Put Fetched n h = absurd (omega arith)
lot_is Put Found n h = absurd (omega arith)
lot_is Awaited Ours n h = absurd (omega arith)
lot_is Awaited Putting n h = absurd (omega arith)
lot_is Awaited Put n h = absurd (omega arith)
lot_is Awaited Awaited n h = refl
lot_is Awaited Taking n h = absurd (omega arith)
lot_is Awaited Fetched n h = absurd (omega arith)
lot_is Awaited Found n h = absurd (omega arith)
lot_is Taking Ours n h = absurd (omega arith)
lot_is Taking Putting n h = absurd (omega arith)
lot_is Taking Put n h = absurd (omega arith)
lot_is Taking Awaited n h = absurd (omega arith)
lot_is Taking Taking n h = refl
lot_is Taking Fetched n h = absurd (omega arith)
lot_is Taking Found n h = absurd (omega arith)
lot_is Fetched Ours n h = absurd (omega arith)
lot_is Fetched Putting n h = absurd (omega arith)
lot_is Fetched Put n h = absurd (omega arith)
lot_is Fetched Awaited n h = absurd (omega arith)
lot_is Fetched Taking n h = absurd (omega arith)
lot_is Fetched Fetched n h = refl
lot_is Fetched Found n h = absurd (omega arith)
lot_is Found Ours n h = absurd (omega arith)
lot_is Found Putting n h = absurd (omega arith)
lot_is Found Put n h = absurd (omega arith)
lot_is Found Awaited n h = absurd (omega arith)
lot_is Found Taking n h = absurd (omega arith)
lot_is Found Fetched n h = absurd (omega arith)
lot_is Found Found n h = refl

lot_some : (j k : Lot) (n : ℕ) → 1 ≤ lot_weight j k n → 1 ≤ n
lot_some j k zero h = absurd (omega (arith, h, lot_zero j k))
  where
    lot_zero : (i l : Lot) → lot_weight i l 0 ≡ 0
    lot_zero Ours Ours = refl
    lot_zero Ours Putting = refl
    lot_zero Ours Put = refl
    lot_zero Ours Awaited = refl
    lot_zero Ours Taking = refl
    lot_zero Ours Fetched = refl
    lot_zero Ours Found = refl
    lot_zero Putting Ours = refl
    lot_zero Putting Putting = refl
    lot_zero Putting Put = refl
    lot_zero Putting Awaited = refl
    lot_zero Putting Taking = refl
    lot_zero Putting Fetched = refl
    lot_zero Putting Found = refl
    lot_zero Put Ours = refl
    lot_zero Put Putting = refl
    lot_zero Put Put = refl
    lot_zero Put Awaited = refl
    lot_zero Put Taking = refl
    lot_zero Put Fetched = refl
    lot_zero Put Found = refl
    lot_zero Awaited Ours = refl
    lot_zero Awaited Putting = refl
    lot_zero Awaited Put = refl
    lot_zero Awaited Awaited = refl
    lot_zero Awaited Taking = refl
    lot_zero Awaited Fetched = refl
    lot_zero Awaited Found = refl
    lot_zero Taking Ours = refl
    lot_zero Taking Putting = refl
    lot_zero Taking Put = refl
    lot_zero Taking Awaited = refl
    lot_zero Taking Taking = refl
    lot_zero Taking Fetched = refl
    lot_zero Taking Found = refl
    lot_zero Fetched Ours = refl
    lot_zero Fetched Putting = refl
    lot_zero Fetched Put = refl
    lot_zero Fetched Awaited = refl
    lot_zero Fetched Taking = refl
    lot_zero Fetched Fetched = refl
    lot_zero Fetched Found = refl
    lot_zero Found Ours = refl
    lot_zero Found Putting = refl
    lot_zero Found Put = refl
    lot_zero Found Awaited = refl
    lot_zero Found Taking = refl
    lot_zero Found Fetched = refl
    lot_zero Found Found = refl
lot_some j k (suc n) h = omega arith

-- where a view has a lot
pub record HasLot (j : Lot) (f : ℕ) (v : List Note) : Type 0 where
  pub front : List Note
  pub part : Part
  pub rest : List Note
  pub is : v ≡ front ++ Lies j f part ∷ rest
  pub after : (k : Lot) (g : Part → Part) → relot j k g f v ≡ front ++ Lies k f (g part) ∷ rest
  pub gone : unlot j f v ≡ front ++ rest
  pub tells : lot_part j f v ≡ part

pub has_lot : (j : Lot) (f : ℕ) (v : List Note) → 1 ≤ slot_weigh (lot j f) v → HasLot j f v
has_lot j f [] h = absurd (omega arith)
has_lot j f (x ∷ xs) h = by_weight (slot_weight (lot j f) x) refl (λ k. has_lot j f xs k)
  where
    here : (y : Note) (n : ℕ) → slot_weight (lot j f) y ≡ suc n → HasLot j f (y ∷ xs)
    here (Lies k e p) n is =
        let kind : j ≡ k = lot_is j k (one_if (e == f)) (omega (arith, is)) in
        let hit : eqb e f ≡ true = is_one (eqb e f) (lot_some j k (one_if (e == f)) (omega (arith, is))) in
        let same : e ≡ f = grind (arith, nat_tests) in record {
          front = [];
          part = p;
          rest = xs;
          is = λ i. Lies (sym kind i) (same i) p ∷ xs;
          after = λ l g. ap (λ m. pick m (Lies k e p ∷ relot j l g f xs) (Lies l f (g p) ∷ xs)) is;
          gone = ap (λ m. pick m (Lies k e p ∷ unlot j f xs) xs) is;
          tells = ap (λ m. pick_part m (lot_part j f xs) p) is;
        }
    here (Duty y) n is = absurd (omega (arith, is, duty_lot j f y))
    here (Sems k l) n is = absurd (omega (arith, is))
    here (Has m) n is = absurd (omega (arith, is))
    here (Unfit s m t) n is = absurd (omega (arith, is))
    here (Queued q qs) n is = absurd (omega (arith, is))

    by_weight : (m : ℕ) → slot_weight (lot j f) x ≡ m → (1 ≤ slot_weigh (lot j f) xs → HasLot j f xs) → HasLot j f (x ∷ xs)
    by_weight zero is deeper = let r = deeper (omega (arith, h, is)) in record {
      front = x ∷ r.front;
      part = r.part;
      rest = r.rest;
      is = ap (λ l. x ∷ l) r.is;
      after = λ k g. ap (λ m. pick m (x ∷ relot j k g f xs) (Lies k f (g (part_in x)) ∷ xs)) is ∙ ap (λ l. x ∷ l) (r.after k g);
      gone = ap (λ m. pick m (x ∷ unlot j f xs) xs) is ∙ ap (λ l. x ∷ l) r.gone;
      tells = ap (λ m. pick_part m (lot_part j f xs) (part_in x)) is ∙ r.tells;
    }
    by_weight (suc n) is deeper = here x n is

-- what is left where it becomes one of another kind, or is used up
pub relot_slots : (c : SlotCoord) (j k : Lot) (g : Part → Part) (f : ℕ) (v : List Note) (r : HasLot j f v) → slot_weigh c (relot j k g f v) + slot_weigh c (Lies j f r.part ∷ []) ≡ slot_weigh c v + slot_weigh c (Lies k f (g r.part) ∷ [])
relot_slots c j k g f v r = omega (arith, ap (slot_weigh c) r.is, ap (slot_weigh c) (r.after k g), slot_append c r.front (Lies j f r.part ∷ r.rest), slot_append c r.front (Lies k f (g r.part) ∷ r.rest))

pub unlot_slots : (c : SlotCoord) (j : Lot) (f : ℕ) (v : List Note) (r : HasLot j f v) → slot_weigh c (unlot j f v) + slot_weigh c (Lies j f r.part ∷ []) ≡ slot_weigh c v
unlot_slots c j f v r = omega (arith, ap (slot_weigh c) r.is, ap (slot_weigh c) r.gone, slot_append c r.front (Lies j f r.part ∷ r.rest), slot_append c r.front r.rest)

pub relot_weigh : (c : Coord) (j k : Lot) (g : Part → Part) (f : ℕ) (v : List Note) → HasLot j f v → weigh c (relot j k g f v) ≡ weigh c v
relot_weigh c j k g f v r = omega (arith, ap (weigh c) r.is, ap (weigh c) (r.after k g), weigh_append c r.front (Lies j f r.part ∷ r.rest), weigh_append c r.front (Lies k f (g r.part) ∷ r.rest), lies_none c j f r.part, lies_none c k f (g r.part))

pub unlot_weigh : (c : Coord) (j : Lot) (f : ℕ) (v : List Note) → HasLot j f v → weigh c (unlot j f v) ≡ weigh c v
unlot_weigh c j f v r = omega (arith, ap (weigh c) r.is, ap (weigh c) r.gone, weigh_append c r.front (Lies j f r.part ∷ r.rest), weigh_append c r.front r.rest, lies_none c j f r.part)

pub relot_stand : (net : NetRows) (journal : List Entry) (j k : Lot) (g : Part → Part) (f : ℕ) (v : List Note) → HasLot j f v → AllStand net journal v → AllStand net journal (relot j k g f v)
relot_stand net journal j k g f v r stand = let parts = stand_left net journal r.front (Lies j f r.part ∷ r.rest) (subst (λ u. AllStand net journal u) r.is stand) in
    subst (λ u. AllStand net journal u) (sym (r.after k g)) (stand_both net journal r.front (Lies k f (g r.part) ∷ r.rest) parts.0 (tt, parts.1.1))

pub unlot_stand : (net : NetRows) (journal : List Entry) (j : Lot) (f : ℕ) (v : List Note) → HasLot j f v → AllStand net journal v → AllStand net journal (unlot j f v)
unlot_stand net journal j f v r stand = let parts = stand_left net journal r.front (Lies j f r.part ∷ r.rest) (subst (λ u. AllStand net journal u) r.is stand) in
    subst (λ u. AllStand net journal u) (sym r.gone) (stand_both net journal r.front r.rest parts.0 parts.1.1)

lot_self : (j : Lot) (n : ℕ) → lot_weight j j n ≡ n
lot_self Ours n = refl
lot_self Putting n = refl
lot_self Put n = refl
lot_self Awaited n = refl
lot_self Taking n = refl
lot_self Fetched n = refl
lot_self Found n = refl

pub self_weight : (j : Lot) (f : ℕ) (p : Part) → slot_weight (lot j f) (Lies j f p) ≡ 1
self_weight j f p = let hit : eqb f f ≡ true = grind (arith, nat_tests) in lot_self j (one_if (f == f)) ∙ ap one_if hit

-- a lot that becomes one of another kind, and then one of a third, where there was none of the second
pub relot_twice : (i j k : Lot) (g h : Part → Part) (f : ℕ) (v : List Note) → slot_weigh (lot j f) v ≡ 0 → relot j k h f (relot i j g f v) ≡ relot i k (λ p. h (g p)) f v
relot_twice i j k g h f [] none = refl
relot_twice i j k g h f (x ∷ xs) none = by_weight (slot_weight (lot i f) x) (omega (arith, none)) (relot_twice i j k g h f xs (omega (arith, none)))
  where
    by_weight : (m : ℕ) → slot_weight (lot j f) x ≡ 0 → relot j k h f (relot i j g f xs) ≡ relot i k (λ p. h (g p)) f xs → relot j k h f (pick m (x ∷ relot i j g f xs) (Lies j f (g (part_in x)) ∷ xs)) ≡ pick m (x ∷ relot i k (λ p. h (g p)) f xs) (Lies k f (h (g (part_in x))) ∷ xs)
    by_weight zero zero_is more = ap (λ w. pick w (x ∷ relot j k h f (relot i j g f xs)) (Lies k f (h (part_in x)) ∷ relot i j g f xs)) zero_is ∙ ap (λ l. x ∷ l) more
    by_weight (suc m) zero_is more = ap (λ w. pick w (Lies j f (g (part_in x)) ∷ relot j k h f xs) (Lies k f (h (g (part_in x))) ∷ xs)) (self_weight j f (g (part_in x)))

-- or is used up then
pub unlot_relot : (i j : Lot) (g : Part → Part) (f : ℕ) (v : List Note) → slot_weigh (lot j f) v ≡ 0 → unlot j f (relot i j g f v) ≡ unlot i f v
unlot_relot i j g f [] none = refl
unlot_relot i j g f (x ∷ xs) none = by_weight (slot_weight (lot i f) x) (omega (arith, none)) (unlot_relot i j g f xs (omega (arith, none)))
  where
    by_weight : (m : ℕ) → slot_weight (lot j f) x ≡ 0 → unlot j f (relot i j g f xs) ≡ unlot i f xs → unlot j f (pick m (x ∷ relot i j g f xs) (Lies j f (g (part_in x)) ∷ xs)) ≡ pick m (x ∷ unlot i f xs) xs
    by_weight zero zero_is more = ap (λ w. pick w (x ∷ unlot j f (relot i j g f xs)) (relot i j g f xs)) zero_is ∙ ap (λ l. x ∷ l) more
    by_weight (suc m) zero_is more = ap (λ w. pick w (Lies j f (g (part_in x)) ∷ unlot j f xs) xs) (self_weight j f (g (part_in x)))

-- then there is one of that kind, and its part is known
pub relot_there : (i j : Lot) (g : Part → Part) (f : ℕ) (v : List Note) → HasLot i f v → slot_weigh (lot j f) v ≡ 0 → lot_weight j i 1 ≡ 0 → 1 ≤ slot_weigh (lot j f) (relot i j g f v)
relot_there i j g f v r none apart =
    let one : slot_weigh (lot j f) (Lies j f (g r.part) ∷ []) ≡ 1 = omega (arith, self_weight j f (g r.part)) in
    let hit : eqb f f ≡ true = grind (arith, nat_tests) in
    let gone : slot_weigh (lot j f) (Lies i f r.part ∷ []) ≡ 0 = omega (arith, ap (λ b. lot_weight j i (one_if b)) hit, apart) in
    omega (arith, relot_slots (lot j f) i j g f v r, one, gone)

pub relot_part : (i j : Lot) (g : Part → Part) (f : ℕ) (v : List Note) → slot_weigh (lot j f) v ≡ 0 → 1 ≤ slot_weigh (lot i f) v → lot_part j f (relot i j g f v) ≡ g (lot_part i f v)
relot_part i j g f [] none some_there = absurd (omega arith)
relot_part i j g f (x ∷ xs) none some_there = by_weight (slot_weight (lot i f) x) refl (omega (arith, none)) (λ there. relot_part i j g f xs (omega (arith, none)) there)
  where
    by_weight : (m : ℕ) → slot_weight (lot i f) x ≡ m → slot_weight (lot j f) x ≡ 0 → (1 ≤ slot_weigh (lot i f) xs → lot_part j f (relot i j g f xs) ≡ g (lot_part i f xs)) → lot_part j f (pick m (x ∷ relot i j g f xs) (Lies j f (g (part_in x)) ∷ xs)) ≡ g (pick_part m (lot_part i f xs) (part_in x))
    by_weight zero is zero_is more = ap (λ w. pick_part w (lot_part j f (relot i j g f xs)) (part_in x)) zero_is ∙ more (omega (arith, some_there, is))
    by_weight (suc m) is zero_is more = ap (λ w. pick_part w (lot_part j f xs) (g (part_in x))) (self_weight j f (g (part_in x)))

-- what lies in the slot that a seat holds
pub in_slot : {S : Type 0} (f : ℕ) (l : List (ℕ × S)) → HoldsSlot f l → (x : S) × (l ≡ (f, x) ∷ rest l)
in_slot f ((k, x) ∷ more) is = (x, λ i. (is i, x) ∷ more)
in_slot f [] is = absurd is
