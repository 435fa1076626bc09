-- What the steps on slots ask is met.
use Rattle.std.proofs.Common.{◌≡◌, ◌≢◌, ◌⊎◌, inl, inr, ℕ, zero, suc, ◌+◌, ◌<◌, Bool, true, false, eqb, List, [], ◌∷◌, ◌++◌, length, set, refl, sym, ap, ◌∙◌, subst, arith, length-set, get_or-set_same}
use Rattle.std.specs.Prelude.{◌==◌}
use Rattle.std.proofs.lemmas.Bool.Decides.{nat_tests}
use Rattle.std.proofs.lemmas.Bool.{cases_eq, false≢true}
use Rattle.std.proofs.lemmas.List.{append-nil}
use mathlib.Core.Option.{Option, none, some, some-ne-none}
use lib.ListN.{get_elem?}
use Rattle.atomic_table.specs.Table.{Act, keeps, takes, gives, Valid, carried_after, homes_after, rest, stepped, Allows}
use Rattle.task_graph.specs.NetRows.{NetRows}
use Rattle.journal_rules.specs.OnceNets.{IsOnceNet}
use Rattle.journal_rules.specs.declared.entry.Part.{Part}
use Rattle.journal_rules.specs.declared.entry.Part.TheVariants.{From, Nothing}
use Rattle.journal_rules.specs.declared.entry.Entry.{Entry}
use Rattle.table_steps.specs.Giving.{one_if}
use Rattle.table_steps.specs.declared.view.Lot.{Lot}
use Rattle.table_steps.specs.declared.view.Lot.TheVariants.{Ours, Putting, Put, Awaited, Taking, Fetched}
use Rattle.table_steps.specs.declared.view.SeatMark.TheVariants.{Live}
use Rattle.table_steps.specs.declared.view.Note.{Note}
use Rattle.table_steps.specs.declared.view.Note.TheVariants.{Duty, Sems, Has, Unfit, Lies, Queued}
use Rattle.table_steps.specs.inside.Accounts.{Coord, duty, sem, mark, busy, resting, turning, owing, telling, weight, weigh, total, AllStand, reading, marks_from, tokens_from, slot_mark, Readings, Balanced, KeepsAccounts}
use Rattle.table_steps.specs.inside.Kinds.{IsTurn}
use Rattle.table_steps.specs.inside.Slots.{lot, lot_weight, slot_weigh, slot_total, holders, relot, SlotPart}
use Rattle.table_steps.specs.inside.SlotMarks.{HomeIs, Homes, label_of}
use Rattle.table_steps.specs.inside.SlotKinds.{MayTryPut, MayTryTake, MayTry, missed, tried, HoldsIf, LieThere, TriedSlot, HasLaid, lot_part, HasQueue, queued, after_queue, MayPutBack, put_laid, oldest, later, MayTakeBack, take_laid}
use Rattle.table_steps.proofs.Totals.{total_set}
use Rattle.table_steps.proofs.Views.{Views, views_after}
use Rattle.table_steps.proofs.Marking.{alike_kept}
use Rattle.table_steps.proofs.Reading.{tells_is, else_word, else_edge, else_unit, else_credit}
use Rattle.table_steps.proofs.Stepping.{St, Seated, own_lone}
use Rattle.table_steps.proofs.StartDuties.{one_self}
use Rattle.table_steps.proofs.Homing.{slot_total_set}
use Rattle.table_steps.proofs.SlotMarks.{homes_set, slot_tried}
use Rattle.table_steps.proofs.Relotting.{HasLot, has_lot, relot_slots, relot_weigh, relot_stand}
use Rattle.table_steps.proofs.SlotAccounts.{put_taken_kept, put_left_kept, put_back_kept, take_taken_kept, take_left_kept, take_back_kept, few_lie, none_lie}
use Rattle.table_steps.proofs.LotSteps.{slots_alike}

-- the words but the marks are as they were
mark_read : (net : NetRows) (words : List ℕ) (f n : ℕ) → f < length net.edges → reading net (set words (marks_from net + f) n) ≡ reading net words
mark_read net words f n below = let i = marks_from net + f in
    tells_is _ _ (else_word words i n 8 (λ z. omega arith)) (else_word words i n 16 (λ z. omega arith)) (else_word words i n 24 (λ z. omega arith)) (else_word words i n 32 (λ z. omega arith))
    (λ s. else_unit net words i n s (λ b z. omega arith)) (λ s. else_credit net words i n s (λ b z. omega arith)) (λ e. else_edge net words i n e (λ z. omega (arith, below))) (λ t. else_word words i n (tokens_from net + length net.edges + t) (λ z. omega (arith, below)))

there_is : {X : Type 0} (xs : List X) (i : ℕ) (x : X) → get_elem? xs i ≡ some x → i < length xs
there_is [] i x h = absurd (some-ne-none x (sym h))
there_is (y ∷ ys) zero x h = omega arith
there_is (y ∷ ys) (suc i) x h = omega (arith, there_is ys i x h)

-- WHAT A SEAT EXCHANGES
-- one lot of a kind for one of another, and what lay in a slot, which count in no account of turns
record Exchanged (j k : Lot) (f : ℕ) (v w : List Note) : Type 0 where
  pub all : (c : Coord) → weigh c w ≡ weigh c v
  pub lots : (i : Lot) (e : ℕ) → slot_weigh (lot i e) w + lot_weight i j (one_if (f == e)) ≡ slot_weigh (lot i e) v + lot_weight i k (one_if (f == e))
  pub stand : (net : NetRows) (journal : List Entry) → AllStand net journal v → AllStand net journal w

queued_none : (c : Coord) (f : ℕ) (qs : List Part) → weight c (Queued f qs) ≡ 0
queued_none (duty c) f qs = refl
queued_none (sem z s) f qs = refl
queued_none (mark m) f qs = refl
queued_none busy f qs = refl
queued_none resting f qs = refl
queued_none turning f qs = refl
queued_none owing f qs = refl
queued_none telling f qs = refl

exchanges : (j k : Lot) (g : Part → Part) (f : ℕ) (v : List Note) → HasLot j f v → Exchanged j k f v (relot j k g f v)
exchanges j k g f v r = record {
  all = λ c. relot_weigh c j k g f v r;
  lots = λ i e. omega (arith, relot_slots (lot i e) j k g f v r);
  stand = λ net journal stand. relot_stand net journal j k g f v r stand;
}

takes_queue : (j k : Lot) (qs : List Part) (f : ℕ) (v : List Note) → HasLot j f v → Exchanged j k f v (Queued f qs ∷ relot j k (λ p. p) f v)
takes_queue j k qs f v r = let x = exchanges j k (λ p. p) f v r in record {
  all = λ c. omega (arith, queued_none c f qs, x.all c);
  lots = λ i e. omega (arith, x.lots i e);
  stand = λ net journal stand. (tt, x.stand net journal stand);
}

gives_queue : (j k : Lot) (g : Part → Part) (qs : List Part) (f : ℕ) (v : List Note) → HasLot j f v → Exchanged j k f (Queued f qs ∷ v) (relot j k g f v)
gives_queue j k g qs f v r = let x = exchanges j k g f v r in record {
  all = λ c. omega (arith, queued_none c f qs, x.all c);
  lots = λ i e. omega (arith, x.lots i e);
  stand = λ net journal stand. x.stand net journal stand.1;
}

keeps_all : (f : ℕ) (v : List Note) → Exchanged Put Put f v v
keeps_all f v = record { all = λ c. refl; lots = λ i e. refl; stand = λ net journal stand. stand }

-- the rule after that, and the slots are as they should be
lot_changed : {S : Type 0} {part : S → List Part} (net : NetRows) (limit : ℕ) (s : St S) (h : KeepsAccounts part net limit s) (id f n : ℕ) (carried : List (ℕ × S)) (a : Act S) (j k : Lot) (v w : List Note) → Exchanged j k f v w → IsTurn v → f < length net.edges → get_elem? s.views id ≡ some v
    → Homes (length net.edges) (slot_mark net (set s.words (marks_from net + f) n)) (homes_after s.homes carried a) (holders (λ c. slot_total c (set s.views id w)))
    → SlotPart net h.journal ((reading net s.words).edge) (λ c. slot_total c (set s.views id w)) (label_of part (homes_after s.homes carried a))
    → KeepsAccounts part net limit (stepped s (marks_from net + f) n id carried w a)
lot_changed {S} {part} net limit s h id f n carried a j k v w x turn below at homes slots = record {
  fits = h.fits;
  size = length-set s.words (marks_from net + f) n ∙ h.size;
  journal = h.journal;
  counted = h.counted;
  balanced = subst (λ q. Balanced_at q) (sym (mark_read net s.words f n below)) (alike_kept net limit (reading net s.words) h.counted h.journal (λ c. total c s.views) _ h.balanced (λ c z. same c));
  few = omega (arith, h.few, same (mark Live));
  few_drops = h.few_drops;
  views = subst (λ u. Views_at u) (append-nil w) (views_after net h.journal h.journal s.views id v w [] h.views (at ∙ ap some (sym (append-nil v))) (λ u stand. stand)
      (own_lone net h.journal (λ c. total c s.views) v w [] (x.stand net h.journal (h.views id v at).stand) (omega (arith, turn.1, nil_more (mark Live) v)) (omega (arith, turn.1, nil_more (mark Live) w, x.all (mark Live))) (omega (arith, turn.0, nil_more resting w, x.all resting))));
  homes = homes;
  slots = subst (λ (q : Readings). SlotPart net h.journal q.edge (λ c. slot_total c (set s.views id w)) (label_of part (homes_after s.homes carried a))) (sym (mark_read net s.words f n below)) slots;
}
  where
    Balanced_at : Readings → Type 0
    Balanced_at q = Balanced net limit q h.counted h.journal (λ c. total c (set s.views id w))

    Views_at : List Note → Type 0
    Views_at u = Views net h.journal (set s.views id u)

    nil_more : (c : Coord) (u : List Note) → weigh c (u ++ []) ≡ weigh c u
    nil_more c u = ap (weigh c) (append-nil u)

    same : (c : Coord) → total c (set s.views id w) ≡ total c s.views
    same c = omega (arith, total_set c s.views id v w at, x.all c)

-- how many turns hold a slot after that
held_after : (views : List (List Note)) (id f : ℕ) (j k : Lot) (v w : List Note) (up down : ℕ → ℕ) → Exchanged j k f v w → get_elem? views id ≡ some v
    → ((n : ℕ) → lot_weight Putting k n + lot_weight Taking k n + down n ≡ lot_weight Putting j n + lot_weight Taking j n + up n)
    → (e : ℕ) → holders (λ c. slot_total c (set views id w)) e + down (one_if (f == e)) ≡ holders (λ c. slot_total c views) e + up (one_if (f == e))
held_after views id f j k v w up down x at moved e =
    omega (arith, moved (one_if (f == e)), by_lot Putting, by_lot Taking)
  where
    by_lot : (i : Lot) → slot_total (lot i e) (set views id w) + lot_weight i j (one_if (f == e)) ≡ slot_total (lot i e) views + lot_weight i k (one_if (f == e))
    by_lot i = omega (arith, slot_total_set (lot i e) views id v w at, x.lots i e)

off_is : (f e : ℕ) → e ≢ f → one_if (eqb f e) ≡ 0
off_is f e other = let miss : eqb f e ≡ false = grind (arith, nat_tests, other) in ap one_if miss

abbrev nothing : ℕ → ℕ
nothing n = 0

abbrev itself : ℕ → ℕ
itself n = n

-- SLOT TAKEN, where it is home
slot_got : {S : Type 0} {part : S → List Part} (net : NetRows) (limit : ℕ) (s : St S) (h : KeepsAccounts part net limit s) (id f : ℕ) (carried : List (ℕ × S)) (y : S) (j k : Lot) (v w : List Note) → Exchanged j k f v w → IsTurn v → f < length net.edges → get_elem? s.views id ≡ some v
    → ((n : ℕ) → lot_weight Putting k n + lot_weight Taking k n + 0 ≡ lot_weight Putting j n + lot_weight Taking j n + n) → get_elem? s.homes f ≡ some (some y) → holders (λ c. slot_total c s.views) f ≡ 0
    → (f < length s.homes → SlotPart net h.journal ((reading net s.words).edge) (λ c. slot_total c (set s.views id w)) (label_of part (set s.homes f none)))
    → KeepsAccounts part net limit (stepped s (marks_from net + f) 1 id carried w (takes f y))
slot_got net limit s h id f carried y j k v w x turn below at raises home free slots =
    let held = held_after s.views id f j k v w itself nothing x at raises in
    lot_changed net limit s h id f 1 carried (takes f y) j k v w x turn below at
    (homes_set (length net.edges) (slot_mark net s.words) _ s.homes _ _ f none h.homes (there_is s.homes f (some y) home) (get_or-set_same s.words (marks_from net + f) 1 0 (omega (arith, h.size, below)), omega (arith, held f, free, one_self f))
    (λ e other. else_word s.words (marks_from net + f) 1 (marks_from net + e) (λ z. other (omega arith))) (λ e other. omega (arith, held e, off_is f e other)))
    (slots (there_is s.homes f (some y) home))

-- and where another turn holds it
slot_missed : {S : Type 0} {part : S → List Part} (net : NetRows) (limit : ℕ) (s : St S) (h : KeepsAccounts part net limit s) (id f : ℕ) (carried : List (ℕ × S)) (j k : Lot) (v w : List Note) → Exchanged j k f v w → IsTurn v → f < length net.edges → get_elem? s.views id ≡ some v
    → ((n : ℕ) → lot_weight Putting k n + lot_weight Taking k n + 0 ≡ lot_weight Putting j n + lot_weight Taking j n + 0) → slot_mark net s.words f ≡ 1
    → SlotPart net h.journal ((reading net s.words).edge) (λ c. slot_total c (set s.views id w)) (label_of part s.homes)
    → KeepsAccounts part net limit (stepped s (marks_from net + f) 1 id carried w keeps)
slot_missed net limit s h id f carried j k v w x turn below at alike marked slots =
    let held = held_after s.views id f j k v w nothing nothing x at alike in
    lot_changed net limit s h id f 1 carried keeps j k v w x turn below at
    (λ e in_range. subst (λ m. HomeIs (get_elem? s.homes e) m (holders (λ c. slot_total c (set s.views id w)) e)) (sym (by_eq e (cases_eq f e))) (subst (λ m. HomeIs (get_elem? s.homes e) (slot_mark net s.words e) m) (sym (omega (arith, held e))) (h.homes e in_range)))
    slots
  where
    by_eq : (e : ℕ) → (f ≡ e) ⊎ (f ≢ e) → slot_mark net (set s.words (marks_from net + f) 1) e ≡ slot_mark net s.words e
    by_eq e (inl same) = ap (slot_mark net (set s.words (marks_from net + f) 1)) (sym same) ∙ get_or-set_same s.words (marks_from net + f) 1 0 (omega (arith, h.size, below)) ∙ sym marked ∙ ap (slot_mark net s.words) same
    by_eq e (inr other) = else_word s.words (marks_from net + f) 1 (marks_from net + e) (λ z. other (omega arith))

-- by a turn that will try again
slot_awaited : {S : Type 0} {part : S → List Part} (net : NetRows) (limit : ℕ) (s : St S) (h : KeepsAccounts part net limit s) (id f : ℕ) (carried : List (ℕ × S)) (v : List Note) → IsTurn v → f < length net.edges → get_elem? s.views id ≡ some v
    → slot_mark net s.words f ≡ 1 → KeepsAccounts part net limit (stepped s (marks_from net + f) 1 id carried v keeps)
slot_awaited {S} {part} net limit s h id f carried v turn below at marked =
    slot_missed net limit s h id f carried Put Put v v (keeps_all f v) turn below at (λ n. refl) marked
    (slots_alike net h.journal _ _ _ (label_of part s.homes) h.slots (λ c. omega (arith, slot_total_set c s.views id v v at)))

-- SLOT GIVEN BACK
slot_returned : {S : Type 0} {part : S → List Part} (net : NetRows) (limit : ℕ) (s : St S) (h : KeepsAccounts part net limit s) (id f : ℕ) (y : S) (carried : List (ℕ × S)) (j k : Lot) (v w : List Note) → Exchanged j k f v w → IsTurn v → f < length net.edges → get_elem? s.views id ≡ some v
    → ((n : ℕ) → lot_weight Putting k n + lot_weight Taking k n + n ≡ lot_weight Putting j n + lot_weight Taking j n + 0)
    → (get_elem? s.homes f ≡ some none → f < length s.homes → holders (λ c. slot_total c s.views) f ≡ 1 → SlotPart net h.journal ((reading net s.words).edge) (λ c. slot_total c (set s.views id w)) (label_of part (set s.homes f (some y))))
    → KeepsAccounts part net limit (stepped s (marks_from net + f) 0 id ((f, y) ∷ carried) w gives)
slot_returned {S} {part} net limit s h id f y carried j k v w x turn below at lowers slots =
    let held = held_after s.views id f j k v w nothing itself x at lowers in
    let out = by_home held (get_elem? s.homes f) refl (h.homes f below) in
    lot_changed net limit s h id f 0 ((f, y) ∷ carried) gives j k v w x turn below at
    (homes_set (length net.edges) (slot_mark net s.words) _ s.homes _ _ f (some y) h.homes out.0 (get_or-set_same s.words (marks_from net + f) 0 0 (omega (arith, h.size, below)), omega (arith, held f, out.1, one_self f))
    (λ e other. else_word s.words (marks_from net + f) 0 (marks_from net + e) (λ z. other (omega arith))) (λ e other. omega (arith, held e, off_is f e other)))
    (slots out.2 out.0 out.1)
  where
    by_home : ((e : ℕ) → holders (λ c. slot_total c (set s.views id w)) e + itself (one_if (f == e)) ≡ holders (λ c. slot_total c s.views) e + nothing (one_if (f == e))) → (o : Option (Option S)) → get_elem? s.homes f ≡ o → HomeIs o (slot_mark net s.words f) (holders (λ c. slot_total c s.views) f)
        → (f < length s.homes) × (holders (λ c. slot_total c s.views) f ≡ 1) × (get_elem? s.homes f ≡ some none)
    by_home held (some (some z)) is home = absurd (omega (arith, held f, home.1, one_self f))
    by_home held (some none) is home = (there_is s.homes f none is, home.1, is)
    by_home held none is home = absurd home

-- THE STEPS
-- a try that finds the slot home
tried_home : {S : Type 0} (net : NetRows) (part : S → List Part) (last puts : Bool) (f n : ℕ) (y : S) (me : Seated S) (v : List Note) → n ≡ 0 → v ≡ tried last puts f (part y) 0 me.0 → length (part y) + 1 < 9223372036854775808 → (puts ≡ true → IsOnceNet net → part y ≡ []) → TriedSlot net part last puts f n me (v, (f, y) ∷ me.1)
tried_home net part last puts f n y me v clear is few once = record {
  parts_are = part y;
  view = is ∙ ap (λ k. tried last puts f (part y) k me.0) (sym clear);
  holds = subst (λ k. HoldsIf f k me.1 ((f, y) ∷ me.1)) (sym clear) (refl, refl);
  lie = subst (λ k. LieThere part (part y) k ((f, y) ∷ me.1)) (sym clear) refl;
  few = few;
  once = once;
}

-- and one that finds it held
tried_held : {S : Type 0} (net : NetRows) (part : S → List Part) (last puts : Bool) (f n : ℕ) (me : Seated S) (v : List Note) → n ≡ 1 → v ≡ missed last puts f me.0 → TriedSlot net part last puts f n me (v, me.1)
tried_held net part last puts f n me v set_is is = record {
  parts_are = [];
  view = is ∙ ap (λ k. tried last puts f [] k me.0) (sym set_is);
  holds = subst (λ k. HoldsIf f k me.1 me.1) (sym set_is) refl;
  lie = subst (λ k. LieThere part [] k me.1) (sym set_is) tt;
  few = omega arith;
  once = λ is_put once. refl;
}

pub try_put_allowed : {S : Type 0} {part : S → List Part} (last : Bool) (net : NetRows) (limit slots id : ℕ) (me : Seated S) (f : ℕ) → f < length net.edges → MayTryPut f me.0
    → Allows (KeepsAccounts part net limit) slots id me (marks_from net + f) (λ _. 1) (λ n m. TriedSlot net part last true f n me m)
try_put_allowed {S} {part} last net limit slots id me f below may s h _ at small = by_mark (slot_tried (length net.edges) (slot_mark net s.words) s.homes _ f h.homes below)
  where
    r : HasLot Ours f me.0
    r = has_lot Ours f me.0 may.ours

    from : r.part ≡ From may.from.place
    from = sym r.tells ∙ may.from.is

    missed_kept : (b : Bool) → slot_mark net s.words f ≡ 1 → holders (λ c. slot_total c s.views) f ≡ 1 → KeepsAccounts part net limit (stepped s (marks_from net + f) 1 id me.1 (missed b true f me.0) keeps)
    missed_kept false set_is held = slot_awaited net limit s h id f me.1 me.0 may.turn below at set_is
    missed_kept true set_is held = slot_missed net limit s h id f me.1 Ours Put me.0 (relot Ours Put (λ p. p) f me.0) (exchanges Ours Put (λ p. p) f me.0 r) may.turn below at (λ n. omega arith) set_is (put_left_kept net limit part s h id f may.from.place me.0 r from at held h.slots)

    by_mark : ((y : S) × (get_elem? s.homes f ≡ some (some y)) × (slot_mark net s.words f ≡ 0) × (holders (λ c. slot_total c s.views) f ≡ 0)) ⊎ ((slot_mark net s.words f ≡ 1) × (holders (λ c. slot_total c s.views) f ≡ 1))
        → (u : List Note) × (z : Act S) × Valid s.homes me.1 z × KeepsAccounts part net limit (stepped s (marks_from net + f) 1 id me.1 u z) × TriedSlot net part last true f (slot_mark net s.words f) me (u, carried_after me.1 z)
    by_mark (inl (y, home, clear, free)) = let w = Queued f (part y) ∷ relot Ours Putting (λ p. p) f me.0 in (
      w,
      takes f y,
      home,
      slot_got net limit s h id f me.1 y Ours Putting me.0 w (takes_queue Ours Putting (part y) f me.0 r) may.turn below at (λ n. omega arith) home free (λ inside. put_taken_kept net limit part s h id f y me.0 r at home inside h.slots),
      tried_home net part last true f (slot_mark net s.words f) y me w clear refl (few_lie net limit part s h f y home) (λ is_put once. none_lie net limit part s h id f y me.0 once may.ours at home),
    )
    by_mark (inr (set_is, held)) = (
      missed last true f me.0,
      keeps,
      tt,
      missed_kept last set_is held,
      tried_held net part last true f (slot_mark net s.words f) me (missed last true f me.0) set_is refl,
    )

pub try_take_allowed : {S : Type 0} {part : S → List Part} (last : Bool) (net : NetRows) (limit slots id : ℕ) (me : Seated S) (f : ℕ) → f < length net.edges → MayTryTake f me.0
    → Allows (KeepsAccounts part net limit) slots id me (marks_from net + f) (λ _. 1) (λ n m. TriedSlot net part last false f n me m)
try_take_allowed {S} {part} last net limit slots id me f below may s h _ at small = by_mark (slot_tried (length net.edges) (slot_mark net s.words) s.homes _ f h.homes below)
  where
    r : HasLot Awaited f me.0
    r = has_lot Awaited f me.0 may.awaited

    missed_kept : (b : Bool) → slot_mark net s.words f ≡ 1 → holders (λ c. slot_total c s.views) f ≡ 1 → KeepsAccounts part net limit (stepped s (marks_from net + f) 1 id me.1 (missed b false f me.0) keeps)
    missed_kept false set_is held = slot_awaited net limit s h id f me.1 me.0 may.turn below at set_is
    missed_kept true set_is held = slot_missed net limit s h id f me.1 Awaited Fetched me.0 (relot Awaited Fetched (λ p. Nothing) f me.0) (exchanges Awaited Fetched (λ p. Nothing) f me.0 r) may.turn below at (λ n. omega arith) set_is (take_left_kept net limit part s h id f me.0 r at held h.slots)

    by_mark : ((y : S) × (get_elem? s.homes f ≡ some (some y)) × (slot_mark net s.words f ≡ 0) × (holders (λ c. slot_total c s.views) f ≡ 0)) ⊎ ((slot_mark net s.words f ≡ 1) × (holders (λ c. slot_total c s.views) f ≡ 1))
        → (u : List Note) × (z : Act S) × Valid s.homes me.1 z × KeepsAccounts part net limit (stepped s (marks_from net + f) 1 id me.1 u z) × TriedSlot net part last false f (slot_mark net s.words f) me (u, carried_after me.1 z)
    by_mark (inl (y, home, clear, free)) = let w = Queued f (part y) ∷ relot Awaited Taking (λ p. p) f me.0 in (
      w,
      takes f y,
      home,
      slot_got net limit s h id f me.1 y Awaited Taking me.0 w (takes_queue Awaited Taking (part y) f me.0 r) may.turn below at (λ n. omega arith) home free (λ inside. take_taken_kept net limit part s h id f y me.0 r at home inside h.slots),
      tried_home net part last false f (slot_mark net s.words f) y me w clear refl (few_lie net limit part s h f y home) (λ is_put. absurd (false≢true is_put)),
    )
    by_mark (inr (set_is, held)) = (
      missed last false f me.0,
      keeps,
      tt,
      missed_kept last set_is held,
      tried_held net part last false f (slot_mark net s.words f) me (missed last false f me.0) set_is refl,
    )

pub try_allowed : {S : Type 0} {part : S → List Part} (last puts : Bool) (net : NetRows) (limit slots id : ℕ) (me : Seated S) (f : ℕ) → f < length net.edges → MayTry puts f me.0
    → Allows (KeepsAccounts part net limit) slots id me (marks_from net + f) (λ _. 1) (λ n m. TriedSlot net part last puts f n me m)
try_allowed last true net limit slots id me f below may = try_put_allowed last net limit slots id me f below may
try_allowed last false net limit slots id me f below may = try_take_allowed last net limit slots id me f below may

-- a view that begins with what lay in a slot
queue_first : (f : ℕ) (v : List Note) → HasQueue f v → v ≡ Queued f (queued v) ∷ after_queue v
queue_first f (Queued g qs ∷ v) is = λ i. Queued (is i) qs ∷ v
queue_first f [] is = absurd is
queue_first f (Duty x ∷ v) is = absurd is
queue_first f (Sems k l ∷ v) is = absurd is
queue_first f (Has m ∷ v) is = absurd is
queue_first f (Unfit z n t ∷ v) is = absurd is
queue_first f (Lies k e p ∷ v) is = absurd is

queue_turn : (f : ℕ) (qs : List Part) (v : List Note) → IsTurn v → IsTurn (Queued f qs ∷ v)
queue_turn f qs v turn = (omega (arith, turn.0), omega (arith, turn.1))

pub put_back_allowed : {S : Type 0} {part : S → List Part} (net : NetRows) (limit slots id : ℕ) (me : Seated S) (f : ℕ) → f < length net.edges → MayPutBack part f me
    → Allows (KeepsAccounts part net limit) slots id me (marks_from net + f) (λ _. 0) (λ n m. (m.0 ≡ put_laid f me.0) × (m.1 ≡ rest me.1))
put_back_allowed {S} {part} net limit slots id me f below may s h _ at small = from me.1 may.laid
  where
    v : List Note
    v = after_queue me.0

    qs : List Part
    qs = queued me.0

    r : HasLot Putting f v
    r = has_lot Putting f v may.putting

    is_from : r.part ≡ From may.from.place
    is_from = sym r.tells ∙ may.from.is

    at_queue : get_elem? s.views id ≡ some (Queued f qs ∷ v)
    at_queue = at ∙ ap some (queue_first f me.0 may.queue)

    from : (c : List (ℕ × S)) → HasLaid part f (qs ++ lot_part Putting f v ∷ []) c → (u : List Note) × (z : Act S) × Valid s.homes c z × KeepsAccounts part net limit (stepped s (marks_from net + f) 0 id c u z) × ((u ≡ put_laid f me.0) × (carried_after c z ≡ rest c))
    from ((k, y) ∷ more) laid = (
      put_laid f me.0,
      gives,
      tt,
      subst (λ q. KeepsAccounts part net limit (stepped s (marks_from net + f) 0 id ((q, y) ∷ more) (put_laid f me.0) gives)) (sym laid.0)
          (slot_returned net limit s h id f y more Putting Put (Queued f qs ∷ v) (relot Putting Put (λ p. p) f v) (gives_queue Putting Put (λ p. p) qs f v r) (queue_turn f qs v may.turn) below at_queue (λ n. omega arith)
          (λ out inside one. put_back_kept net limit part s h id f may.from.place y qs v r is_from (laid.1 ∙ ap (λ p. qs ++ p ∷ []) may.from.is) at_queue out inside h.slots)),
      (refl, refl),
    )
    from [] laid = absurd laid

pub take_back_allowed : {S : Type 0} {part : S → List Part} (net : NetRows) (limit slots id : ℕ) (me : Seated S) (f : ℕ) → f < length net.edges → MayTakeBack part f me
    → Allows (KeepsAccounts part net limit) slots id me (marks_from net + f) (λ _. 0) (λ n m. (m.0 ≡ take_laid f me.0) × (m.1 ≡ rest me.1))
take_back_allowed {S} {part} net limit slots id me f below may s h _ at small = from me.1 may.laid
  where
    v : List Note
    v = after_queue me.0

    qs : List Part
    qs = queued me.0

    r : HasLot Taking f v
    r = has_lot Taking f v may.taking

    at_queue : get_elem? s.views id ≡ some (Queued f qs ∷ v)
    at_queue = at ∙ ap some (queue_first f me.0 may.queue)

    from : (c : List (ℕ × S)) → HasLaid part f (later qs) c → (u : List Note) × (z : Act S) × Valid s.homes c z × KeepsAccounts part net limit (stepped s (marks_from net + f) 0 id c u z) × ((u ≡ take_laid f me.0) × (carried_after c z ≡ rest c))
    from ((k, y) ∷ more) laid = (
      take_laid f me.0,
      gives,
      tt,
      subst (λ q. KeepsAccounts part net limit (stepped s (marks_from net + f) 0 id ((q, y) ∷ more) (take_laid f me.0) gives)) (sym laid.0)
          (slot_returned net limit s h id f y more Taking Fetched (Queued f qs ∷ v) (relot Taking Fetched (λ p. oldest qs) f v) (gives_queue Taking Fetched (λ p. oldest qs) qs f v r) (queue_turn f qs v may.turn) below at_queue (λ n. omega arith)
          (λ out inside one. take_back_kept net limit part s h id f y qs v r laid.1 at_queue out inside one h.slots)),
      (refl, refl),
    )
    from [] laid = absurd laid
