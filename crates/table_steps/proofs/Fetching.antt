-- A parcel taken out of a slot, or put there, by tries, exchanges and a step that gives the slot back.
use Rattle.std.proofs.Common.{◌≡◌, ◌≢◌, ℕ, zero, suc, ◌+◌, ◌<◌, Bool, true, false, List, [], ◌∷◌, ◌++◌, length, refl, sym, ap, ◌∙◌, subst, arith}
use Rattle.atomic_table.specs.Table.{Me, rest}
use Rattle.task_graph.specs.NetRows.{NetRows}
use Rattle.journal_rules.specs.OnceNets.{IsOnceNet}
use Rattle.journal_rules.specs.declared.entry.Part.{Part}
use Rattle.table_steps.specs.declared.view.SeatMark.TheVariants.{Live}
use Rattle.table_steps.specs.declared.view.Lot.{Lot}
use Rattle.table_steps.specs.declared.view.Lot.TheVariants.{Ours, Putting, Awaited, Taking}
use Rattle.table_steps.specs.declared.view.Note.{Note}
use Rattle.table_steps.specs.declared.view.Note.TheVariants.{Queued}
use Rattle.join_words.specs.declared.ins.Given.{Given}
use Rattle.table_steps.specs.declared.parcels.Parcel.{Parcel}
use Rattle.table_steps.specs.ParcelForms.{parcel_in, is_bare, MayLieBehind, MayBeBare}
use Rattle.table_steps.specs.Values.{given_part, given_parts}
use Rattle.table_steps.specs.inside.Accounts.{mark, resting}
use Rattle.table_steps.specs.inside.Kinds.{IsTurn}
use Rattle.table_steps.specs.inside.Slots.{lot, slot_weigh, relot}
use Rattle.table_steps.specs.inside.SlotKinds.{MayTryPut, MayTryTake, missed, tried, HoldsIf, LieThere, TriedSlot, HoldsSlot, lot_part, MayPutBack, oldest, later, MayTakeBack, IsOldest}
use Rattle.table_steps.proofs.Relotting.{HasLot, has_lot, relot_weigh, relot_there, relot_part}

relot_turn : (j k : Lot) (g : Part → Part) (f : ℕ) (v : List Note) → HasLot j f v → IsTurn v → IsTurn (relot j k g f v)
relot_turn j k g f v r turn = (relot_weigh resting j k g f v r ∙ turn.0, omega (arith, turn.1, relot_weigh (mark Live) j k g f v r))

-- what a seat has that took a slot
pub holds_at : {S : Type 0} (net : NetRows) (parts : S → List Part) (last puts : Bool) (f n : ℕ) (before mid : Me S (List Note)) (y : S) → n ≡ 0 → TriedSlot net parts last puts f n before mid → mid.1 ≡ (f, y) ∷ rest mid.1 → before.1 ≡ []
    → (mid ≡ (tried last puts f (parts y) 0 before.0, (f, y) ∷ [])) × (length (parts y) + 1 < 9223372036854775808) × (puts ≡ true → IsOnceNet net → parts y ≡ [])
holds_at {S} net parts last puts f n before mid y none got at home = by_number n none got
  where
    by_number : (k : ℕ) → k ≡ 0 → TriedSlot net parts last puts f k before mid → (mid ≡ (tried last puts f (parts y) 0 before.0, (f, y) ∷ [])) × (length (parts y) + 1 < 9223372036854775808) × (puts ≡ true → IsOnceNet net → parts y ≡ [])
    by_number zero is t =
        let lie : parts y ≡ t.parts_are = subst (λ (l : List (ℕ × S)). LieThere parts t.parts_are zero l) at t.lie in
        let holds : (f ≡ f) × (rest mid.1 ≡ before.1) = subst (λ (l : List (ℕ × S)). HoldsIf f zero before.1 l) at t.holds in
        let notes = t.view ∙ ap (λ q. tried last puts f q 0 before.0) (sym lie) in let slots = at ∙ ap (λ l. (f, y) ∷ l) (holds.1 ∙ home) in
        ((λ i. (notes i, slots i)), omega (arith, t.few, ap length lie), λ is_put once. lie ∙ t.once is_put once)
    by_number (suc k) is t = absurd (omega (arith, is))

-- the slot that it holds
pub holds_slot : {S : Type 0} (net : NetRows) (parts : S → List Part) (last puts : Bool) (f n : ℕ) (before mid : Me S (List Note)) → n ≡ 0 → TriedSlot net parts last puts f n before mid → HoldsSlot f mid.1
holds_slot {S} net parts last puts f n before mid none got = by_number n none got
  where
    by_slots : (l : List (ℕ × S)) → HoldsIf f zero before.1 l → HoldsSlot f l
    by_slots ((k, y) ∷ more) h = h.0
    by_slots [] h = absurd h

    by_number : (k : ℕ) → k ≡ 0 → TriedSlot net parts last puts f k before mid → HoldsSlot f mid.1
    by_number zero is t = by_slots mid.1 t.holds
    by_number (suc k) is t = absurd (omega (arith, is))

-- a seat that found the slot held to the last try
pub given_up : {S : Type 0} (net : NetRows) (parts : S → List Part) (last puts : Bool) (f n : ℕ) (before after : Me S (List Note)) → n ≢ 0 → TriedSlot net parts last puts f n before after → after ≡ (missed last puts f before.0, before.1)
given_up {S} net parts last puts f n before after some got = by_number n some got
  where
    by_bools : (l p : Bool) (qs : List Part) (k : ℕ) → tried l p f qs (suc k) before.0 ≡ missed l p f before.0
    by_bools true true qs k = refl
    by_bools true false qs k = refl
    by_bools false true qs k = refl
    by_bools false false qs k = refl

    by_number : (k : ℕ) → k ≢ 0 → TriedSlot net parts last puts f k before after → after ≡ (missed last puts f before.0, before.1)
    by_number zero is t = absurd (is refl)
    by_number (suc k) is t = λ i. ((t.view ∙ by_bools last puts t.parts_are k) i, t.holds i)

-- a number found by a try that isn't the last, and then by another
pub tried_again : {S : Type 0} (net : NetRows) (parts : S → List Part) (last puts : Bool) (f n : ℕ) (before mid after : Me S (List Note)) → mid ≡ before → TriedSlot net parts last puts f n mid after → TriedSlot net parts last puts f n before after
tried_again net parts last puts f n before mid after same t = subst (λ m. TriedSlot net parts last puts f n m after) same t

-- a slot taken before the last try is taken
pub got_early : {S : Type 0} (net : NetRows) (parts : S → List Part) (last puts : Bool) (f n : ℕ) (before after : Me S (List Note)) → n ≡ 0 → TriedSlot net parts last puts f n before after → TriedSlot net parts true puts f 0 before after
got_early {S} net parts last puts f n before after none t = let u = subst (λ k. TriedSlot net parts last puts f k before after) none t in record {
  parts_are = u.parts_are;
  view = u.view ∙ by_bool puts last u.parts_are;
  holds = u.holds;
  lie = u.lie;
  few = u.few;
  once = u.once;
}
  where
    by_bool : (p l : Bool) (qs : List Part) → tried l p f qs 0 before.0 ≡ tried true p f qs 0 before.0
    by_bool true l qs = refl
    by_bool false l qs = refl

-- it may give the slot back without the oldest parcel
pub may_take_back : {S : Type 0} (parts : S → List Part) (f : ℕ) (v : List Note) (y left : S) (me : Me S (List Note)) → MayTryTake f v → slot_weigh (lot Taking f) v ≡ 0 → parts left ≡ later (parts y) → me ≡ (Queued f (parts y) ∷ relot Awaited Taking (λ p. p) f v, (f, left) ∷ []) → MayTakeBack parts f me
may_take_back {S} parts f v y left me may none is_later is = let r = has_lot Awaited f v may.awaited in
    subst (λ (m : Me S (List Note)). MayTakeBack parts f m) (sym is) (record {
      queue = refl;
      taking = relot_there Awaited Taking (λ p. p) f v r none refl;
      turn = relot_turn Awaited Taking (λ p. p) f v r may.turn;
      laid = (refl, is_later);
    })

-- or with its own behind the others
pub may_put_back : {S : Type 0} (parts : S → List Part) (f : ℕ) (v : List Note) (y all : S) (me : Me S (List Note)) → MayTryPut f v → slot_weigh (lot Putting f) v ≡ 0 → parts all ≡ parts y ++ lot_part Ours f v ∷ [] → me ≡ (Queued f (parts y) ∷ relot Ours Putting (λ p. p) f v, (f, all) ∷ []) → MayPutBack parts f me
may_put_back {S} parts f v y all me may none is_all is = let r = has_lot Ours f v may.ours in let same = relot_part Ours Putting (λ p. p) f v none may.ours in
    subst (λ (m : Me S (List Note)). MayPutBack parts f m) (sym is) (record {
      queue = refl;
      putting = relot_there Ours Putting (λ p. p) f v r none refl;
      from = record { place = may.from.place; is = same ∙ may.from.is };
      turn = relot_turn Ours Putting (λ p. p) f v r may.turn;
      laid = (refl, is_all ∙ ap (λ p. parts y ++ p ∷ []) (sym same));
    })

-- the parts of the oldest parcel and of the others
pub oldest_parts : {V : Type 0} (parcels : List (Given V)) (given : Given V) (others : List (Given V)) → IsOldest parcels given others → (given_part given ≡ oldest (given_parts parcels)) × (given_parts others ≡ later (given_parts parcels))
oldest_parts [] given others is = (ap given_part is.0, ap given_parts is.1)
oldest_parts (y ∷ ys) given others is = (ap given_part is.0, ap given_parts is.1)

-- what a seat has after two exchanges
pub exchanged_twice : {S : Type 0} (f : ℕ) (v : List Note) (y between last : S) (held first second : Me S (List Note)) → held ≡ (v, (f, y) ∷ []) → first ≡ (held.0, (f, between) ∷ rest held.1) → second ≡ (first.0, (f, last) ∷ rest first.1) → second ≡ (v, (f, last) ∷ [])
exchanged_twice {S} f v y between last held first second is one two = two ∙ ap (λ (m : Me S (List Note)). (m.0, (f, last) ∷ rest m.1)) one ∙ ap (λ (m : Me S (List Note)). (m.0, (f, last) ∷ rest m.1)) is

-- Where a parcel is put there is room behind the others, and a bare one finds none there.
pub fits_behind : {V : Type 0} (net : NetRows) (y : List (Given V)) (parcel : Parcel V) (p : Part) → given_parts (parcel_in parcel) ≡ p ∷ [] → length (given_parts y) + 1 < 9223372036854775808 → (true ≡ true → IsOnceNet net → given_parts y ≡ []) → MayBeBare net (is_bare parcel)
    → MayLieBehind y parcel × (length y + length (parcel_in parcel) < 9223372036854775808)
fits_behind {V} net y parcel p one few once may = (λ bare. none_of y (once refl (may bare)), omega (arith, few, length_given y, length_given (parcel_in parcel), ap length one))
  where
    none_of : (xs : List (Given V)) → given_parts xs ≡ [] → xs ≡ []
    none_of [] none = refl
    none_of (x ∷ xs) none = absurd (omega (arith, ap length none))

    length_given : (xs : List (Given V)) → length (given_parts xs) ≡ length xs
    length_given [] = refl
    length_given (x ∷ xs) = omega (arith, length_given xs)
