-- What lists of lots count, and how many tokens an edge has where a slot is held.
use Rattle.std.proofs.Common.{◌≡◌, ℕ, ◌+◌, ◌≤◌, Bool, true, false, ◌&&◌, cond, List, [], ◌∷◌, ◌++◌, length, refl, ap, arith}
use Rattle.std.specs.Prelude.{◌==◌}
use Rattle.task_graph.specs.NetRows.{NetRows}
use Rattle.journal_rules.specs.declared.entry.Part.{Part}
use Rattle.journal_rules.specs.declared.entry.Part.TheVariants.{From, Nothing}
use Rattle.journal_rules.specs.declared.entry.Entry.{Entry}
use Rattle.journal_rules.specs.Calm.{IsCalm}
use Rattle.table_steps.specs.Giving.{one_if, times}
use Rattle.table_steps.specs.declared.view.TurnDuty.{TurnDuty}
use Rattle.table_steps.specs.declared.view.TurnDuty.TheVariants.{Told, Fresh, Collecting, Ticket, Open, Owes, Counting}
use Rattle.table_steps.specs.declared.view.Lot.{Lot}
use Rattle.table_steps.specs.declared.view.Lot.TheVariants.{Ours, Putting, Put, Awaited, Taking, Fetched, Found}
use Rattle.table_steps.specs.declared.view.Note.{Note}
use Rattle.table_steps.specs.declared.view.Note.TheVariants.{Duty, Sems, Has, Unfit, Lies, Queued}
use Rattle.table_steps.specs.inside.Duties.{token, duty_weight}
use Rattle.table_steps.specs.inside.Accounts.{duty, weigh}
use Rattle.table_steps.specs.inside.Parcels.{same_part, parts_count}
use Rattle.table_steps.specs.inside.Slots.{SlotCoord, parcel, lot, queue, owed, collected, left_at, duty_slots, slot_weight, slot_weigh, slot_total, SlotPart, SlotBounds, awaited_lots, found_lots, our_lots}
use Rattle.table_steps.proofs.Calming.{calm_now}

pub slot_append : (c : SlotCoord) (xs ys : List Note) → slot_weigh c (xs ++ ys) ≡ slot_weigh c xs + slot_weigh c ys
slot_append c [] ys = omega arith
slot_append c (x ∷ xs) ys = omega (arith, slot_append c xs ys)

-- each parcel goes with a lot that has it
part_bit : (b c : Bool) → one_if (b && c) ≤ one_if b
part_bit true true = omega arith
part_bit true false = omega arith
part_bit false c = omega arith

parcel_lot : (e : ℕ) (p : Part) (k : Lot) (f : ℕ) (q : Part) → slot_weight (parcel e p) (Lies k f q)
    ≤ slot_weight (lot Ours e) (Lies k f q) + slot_weight (lot Putting e) (Lies k f q) + slot_weight (lot Fetched e) (Lies k f q) + slot_weight (lot Found e) (Lies k f q)
parcel_lot e p Ours f q = omega (arith, part_bit (f == e) (same_part q p))
parcel_lot e p Putting f q = omega (arith, part_bit (f == e) (same_part q p))
parcel_lot e p Put f q = omega arith
parcel_lot e p Awaited f q = omega arith
parcel_lot e p Taking f q = omega arith
parcel_lot e p Fetched f q = omega (arith, part_bit (f == e) (same_part q p))
parcel_lot e p Found f q = omega (arith, part_bit (f == e) (same_part q p))

duty_parcel : (e : ℕ) (p : Part) (x : TurnDuty) → duty_slots (parcel e p) x ≡ 0
duty_parcel e p (Told n y) = refl
duty_parcel e p (Fresh t cause) = refl
duty_parcel e p (Collecting t cause taken left) = refl
duty_parcel e p Ticket = refl
duty_parcel e p (Open n t) = refl
duty_parcel e p (Owes gives) = refl
duty_parcel e p (Counting f) = refl

pub parcels_bound : (e : ℕ) (p : Part) (v : List Note) → slot_weigh (parcel e p) v
    ≤ slot_weigh (lot Ours e) v + slot_weigh (lot Putting e) v + slot_weigh (lot Fetched e) v + slot_weigh (lot Found e) v
parcels_bound e p [] = omega arith
parcels_bound e p (Duty x ∷ xs) = omega (arith, duty_parcel e p x, parcels_bound e p xs)
parcels_bound e p (Sems k l ∷ xs) = omega (arith, parcels_bound e p xs)
parcels_bound e p (Has m ∷ xs) = omega (arith, parcels_bound e p xs)
parcels_bound e p (Unfit s n t ∷ xs) = omega (arith, parcels_bound e p xs)
parcels_bound e p (Lies k f q ∷ xs) = omega (arith, parcel_lot e p k f q, parcels_bound e p xs)
parcels_bound e p (Queued q qs ∷ xs) = omega (arith, parcels_bound e p xs)

pub parcels_bound_all : (e : ℕ) (p : Part) (vs : List (List Note)) → slot_total (parcel e p) vs
    ≤ slot_total (lot Ours e) vs + slot_total (lot Putting e) vs + slot_total (lot Fetched e) vs + slot_total (lot Found e) vs
parcels_bound_all e p [] = omega arith
parcels_bound_all e p (v ∷ vs) = omega (arith, parcels_bound e p v, parcels_bound_all e p vs)

-- tokens that turns have are owed or collected
duty_tokens : (e : ℕ) (x : TurnDuty) → duty_weight (token e) x ≡ duty_slots (owed e) x + duty_slots (collected e) x
duty_tokens e (Told n y) = refl
duty_tokens e (Fresh t cause) = refl
duty_tokens e (Collecting t cause taken left) = omega arith
duty_tokens e Ticket = refl
duty_tokens e (Open n t) = refl
duty_tokens e (Owes gives) = omega arith
duty_tokens e (Counting f) = refl

pub tokens_of : (e : ℕ) (v : List Note) → weigh (duty (token e)) v ≡ slot_weigh (owed e) v + slot_weigh (collected e) v
tokens_of e [] = refl
tokens_of e (Duty x ∷ xs) = omega (arith, duty_tokens e x, tokens_of e xs)
tokens_of e (Sems k l ∷ xs) = omega (arith, tokens_of e xs)
tokens_of e (Has m ∷ xs) = omega (arith, tokens_of e xs)
tokens_of e (Unfit s n t ∷ xs) = omega (arith, tokens_of e xs)
tokens_of e (Lies k f q ∷ xs) = omega (arith, tokens_of e xs)
tokens_of e (Queued q qs ∷ xs) = omega (arith, tokens_of e xs)

-- lists of lots
pub awaited_count : (e : ℕ) (es : List ℕ) → slot_weigh (lot Awaited e) (awaited_lots es) ≡ times e es
awaited_count e [] = refl
awaited_count e (f ∷ fs) = omega (arith, awaited_count e fs)

abbrev pub IsOfAwaited : SlotCoord → Type 0
IsOfAwaited (lot Awaited e) = ⊥
IsOfAwaited _ = Unit {0}

pub awaited_none : (c : SlotCoord) → IsOfAwaited c → (es : List ℕ) → slot_weigh c (awaited_lots es) ≡ 0
awaited_none c apart [] = refl
awaited_none c apart (e ∷ es) = omega (arith, one c apart, awaited_none c apart es)
  where
    one : (d : SlotCoord) → IsOfAwaited d → slot_weight d (Lies Awaited e Nothing) ≡ 0
    one (parcel f p) o = refl
    one (lot Ours f) o = refl
    one (lot Putting f) o = refl
    one (lot Put f) o = refl
    one (lot Awaited f) o = absurd o
    one (lot Taking f) o = refl
    one (lot Fetched f) o = refl
    one (lot Found f) o = refl
    one (queue m f) o = refl
    one (owed f) o = refl
    one (collected f) o = refl
    one (left_at f) o = refl

pub found_count : (e : ℕ) (es : List ℕ) (ps : List Part) → length ps ≡ length es → slot_weigh (lot Found e) (found_lots es ps) ≡ times e es
found_count e [] [] same = refl
found_count e [] (p ∷ ps) same = absurd (omega arith)
found_count e (f ∷ fs) [] same = absurd (omega arith)
found_count e (f ∷ fs) (p ∷ ps) same = omega (arith, found_count e fs ps (omega arith))

pub found_parcels : (e : ℕ) (p : Part) (es : List ℕ) (ps : List Part) → slot_weigh (parcel e p) (found_lots es ps) ≡ parts_count e p es ps
found_parcels e p [] ps = refl
found_parcels e p (f ∷ fs) [] = refl
found_parcels e p (f ∷ fs) (q ∷ qs) = omega (arith, found_parcels e p fs qs)

abbrev pub IsOfFound : SlotCoord → Type 0
IsOfFound (lot Found e) = ⊥
IsOfFound (parcel e p) = ⊥
IsOfFound _ = Unit {0}

pub found_none : (c : SlotCoord) → IsOfFound c → (es : List ℕ) (ps : List Part) → slot_weigh c (found_lots es ps) ≡ 0
found_none c apart [] ps = refl
found_none c apart (e ∷ es) [] = refl
found_none c apart (e ∷ es) (p ∷ ps) = omega (arith, one c apart, found_none c apart es ps)
  where
    one : (d : SlotCoord) → IsOfFound d → slot_weight d (Lies Found e p) ≡ 0
    one (parcel f q) o = absurd o
    one (lot Ours f) o = refl
    one (lot Putting f) o = refl
    one (lot Put f) o = refl
    one (lot Awaited f) o = refl
    one (lot Taking f) o = refl
    one (lot Fetched f) o = refl
    one (lot Found f) o = absurd o
    one (queue m f) o = refl
    one (owed f) o = refl
    one (collected f) o = refl
    one (left_at f) o = refl

pub our_count : (n e : ℕ) (es : List ℕ) → slot_weigh (lot Ours e) (our_lots n es) ≡ times e es
our_count n e [] = refl
our_count n e (f ∷ fs) = omega (arith, our_count n e fs)

pub our_parcels : (n e : ℕ) (p : Part) (es : List ℕ) → slot_weigh (parcel e p) (our_lots n es) ≡ cond (same_part (From n) p) (times e es) 0
our_parcels n e p es = by_part (same_part (From n) p) refl es
  where
    by_part : (b : Bool) → same_part (From n) p ≡ b → (fs : List ℕ) → slot_weigh (parcel e p) (our_lots n fs) ≡ cond b (times e fs) 0
    by_part true is [] = refl
    by_part false is [] = refl
    by_part true is (f ∷ fs) = let bit : one_if ((f == e) && same_part (From n) p) ≡ one_if (f == e) = rw is (ap one_if (and_yes (f == e))) in omega (arith, bit, by_part true is fs)
      where
        and_yes : (b : Bool) → b && true ≡ b
        and_yes true = refl
        and_yes false = refl
    by_part false is (f ∷ fs) = let bit : one_if ((f == e) && same_part (From n) p) ≡ 0 = rw is (ap one_if (and_no (f == e))) in omega (arith, bit, by_part false is fs)
      where
        and_no : (b : Bool) → b && false ≡ false
        and_no true = refl
        and_no false = refl

abbrev pub IsOfOurs : SlotCoord → Type 0
IsOfOurs (lot Ours e) = ⊥
IsOfOurs (parcel e p) = ⊥
IsOfOurs _ = Unit {0}

pub our_none : (c : SlotCoord) → IsOfOurs c → (n : ℕ) (es : List ℕ) → slot_weigh c (our_lots n es) ≡ 0
our_none c apart n [] = refl
our_none c apart n (e ∷ es) = omega (arith, one c apart, our_none c apart n es)
  where
    one : (d : SlotCoord) → IsOfOurs d → slot_weight d (Lies Ours e (From n)) ≡ 0
    one (parcel f q) o = absurd o
    one (lot Ours f) o = absurd o
    one (lot Putting f) o = refl
    one (lot Put f) o = refl
    one (lot Awaited f) o = refl
    one (lot Taking f) o = refl
    one (lot Fetched f) o = refl
    one (lot Found f) o = refl
    one (queue m f) o = refl
    one (owed f) o = refl
    one (collected f) o = refl
    one (left_at f) o = refl

-- A turn that has still to put or to take a parcel has a token, and so has a turn that holds the slot.
pub crowded : (net : NetRows) (journal : List Entry) (edge : ℕ → ℕ) (T : SlotCoord → ℕ) (label : ℕ → List Part) (f : ℕ) → SlotPart net journal edge T label → SlotBounds net journal edge T
    → 2 ≤ T (lot Ours f) + T (lot Putting f) + T (lot Awaited f) + T (lot Taking f) → ¬ IsCalm net f journal
crowded net journal edge T label f d b two calm = omega (arith, two, calm_now net f journal calm, b.tokens f, b.within f, d.owing f, d.reached f)
