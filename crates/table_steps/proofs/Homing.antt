-- Slots are home or held by one seat, after steps that leave lots alone.
use Rattle.std.proofs.Common.{◌≡◌, ◌≢◌, ℕ, zero, suc, ◌+◌, ◌<◌, List, [], ◌∷◌, ◌++◌, length, set, refl, sym, ap, subst, arith}
use mathlib.Core.Option.{Option, some, some-injective, some-ne-none}
use lib.ListN.{get_elem?}
use Rattle.task_graph.specs.NetRows.{NetRows}
use Rattle.table_steps.specs.declared.view.TurnDuty.{TurnDuty}
use Rattle.table_steps.specs.declared.view.TurnDuty.TheVariants.{Told, Fresh, Collecting, Ticket, Open, Owes, Counting}
use Rattle.table_steps.specs.declared.view.Lot.{Lot}
use Rattle.table_steps.specs.declared.view.Lot.TheVariants.{Putting, Taking}
use Rattle.table_steps.specs.declared.view.Note.{Note}
use Rattle.table_steps.specs.declared.view.Note.TheVariants.{Duty, Sems, Has, Unfit, Lies, Queued}
use Rattle.table_steps.specs.inside.Accounts.{marks_from, slot_mark}
use Rattle.table_steps.specs.inside.Slots.{SlotCoord, lot, duty_slots, slot_weigh, slot_total, holders, slots_in, HoldsAlike}
use Rattle.table_steps.specs.inside.SlotMarks.{HomeIs, Homes}
use Rattle.table_steps.proofs.Lots.{slot_append}
use Rattle.table_steps.proofs.Marking.{RestMarks, rest_head}
use Rattle.table_steps.proofs.Reading.{else_word}

-- TOTALS
pub slot_total_set : (c : SlotCoord) (views : List (List Note)) (id : ℕ) (v w : List Note) → get_elem? views id ≡ some v → slot_total c (set views id w) + slot_weigh c v ≡ slot_total c views + slot_weigh c w
slot_total_set c [] id v w e = absurd (some-ne-none v (sym e))
slot_total_set c (x ∷ xs) zero v w e = let is : slot_weigh c x ≡ slot_weigh c v = ap (slot_weigh c) (some-injective x v e) in omega arith
slot_total_set c (x ∷ xs) (suc id) v w e = omega (arith, slot_total_set c xs id v w e)

pub slot_total_push : (c : SlotCoord) (views : List (List Note)) (w : List Note) → slot_total c (views ++ w ∷ []) ≡ slot_total c views + slot_weigh c w
slot_total_push c [] w = omega arith
slot_total_push c (x ∷ xs) w = omega (arith, slot_total_push c xs w)

-- LOTS OF A VIEW
pub duty_lot : (k : Lot) (e : ℕ) (x : TurnDuty) → duty_slots (lot k e) x ≡ 0
duty_lot k e (Told n y) = refl
duty_lot k e (Fresh t cause) = refl
duty_lot k e (Collecting t cause taken left) = refl
duty_lot k e Ticket = refl
duty_lot k e (Open n t) = refl
duty_lot k e (Owes gives) = refl
duty_lot k e (Counting f) = refl

pub rest_slots : (v : List Note) → RestMarks v → slots_in v ≡ []
rest_slots [] h = refl
rest_slots (Duty x ∷ xs) h = absurd h
rest_slots (Sems k l ∷ xs) h = rest_slots xs (rest_head (Sems k l) xs h).1
rest_slots (Has m ∷ xs) h = rest_slots xs (rest_head (Has m) xs h).1
rest_slots (Unfit s n t ∷ xs) h = absurd h
rest_slots (Lies k e p ∷ xs) h = absurd h
rest_slots (Queued q qs ∷ xs) h = absurd h

pub slot_total_swap : (c : SlotCoord) (views : List (List Note)) (id : ℕ) (old new rest : List Note) → get_elem? views id ≡ some (old ++ rest) → slot_total c (set views id (new ++ rest)) + slot_weigh c old ≡ slot_total c views + slot_weigh c new
slot_total_swap c views id old new rest at = omega (arith, slot_total_set c views id (old ++ rest) (new ++ rest) at, slot_append c old rest, slot_append c new rest)

-- HOMES
homes_by : {S : Type 0} (count : ℕ) (mark mark' : ℕ → ℕ) (homes : List (Option S)) (held held' : ℕ → ℕ) → Homes count mark homes held → ((e : ℕ) → e < count → mark' e ≡ mark e) → ((e : ℕ) → held' e ≡ held e) → Homes count mark' homes held'
homes_by count mark mark' homes held held' h marks helds e below = subst (λ m. HomeIs (get_elem? homes e) m (held' e)) (sym (marks e below)) (subst (λ n. HomeIs (get_elem? homes e) (mark e) n) (sym (helds e)) (h e below))

-- a step on another word by a seat that keeps its lots
pub homes_still : {S : Type 0} (net : NetRows) (words : List ℕ) (i k : ℕ) (homes : List (Option S)) (views : List (List Note)) (id : ℕ) (old new rest : List Note) → Homes (length net.edges) (slot_mark net words) homes (holders (λ c. slot_total c views))
    → get_elem? views id ≡ some (old ++ rest) → HoldsAlike old new → ((e : ℕ) → e < length net.edges → i ≢ marks_from net + e) → Homes (length net.edges) (slot_mark net (set words i k)) homes (holders (λ c. slot_total c (set views id (new ++ rest))))
homes_still net words i k homes views id old new rest h at same apart =
    homes_by (length net.edges) (slot_mark net words) (slot_mark net (set words i k)) homes _ _ h (λ e b. else_word words i k (marks_from net + e) (apart e b))
    (λ e. omega (arith, slot_total_swap (lot Putting e) views id old new rest at, slot_total_swap (lot Taking e) views id old new rest at, (same e).0, (same e).1))

-- views exchanged
pub homes_alike : {S : Type 0} (net : NetRows) (words : List ℕ) (homes : List (Option S)) (views views' : List (List Note)) → Homes (length net.edges) (slot_mark net words) homes (holders (λ c. slot_total c views))
    → ((j : Lot) (e : ℕ) → slot_total (lot j e) views' ≡ slot_total (lot j e) views) → Homes (length net.edges) (slot_mark net words) homes (holders (λ c. slot_total c views'))
homes_alike net words homes views views' h same = homes_by (length net.edges) (slot_mark net words) (slot_mark net words) homes _ _ h (λ e b. refl) (λ e. omega (arith, same Putting e, same Taking e))
