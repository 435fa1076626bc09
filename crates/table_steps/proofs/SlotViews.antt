-- What a view has of slots.
use Rattle.std.proofs.Common.{◌≡◌, ℕ, List, [], ◌∷◌, ◌++◌, length, refl, sym, ap, ◌∙◌, arith}
use Rattle.task_graph.specs.NetRows.{NetRows}
use Rattle.journal_rules.specs.declared.entry.Part.{Part}
use Rattle.journal_rules.specs.declared.entry.Part.TheVariants.{From, Nothing}
use Rattle.journal_rules.specs.declared.entry.Entry.{Entry}
use Rattle.table_steps.specs.declared.view.TurnDuty.{TurnDuty}
use Rattle.table_steps.specs.declared.view.TurnDuty.TheVariants.{Told, Fresh, Collecting, Ticket, Open, Owes, Counting}
use Rattle.table_steps.specs.declared.view.Lot.{Lot}
use Rattle.table_steps.specs.declared.view.Lot.TheVariants.{Ours, Putting, Awaited, Taking, Found}
use Rattle.table_steps.specs.declared.view.Note.{Note}
use Rattle.table_steps.specs.declared.view.Note.TheVariants.{Duty, Sems, Has, Unfit, Lies, Queued}
use Rattle.table_steps.specs.inside.Accounts.{Coord, duty, sem, mark, busy, resting, turning, owing, telling, weight, weigh, AllStand}
use Rattle.table_steps.specs.inside.Slots.{SlotCoord, parcel, lot, queue, owed, collected, left_at, slot_weight, slot_weigh, SlotMoves, slots_of, slots_in, HoldsAlike, awaited_lots, found_lots, our_lots, FindsFirst, first_parts, first_lots, after_lots}
use Rattle.table_steps.proofs.Totals.{weigh_append}
use Rattle.table_steps.proofs.Lots.{slot_append}

-- all that counts is among what a view has of slots
duty_note_weigh : (c : SlotCoord) (x : TurnDuty) → slot_weight c (Duty x) ≡ slot_weigh c (slots_of x)
duty_note_weigh (parcel e p) (Told n y) = refl
duty_note_weigh (parcel e p) (Fresh t cause) = refl
duty_note_weigh (parcel e p) (Collecting t cause taken left) = refl
duty_note_weigh (parcel e p) Ticket = refl
duty_note_weigh (parcel e p) (Open n t) = refl
duty_note_weigh (parcel e p) (Owes gives) = refl
duty_note_weigh (parcel e p) (Counting f) = refl
duty_note_weigh (lot k e) (Told n y) = refl
duty_note_weigh (lot k e) (Fresh t cause) = refl
duty_note_weigh (lot k e) (Collecting t cause taken left) = refl
duty_note_weigh (lot k e) Ticket = refl
duty_note_weigh (lot k e) (Open n t) = refl
duty_note_weigh (lot k e) (Owes gives) = refl
duty_note_weigh (lot k e) (Counting f) = refl
duty_note_weigh (queue m e) (Told n y) = refl
duty_note_weigh (queue m e) (Fresh t cause) = refl
duty_note_weigh (queue m e) (Collecting t cause taken left) = refl
duty_note_weigh (queue m e) Ticket = refl
duty_note_weigh (queue m e) (Open n t) = refl
duty_note_weigh (queue m e) (Owes gives) = refl
duty_note_weigh (queue m e) (Counting f) = refl
duty_note_weigh (owed e) (Told n y) = refl
duty_note_weigh (owed e) (Fresh t cause) = refl
duty_note_weigh (owed e) (Collecting t cause taken left) = refl
duty_note_weigh (owed e) Ticket = refl
duty_note_weigh (owed e) (Open n t) = refl
duty_note_weigh (owed e) (Owes gives) = omega arith
duty_note_weigh (owed e) (Counting f) = refl
duty_note_weigh (collected e) (Told n y) = refl
duty_note_weigh (collected e) (Fresh t cause) = refl
duty_note_weigh (collected e) (Collecting t cause taken left) = omega arith
duty_note_weigh (collected e) Ticket = refl
duty_note_weigh (collected e) (Open n t) = refl
duty_note_weigh (collected e) (Owes gives) = refl
duty_note_weigh (collected e) (Counting f) = refl
duty_note_weigh (left_at e) (Told n y) = refl
duty_note_weigh (left_at e) (Fresh t cause) = refl
duty_note_weigh (left_at e) (Collecting t cause taken left) = omega arith
duty_note_weigh (left_at e) Ticket = refl
duty_note_weigh (left_at e) (Open n t) = refl
duty_note_weigh (left_at e) (Owes gives) = refl
duty_note_weigh (left_at e) (Counting f) = refl

-- duties say nothing of what lay in slots
pub duty_queue : (m : List Part → ℕ) (e : ℕ) (x : TurnDuty) → slot_weight (queue m e) (Duty x) ≡ 0
duty_queue m e (Told n y) = refl
duty_queue m e (Fresh t cause) = refl
duty_queue m e (Collecting t cause taken left) = refl
duty_queue m e Ticket = refl
duty_queue m e (Open n t) = refl
duty_queue m e (Owes gives) = refl
duty_queue m e (Counting f) = refl

-- notes that count nothing
sems_none : (c : SlotCoord) (x : Note) → slots_in (x ∷ []) ≡ [] → slot_weight c x ≡ 0
sems_none c (Duty x) is = omega (arith, duty_note_weigh c x, slot_append c (slots_of x) [], ap (slot_weigh c) is)
sems_none (parcel e p) (Sems k l) is = refl
sems_none (parcel e p) (Has m) is = refl
sems_none (parcel e p) (Unfit s n t) is = refl
sems_none (lot k e) (Sems j l) is = refl
sems_none (lot k e) (Has m) is = refl
sems_none (lot k e) (Unfit s n t) is = refl
sems_none (queue m e) (Sems j l) is = refl
sems_none (queue m e) (Has k) is = refl
sems_none (queue m e) (Unfit s n t) is = refl
sems_none (owed e) (Sems k l) is = refl
sems_none (owed e) (Has m) is = refl
sems_none (owed e) (Unfit s n t) is = refl
sems_none (collected e) (Sems k l) is = refl
sems_none (collected e) (Has m) is = refl
sems_none (collected e) (Unfit s n t) is = refl
sems_none (left_at e) (Sems k l) is = refl
sems_none (left_at e) (Has m) is = refl
sems_none (left_at e) (Unfit s n t) is = refl
sems_none c (Lies k e p) is = absurd (cc)
sems_none c (Queued q qs) is = absurd (cc)

pub slots_weigh : (c : SlotCoord) (v : List Note) → slot_weigh c v ≡ slot_weigh c (slots_in v)
slots_weigh c [] = refl
slots_weigh c (Duty x ∷ xs) = omega (arith, duty_note_weigh c x, slot_append c (slots_of x) (slots_in xs), slots_weigh c xs)
slots_weigh c (Sems k l ∷ xs) = omega (arith, sems_none c (Sems k l) refl, slots_weigh c xs)
slots_weigh c (Has m ∷ xs) = omega (arith, sems_none c (Has m) refl, slots_weigh c xs)
slots_weigh c (Unfit s n t ∷ xs) = omega (arith, sems_none c (Unfit s n t) refl, slots_weigh c xs)
slots_weigh c (Lies k e p ∷ xs) = omega (arith, slots_weigh c xs)
slots_weigh c (Queued q qs ∷ xs) = omega (arith, slots_weigh c xs)

pub slots_same : (v w : List Note) → slots_in w ≡ slots_in v → (c : SlotCoord) → slot_weigh c w ≡ slot_weigh c v
slots_same v w same c = slots_weigh c w ∙ ap (slot_weigh c) same ∙ sym (slots_weigh c v)

-- lists in parts
assoc : (xs ys zs : List Note) → (xs ++ ys) ++ zs ≡ xs ++ (ys ++ zs)
assoc [] ys zs = refl
assoc (x ∷ xs) ys zs = ap (λ l. x ∷ l) (assoc xs ys zs)

pub slots_append : (v w : List Note) → slots_in (v ++ w) ≡ slots_in v ++ slots_in w
slots_append [] w = refl
slots_append (Duty x ∷ xs) w = ap (λ l. slots_of x ++ l) (slots_append xs w) ∙ sym (assoc (slots_of x) (slots_in xs) (slots_in w))
slots_append (Sems k l ∷ xs) w = slots_append xs w
slots_append (Has m ∷ xs) w = slots_append xs w
slots_append (Unfit s n t ∷ xs) w = slots_append xs w
slots_append (Lies k e p ∷ xs) w = ap (λ l. Lies k e p ∷ l) (slots_append xs w)
slots_append (Queued q qs ∷ xs) w = ap (λ l. Queued q qs ∷ l) (slots_append xs w)

-- a step that changes nothing of slots changes no lot of a turn that holds one
pub holds_same : (old new : List Note) → slots_in new ≡ slots_in old → HoldsAlike old new
holds_same old new same e = (slots_same old new same (lot Putting e), slots_same old new same (lot Taking e))

-- what a step exchanges of slots
pub slots_moved : (T T' : SlotCoord → ℕ) (old new old' new' : List Note) → SlotMoves T old T' new → slots_in old' ≡ slots_in old → slots_in new' ≡ slots_in new → SlotMoves T old' T' new'
slots_moved T T' old new old' new' moved olds news c = omega (arith, moved c, slots_same old old' olds c, slots_same new new' news c)

-- an End that gives no edge owes nothing
pub owes_none : (c : SlotCoord) → slot_weigh c (Duty (Owes []) ∷ []) ≡ 0
owes_none (parcel e p) = refl
owes_none (lot k e) = refl
owes_none (queue m e) = refl
owes_none (owed e) = refl
owes_none (collected e) = refl
owes_none (left_at e) = refl

-- LOTS, which count in no other account
pub lies_none : (c : Coord) (k : Lot) (e : ℕ) (p : Part) → weight c (Lies k e p) ≡ 0
lies_none (duty c) k e p = refl
lies_none (sem z s) k e p = refl
lies_none (mark m) k e p = refl
lies_none busy k e p = refl
lies_none resting k e p = refl
lies_none turning k e p = refl
lies_none owing k e p = refl
lies_none telling k e p = refl

pub awaited_weigh : (c : Coord) (es : List ℕ) → weigh c (awaited_lots es) ≡ 0
awaited_weigh c [] = refl
awaited_weigh c (e ∷ es) = omega (arith, lies_none c Awaited e Nothing, awaited_weigh c es)

pub found_weigh : (c : Coord) (es : List ℕ) (ps : List Part) → weigh c (found_lots es ps) ≡ 0
found_weigh c [] ps = refl
found_weigh c (e ∷ es) [] = refl
found_weigh c (e ∷ es) (p ∷ ps) = omega (arith, lies_none c Found e p, found_weigh c es ps)

pub our_weigh : (c : Coord) (n : ℕ) (es : List ℕ) → weigh c (our_lots n es) ≡ 0
our_weigh c n [] = refl
our_weigh c n (e ∷ es) = omega (arith, lies_none c Ours e (From n), our_weigh c n es)

pub awaited_stand : (net : NetRows) (journal : List Entry) (es : List ℕ) → AllStand net journal (awaited_lots es)
awaited_stand net journal [] = tt
awaited_stand net journal (e ∷ es) = (tt, awaited_stand net journal es)

pub our_stand : (net : NetRows) (journal : List Entry) (n : ℕ) (es : List ℕ) → AllStand net journal (our_lots n es)
our_stand net journal n [] = tt
our_stand net journal n (e ∷ es) = (tt, our_stand net journal n es)

-- notes that begin with lots whose parcels were found
pub first_found : (es : List ℕ) (v : List Note) → FindsFirst es v → v ≡ found_lots es (first_parts es v) ++ after_lots es v
first_found [] v h = refl
first_found (e ∷ es) (Lies Found f p ∷ v) h = λ i. Lies Found (h.0 i) p ∷ first_found es v h.1 i
first_found (e ∷ es) v h = absurd h

pub after_weigh : (c : Coord) (es : List ℕ) (v : List Note) → FindsFirst es v → weigh c (after_lots es v) ≡ weigh c v
after_weigh c es v h = omega (arith, ap (weigh c) (first_found es v h), weigh_append c (found_lots es (first_parts es v)) (after_lots es v), found_weigh c es (first_parts es v))

pub parts_length : (es : List ℕ) (v : List Note) → FindsFirst es v → length (first_parts es v) ≡ length es
parts_length [] v h = refl
parts_length (e ∷ es) (Lies Found f p ∷ v) h = omega (arith, parts_length es v h.1)
parts_length (e ∷ es) v h = absurd h

pub lots_first : (es : List ℕ) (v : List Note) → FindsFirst es v → first_lots es v ≡ found_lots es (first_parts es v)
lots_first [] v h = refl
lots_first (e ∷ es) (Lies Found f p ∷ v) h = λ i. Lies Found (h.0 i) p ∷ lots_first es v h.1 i
lots_first (e ∷ es) v h = absurd h

pub split_lots : (es : List ℕ) (v : List Note) → first_lots es v ++ after_lots es v ≡ v
split_lots [] v = refl
split_lots (e ∷ es) [] = refl
split_lots (e ∷ es) (x ∷ v) = ap (λ l. x ∷ l) (split_lots es v)

pub first_weigh : (c : Coord) (es : List ℕ) (v : List Note) → FindsFirst es v → weigh c (first_lots es v) ≡ 0
first_weigh c es v h = ap (weigh c) (lots_first es v h) ∙ found_weigh c es (first_parts es v)

-- the lots of a release whose parcels were found, before other notes
pub finds_found : (es : List ℕ) (ps : List Part) (v : List Note) → length ps ≡ length es → FindsFirst es (found_lots es ps ++ v)
finds_found [] ps v same = tt
finds_found (e ∷ es) [] v same = absurd (omega arith)
finds_found (e ∷ es) (p ∷ ps) v same = (refl, finds_found es ps v (omega arith))

pub found_parts : (es : List ℕ) (ps : List Part) (v : List Note) → length ps ≡ length es → first_parts es (found_lots es ps ++ v) ≡ ps
found_parts [] [] v same = refl
found_parts [] (p ∷ ps) v same = absurd (omega arith)
found_parts (e ∷ es) [] v same = absurd (omega arith)
found_parts (e ∷ es) (p ∷ ps) v same = ap (λ l. p ∷ l) (found_parts es ps v (omega arith))

pub found_after : (es : List ℕ) (ps : List Part) (v : List Note) → length ps ≡ length es → after_lots es (found_lots es ps ++ v) ≡ v
found_after [] ps v same = refl
found_after (e ∷ es) [] v same = absurd (omega arith)
found_after (e ∷ es) (p ∷ ps) v same = found_after es ps v (omega arith)

pub found_push : (es : List ℕ) (ps : List Part) (f : ℕ) (q : Part) (v : List Note) → length ps ≡ length es → found_lots (es ++ f ∷ []) (ps ++ q ∷ []) ++ v ≡ found_lots es ps ++ Lies Found f q ∷ v
found_push [] [] f q v same = refl
found_push [] (p ∷ ps) f q v same = absurd (omega arith)
found_push (e ∷ es) [] f q v same = absurd (omega arith)
found_push (e ∷ es) (p ∷ ps) f q v same = ap (λ l. Lies Found e p ∷ l) (found_push es ps f q v (omega arith))

pub after_append : (es : List ℕ) (v w : List Note) → FindsFirst es v → (FindsFirst es (v ++ w)) × (first_parts es (v ++ w) ≡ first_parts es v) × (after_lots es (v ++ w) ≡ after_lots es v ++ w)
after_append [] v w h = (tt, refl, refl)
after_append (e ∷ es) (Lies Found f p ∷ v) w h = let more = after_append es v w h.1 in ((h.0, more.0), ap (λ l. p ∷ l) more.1, more.2)
after_append (e ∷ es) v w h = absurd h
