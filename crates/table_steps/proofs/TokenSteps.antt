-- What the steps on edges' and join words ask is met.
use Rattle.std.proofs.Common.{◌≡◌, ◌≢◌, ◌⊎◌, inl, inr, ℕ, zero, suc, ◌+◌, ◌-◌, ◌%◌, ◌^◌, ◌<◌, ◌≤◌, Bool, true, false, not, ◌&&◌, cond, List, [], ◌∷◌, ◌++◌, length, Option, Some, None, eqb, set, sym, refl, ap, ◌∙◌, subst, arith, get_or-set_same}
use Rattle.std.specs.Prelude.{slice_index, slice_get, ◌==◌, nat_lt, IsSomeAnd}
use Rattle.std.specs.Option.{option_map_or}
use Rattle.std.specs.List.{AllByRecursion}
use Rattle.std.proofs.lemmas.Bool.Decides.{nat_tests}
use Rattle.std.proofs.lemmas.Bool.{cases_eq, cases_lt, false≢true}
use Rattle.std.proofs.lemmas.List.{append_assoc}
use mathlib.Core.Option.{some}
use lib.ListN.{get_elem?}
use Rattle.atomic_table.specs.Table.{Act, keeps, Valid, carried_after, stepped, Allows}
use Rattle.task_graph.specs.NetRows.{NetRows}
use Rattle.task_graph.specs.Net.{IsNet, IsEdgeOf, is_weak, is_weak_row, strong_in}
use Rattle.task_graph.specs.declared.net.EdgeRow.{EdgeRow}
use Rattle.journal_rules.specs.declared.entry.Cause.{Cause}
use Rattle.journal_rules.specs.declared.entry.Cause.TheVariants.{Source, Strong, Weak}
use Rattle.journal_rules.specs.declared.entry.Entry.{Entry}
use Rattle.journal_rules.specs.DataRule.{edges_of}
use Rattle.journal_rules.proofs.NetLemmas.{at_place, places_length}
use Rattle.journal_rules.specs.declared.entry.Part.{Part}
use Rattle.table_steps.specs.Releases.{MayBeReleased}
use Rattle.table_steps.specs.declared.view.TurnDuty.TheVariants.{Fresh, Collecting, Owes, Counting}
use Rattle.table_steps.specs.declared.view.SeatMark.TheVariants.{Live}
use Rattle.table_steps.specs.declared.view.Note.{Note}
use Rattle.table_steps.specs.declared.view.Note.TheVariants.{Duty, Has, Lies}
use Rattle.table_steps.specs.inside.Duties.{awaits, weakly, unset, any, sum_over, Raised, TakesFrom, after_give, after_count, after_take}
use Rattle.table_steps.specs.Giving.{one_if, times, target}
use Rattle.table_steps.specs.inside.Accounts.{Coord, duty, mark, resting, weigh, total, AllStand, Moves, KeepsAccounts, reading, tokens_from, with_tokens}
use Rattle.table_steps.specs.inside.Kinds.{wrap, news, collecting_notes, MayReset, taken_up, TakesNextToken, took, OwesNext, given_notes, gave, CountsNext, counted_notes, counted_one, AreNoneLeft, others_of}
use Rattle.table_steps.proofs.Totals.{weigh_append, total_set}
use Rattle.table_steps.proofs.Counting.{times_append, times_strong_in, is_strong_into, is_one}
use Rattle.table_steps.proofs.StartDuties.{one_self}
use Rattle.table_steps.proofs.CountDuties.{join_above, any_most, into_strong, sum_raised, sum_short}
use Rattle.table_steps.proofs.ResetDuties.{is_clear, cleared_at}
use Rattle.table_steps.proofs.Raising.{raised_by}
use Rattle.table_steps.proofs.Reading.{tells_is, else_word, else_edge, else_unit, else_credit}
use Rattle.table_steps.specs.declared.view.Lot.TheVariants.{Putting, Put, Taking, Fetched, Found}
use Rattle.table_steps.specs.inside.Slots.{SlotCoord, lot, slot_weigh, slots_in, awaited_lots, relot, unlot}
use Rattle.table_steps.specs.inside.SlotMarks.{label_of}
use Rattle.table_steps.proofs.UnitAccounts.{no_units}
use Rattle.table_steps.proofs.Views.{stand_both}
use Rattle.table_steps.proofs.Lots.{slot_append, awaited_none}
use Rattle.table_steps.proofs.LotSteps.{token_given, token_taken as slot_token_taken}
use Rattle.table_steps.proofs.LotEntries.{taken_up_slots}
use Rattle.table_steps.proofs.SlotViews.{slots_same, holds_same, slots_moved, awaited_weigh, awaited_stand}
use Rattle.table_steps.proofs.Relotting.{has_lot, relot_slots, unlot_slots, relot_weigh, unlot_weigh, relot_stand, unlot_stand}
use Rattle.table_steps.proofs.Stepping.{St, Seated, own_lone, after_step, after_all, still_slots, done}
use Rattle.table_steps.proofs.Tokens.{by_give, by_count, give_kept, count_kept, reset_kept, take_kept}
use Rattle.table_steps.proofs.Bounds.{few_given}

-- WHAT THE WORDS SAY, after one of an edge or of a task is set
pub edge_at : (net : NetRows) (words : List ℕ) (f : ℕ) → f < length net.edges → (reading net words).edge f ≡ slice_index words (tokens_from net + f)
edge_at net words f below = let is : nat_lt f (length net.edges) ≡ true = grind (arith, nat_tests) in rw is refl

edge_off : (net : NetRows) (words : List ℕ) (i k e : ℕ) → (e < length net.edges → i ≢ tokens_from net + e) → (reading net (set words i k)).edge e ≡ (reading net words).edge e
edge_off net words i k e apart = by_place (cases_lt e (length net.edges))
  where
    by_place : (e < length net.edges) ⊎ (length net.edges ≤ e) → (reading net (set words i k)).edge e ≡ (reading net words).edge e
    by_place (inl below) = else_edge net words i k e (apart below)
    by_place (inr past) = let is : nat_lt e (length net.edges) ≡ false = grind (arith, nat_tests) in rw is refl

tokens_read : (net : NetRows) (words : List ℕ) (f k : ℕ) → f < length net.edges
    → reading net (set words (tokens_from net + f) k) ≡ with_tokens (reading net words) ((reading net (set words (tokens_from net + f) k)).edge) ((reading net words).join)
tokens_read net words f k below = let i = tokens_from net + f in tells_is _ _ (else_word words i k 8 (λ z. omega arith)) (else_word words i k 16 (λ z. omega arith)) (else_word words i k 24 (λ z. omega arith)) (else_word words i k 32 (λ z. omega arith))
    (λ s. else_unit net words i k s (λ b z. omega arith)) (λ s. else_credit net words i k s (λ b z. omega arith)) (λ e. refl) (λ t. else_word words i k (tokens_from net + length net.edges + t) (λ z. omega arith))

joins_read : (net : NetRows) (words : List ℕ) (t k : ℕ)
    → reading net (set words (tokens_from net + length net.edges + t) k) ≡ with_tokens (reading net words) ((reading net words).edge) ((reading net (set words (tokens_from net + length net.edges + t) k)).join)
joins_read net words t k = let i = tokens_from net + length net.edges + t in tells_is _ _ (else_word words i k 8 (λ z. omega arith)) (else_word words i k 16 (λ z. omega arith)) (else_word words i k 24 (λ z. omega arith)) (else_word words i k 32 (λ z. omega arith))
    (λ s. else_unit net words i k s (λ b z. omega arith)) (λ s. else_credit net words i k s (λ b z. omega arith)) (λ e. edge_off net words i k e (λ b z. omega arith)) (λ u. refl)

edge_raised : (net : NetRows) (words : List ℕ) (f k : ℕ) → f < length net.edges → tokens_from net + f < length words → k ≡ slice_index words (tokens_from net + f) + 1 → Raised ((reading net words).edge) f ((reading net (set words (tokens_from net + f) k)).edge)
edge_raised net words f k below inside is = raised_by _ _ f (λ e other. edge_off net words (tokens_from net + f) k e (λ b z. other (omega arith)))
    (edge_at net (set words (tokens_from net + f) k) f below ∙ get_or-set_same words (tokens_from net + f) k 0 inside ∙ is ∙ ap (λ n. n + 1) (sym (edge_at net words f below)))

edge_lowered : (net : NetRows) (words : List ℕ) (f k : ℕ) → f < length net.edges → tokens_from net + f < length words → k + 1 ≡ slice_index words (tokens_from net + f) → Raised ((reading net (set words (tokens_from net + f) k)).edge) f ((reading net words).edge)
edge_lowered net words f k below inside is = raised_by _ _ f (λ e other. sym (edge_off net words (tokens_from net + f) k e (λ b z. other (omega arith))))
    (edge_at net words f below ∙ sym is ∙ ap (λ n. n + 1) (sym (edge_at net (set words (tokens_from net + f) k) f below ∙ get_or-set_same words (tokens_from net + f) k 0 inside)))

join_off : (net : NetRows) (words : List ℕ) (t k u : ℕ) → u ≢ t → (reading net (set words (tokens_from net + length net.edges + t) k)).join u ≡ (reading net words).join u
join_off net words t k u other = else_word words (tokens_from net + length net.edges + t) k (tokens_from net + length net.edges + u) (λ z. other (omega arith))

join_here : (net : NetRows) (words : List ℕ) (t k : ℕ) → tokens_from net + length net.edges + t < length words → (reading net (set words (tokens_from net + length net.edges + t) k)).join t ≡ k
join_here net words t k below = get_or-set_same words (tokens_from net + length net.edges + t) k 0 below

join_lowered : (net : NetRows) (words : List ℕ) (t k : ℕ) → tokens_from net + length net.edges + t < length words → k + 1 ≡ (reading net words).join t
    → Raised ((reading net (set words (tokens_from net + length net.edges + t) k)).join) t ((reading net words).join)
join_lowered net words t k below less = raised_by ((reading net (set words (tokens_from net + length net.edges + t) k)).join) ((reading net words).join) t (λ u other. sym (join_off net words t k u other))
    (sym less ∙ ap (λ j. j + 1) (sym (join_here net words t k below)))

-- TOKEN GIVEN
give_moves : (T T' : Coord → ℕ) (w : Bool) (t found f : ℕ) (gives : List ℕ) → Moves T (Duty (Owes (f ∷ gives)) ∷ []) T' (given_notes w t found f gives)
    → Moves T (wrap (Owes (f ∷ gives) ∷ [])) T' (wrap (after_give w t found f gives) ++ news (by_give w))
give_moves T T' true t found f gives moved c = omega (arith, moved c)
give_moves T T' false t zero f gives moved c = omega (arith, moved c)
give_moves T T' false t (suc n) f gives moved c = omega (arith, moved c)

-- a token on a weak edge releases the task to which it leads
weak_release : (net : NetRows) (e : ℕ) → IsNet net → e < length net.edges → is_weak net e ≡ true → MayBeReleased net (target net e) (Weak e)
weak_release net e rows below weak = by_row (slice_get net.edges e) refl weak
  where
    by_row : (row : Option EdgeRow) → slice_get net.edges e ≡ row → option_map_or (is_weak_row net) row false ≡ true → MayBeReleased net (target net e) (Weak e)
    by_row None is is_so = absurd (false≢true is_so)
    by_row (Some row) is is_so = let to : target net e ≡ row.to = ap (λ o. option_map_or (λ (r : EdgeRow). r.to) o 0) is in record {
      in_tasks = subst (λ u. u < length net.tasks) (sym to) (at_place (IsEdgeOf net) net.edges e row rows.edges is).to_in_range;
      in_range = below;
      fits = (weak, subst (λ o. IsSomeAnd o (λ (r : EdgeRow). r.to ≡ target net e)) (sym is) (sym to));
    }

give_stands : (net : NetRows) (journal : List Entry) (w : Bool) (found f : ℕ) (gives : List ℕ) → IsNet net → is_weak net f ≡ w → f < length net.edges → AllByRecursion (λ e. e < length net.edges) gives → AllStand net journal (given_notes w (target net f) found f gives)
give_stands net journal true found f gives rows weak below rest = (weak_release net f rows below weak, (tt, (rest, tt)))
give_stands net journal false zero f gives rows weak below rest = (tt, (rest, tt))
give_stands net journal false (suc n) f gives rows weak below rest = (rest, tt)

give_rests : (w : Bool) (t found f : ℕ) (gives : List ℕ) → (weigh resting (given_notes w t found f gives) ≡ 0) × (weigh (mark Live) (given_notes w t found f gives) ≡ 0)
give_rests true t found f gives = (refl, refl)
give_rests false t zero f gives = (refl, refl)
give_rests false t (suc n) f gives = (refl, refl)

give_slots : (w : Bool) (t found f : ℕ) (gives : List ℕ) → slots_in (given_notes w t found f gives) ≡ Duty (Owes gives) ∷ []
give_slots true t found f gives = refl
give_slots false t zero f gives = refl
give_slots false t (suc n) f gives = refl

pub give_allowed : {S : Type 0} {part : S → List Part} (net : NetRows) (limit slots id : ℕ) (me : Seated S) (f : ℕ) → OwesNext net f me.0
    → Allows (KeepsAccounts part net limit) slots id me (tokens_from net + f) (λ n. (n + 1) % 2 ^ 64) (λ n m. (m.0 ≡ gave net f n me.0) × (m.1 ≡ me.1))
give_allowed {S} {part} net limit slots id me f may s h _ at small = from me.0 may at
  where
    i : ℕ
    i = tokens_from net + f

    from : (v : List Note) → OwesNext net f v → get_elem? s.views id ≡ some v
        → (u : List Note) × (a : Act _) × Valid s.homes me.1 a × KeepsAccounts part net limit (stepped s i ((slice_index s.words i + 1) % 2 ^ 64) id me.1 u a) × ((u ≡ gave net f (slice_index s.words i) v) × (carried_after me.1 a ≡ me.1))
    from (Duty (Owes (g ∷ gives)) ∷ rest) may at =
        let n = slice_index s.words i in let below = may.1 in
        let at' : get_elem? s.views id ≡ some (Duty (Owes (f ∷ gives)) ∷ rest) = at ∙ ap (λ k. some (Duty (Owes (k ∷ gives)) ∷ rest)) may.0 in
        let n_is : (reading net s.words).edge f ≡ n = edge_at net s.words f below in
        let sum : (n + 1) % 18446744073709551616 ≡ n + 1 = omega (arith, n_is, h.balanced.by_edges f, few_given net limit s h f) in
        let w = is_weak net f in let new = given_notes w (target net f) n f gives in
        let rests = give_rests w (target net f) n f gives in
        let inside : i < length s.words = omega (arith, h.size, below) in
        let r = has_lot Put f rest may.3 in let left = unlot Put f rest in
        let v = Duty (Owes (f ∷ gives)) ∷ rest in let v' = new ++ left in
        let slots : (c : SlotCoord) → slot_weigh c v' + slot_weigh c (Duty (Owes (f ∷ gives)) ∷ Lies Put f r.part ∷ []) ≡ slot_weigh c v + slot_weigh c (Duty (Owes gives) ∷ []) =
        λ c. omega (arith, slot_append c new left, unlot_slots c Put f rest r, slots_same (Duty (Owes gives) ∷ []) new (give_slots w (target net f) n f gives) c) in
        done net limit s id i _ me v' _ refl
        (after_all net limit s h id i ((n + 1) % 18446744073709551616) me.1 v v' h.journal h.counted _ at' (λ e. (omega (arith, slots (lot Putting e)), omega (arith, slots (lot Taking e)))) (λ e b z. omega arith) (λ u stand. stand)
        (own_lone net h.journal (λ c. total c s.views) v v' [] (stand_both net h.journal new left (give_stands net h.journal w n f gives h.fits.rows refl below (h.views id v at').stand.0.1) (unlot_stand net h.journal Put f rest r (h.views id v at').stand.1))
        (omega (arith, may.2, weigh_append (mark Live) v [])) (omega (arith, may.2, weigh_append (mark Live) v' [], weigh_append (mark Live) new left, unlot_weigh (mark Live) Put f rest r)) (omega (arith, may.2, rests.0, weigh_append resting v' [], weigh_append resting new left, unlot_weigh resting Put f rest r)))
        (omega (arith, h.few, rests.1, total_set (mark Live) s.views id v v' at', weigh_append (mark Live) new left, unlot_weigh (mark Live) Put f rest r)) h.few_drops (tokens_read net s.words f _ below)
        (λ moved. token_given net h.journal _ _ _ _ (label_of part s.homes) f r.part gives h.slots (edge_raised net s.words f _ below inside sum) (λ c. omega (arith, moved c, slots c)))
        (λ moved. give_kept net limit (reading net s.words) h.counted h.journal (λ c. total c s.views) _ _ w (target net f) n f gives h.balanced refl n_is
        (edge_raised net s.words f _ below inside sum) (give_moves _ _ w (target net f) n f gives (λ c. omega (arith, moved c, weigh_append c new left, unlot_weigh c Put f rest r)))))
    from v may at = absurd may

-- TOKEN TAKEN
takes_from : (net : NetRows) (t : ℕ) (cause : Cause) (taken left : List ℕ) (f : ℕ) → MayBeReleased net t cause → taken ++ f ∷ left ≡ edges_of net t cause → TakesFrom net cause f
takes_from net t Source taken left f fits is = let many : times f (taken ++ f ∷ left) ≡ 0 = ap (times f) is in omega (arith, many, times_append f taken (f ∷ left), one_self f)
takes_from net t Strong taken left f fits is =
    into_strong net t f (is_one (is_strong_into net t f) (omega (arith, ap (times f) is, times_append f taken (f ∷ left), one_self f, times_strong_in net t f)))
takes_from net t (Weak e) taken left f fits is = by_eq (cases_eq e f)
  where
    by_eq : (e ≡ f) ⊎ (e ≢ f) → is_weak net f ≡ true
    by_eq (inl same) = ap (is_weak net) (sym same) ∙ fits.fits.0
    by_eq (inr other) =
        let miss : one_if (eqb e f) ≡ 0 = let m : eqb e f ≡ false = grind (arith, nat_tests) in ap one_if m in
        absurd (omega (arith, miss, ap (times f) is, times_append f taken (f ∷ left), one_self f))

some_there : (n : ℕ) → 1 ≤ any n → 1 ≤ n
some_there zero h = absurd (omega arith)
some_there (suc n) h = omega arith

-- an edge from which a seat is to take has a token
token_there : {S : Type 0} {part : S → List Part} (net : NetRows) (limit : ℕ) (s : St S) (h : KeepsAccounts part net limit s) (id t : ℕ) (cause : Cause) (taken left : List ℕ) (f : ℕ) (rest : List Note) → TakesFrom net cause f
    → get_elem? s.views id ≡ some (Duty (Collecting t cause taken (f ∷ left)) ∷ rest) → 1 ≤ (reading net s.words).edge f
token_there net limit s h id t Source taken left f rest takes at = absurd takes
token_there net limit s h id t Strong taken left f rest takes at =
    some_there ((reading net s.words).edge f) (omega (arith, h.balanced.by_duties.states f takes, one_self f, total_set (duty (awaits f)) s.views id (Duty (Collecting t Strong taken (f ∷ left)) ∷ rest) rest at))
token_there net limit s h id t (Weak e) taken left f rest takes at =
    omega (arith, h.balanced.by_duties.weaks f takes, one_self f, total_set (duty (weakly f)) s.views id (Duty (Collecting t (Weak e) taken (f ∷ left)) ∷ rest) rest at)

take_stands : (net : NetRows) (journal : List Entry) (t : ℕ) (cause : Cause) (taken : List ℕ) (found f : ℕ) (left : List ℕ) → MayBeReleased net t cause → taken ++ f ∷ left ≡ edges_of net t cause → AllStand net journal (wrap (after_take t cause taken found f left))
take_stands net journal t Source taken found f left fits is = ((fits, append_assoc taken (f ∷ []) left ∙ is), tt)
take_stands net journal t (Weak e) taken found f left fits is = ((fits, append_assoc taken (f ∷ []) left ∙ is), tt)
take_stands net journal t Strong taken zero f left fits is = ((fits, append_assoc taken (f ∷ []) left ∙ is), tt)
take_stands net journal t Strong taken (suc zero) f left fits is = ((fits, append_assoc taken (f ∷ []) left ∙ is), tt)
take_stands net journal t Strong taken (suc (suc n)) f left fits is = (tt, ((fits, append_assoc taken (f ∷ []) left ∙ is), tt))

take_rests : (t : ℕ) (cause : Cause) (taken : List ℕ) (found f : ℕ) (left : List ℕ) → (weigh resting (wrap (after_take t cause taken found f left)) ≡ 0) × (weigh (mark Live) (wrap (after_take t cause taken found f left)) ≡ 0)
take_rests t Source taken found f left = (refl, refl)
take_rests t (Weak e) taken found f left = (refl, refl)
take_rests t Strong taken zero f left = (refl, refl)
take_rests t Strong taken (suc zero) f left = (refl, refl)
take_rests t Strong taken (suc (suc n)) f left = (refl, refl)

take_slots : (t : ℕ) (cause : Cause) (taken : List ℕ) (found f : ℕ) (left : List ℕ) → slots_in (wrap (after_take t cause taken found f left)) ≡ Duty (Collecting t cause (taken ++ f ∷ []) left) ∷ []
take_slots t Source taken found f left = refl
take_slots t (Weak e) taken found f left = refl
take_slots t Strong taken zero f left = refl
take_slots t Strong taken (suc zero) f left = refl
take_slots t Strong taken (suc (suc n)) f left = refl

pub take_allowed : {S : Type 0} {part : S → List Part} (net : NetRows) (limit slots id : ℕ) (me : Seated S) (f : ℕ) → TakesNextToken net f me.0
    → Allows (KeepsAccounts part net limit) slots id me (tokens_from net + f) (λ n. (n + (2 ^ 64 - 1)) % 2 ^ 64) (λ n m. (m.0 ≡ took n me.0) × (m.1 ≡ me.1))
take_allowed {S} {part} net limit slots id me f may s h _ at small = from me.0 may at
  where
    i : ℕ
    i = tokens_from net + f

    from : (v : List Note) → TakesNextToken net f v → get_elem? s.views id ≡ some v
        → (u : List Note) × (a : Act _) × Valid s.homes me.1 a × KeepsAccounts part net limit (stepped s i ((slice_index s.words i + (2 ^ 64 - 1)) % 2 ^ 64) id me.1 u a) × ((u ≡ took (slice_index s.words i) v) × (carried_after me.1 a ≡ me.1))
    from (Duty (Collecting t cause taken (g ∷ left)) ∷ rest) may at =
        let n = slice_index s.words i in let below = may.1 in
        let old = Duty (Collecting t cause taken (f ∷ left)) ∷ [] in
        let at' : get_elem? s.views id ≡ some (old ++ rest) = at ∙ ap (λ k. some (Duty (Collecting t cause taken (k ∷ left)) ∷ rest)) may.0 in
        let stand = (h.views id (old ++ rest) at').stand.0 in
        let takes = takes_from net t cause taken left f stand.0 stand.1 in
        let n_is : (reading net s.words).edge f ≡ n = edge_at net s.words f below in
        let there = token_there net limit s h id t cause taken left f rest takes at' in
        let small_is : n < 18446744073709551616 = small in
        let k = (n + 18446744073709551615) % 18446744073709551616 in
        let less : k + 1 ≡ n = omega (arith, n_is, there) in
        let items = after_take t cause taken n f left in let new = wrap items in
        let rests = take_rests t cause taken n f left in
        let inside : i < length s.words = omega (arith, h.size, below) in
        let r = has_lot Fetched f rest may.3 in let more = relot Fetched Found (λ p. p) f rest in
        let v = Duty (Collecting t cause taken (f ∷ left)) ∷ rest in let v' = new ++ more in
        let slots : (c : SlotCoord) → slot_weigh c v' + slot_weigh c (Duty (Collecting t cause taken (f ∷ left)) ∷ Lies Fetched f r.part ∷ []) ≡ slot_weigh c v + slot_weigh c (Duty (Collecting t cause (taken ++ f ∷ []) left) ∷ Lies Found f r.part ∷ []) =
        λ c. omega (arith, slot_append c new more, relot_slots c Fetched Found (λ p. p) f rest r, slots_same (Duty (Collecting t cause (taken ++ f ∷ []) left) ∷ []) new (take_slots t cause taken n f left) c) in
        done net limit s id i _ me v' _ (λ j. wrap (after_take t cause taken n (sym may.0 j) left) ++ relot Fetched Found (λ p. p) (sym may.0 j) rest)
        (after_all net limit s h id i k me.1 v v' h.journal h.counted _ at' (λ e. (omega (arith, slots (lot Putting e)), omega (arith, slots (lot Taking e)))) (λ e b z. omega arith) (λ u stand. stand)
        (own_lone net h.journal (λ c. total c s.views) v v' [] (stand_both net h.journal new more (take_stands net h.journal t cause taken n f left stand.0 stand.1) (relot_stand net h.journal Fetched Found (λ p. p) f rest r (h.views id v at').stand.1))
        (omega (arith, may.2, weigh_append (mark Live) v [])) (omega (arith, may.2, weigh_append (mark Live) v' [], weigh_append (mark Live) new more, relot_weigh (mark Live) Fetched Found (λ p. p) f rest r)) (omega (arith, may.2, rests.0, weigh_append resting v' [], weigh_append resting new more, relot_weigh resting Fetched Found (λ p. p) f rest r)))
        (omega (arith, h.few, rests.1, total_set (mark Live) s.views id v v' at', weigh_append (mark Live) new more, relot_weigh (mark Live) Fetched Found (λ p. p) f rest r)) h.few_drops (tokens_read net s.words f _ below)
        (λ moved. slot_token_taken net h.journal _ _ _ _ (label_of part s.homes) t cause taken left f r.part h.slots (edge_lowered net s.words f k below inside less) (λ c. omega (arith, moved c, slots c)))
        (λ moved. take_kept net limit (reading net s.words) h.counted h.journal (λ c. total c s.views) _ _ t cause taken left n f h.balanced takes n_is
        (edge_lowered net s.words f k below inside less) (λ c. omega (arith, moved c, weigh_append c new [], weigh_append c new more, relot_weigh c Fetched Found (λ p. p) f rest r))))
    from v may at = absurd may

-- EDGE COUNTED
count_moves : (T T' : Coord → ℕ) (t found f : ℕ) → Moves T (Duty (Counting f) ∷ []) T' (counted_notes t found) → Moves T (wrap (Counting f ∷ [])) T' (wrap (after_count t found) ++ news (by_count found))
count_moves T T' t zero f moved c = omega (arith, moved c)
count_moves T T' t (suc zero) f moved c = omega (arith, moved c)
count_moves T T' t (suc (suc n)) f moved c = omega (arith, moved c)

count_stands : (net : NetRows) (journal : List Entry) (t found : ℕ) → t < length net.tasks → strong_in net t ≢ [] → AllStand net journal (counted_notes t found)
count_stands net journal t zero below some_in = tt
count_stands net journal t (suc zero) below some_in = (record { in_tasks = below; in_range = tt; fits = some_in }, (tt, tt))
count_stands net journal t (suc (suc n)) below some_in = tt

count_rests : (t found : ℕ) → (weigh resting (counted_notes t found) ≡ 0) × (weigh (mark Live) (counted_notes t found) ≡ 0)
count_rests t zero = (refl, refl)
count_rests t (suc zero) = (refl, refl)
count_rests t (suc (suc n)) = (refl, refl)

counts_clear : {S : Type 0} {part : S → List Part} (net : NetRows) (limit : ℕ) (s : St S) (h : KeepsAccounts part net limit s) (id f : ℕ) (rest : List Note) (t : ℕ) → is_strong_into net t f ≡ true → get_elem? s.views id ≡ some (Duty (Counting f) ∷ rest) → h.counted f ≡ 0
counts_clear net limit s h id f rest t into at =
    omega (arith, h.balanced.by_duties.states f (into_strong net t f into), any_most ((reading net s.words).edge f), one_self f, total_set (duty (awaits f)) s.views id (Duty (Counting f) ∷ rest) rest at)

some_strong : (net : NetRows) (t f : ℕ) → is_strong_into net t f ≡ true → strong_in net t ≢ []
some_strong net t f into none = let z : times f (strong_in net t) ≡ 0 = ap (times f) none in omega (arith, z, times_strong_in net t f, ap one_if into)

-- A seat that has still to collect from an edge of the task doesn't make the last count.
none_left : {S : Type 0} {part : S → List Part} (net : NetRows) (limit : ℕ) (s : St S) (h : KeepsAccounts part net limit s) (id t f : ℕ) (rest : List Note) → is_strong_into net t f ≡ true → get_elem? s.views id ≡ some (Duty (Counting f) ∷ rest) → (reading net s.words).join t ≡ 1 → AreNoneLeft t rest
none_left net limit s h id t f (Duty (Collecting u Strong taken left) ∷ rest) into at last = λ same. by_left same left at (h.views id _ at).stand.1.0.1
  where
    by_left : u ≡ t → (left : List ℕ) → get_elem? s.views id ≡ some (Duty (Counting f) ∷ Duty (Collecting u Strong taken left) ∷ rest) → taken ++ left ≡ strong_in net u → left ≡ []
    by_left same [] at is = refl
    by_left same (g ∷ left) at is = absurd (omega (arith, last, h.balanced.by_duties.joins t, short, raised, times_strong_in net t f, ap one_if into, own))
      where
        own : 1 ≤ times g (strong_in net t)
        own = omega (arith, ap (times g) is, ap (λ q. times g (strong_in net q)) same, times_append g taken (g ∷ left), one_self g)

        into_g : is_strong_into net t g ≡ true
        into_g = is_one (is_strong_into net t g) (omega (arith, own, times_strong_in net t g))

        state : (e : ℕ) → is_strong_into net t e ≡ true → h.counted e + (one_if (eqb f e) + one_if (eqb g e)) ≤ 1
        state e into_e = omega (arith, h.balanced.by_duties.states e (into_strong net t e into_e), any_most ((reading net s.words).edge e), total_set (duty (awaits e)) s.views id (Duty (Counting f) ∷ Duty (Collecting u Strong taken (g ∷ left)) ∷ rest) rest at)

        counted' : ℕ → ℕ
        counted' e = h.counted e + one_if (eqb f e)

        bits : (e : ℕ) → counted' e ≤ 1
        bits e = by_eq (cases_eq f e)
          where
            by_eq : (f ≡ e) ⊎ (f ≢ e) → counted' e ≤ 1
            by_eq (inl is_e) = omega (arith, state e (ap (is_strong_into net t) (sym is_e) ∙ into))
            by_eq (inr other) = let miss : one_if (eqb f e) ≡ 0 = let m : eqb f e ≡ false = grind (arith, nat_tests) in ap one_if m in omega (arith, h.balanced.by_duties.bits e, miss)

        short : sum_over counted' (strong_in net t) + times g (strong_in net t) ≤ length (strong_in net t)
        short = sum_short counted' g (strong_in net t) bits (omega (arith, state g into_g, one_self g))

        raised : sum_over counted' (strong_in net t) ≡ sum_over h.counted (strong_in net t) + times f (strong_in net t)
        raised = sum_raised h.counted counted' f (strong_in net t) (λ e. refl)
none_left net limit s h id t f _ into at last = tt

count_slots : (t found : ℕ) → slots_in (counted_notes t found) ≡ []
count_slots t zero = refl
count_slots t (suc zero) = refl
count_slots t (suc (suc n)) = refl

pub count_allowed : {S : Type 0} {part : S → List Part} (net : NetRows) (limit slots id : ℕ) (me : Seated S) (t f : ℕ) → CountsNext net t f me.0
    → Allows (KeepsAccounts part net limit) slots id me (tokens_from net + length net.edges + t) (λ n. (n + (2 ^ 64 - 1)) % 2 ^ 64) (λ n m. (m.0 ≡ counted_one t n me.0) × (m.1 ≡ me.1) × (n ≡ 1 → AreNoneLeft t (others_of me.0)))
count_allowed {S} {part} net limit slots id me t f may s h _ at small = from me.0 may at
  where
    i : ℕ
    i = tokens_from net + length net.edges + t

    from : (v : List Note) → CountsNext net t f v → get_elem? s.views id ≡ some v
        → (u : List Note) × (a : Act _) × Valid s.homes me.1 a × KeepsAccounts part net limit (stepped s i ((slice_index s.words i + (2 ^ 64 - 1)) % 2 ^ 64) id me.1 u a) × ((u ≡ counted_one t (slice_index s.words i) v) × (carried_after me.1 a ≡ me.1) × (slice_index s.words i ≡ 1 → AreNoneLeft t (others_of v)))
    from (Duty (Counting g) ∷ rest) may at =
        let n = slice_index s.words i in
        let at' : get_elem? s.views id ≡ some (Duty (Counting f) ∷ rest) = at ∙ ap (λ k. some (Duty (Counting k) ∷ rest)) may.0 in
        let into = is_one (is_strong_into net t f) (omega (arith, times_strong_in net t f, may.2)) in
        let clear = counts_clear net limit s h id f rest t into at' in
        let above = join_above net ((reading net s.words).edge) ((reading net s.words).join) h.counted h.journal (λ c. total (duty c) s.views) t f h.balanced.by_duties into clear in
        let k = (n + 18446744073709551615) % 18446744073709551616 in
        let small_is : n < 18446744073709551616 = small in
        let less : k + 1 ≡ n = omega (arith, above) in
        let counted' : ℕ → ℕ = λ e. h.counted e + one_if (eqb f e) in
        let new = counted_notes t n in let rests = count_rests t n in
        let inside : i < length s.words = omega (arith, h.size, may.1) in (
          new ++ rest,
          keeps,
          tt,
          after_step net limit s h id i k me.1 (Duty (Counting f) ∷ []) new rest h.journal counted' _ at' (holds_same (Duty (Counting f) ∷ []) new (count_slots t n)) (λ e b z. omega arith) (λ v stand. stand)
              (own_lone net h.journal (λ c. total c s.views) (Duty (Counting f) ∷ []) new rest (count_stands net h.journal t n may.1 (some_strong net t f into))
              (omega (arith, may.3)) (omega (arith, may.3, weigh_append (mark Live) new rest)) (omega (arith, may.3, rests.0, weigh_append resting new rest)))
              (omega (arith, h.few, rests.1, few_after rest new at' rests.1)) h.few_drops (joins_read net s.words t _)
              (still_slots net limit s h _ _ (Duty (Counting f) ∷ []) new (slots_same (Duty (Counting f) ∷ []) new (count_slots t n)) refl)
              (λ moved. count_kept net limit (reading net s.words) h.counted counted' h.journal (λ c. total c s.views) _ _ t n f h.balanced
              record { into = into; found_is = refl; lowered = join_lowered net s.words t k inside less; set = λ e. refl } (count_moves _ _ t n f moved)),
          (refl, refl, λ last. none_left net limit s h id t f rest into at' last),
        )
      where
        few_after : (rest new : List Note) → get_elem? s.views id ≡ some (Duty (Counting f) ∷ rest) → weigh (mark Live) new ≡ 0 → total (mark Live) (set s.views id (new ++ rest)) ≡ total (mark Live) s.views
        few_after rest new at none = omega (arith, none, weigh_append (mark Live) new rest, total_set (mark Live) s.views id (Duty (Counting f) ∷ rest) (new ++ rest) at)
    from v may at = absurd may

-- SET AGAIN
pub reset_allowed : {S : Type 0} {part : S → List Part} (net : NetRows) (limit slots id : ℕ) (me : Seated S) (t : ℕ) → MayReset net t me.0
    → Allows (KeepsAccounts part net limit) slots id me (tokens_from net + length net.edges + t) (λ n. (n + length (strong_in net t)) % 2 ^ 64) (λ n m. (m.0 ≡ taken_up net me.0) × (m.1 ≡ me.1))
reset_allowed {S} {part} net limit slots id me t may s h _ at small = from me.0 may at
  where
    i : ℕ
    i = tokens_from net + length net.edges + t

    from : (v : List Note) → MayReset net t v → get_elem? s.views id ≡ some v
        → (u : List Note) × (a : Act _) × Valid s.homes me.1 a × KeepsAccounts part net limit (stepped s i ((slice_index s.words i + length (strong_in net t)) % 2 ^ 64) id me.1 u a) × ((u ≡ taken_up net v) × (carried_after me.1 a ≡ me.1))
    from (Duty (Fresh u Strong) ∷ Has Live ∷ rest) may at =
        let same : u ≡ t = may.0 in let es = strong_in net t in
        let old = Duty (Fresh t Strong) ∷ Has Live ∷ [] in
        let at' : get_elem? s.views id ≡ some (old ++ rest) = at ∙ ap (λ k. some (Duty (Fresh k Strong) ∷ Has Live ∷ rest)) same in
        let fits = (h.views id (old ++ rest) at').stand.0 in
        let new = collecting_notes t Strong es in
        let few : length es ≤ length net.edges = places_length (λ (r : EdgeRow). (r.to == t) && not (is_weak_row net r)) net.edges in
        let is_zero : slice_index s.words i ≡ 0 = is_clear (slice_index s.words i) (omega (arith, h.balanced.by_duties.unsets t fits.fits, one_self t, total_set (duty (unset t)) s.views id (old ++ rest) rest at')) in
        let edges_few : length net.edges < 4294967296 = h.fits.rows.edge_count in
        let k = (slice_index s.words i + length es) % 18446744073709551616 in
        let k_is : k ≡ length es = omega arith in
        done net limit s id i _ me (new ++ rest) _ (λ j. collecting_notes (sym same j) Strong (strong_in net (sym same j)) ++ rest)
        (after_step net limit s h id i k me.1 old new rest h.journal (cleared_at net t h.counted) _ at' (λ e. (omega (arith, awaited_none (lot Putting e) tt es), omega (arith, awaited_none (lot Taking e) tt es))) (λ e b z. omega arith) (λ v stand. stand)
        (own_lone net h.journal (λ c. total c s.views) old new rest ((fits, refl), (tt, (tt, awaited_stand net h.journal es))) (omega arith) (omega arith) (omega (arith, may.1, weigh_append resting new rest, awaited_weigh resting es)))
        (omega (arith, h.few, total_set (mark Live) s.views id (old ++ rest) (new ++ rest) at', weigh_append (mark Live) new rest, awaited_weigh (mark Live) es)) h.few_drops (joins_read net s.words t _)
        (λ moved. taken_up_slots net h.journal _ _ _ (label_of part s.homes) t Strong es h.slots (slots_moved _ _ old new [] (Duty (Collecting t Strong [] es) ∷ awaited_lots es) moved refl refl))
        (λ moved. reset_kept net limit (reading net s.words) h.counted h.journal (λ c. total c s.views) _ _ t h.balanced fits.fits (again k k_is fits.in_tasks is_zero) (λ c. omega (arith, moved c, no_units c, awaited_weigh c es))))
      where
        again : (k : ℕ) → k ≡ length (strong_in net t) → t < length net.tasks → slice_index s.words i ≡ 0 → (r : ℕ) → (reading net (set s.words i k)).join r ≡ (reading net s.words).join r + cond (eqb t r) (length (strong_in net r)) 0
        again k k_is below is_zero r = by_eq (cases_eq t r)
          where
            by_eq : (t ≡ r) ⊎ (t ≢ r) → (reading net (set s.words i k)).join r ≡ (reading net s.words).join r + cond (eqb t r) (length (strong_in net r)) 0
            by_eq (inl same) = let hit : eqb t r ≡ true = grind (arith, nat_tests) in
                ap ((reading net (set s.words i k)).join) (sym same) ∙ join_here net s.words t k (omega (arith, h.size, below)) ∙ k_is
                ∙ rw hit (omega (arith, is_zero, ap ((reading net s.words).join) same, ap (λ q. length (strong_in net q)) same))
            by_eq (inr other) = let miss : eqb t r ≡ false = grind (arith, nat_tests) in join_off net s.words t k r (λ e. other (sym e)) ∙ rw miss (omega arith)
    from v may at = absurd may
