-- A step that keeps the accounts of notes keeps the rule of the table.
use Rattle.std.proofs.Common.{◌≡◌, ◌≢◌, ◌⊎◌, inl, inr, ℕ, zero, suc, ◌+◌, ◌%◌, ◌^◌, ◌≤◌, cond, eqb, true, false, List, [], ◌∷◌, ◌++◌, map, flat_map, set, Option, Some, None, sym, refl, ap, ◌∙◌, subst, arith, get_or-set_same}
use Rattle.std.specs.Prelude.{slice_index, ◌==◌}
use Rattle.std.proofs.lemmas.Bool.Decides.{nat_tests}
use Rattle.std.proofs.lemmas.Bool.{cases_eq}
use Rattle.std.proofs.lemmas.List.{map-set, map-append}
use mathlib.Core.Option.{Option as Perhaps, some, none, some-injective, some-ne-none}
use lib.ListN.{get_elem?}
use Rattle.atomic_table.specs.Table.{State, Me, Act, keeps, takes, gives, chain, Valid, carried_after, homes_after, stepped, opening, Allows, Splits, Joins}
use Rattle.atomic_table.proofs.Lists.{at_set, at_snoc, at_map}
use Rattle.task_graph.specs.NetRows.{NetRows}
use Rattle.join_words.specs.declared.ins.Given.{Given}
use Rattle.table_steps.specs.declared.view.Note.{Note}
use Rattle.table_steps.specs.declared.view.EndValue.{EndValue}
use Rattle.table_steps.specs.declared.view.SeatView.{SeatView}
use Rattle.table_steps.specs.Values.{given_parts, values_in, AreValues, Knows, HaveOneValueEach}
use Rattle.table_steps.specs.inside.SeatViews.{drawn_values, me_of, values_held, with_notes, both_views, nothing_known, StepsKnowing, notes_alone}
use Rattle.table_steps.specs.inside.Accounts.{KeepsAccounts}
use Rattle.table_steps.specs.inside.ValueAccounts.{KeepsTable}
use Rattle.table_steps.proofs.Drawing.{clock_small}
use Rattle.table_steps.proofs.Reading.{else_word}
use Rattle.table_steps.proofs.Values.{are_both, are_front, are_back, are_still, knows_self, knows_front, knows_back}

abbrev Knowing : Type 0 → Type 0
Knowing V = State (List (Given V)) (SeatView V)

-- PARCELS
abbrev ParcelsAre : {V : Type 0} → (ℕ → Option V) → List (Perhaps (List (Given V))) → Type 0
ParcelsAre {V} value_at homes = (e : ℕ) (y : List (Given V)) → get_elem? homes e ≡ some (some y) → AreValues value_at (values_in y)

-- each parcel in a slot or with the seat after an act was in a slot or with the seat before
acted : {V : Type 0} (value_at : ℕ → Option V) (homes : List (Perhaps (List (Given V)))) (carried : List (ℕ × List (Given V))) (a : Act (List (Given V))) → Valid homes carried a → ParcelsAre value_at homes → AreValues value_at (values_held carried)
    → ParcelsAre value_at (homes_after homes carried a) × AreValues value_at (values_held (carried_after carried a))
acted value_at homes carried keeps valid home held = (home, held)
acted {V} value_at homes carried (takes k y) valid home held = (λ e z at. by_place e z (at_set homes k e none (some z) at), are_both value_at (values_in y) (values_held carried) (home k y valid) held)
  where
    by_place : (e : ℕ) (z : List (Given V)) → ((e ≡ k) × (none ≡ some z)) ⊎ ((e ≢ k) × (get_elem? homes e ≡ some (some z))) → AreValues value_at (values_in z)
    by_place e z (inl gone) = absurd (some-ne-none z (sym gone.1))
    by_place e z (inr still) = home e z still.1
acted value_at homes [] gives valid home held = (home, held)
acted {V} value_at homes (x ∷ xs) gives valid home held = (λ e z at. by_place e z (at_set homes x.0 e (some x.1) (some z) at), are_back value_at (values_in x.1) (values_held xs) held)
  where
    by_place : (e : ℕ) (z : List (Given V)) → ((e ≡ x.0) × (some x.1 ≡ some z)) ⊎ ((e ≢ x.0) × (get_elem? homes e ≡ some (some z))) → AreValues value_at (values_in z)
    by_place e z (inl here) = subst (λ (y : List (Given V)). AreValues value_at (values_in y)) (some-injective x.1 z here.1) (are_front value_at (values_in x.1) (values_held xs) held)
    by_place e z (inr still) = home e z still.1
acted value_at homes carried (chain a b) valid home held =
    let first = acted value_at homes carried a valid.0 home held in acted value_at (homes_after homes carried a) (carried_after carried a) b valid.1 first.0 first.1

-- A STEP
-- the values of Ends after a step, among them those that the seat learns by it
record Grown {V : Type 0} (words : List ℕ) (value_at : ℕ → Option V) (told : List (EndValue V)) : Type 0 where
  pub after : ℕ → Option V
  pub more : (n : ℕ) (v : V) → value_at n ≡ Some v → after n ≡ Some v
  pub are : AreValues after told
  pub later : (n : ℕ) → slice_index words 8 ≤ n → after n ≡ None

stepped_alone : {V : Type 0} (views : List (SeatView V)) (id : ℕ) (v : SeatView V) → map (λ (u : SeatView V). u.notes) (set views id v) ≡ set (map (λ (u : SeatView V). u.notes) views) id v.notes
stepped_alone views id v = map-set (λ u. u.notes) views id v

-- the view and the act of a step that keeps the accounts, and what it says
stepped_on : {V : Type 0} (net : NetRows) (limit id : ℕ) (me : Me (List (Given V)) (SeatView V)) (i k : ℕ) (told : List (EndValue V)) (s : Knowing V) (h : KeepsTable net limit s) (g : Grown (set s.words i k) h.values.value_at told) → Knows me.0.values (values_held me.1) → get_elem? s.views id ≡ some me.0
    → (w : List Note) (a : Act (List (Given V))) → Valid s.homes me.1 a → KeepsAccounts given_parts net limit (stepped (notes_alone s) i k id me.1 w a)
    → KeepsTable net limit (stepped s i k id me.1 (record { notes = w; values = told ++ (values_held (carried_after me.1 a) ++ me.0.values) }) a) × HaveOneValueEach (told ++ (values_held (carried_after me.1 a) ++ me.0.values))
stepped_on {V} net limit id me i k told s h g knows at w a valid keeps_notes = (
  record {
    accounts = subst (λ (views : List (List Note)). KeepsAccounts (given_parts {V = V}) net limit (record { words = set s.words i k; homes = homes_after s.homes me.1 a; views = views })) (sym (stepped_alone s.views id view)) keeps_notes;
    values = record {
      value_at = g.after;
      views = λ j v there. by_seat j v (at_set s.views id j view v there);
      parcels = both.0;
      later = g.later;
    };
  },
  record { value_at = g.after; all = own },
)
  where
    view : SeatView V
    view = record { notes = w; values = told ++ (values_held (carried_after me.1 a) ++ me.0.values) }

    still : (xs : List (EndValue V)) → AreValues h.values.value_at xs → AreValues g.after xs
    still xs all = are_still h.values.value_at g.after g.more xs all

    known : AreValues h.values.value_at me.0.values
    known = h.values.views id me.0 at

    both : ParcelsAre g.after (homes_after s.homes me.1 a) × AreValues g.after (values_held (carried_after me.1 a))
    both = acted g.after s.homes me.1 a valid (λ e y there. still (values_in y) (h.values.parcels e y there)) (still (values_held me.1) (knows.follow h.values.value_at known))

    own : AreValues g.after view.values
    own = are_both g.after told (values_held (carried_after me.1 a) ++ me.0.values) g.are (are_both g.after (values_held (carried_after me.1 a)) me.0.values both.1 (still me.0.values known))

    by_seat : (j : ℕ) (v : SeatView V) → ((j ≡ id) × (view ≡ v)) ⊎ ((j ≢ id) × (get_elem? s.views j ≡ some v)) → AreValues g.after v.values
    by_seat j v (inl here) = subst (λ (u : SeatView V). AreValues g.after u.values) here.1 own
    by_seat j v (inr there) = still v.values (h.values.views j v there.1)

lifted : {V : Type 0} (net : NetRows) (limit slots id : ℕ) (me : Me (List (Given V)) (SeatView V)) (i : ℕ) (f : ℕ → ℕ) (then : ℕ → Me (List (Given V)) (List Note) → Type 0) (told : ℕ → List (EndValue V))
    → ((s : Knowing V) (h : KeepsTable net limit s) → Grown (set s.words i (f (slice_index s.words i))) h.values.value_at (told (slice_index s.words i))) → Knows me.0.values (values_held me.1)
    → Allows (KeepsAccounts given_parts net limit) slots id (me_of me) i f then → Allows (KeepsTable net limit) slots id me i f (λ n after. StepsKnowing then me n after × Knows after.0.values (told n))
lifted {V} net limit slots id me i f then told grows knows allows s h sized at small = from (allows (notes_alone s) h.accounts sized (at_map (λ (v : SeatView V). v.notes) s.views id me.0 at) small)
  where
    n : ℕ
    n = slice_index s.words i

    from : ((w : List Note) × (a : Act (List (Given V))) × Valid s.homes me.1 a × KeepsAccounts given_parts net limit (stepped (notes_alone s) i (f n) id me.1 w a) × then n (w, carried_after me.1 a))
        → (v : SeatView V) × (a : Act (List (Given V))) × Valid s.homes me.1 a × KeepsTable net limit (stepped s i (f n) id me.1 v a) × (StepsKnowing then me n (v, carried_after me.1 a) × Knows v.values (told n))
    from (w, a, valid, keeps_notes, is) =
        let held = values_held (carried_after me.1 a) in let all = told n ++ (held ++ me.0.values) in
        let new = stepped_on net limit id me i (f n) (told n) s h (grows s h) knows at w a valid keeps_notes in
        let later = knows_back all (told n) (held ++ me.0.values) (knows_self all) in
        (record { notes = w; values = all }, a, valid, new.0, ((is, knows_back all held me.0.values later, knows_front all held me.0.values later, new.1), knows_front all (told n) (held ++ me.0.values) (knows_self all)))

-- A step on another word than the clock, that leaves the notes as `then` says
pub steps_knowing : {V : Type 0} (net : NetRows) (limit slots id : ℕ) (me : Me (List (Given V)) (SeatView V)) (i : ℕ) (f : ℕ → ℕ) (then : ℕ → Me (List (Given V)) (List Note) → Type 0) → i ≢ 8 → Knows me.0.values (values_held me.1)
    → Allows (KeepsAccounts given_parts net limit) slots id (me_of me) i f then → Allows (KeepsTable net limit) slots id me i f (StepsKnowing then me)
steps_knowing net limit slots id me i f then apart knows allows s h sized at small =
    let t = lifted net limit slots id me i f then (λ n. []) (λ u k. record {
      after = k.values.value_at;
      more = λ n v is. is;
      are = tt;
      later = λ n past. k.values.later n (omega (arith, past, else_word u.words i (f (slice_index u.words i)) 8 apart));
    }) knows allows s h sized at small in (t.0, t.1, t.2, t.3, t.4.0)

later_is : {V : Type 0} (net : NetRows) (limit : ℕ) (s : Knowing V) (h : KeepsTable net limit s) (n : ℕ) → slice_index (set s.words 8 ((slice_index s.words 8 + 1) % 2 ^ 64)) 8 ≤ n → suc (slice_index s.words 8) ≤ n
later_is net limit s h n past =
    let sum : (slice_index s.words 8 + 1) % 18446744073709551616 ≡ suc (slice_index s.words 8) = omega (arith, clock_small net limit (notes_alone s) h.accounts) in
    omega (arith, past, sum, get_or-set_same s.words 8 ((slice_index s.words 8 + 1) % 18446744073709551616) 0 (omega (arith, h.accounts.size)))

-- an entry drawn that is no End
pub draws_knowing : {V : Type 0} (net : NetRows) (limit slots id : ℕ) (me : Me (List (Given V)) (SeatView V)) (then : ℕ → Me (List (Given V)) (List Note) → Type 0) → Knows me.0.values (values_held me.1)
    → Allows (KeepsAccounts given_parts net limit) slots id (me_of me) 8 (λ n. (n + 1) % 2 ^ 64) then → Allows (KeepsTable net limit) slots id me 8 (λ n. (n + 1) % 2 ^ 64) (StepsKnowing then me)
draws_knowing net limit slots id me then knows allows s h sized at small =
    let t = lifted net limit slots id me 8 (λ n. (n + 1) % 2 ^ 64) then (λ n. []) (λ u k. record {
      after = k.values.value_at;
      more = λ n v is. is;
      are = tt;
      later = λ n past. k.values.later n (omega (arith, later_is net limit u k n past));
    }) knows allows s h sized at small in (t.0, t.1, t.2, t.3, t.4.0)

-- an End drawn with the first of these values
end_grown : {V : Type 0} (net : NetRows) (limit : ℕ) (s : Knowing V) (h : KeepsTable net limit s) (values : List V) → Grown (set s.words 8 ((slice_index s.words 8 + 1) % 2 ^ 64)) h.values.value_at (drawn_values (slice_index s.words 8) values)
end_grown net limit s h [] = record {
  after = h.values.value_at;
  more = λ n v is. is;
  are = tt;
  later = λ n past. h.values.later n (omega (arith, later_is net limit s h n past));
}
end_grown {V} net limit s h (x ∷ xs) = record {
  after = after;
  more = λ m v is. more_at m v is (cases_eq m (slice_index s.words 8));
  are = (here, tt);
  later = λ m past. else_at m (omega (arith, later_is net limit s h m past)) ∙ h.values.later m (omega (arith, later_is net limit s h m past));
}
  where
    n : ℕ
    n = slice_index s.words 8

    after : ℕ → Option V
    after m = cond (m == n) (Some x) (h.values.value_at m)

    here : after n ≡ Some x
    here = let hit : eqb n n ≡ true = grind (arith, nat_tests) in ap (λ b. cond b (Some x) (h.values.value_at n)) hit

    else_at : (m : ℕ) → m ≢ n → after m ≡ h.values.value_at m
    else_at m other = let miss : eqb m n ≡ false = grind (arith, nat_tests) in ap (λ b. cond b (Some x) (h.values.value_at m)) miss

    more_at : (m : ℕ) (v : V) → h.values.value_at m ≡ Some v → (m ≡ n) ⊎ (m ≢ n) → after m ≡ Some v
    more_at m v is (inl same) = let none_yet : h.values.value_at m ≡ None = h.values.later m (omega (arith, same)) in absurd cc
    more_at m v is (inr other) = else_at m other ∙ is

pub ends_knowing : {V : Type 0} (net : NetRows) (limit slots id : ℕ) (me : Me (List (Given V)) (SeatView V)) (then : ℕ → Me (List (Given V)) (List Note) → Type 0) (values : List V) → Knows me.0.values (values_held me.1)
    → Allows (KeepsAccounts given_parts net limit) slots id (me_of me) 8 (λ n. (n + 1) % 2 ^ 64) then → Allows (KeepsTable net limit) slots id me 8 (λ n. (n + 1) % 2 ^ 64) (λ n after. StepsKnowing then me n after × Knows after.0.values (drawn_values n values))
ends_knowing net limit slots id me then values knows allows = lifted net limit slots id me 8 (λ n. (n + 1) % 2 ^ 64) then (λ n. drawn_values n values) (λ s h. end_grown net limit s h values) knows allows

-- SPLIT
pub split_knowing : {V : Type 0} (net : NetRows) (limit id : ℕ) (v : SeatView V) (left right : List Note → List Note) → Splits (KeepsAccounts (given_parts {V = V}) net limit) id v.notes (left v.notes) (right v.notes) → Splits (KeepsTable net limit) id v (with_notes left v) (with_notes right v)
split_knowing {V} net limit id v left right splits s h at = record {
  accounts = subst (λ (views : List (List Note)). KeepsAccounts (given_parts {V = V}) net limit (record { words = s.words; homes = s.homes; views = views })) (sym alone) (splits (notes_alone s) h.accounts (at_map (λ (u : SeatView V). u.notes) s.views id v at));
  values = record {
    value_at = h.values.value_at;
    views = λ j u there. by_last j u (at_snoc (set s.views id (with_notes left v)) (with_notes right v) u j there);
    parcels = h.values.parcels;
    later = h.values.later;
  };
}
  where
    alone : map (λ (u : SeatView V). u.notes) (set s.views id (with_notes left v) ++ with_notes right v ∷ []) ≡ set (map (λ (u : SeatView V). u.notes) s.views) id (left v.notes) ++ right v.notes ∷ []
    alone = map-append (λ (u : SeatView V). u.notes) (set s.views id (with_notes left v)) (with_notes right v ∷ []) ∙ ap (λ l. l ++ right v.notes ∷ []) (stepped_alone s.views id (with_notes left v))

    known : AreValues h.values.value_at v.values
    known = h.values.views id v at

    by_seat : (j : ℕ) (u : SeatView V) → ((j ≡ id) × (with_notes left v ≡ u)) ⊎ ((j ≢ id) × (get_elem? s.views j ≡ some u)) → AreValues h.values.value_at u.values
    by_seat j u (inl here) = subst (λ (w : SeatView V). AreValues h.values.value_at w.values) here.1 known
    by_seat j u (inr there) = h.values.views j u there.1

    by_last : (j : ℕ) (u : SeatView V) → (get_elem? (set s.views id (with_notes left v)) j ≡ some u) ⊎ (with_notes right v ≡ u) → AreValues h.values.value_at u.values
    by_last j u (inl there) = by_seat j u (at_set s.views id j (with_notes left v) u there)
    by_last j u (inr is) = subst (λ (w : SeatView V). AreValues h.values.value_at w.values) is known

-- JOIN
pub join_knowing : {V : Type 0} (net : NetRows) (limit id : ℕ) (v : SeatView V) (other : ℕ) (w : SeatView V) (both : List Note → List Note → List Note) → Joins (KeepsAccounts (given_parts {V = V}) net limit) id v.notes other w.notes (both v.notes w.notes) []
    → Joins (KeepsTable net limit) id v other w (both_views both v w) nothing_known
join_knowing {V} net limit id v other w both joins s h at apart there = record {
  accounts = subst (λ (views : List (List Note)). KeepsAccounts (given_parts {V = V}) net limit (record { words = s.words; homes = s.homes; views = views })) (sym alone)
      (joins (notes_alone s) h.accounts (at_map (λ (u : SeatView V). u.notes) s.views id v at) apart (ap (λ l. get_elem? l other) (sym first_alone) ∙ at_map (λ (u : SeatView V). u.notes) first other w there));
  values = record {
    value_at = h.values.value_at;
    views = λ j u is. by_other j u (at_set first other j nothing_known u is);
    parcels = h.values.parcels;
    later = h.values.later;
  };
}
  where
    first : List (SeatView V)
    first = set s.views id (both_views both v w)

    first_alone : map (λ (u : SeatView V). u.notes) first ≡ set (map (λ (u : SeatView V). u.notes) s.views) id (both v.notes w.notes)
    first_alone = stepped_alone s.views id (both_views both v w)

    alone : map (λ (u : SeatView V). u.notes) (set first other nothing_known) ≡ set (set (map (λ (u : SeatView V). u.notes) s.views) id (both v.notes w.notes)) other []
    alone = stepped_alone first other nothing_known ∙ ap (λ l. set l other []) first_alone

    others : ((other ≡ id) × (both_views both v w ≡ w)) ⊎ ((other ≢ id) × (get_elem? s.views other ≡ some w)) → AreValues h.values.value_at w.values
    others (inl same) = absurd (apart same.0)
    others (inr is) = h.values.views other w is.1

    known : AreValues h.values.value_at (w.values ++ v.values)
    known = are_both h.values.value_at w.values v.values (others (at_set s.views id other (both_views both v w) w there)) (h.values.views id v at)

    by_seat : (j : ℕ) (u : SeatView V) → ((j ≡ id) × (both_views both v w ≡ u)) ⊎ ((j ≢ id) × (get_elem? s.views j ≡ some u)) → AreValues h.values.value_at u.values
    by_seat j u (inl here) = subst (λ (x : SeatView V). AreValues h.values.value_at x.values) here.1 known
    by_seat j u (inr is) = h.values.views j u is.1

    by_other : (j : ℕ) (u : SeatView V) → ((j ≡ other) × (nothing_known ≡ u)) ⊎ ((j ≢ other) × (get_elem? first j ≡ some u)) → AreValues h.values.value_at u.values
    by_other j u (inl spent) = subst (λ (x : SeatView V). AreValues h.values.value_at x.values) spent.1 tt
    by_other j u (inr is) = by_seat j u (at_set s.views id j (both_views both v w) u is.1)

-- THE OPENING
both_empty : {A : Type 0} (xs ys : List A) → xs ++ ys ≡ [] → (xs ≡ []) × (ys ≡ [])
both_empty [] ys is = (refl, is)
both_empty (x ∷ xs) ys is = absurd cc

no_value : {V : Type 0} (parcels : List (List (Given V))) (e : ℕ) (y : List (Given V)) → flat_map values_in parcels ≡ [] → get_elem? (map some parcels) e ≡ some (some y) → values_in y ≡ []
no_value [] e y none_there at = absurd (some-ne-none (some y) (sym at))
no_value (x ∷ xs) zero y none_there at = ap values_in (sym (some-injective x y (some-injective (some x) (some y) at))) ∙ (both_empty (values_in x) (flat_map values_in xs) none_there).0
no_value (x ∷ xs) (suc e) y none_there at = no_value xs e y (both_empty (values_in x) (flat_map values_in xs) none_there).1 at

pub opens_knowing : {V : Type 0} (net : NetRows) (limit : ℕ) (words : List ℕ) (parcels : List (List (Given V))) (notes : List Note) → KeepsAccounts given_parts net limit (opening words parcels notes) → flat_map values_in parcels ≡ [] → KeepsTable net limit (opening words parcels (record { notes = notes; values = [] }))
opens_knowing {V} net limit words parcels notes accounts none_there = record {
  accounts = accounts;
  values = record {
    value_at = λ n. None;
    views = seen;
    parcels = λ e y at. subst (λ (l : List (EndValue V)). AreValues (λ n. None) l) (sym (no_value parcels e y none_there at)) tt;
    later = λ n past. refl;
  };
}
  where
    seen : (id : ℕ) (v : SeatView V) → get_elem? (record { notes = notes; values = [] } ∷ []) id ≡ some v → AreValues (λ n. None) v.values
    seen zero v at = subst (λ (u : SeatView V). AreValues (λ n. None) u.values) (some-injective (record { notes = notes; values = [] }) v at) tt
    seen (suc id) v at = absurd (some-ne-none v (sym at))
