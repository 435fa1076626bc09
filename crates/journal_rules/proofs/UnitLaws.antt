-- What is counted of a semaphore after one entry more.
use Rattle.std.proofs.Common.{◌≡◌, ◌≢◌, ◌⊎◌, inl, inr, ℕ, ◌+◌, ◌<◌, ◌≤◌, Bool, true, false, not, ◌&&◌, cond, eqb, List, [], ◌∷◌, ◌++◌, length, Option, Some, None, sym, refl, ap, ◌∙◌, subst, arith, get_or}
use Rattle.std.specs.Prelude.{count_by, ◌==◌, slice_get, All, Any, MatchOption}
use Rattle.std.specs.List.Sorted.{IsStrictlyIncreasing}
use Rattle.std.proofs.lemmas.List.Folds.{Any-from_list_any}
use Rattle.std.proofs.lemmas.List.Kept.{AllPairs-from_increasing}
use Rattle.std.specs.Option.{option_map_or, option_and_then}
use Rattle.std.specs.List.{list_any, AllByRecursion}
use Rattle.std.proofs.lemmas.Bool.{cases_eq, cases_lt, eqb-true}
use Rattle.std.proofs.lemmas.Bool.Decides.{nat_tests}
use Rattle.std.proofs.lemmas.List.Sums.{sum_by-cons}
use Rattle.std.proofs.lemmas.List.{get_or_default}
use Rattle.std.proofs.lemmas.Option.{slice_get_within}
use Rattle.task_graph.specs.NetRows.{NetRows}
use Rattle.task_graph.specs.Net.{AreSemaphoresOf}
use Rattle.task_graph.specs.declared.net.TaskRow.{TaskRow}
use Rattle.journal_rules.specs.declared.entry.Cause.{Cause}
use Rattle.journal_rules.specs.declared.entry.Part.{Part}
use Rattle.journal_rules.specs.declared.entry.Why.{Why}
use Rattle.journal_rules.specs.declared.entry.DropWhy.{DropWhy}
use Rattle.journal_rules.specs.declared.entry.Entry.{Entry}
use Rattle.journal_rules.specs.declared.entry.Entry.TheVariants.{Start, End, Fault, Drop}
use Rattle.journal_rules.specs.declared.units.UnitCount.{UnitCount}
use Rattle.journal_rules.specs.Counts.{started, start_at, closes}
use Rattle.journal_rules.specs.SemaphoreRule.{takes, puts, taken, back, gives_back, closed_takers, HasUnit, IsOverRelease}
use Rattle.journal_rules.specs.MissingUnits.{IsLeast, WantsUnit, PutsWithNothingOut}
use Rattle.journal_rules.specs.inside.Reached.{ClosesBelow, ClosesTask, IsReached, IsRowOf}
use Rattle.journal_rules.specs.inside.Over.{putters, IsOver, WasOver}
use Rattle.journal_rules.specs.inside.Units.{CountsUnit, CountsUnits, IsFirstWithout, HasUnitLeft, IsOut, no_units, Changed, always, is_other, with_taken, with_putter, with_back, with_closed}
use Rattle.journal_rules.proofs.Snoc.{count_by_push, start_at_push_below}
use Rattle.journal_rules.proofs.StartsAt.{putters_push, closed_takers_open, closed_takers_closed, was_over_still, was_over_before, over_release_is}
use Rattle.journal_rules.proofs.Changing.{any_found}

abbrev one_if : Bool → ℕ
one_if b = cond b 1 0

-- places past the end are closed by nothing
closed_past : (m n : ℕ) (ys : List Entry) → AllByRecursion (ClosesBelow m) ys → m ≤ n → count_by (closes n) ys ≡ 0
closed_past m n [] below past = refl
closed_past m n (y ∷ ys) below past = sum_by-cons (λ z. one_if (closes n z)) y ys ∙ omega (arith, ap one_if (not_it y below.0), closed_past m n ys below.1 past)
  where
    other : (start : ℕ) → start < m → eqb start n ≡ false
    other start less = grind (arith, nat_tests)

    not_it : (x : Entry) → ClosesBelow m x → closes n x ≡ false
    not_it (Start t cause ins) h = refl
    not_it (End start gives inner) h = other start h
    not_it (Fault start why) h = other start h
    not_it (Drop t cause why) h = refl

pub unclosed : (net : NetRows) (limit n : ℕ) (h : List Entry) → IsReached net limit h → length h ≤ n → count_by (closes n) h ≡ 0
unclosed net limit n h reached past = closed_past (length h) n h reached.closes_below past

-- an End gives back the same units after one entry more
back_same : (net : NetRows) (s m : ℕ) (h : List Entry) (x : Entry) (ys : List Entry) → AllByRecursion (ClosesBelow m) ys → m ≤ length h → count_by (gives_back net s (h ++ x ∷ [])) ys ≡ count_by (gives_back net s h) ys
back_same net s m h x [] below within = refl
back_same net s m h x (y ∷ ys) below within =
    sum_by-cons (λ z. one_if (gives_back net s (h ++ x ∷ []) z)) y ys
    ∙ omega (arith, ap one_if (same y below.0), back_same net s m h x ys below.1 within, sum_by-cons (λ z. one_if (gives_back net s h z)) y ys)
  where
    same : (z : Entry) → ClosesBelow m z → gives_back net s (h ++ x ∷ []) z ≡ gives_back net s h z
    same (Start t cause ins) b = refl
    same (End start gives inner) b = ap (λ o. option_map_or (puts net s) o false) (start_at_push_below h x start (omega arith))
    same (Fault start why) b = refl
    same (Drop t cause why) b = refl

pub back_push : (net : NetRows) (limit s : ℕ) (h : List Entry) (x : Entry) → IsReached net limit h → back net s (h ++ x ∷ []) ≡ back net s h + one_if (gives_back net s (h ++ x ∷ []) x)
back_push net limit s h x reached =
    count_by_push (gives_back net s (h ++ x ∷ [])) h x ∙ ap (λ n. n + one_if (gives_back net s (h ++ x ∷ []) x)) (back_same net s (length h) h x h reached.closes_below (omega arith))

pub taken_push : (net : NetRows) (s : ℕ) (h : List Entry) (x : Entry) → taken net s (h ++ x ∷ []) ≡ taken net s h + one_if (option_map_or (takes net s) (started x) false)
taken_push net s h x = count_by_push (λ entry. option_map_or (takes net s) (started entry) false) h x

-- a place where a Start stands is below the length
pub start_below : (h : List Entry) (p t : ℕ) → start_at h p ≡ Some t → p < length h
start_below h p t is = by_item (slice_get h p) refl
  where
    by_item : (entry : Option Entry) → slice_get h p ≡ entry → p < length h
    by_item None none = absurd (let e : option_and_then started None ≡ Some t = ap (λ o. option_and_then started o) (sym none) ∙ is in cc)
    by_item (Some entry) some = slice_get_within h p entry some

-- a Start
pub unit_start : (net : NetRows) (limit s t : ℕ) (h : List Entry) (cause : Cause) (ins : List Part) (count : UnitCount) → IsReached net limit h → CountsUnit net h s count → (a b : Bool) → takes net s t ≡ a → puts net s t ≡ b
    → CountsUnit net (h ++ Start t cause ins ∷ []) s (cond (b && not a) (with_putter (cond (a && true) (with_taken count) count)) (cond (a && true) (with_taken count) count))
unit_start net limit s t h cause ins count reached c a b take put =
    by_case a b
    (taken_push net s h x ∙ ap (λ k. taken net s h + one_if k) take)
    (back_push net limit s h x reached)
    (putters_push net s h x ∙ ap (λ k. putters net s h + one_if (k && not (takes net s t))) put ∙ ap (λ k. putters net s h + one_if (b && not k)) take)
    (closed_takers_open net s h x (λ n. refl) (unclosed net limit (length h) h reached (omega arith)))
  where
    x : Entry
    x = Start t cause ins

    made : (new : UnitCount) → new.taken ≡ taken net s (h ++ x ∷ []) → new.back ≡ back net s (h ++ x ∷ []) → new.putters ≡ putters net s (h ++ x ∷ []) → new.closed_takers ≡ closed_takers net s (h ++ x ∷ []) → new.last_over ≡ count.last_over
        → putters net s h ≤ putters net s (h ++ x ∷ []) → closed_takers net s (h ++ x ∷ []) ≡ closed_takers net s h → CountsUnit net (h ++ x ∷ []) s new
    made new taken_is back_is putters_is closed_is last more same = record {
      taken = taken_is;
      back = back_is;
      putters = putters_is;
      closed = closed_is;
      over = subst (λ n. WasOver net s (h ++ x ∷ []) n) (sym last) (was_over_still net s count.last_over h x c.over (λ over. omega arith));
    }

    by_case : (a b : Bool) → taken net s (h ++ x ∷ []) ≡ taken net s h + one_if a → back net s (h ++ x ∷ []) ≡ back net s h + 0 → putters net s (h ++ x ∷ []) ≡ putters net s h + one_if (b && not a) → closed_takers net s (h ++ x ∷ []) ≡ closed_takers net s h
        → CountsUnit net (h ++ x ∷ []) s (cond (b && not a) (with_putter (cond (a && true) (with_taken count) count)) (cond (a && true) (with_taken count) count))
    by_case true true ta ba pu cl = made (with_taken count) (omega (arith, c.taken)) (omega (arith, c.back)) (omega (arith, c.putters)) (omega (arith, c.closed)) refl (omega arith) cl
    by_case true false ta ba pu cl = made (with_taken count) (omega (arith, c.taken)) (omega (arith, c.back)) (omega (arith, c.putters)) (omega (arith, c.closed)) refl (omega arith) cl
    by_case false true ta ba pu cl = made (with_putter count) (omega (arith, c.taken)) (omega (arith, c.back)) (omega (arith, c.putters)) (omega (arith, c.closed)) refl (omega arith) cl
    by_case false false ta ba pu cl = made count (omega (arith, c.taken)) (omega (arith, c.back)) (omega (arith, c.putters)) (omega (arith, c.closed)) refl (omega arith) cl

-- an entry that starts and closes nothing
pub unit_same : (net : NetRows) (limit s : ℕ) (h : List Entry) (t : ℕ) (cause : Cause) (why : DropWhy) (count : UnitCount) → IsReached net limit h → CountsUnit net h s count → CountsUnit net (h ++ Drop t cause why ∷ []) s count
unit_same net limit s h t cause why count reached c =
    let x = Drop t cause why in
    let closed = closed_takers_open net s h x (λ n. refl) (unclosed net limit (length h) h reached (omega arith)) in
    let put = putters_push net s h x in
    record {
      taken = omega (arith, c.taken, taken_push net s h x);
      back = omega (arith, c.back, back_push net limit s h x reached);
      putters = omega (arith, c.putters, put);
      closed = omega (arith, c.closed, closed);
      over = was_over_still net s count.last_over h x c.over (λ over. omega arith);
    }

-- an entry that closes a start, and gives a unit back or not
unit_close : (net : NetRows) (limit s p t : ℕ) (h : List Entry) (x : Entry) (count mid : UnitCount) → IsReached net limit h → CountsUnit net h s count → ClosesTask h p t → started x ≡ None → ((n : ℕ) → closes n x ≡ (p == n))
    → mid.taken ≡ count.taken → mid.back ≡ back net s (h ++ x ∷ []) → mid.putters ≡ count.putters → mid.closed_takers ≡ count.closed_takers → mid.last_over ≡ count.last_over → (a b : Bool) → takes net s t ≡ a → puts net s t ≡ b
    → CountsUnit net (h ++ x ∷ []) s (cond (a && not b) (with_closed (length h) mid) mid)
unit_close net limit s p t h x count mid reached c closed_it no_start closes_it mid_taken mid_back mid_putters mid_closed mid_last a b take put =
    by_case (a && not b) (closed_takers_closed net s p t h x no_start closes_it closed_it.started closed_it.unclosed ∙ ap (λ k. closed_takers net s h + one_if (k && not (puts net s t))) take ∙ ap (λ k. closed_takers net s h + one_if (a && not k)) put)
    (cases_eq mid.putters (mid.closed_takers + 1))
  where
    taken_is : taken net s (h ++ x ∷ []) ≡ taken net s h + 0
    taken_is = taken_push net s h x ∙ ap (λ o. taken net s h + one_if (option_map_or (takes net s) o false)) no_start

    putters_is : putters net s (h ++ x ∷ []) ≡ putters net s h + 0
    putters_is = putters_push net s h x ∙ ap (λ o. putters net s h + one_if (option_map_or (λ q. puts net s q && not (takes net s q)) o false)) no_start

    made : (new : UnitCount) → new.taken ≡ mid.taken → new.back ≡ mid.back → new.putters ≡ mid.putters → new.closed_takers ≡ closed_takers net s (h ++ x ∷ []) → WasOver net s (h ++ x ∷ []) new.last_over → CountsUnit net (h ++ x ∷ []) s new
    made new ta ba pu cl over = record {
      taken = omega (arith, c.taken, taken_is);
      back = ba ∙ mid_back;
      putters = omega (arith, c.putters, putters_is);
      closed = cl;
      over = over;
    }

    still : (IsOver net s h → IsOver net s (h ++ x ∷ [])) → WasOver net s (h ++ x ∷ []) mid.last_over
    still stays = subst (λ n. WasOver net s (h ++ x ∷ []) n) (sym mid_last) (was_over_still net s count.last_over h x c.over stays)

    by_case : (k : Bool) → closed_takers net s (h ++ x ∷ []) ≡ closed_takers net s h + one_if k → (mid.putters ≡ mid.closed_takers + 1) ⊎ (mid.putters ≢ mid.closed_takers + 1) → CountsUnit net (h ++ x ∷ []) s (cond k (with_closed (length h) mid) mid)
    by_case false cl any = made mid refl refl refl (omega (arith, c.closed)) (still (λ over. omega (arith, putters_is)))
    by_case true cl (inl same) =
        let hit : eqb mid.putters (mid.closed_takers + 1) ≡ true = grind (arith, nat_tests) in
        made (with_closed (length h) mid) refl refl refl (omega (arith, c.closed)) (rw hit (was_over_before net s h x (omega (arith, c.closed, c.putters))))
    by_case true cl (inr other) =
        let miss : eqb mid.putters (mid.closed_takers + 1) ≡ false = grind (arith, nat_tests) in
        made (with_closed (length h) mid) refl refl refl (omega (arith, c.closed)) (rw miss (still (λ over. omega (arith, putters_is, c.closed, c.putters))))

pub unit_end : (net : NetRows) (limit s p t : ℕ) (h : List Entry) (gives : List ℕ) (inner : Bool) (count : UnitCount) → IsReached net limit h → CountsUnit net h s count → ClosesTask h p t → (a b : Bool) → takes net s t ≡ a → puts net s t ≡ b
    → CountsUnit net (h ++ End p gives inner ∷ []) s (cond (a && not b) (with_closed (length h) (cond (b && true) (with_back count) count)) (cond (b && true) (with_back count) count))
unit_end net limit s p t h gives inner count reached c closed_it a b take put =
    by_case b put (back_push net limit s h x reached ∙ ap (λ o. back net s h + one_if (option_map_or (puts net s) o false)) (start_at_push_below h x p (start_below h p t closed_it.started) ∙ closed_it.started) ∙ ap (λ k. back net s h + one_if k) put)
  where
    x : Entry
    x = End p gives inner

    by_case : (b : Bool) → puts net s t ≡ b → back net s (h ++ x ∷ []) ≡ back net s h + one_if b
        → CountsUnit net (h ++ x ∷ []) s (cond (a && not b) (with_closed (length h) (cond (b && true) (with_back count) count)) (cond (b && true) (with_back count) count))
    by_case true put back_is = unit_close net limit s p t h x count (with_back count) reached c closed_it refl (λ n. refl) refl (omega (arith, c.back)) refl refl refl a true take put
    by_case false put back_is = unit_close net limit s p t h x count count reached c closed_it refl (λ n. refl) refl (omega (arith, c.back)) refl refl refl a false take put

pub unit_fault : (net : NetRows) (limit s p t : ℕ) (h : List Entry) (why : Why) (count : UnitCount) → IsReached net limit h → CountsUnit net h s count → ClosesTask h p t → (a b : Bool) → takes net s t ≡ a → puts net s t ≡ b
    → CountsUnit net (h ++ Fault p why ∷ []) s (cond (a && not b) (with_closed (length h) count) count)
unit_fault net limit s p t h why count reached c closed_it a b take put =
    let back_is : back net s (h ++ Fault p why ∷ []) ≡ back net s h + 0 = back_push net limit s h (Fault p why) reached in
    unit_close net limit s p t h (Fault p why) count count reached c closed_it refl (λ n. refl) refl (omega (arith, c.back)) refl refl refl a b take put

-- what a task takes and puts, by its row
pub takes_row : (net : NetRows) (s t : ℕ) (row : TaskRow) → IsRowOf net t row → takes net s t ≡ list_any (λ x. x == s) row.takes
takes_row net s t row is = ap (λ o. option_map_or (λ (r : TaskRow). list_any (λ x. x == s) r.takes) o false) is.stands

pub puts_row : (net : NetRows) (s t : ℕ) (row : TaskRow) → IsRowOf net t row → puts net s t ≡ list_any (λ x. x == s) row.puts
puts_row net s t row is = ap (λ o. option_map_or (λ (r : TaskRow). list_any (λ x. x == s) r.puts) o false) is.stands

-- a number that is among a list has a place there
found_place : (xs : List ℕ) (s : ℕ) → list_any (λ x. x == s) xs ≡ true → (k : ℕ) × (k < length xs) × (get_or xs k 0 ≡ s)
found_place xs s among = by_any (Any-from_list_any (λ x. x == s) xs among)
  where
    by_any : Any (λ x. (x == s) ≡ true) xs → (k : ℕ) × (k < length xs) × (get_or xs k 0 ≡ s)
    by_any any = (any.0, any.2, get_or_default xs any.0 0 any.1 any.2 ∙ any.3 ∙ eqb-true any.1 s any.4)

-- a semaphore that a task names is the net's
pub named_in_range : (net : NetRows) (ids : List ℕ) (s : ℕ) → AreSemaphoresOf net ids → list_any (λ x. x == s) ids ≡ true → s < length net.sems
named_in_range net ids s are among = let at = found_place ids s among in subst (λ k. k < length net.sems) at.2 (are.in_range at.0 0 at.1)

-- the semaphores of a task have counts
pub sems_counted : (net : NetRows) (ids : List ℕ) (counts : List UnitCount) → AreSemaphoresOf net ids → length counts ≡ length net.sems → All (λ s. s < length counts) ids
sems_counted net ids counts are len = λ k d below. omega (arith, len, are.in_range k d below)

-- a change of one count leaves another as it is
pub changed_small : (field : UnitCount → ℕ) (change : UnitCount → UnitCount) (test : ℕ → Bool) (old new : List UnitCount) (sems : List ℕ) (n : ℕ) → ((u : UnitCount) → field (change u) ≡ field u) → Changed change test old new sems
    → All (λ u. field u < n) old → All (λ u. field u < n) new
changed_small field change test old new sems n same changed small = λ k d below.
    let within : k < length old = omega (arith, changed.len) in
    omega (arith, ap field (changed.each k d within), by_test (list_any (λ s. s == k) sems && test k) (get_or old k d), small k d within)
  where
    by_test : (b : Bool) (u : UnitCount) → field (cond b (change u) u) ≡ field u
    by_test true u = same u
    by_test false u = refl

-- the counts after a Start
pub units_start : (net : NetRows) (limit t : ℕ) (row : TaskRow) (h : List Entry) (cause : Cause) (ins : List Part) (old mid new : List UnitCount) → IsRowOf net t row → Changed with_taken always old mid row.takes → Changed with_putter (is_other row.takes) mid new row.puts
    → IsReached net limit h → CountsUnits net h old → CountsUnits net (h ++ Start t cause ins ∷ []) new
units_start net limit t row h cause ins old mid new is taken_are put_are reached counts = record {
  len = put_are.len ∙ taken_are.len ∙ counts.len;
  each = λ s d below.
      let within : s < length old = omega (arith, counts.len) in
      let within_mid : s < length mid = omega (arith, taken_are.len) in
      subst (λ u. CountsUnit net (h ++ Start t cause ins ∷ []) s u)
      (sym (put_are.each s d within_mid ∙ ap (λ u. cond (list_any (λ x. x == s) row.puts && not (list_any (λ x. x == s) row.takes)) (with_putter u) u) (taken_are.each s d within)))
      (unit_start net limit s t h cause ins (get_or old s d) reached (counts.each s d below) (list_any (λ x. x == s) row.takes) (list_any (λ x. x == s) row.puts) (takes_row net s t row is) (puts_row net s t row is));
}

-- after an End
pub units_end : (net : NetRows) (limit t p : ℕ) (row : TaskRow) (h : List Entry) (gives : List ℕ) (inner : Bool) (n : ℕ) (old mid new : List UnitCount) → IsRowOf net t row → Changed with_back always old mid row.puts → Changed (with_closed n) (is_other row.puts) mid new row.takes
    → IsReached net limit h → ClosesTask h p t → n ≡ length h → CountsUnits net h old → CountsUnits net (h ++ End p gives inner ∷ []) new
units_end net limit t p row h gives inner n old mid new is back_are closed_are reached closed_it here counts = record {
  len = closed_are.len ∙ back_are.len ∙ counts.len;
  each = λ s d below.
      let within : s < length old = omega (arith, counts.len) in
      let within_mid : s < length mid = omega (arith, back_are.len) in
      subst (λ u. CountsUnit net (h ++ End p gives inner ∷ []) s u)
      (sym (closed_are.each s d within_mid ∙ ap (λ m. cond (list_any (λ x. x == s) row.takes && not (list_any (λ x. x == s) row.puts)) (with_closed m (get_or mid s d)) (get_or mid s d)) here
      ∙ ap (λ u. cond (list_any (λ x. x == s) row.takes && not (list_any (λ x. x == s) row.puts)) (with_closed (length h) u) u) (back_are.each s d within)))
      (unit_end net limit s p t h gives inner (get_or old s d) reached (counts.each s d below) closed_it (list_any (λ x. x == s) row.takes) (list_any (λ x. x == s) row.puts) (takes_row net s t row is) (puts_row net s t row is));
}

-- after a Fault
pub units_fault : (net : NetRows) (limit t p : ℕ) (row : TaskRow) (h : List Entry) (why : Why) (n : ℕ) (old new : List UnitCount) → IsRowOf net t row → Changed (with_closed n) (is_other row.puts) old new row.takes
    → IsReached net limit h → ClosesTask h p t → n ≡ length h → CountsUnits net h old → CountsUnits net (h ++ Fault p why ∷ []) new
units_fault net limit t p row h why n old new is closed_are reached closed_it here counts = record {
  len = closed_are.len ∙ counts.len;
  each = λ s d below.
      let within : s < length old = omega (arith, counts.len) in
      subst (λ u. CountsUnit net (h ++ Fault p why ∷ []) s u)
      (sym (closed_are.each s d within ∙ ap (λ m. cond (list_any (λ x. x == s) row.takes && not (list_any (λ x. x == s) row.puts)) (with_closed m (get_or old s d)) (get_or old s d)) here))
      (unit_fault net limit s p t h why (get_or old s d) reached (counts.each s d below) closed_it (list_any (λ x. x == s) row.takes) (list_any (λ x. x == s) row.puts) (takes_row net s t row is) (puts_row net s t row is));
}

-- and after a Drop
pub units_drop : (net : NetRows) (limit t : ℕ) (h : List Entry) (cause : Cause) (why : DropWhy) (counts : List UnitCount) → IsReached net limit h → CountsUnits net h counts → CountsUnits net (h ++ Drop t cause why ∷ []) counts
units_drop net limit t h cause why counts reached c = record { len = c.len; each = λ s d below. unit_same net limit s h t cause why (get_or counts s d) reached (c.each s d below) }

-- the least number of a rising list without a property
first_is_least : (P Q : ℕ → Type 0) (xs : List ℕ) (found : Option ℕ) → IsStrictlyIncreasing xs → ((s : ℕ) → list_any (λ x. x == s) xs ≡ true → ¬ P s → Q s) → ((s : ℕ) → Q s → (list_any (λ x. x == s) xs ≡ true) × ¬ P s) → IsFirstWithout P xs found
    → MatchOption found ((s : ℕ) → ¬ Q s) (λ s. IsLeast Q s)
first_is_least P Q xs None rising there away each = λ s q. let at = found_place xs s (away s q).0 in (away s q).1 (subst P at.2 (each at.0 at.1))
first_is_least P Q xs (Some x) rising there away found = record { has_it = there x (any_found xs found.0 x found.1 found.2) found.4; least = λ r below q. by_place r below q (found_place xs r (away r q).0) }
  where
    by_place : (r : ℕ) → r < x → Q r → (k : ℕ) × (k < length xs) × (get_or xs k 0 ≡ r) → ⊥
    by_place r below q at = by_case (cases_lt at.0 found.0)
      where
        by_same : (found.0 < at.0) ⊎ (at.0 ≤ found.0) → found.0 ≤ at.0 → ⊥
        by_same (inl later) after = omega (arith, AllPairs-from_increasing xs rising found.0 at.0 0 later at.1, at.2, found.2)
        by_same (inr same) after = let e : at.0 ≡ found.0 = omega arith in omega (arith, ap (λ k. get_or xs k 0) e, at.2, found.2)

        by_case : (at.0 < found.0) ⊎ (found.0 ≤ at.0) → ⊥
        by_case (inl before) = (away r q).1 (subst P at.2 (found.3 at.0 before))
        by_case (inr after) = by_same (cases_lt found.0 at.0) after

-- the least semaphore that a task takes and that has no unit
pub wanted_is : (net : NetRows) (t : ℕ) (row : TaskRow) (h : List Entry) (counts : List UnitCount) (maxima : List ℕ) (found : Option ℕ) → IsRowOf net t row → maxima ≡ net.sems → CountsUnits net h counts
    → IsFirstWithout (HasUnitLeft counts maxima) row.takes found → MatchOption found ((s : ℕ) → ¬ WantsUnit net h t s) (λ s. IsLeast (WantsUnit net h t) s)
wanted_is net t row h counts maxima found is maxima_are c first =
    first_is_least (HasUnitLeft counts maxima) (WantsUnit net h t) row.takes found is.well_formed.takes.rising
    (λ s among none. (takes_row net s t row is ∙ among, λ unit. none (to s among unit)))
    (λ s wants. let among = sym (takes_row net s t row is) ∙ wants.0 in (among, λ unit. wants.1 (from s among unit))) first
  where
    count : (s : ℕ) → list_any (λ x. x == s) row.takes ≡ true → CountsUnit net h s (get_or counts s no_units)
    count s among = c.each s no_units (named_in_range net row.takes s is.well_formed.takes among)

    to : (s : ℕ) → list_any (λ x. x == s) row.takes ≡ true → HasUnit net s h → HasUnitLeft counts maxima s
    to s among unit = let u = count s among in omega (arith, u.taken, u.back, ap (λ ms. get_or ms s 0) maxima_are)

    from : (s : ℕ) → list_any (λ x. x == s) row.takes ≡ true → HasUnitLeft counts maxima s → HasUnit net s h
    from s among left = let u = count s among in omega (arith, u.taken, u.back, ap (λ ms. get_or ms s 0) maxima_are)

-- the least semaphore that a task puts and of which nothing is out
pub not_out_is : (net : NetRows) (t : ℕ) (row : TaskRow) (h : List Entry) (counts : List UnitCount) (found : Option ℕ) → IsRowOf net t row → CountsUnits net h counts
    → IsFirstWithout (IsOut counts) row.puts found → MatchOption found ((s : ℕ) → ¬ PutsWithNothingOut net h t s) (λ s. IsLeast (PutsWithNothingOut net h t) s)
not_out_is net t row h counts found is c first =
    first_is_least (IsOut counts) (PutsWithNothingOut net h t) row.puts found is.well_formed.puts.rising
    (λ s among none. (puts_row net s t row is ∙ among, by_case s among none (cases_eq (back net s h) (taken net s h))))
    (λ s none. let among = sym (puts_row net s t row is) ∙ none.0 in (among, λ out. out (let u = count s among in u.back ∙ none.1 ∙ sym u.taken))) first
  where
    count : (s : ℕ) → list_any (λ x. x == s) row.puts ≡ true → CountsUnit net h s (get_or counts s no_units)
    count s among = c.each s no_units (named_in_range net row.puts s is.well_formed.puts among)

    by_case : (s : ℕ) → list_any (λ x. x == s) row.puts ≡ true → ¬ IsOut counts s → (back net s h ≡ taken net s h) ⊎ (back net s h ≢ taken net s h) → back net s h ≡ taken net s h
    by_case s among none (inl same) = same
    by_case s among none (inr other) = absurd (none (λ e. other (let u = count s among in sym u.back ∙ e ∙ u.taken)))

-- whether a start would give back a unit that isn't out
pub over_is : (net : NetRows) (s p t : ℕ) (row : TaskRow) (h : List Entry) (count : UnitCount) (flag : Bool) → IsRowOf net t row → CountsUnit net h s count → start_at h p ≡ Some t → flag ≡ list_any (λ x. x == s) row.puts
    → (flag ≡ true → (p < count.last_over) ⊎ (count.closed_takers < count.putters) → IsOverRelease net h s p t) × (IsOverRelease net h s p t → (flag ≡ true) × ((p < count.last_over) ⊎ (count.closed_takers < count.putters)))
over_is net s p t row h count flag is c started flag_is = (
  λ putter case. (law (sym (flag_is' putter))).0 (there case),
  λ over. (flag_is ∙ sym (puts_row net s t row is) ∙ over.0, here ((law over.0).1 over)),
)
  where
    flag_is' : flag ≡ true → true ≡ puts net s t
    flag_is' put = sym put ∙ flag_is ∙ sym (puts_row net s t row is)

    law : puts net s t ≡ true → ((p < count.last_over) ⊎ IsOver net s h → IsOverRelease net h s p t) × (IsOverRelease net h s p t → (p < count.last_over) ⊎ IsOver net s h)
    law putter = over_release_is net s p t count.last_over h started (start_below h p t started) putter c.over

    there : (p < count.last_over) ⊎ (count.closed_takers < count.putters) → (p < count.last_over) ⊎ IsOver net s h
    there (inl before) = inl before
    there (inr now) = inr (omega (arith, c.closed, c.putters))

    here : (p < count.last_over) ⊎ IsOver net s h → (p < count.last_over) ⊎ (count.closed_takers < count.putters)
    here (inl before) = inl before
    here (inr now) = inr (omega (arith, c.closed, c.putters))
