-- Tables of the indices at which tasks were started, or ended.
use Rattle.std.proofs.Common.{◌≡◌, ◌≢◌, ◌⊎◌, inl, inr, ◌∙◌, ℕ, zero, suc, ◌+◌, ◌<◌, ◌≤◌, Bool, true, false, cond, eqb, ltb, List, [], ◌∷◌, ◌++◌, length, map, take, set, length-set, Option, Some, None, refl, sym, ap, subst, arith}
use Rattle.std.specs.Prelude.{replicate, slice_get, unwrap_or, Result, Ok, Err, IfOk}
use Rattle.std.specs.Option.{option_or}
use Rattle.std.specs.List.{position, position_from}
use Rattle.std.proofs.lemmas.Bool.{cases_eq, cases_lt}
use Rattle.std.proofs.lemmas.Bool.Decides.{nat_tests}
use Rattle.std.proofs.lemmas.List.{length-replicate, take_all}
use Rattle.std.proofs.lemmas.Iterator.Adapters.{position_from-zero}
use Rattle.task_graph.specs.NetRows.{NetRows}
use Rattle.journal_rules.specs.declared.entry.Part.TheVariants.{From}
use Rattle.journal_rules.specs.declared.entry.Entry.{Entry}
use Rattle.journal_rules.specs.declared.entry.Entry.TheVariants.{Start, End}
use Rattle.async_tasks.specs.declared.history.AddRow.{AddRow}
use Rattle.async_tasks.specs.declared.history.TaskEvent.{TaskEvent}
use Rattle.async_tasks.specs.declared.history.TaskEvent.TheVariants.{Started, Ended}
use Rattle.async_tasks.specs.Histories.{is_start_of, is_end_of}
use Rattle.async_journal.specs.RunJournals.{place_of, named_by, cause_after, end_gives, part_of, entry_of, run_journal}
use Rattle.async_journal.specs.declared.places.EventKind.{EventKind}
use Rattle.async_journal.specs.declared.places.EventKind.TheVariants.{Starts, Ends}
use Rattle.async_journal.specs.inside.Tables.{IsTableOf, is_of_kind, task_if, noted_at, noted, noted_task, noted_event, known_place, noted_place, noted_part, entry_by}
use Rattle.async_journal.proofs.ByPlace.{front_count, copy_at}

module _ {X : Type 0} where
  get_set_same : (xs : List X) (k : ℕ) (x y : X) → slice_get xs k ≡ Some x → slice_get (set xs k y) k ≡ Some y
  get_set_same [] k x y at = absurd (cc)
  get_set_same (z ∷ zs) zero x y at = refl
  get_set_same (z ∷ zs) (suc k) x y at = get_set_same zs k x y at

  get_set_other : (xs : List X) (k m : ℕ) (y : X) → m ≢ k → slice_get (set xs k y) m ≡ slice_get xs m
  get_set_other [] k m y other = refl
  get_set_other (z ∷ zs) zero zero y other = absurd (other refl)
  get_set_other (z ∷ zs) zero (suc m) y other = refl
  get_set_other (z ∷ zs) (suc k) zero y other = refl
  get_set_other (z ∷ zs) (suc k) (suc m) y other = get_set_other zs k m y (λ e. other (ap suc e))

  get_past_end : (xs : List X) (k : ℕ) → length xs ≤ k → slice_get xs k ≡ None
  get_past_end [] k past = refl
  get_past_end (z ∷ zs) zero past = absurd (omega arith)
  get_past_end (z ∷ zs) (suc k) past = get_past_end zs k (omega arith)

  not_none : (xs : List X) (k : ℕ) → k < length xs → slice_get xs k ≡ None → ⊥
  not_none [] k below is = absurd (omega arith)
  not_none (z ∷ zs) zero below is = absurd (cc)
  not_none (z ∷ zs) (suc k) below is = not_none zs k (omega arith) is

  -- the first items, with the next one
  take_next : (xs : List X) (k : ℕ) (x : X) → slice_get xs k ≡ Some x → take (suc k) xs ≡ take k xs ++ x ∷ []
  take_next [] k x at = absurd (cc)
  take_next (z ∷ zs) zero x at = ap (λ y. y ∷ []) (some_same at)
    where
      some_same : {a b : X} → Some a ≡ Some b → a ≡ b
      some_same e = cc
  take_next (z ∷ zs) (suc k) x at = ap (λ rest. z ∷ rest) (take_next zs k x at)

  map_same : {Y : Type 0} (f g : X → Y) (xs : List X) → ((x : X) → f x ≡ g x) → map f xs ≡ map g xs
  map_same f g [] each = refl
  map_same f g (x ∷ xs) each = ap (λ y. y ∷ map f xs) (each x) ∙ ap (λ ys. g x ∷ ys) (map_same f g xs each)

  -- where a test passes first, after one item more
  position_from_push : (p : X → Bool) (i : ℕ) (xs : List X) (x : X) → position_from p i (xs ++ x ∷ []) ≡ option_or (position_from p i xs) (cond (p x) (Some (i + length xs)) None)
  position_from_push p i [] x = ap (λ k. cond (p x) (Some k) None) (let e : i ≡ i + 0 = omega arith in e)
  position_from_push p i (y ∷ ys) x = by_test (p y) (position_from_push p (i + 1) ys x)
    where
      by_test : (b : Bool) → position_from p (i + 1) (ys ++ x ∷ []) ≡ option_or (position_from p (i + 1) ys) (cond (p x) (Some ((i + 1) + length ys)) None) →
          cond b (Some i) (position_from p (i + 1) (ys ++ x ∷ [])) ≡ option_or (cond b (Some i) (position_from p (i + 1) ys)) (cond (p x) (Some (i + length (y ∷ ys))) None)
      by_test true rest = refl
      by_test false rest = rest ∙ ap (λ k. option_or (position_from p (i + 1) ys) (cond (p x) (Some k) None)) (let e : (i + 1) + length ys ≡ i + length (y ∷ ys) = omega arith in e)

  position_push : (p : X → Bool) (xs : List X) (x : X) (n : ℕ) → n ≡ length xs → position p (xs ++ x ∷ []) ≡ option_or (position p xs) (cond (p x) (Some n) None)
  position_push p xs x n count =
      position_from-zero p (xs ++ x ∷ []) ∙ position_from_push p 0 xs x
      ∙ ap (λ k. option_or (position_from p 0 xs) (cond (p x) (Some k) None)) (let e : 0 + length xs ≡ n = omega (arith, count) in e)
      ∙ ap (λ o. option_or o (cond (p x) (Some n) None)) (sym (position_from-zero p xs))

or_none : (o : Option ℕ) → option_or o None ≡ o
or_none None = refl
or_none (Some k) = refl

-- what a table has for a task, after an index was put down
noted_get : (table : List (Option ℕ)) (u t place : ℕ) (o : Option ℕ) → slice_get table t ≡ Some o → slice_get (noted table u place) t ≡ Some (option_or o (cond (eqb u t) (Some place) None))
noted_get table u t place o at = by_case (cases_eq u t)
  where
    here : (o' : Option ℕ) → slice_get table t ≡ Some o' → slice_get (noted_at table t place (Some o')) t ≡ Some (option_or o' (Some place))
    here None has = get_set_same table t None (Some place) has
    here (Some k) has = has

    elsewhere : (q : Option (Option ℕ)) → t ≢ u → slice_get (noted_at table u place q) t ≡ slice_get table t
    elsewhere None other = refl
    elsewhere (Some None) other = get_set_other table u t (Some place) other
    elsewhere (Some (Some k)) other = refl

    by_case : (u ≡ t) ⊎ (u ≢ t) → slice_get (noted table u place) t ≡ Some (option_or o (cond (eqb u t) (Some place) None))
    by_case (inl same) =
        let hit : eqb u t ≡ true = grind (arith, nat_tests) in
        ap (λ k. slice_get (noted table k place) t) same ∙ ap (λ q. slice_get (noted_at table t place q) t) at ∙ here o at
        ∙ ap (λ b. Some (option_or o (cond b (Some place) None))) (sym hit)
    by_case (inr differs) =
        let miss : eqb u t ≡ false = grind (arith, nat_tests) in
        elsewhere (slice_get table u) (λ e. differs (sym e)) ∙ at ∙ ap Some (sym (or_none o)) ∙ ap (λ b. Some (option_or o (cond b (Some place) None))) (sym miss)

noted_count : (table : List (Option ℕ)) (u place : ℕ) (q : Option (Option ℕ)) → length (noted_at table u place q) ≡ length table
noted_count table u place None = refl
noted_count table u place (Some None) = length-set table u (Some place)
noted_count table u place (Some (Some k)) = refl

module _ (is_event : ℕ → TaskEvent → Bool) (tasks : ℕ) where
  -- an event of another kind, and one of this
  skipped : (events : List TaskEvent) (event : TaskEvent) (table : List (Option ℕ)) → ((t : ℕ) → is_event t event ≡ false) → IsTableOf is_event tasks events table → IsTableOf is_event tasks (events ++ event ∷ []) table
  skipped events event table misses h = record {
    count = h.count;
    each = λ t below.
        h.each t below ∙ ap Some (sym (or_none (position (is_event t) events)) ∙ ap (λ b. option_or (position (is_event t) events) (cond b (Some (length events)) None)) (sym (misses t))
        ∙ sym (position_push (is_event t) events event (length events) refl));
  }

  put_down : (events : List TaskEvent) (event : TaskEvent) (table : List (Option ℕ)) (u place : ℕ) → ((t : ℕ) → is_event t event ≡ eqb u t) → place ≡ length events → IsTableOf is_event tasks events table → IsTableOf is_event tasks (events ++ event ∷ []) (noted table u place)
  put_down events event table u place hits count h = record {
    count = noted_count table u place (slice_get table u) ∙ h.count;
    each = λ t below.
        noted_get table u t place (position (is_event t) events) (h.each t below)
        ∙ ap Some (ap (λ b. option_or (position (is_event t) events) (cond b (Some place) None)) (sym (hits t)) ∙ sym (position_push (is_event t) events event place count));
  }

  -- no events, and all
  pub no_events : (events : List TaskEvent) (table : List (Option ℕ)) → table ≡ replicate tasks None → IsTableOf is_event tasks (take 0 events) table
  no_events events table same = record {
    count = ap length same ∙ length-replicate tasks None;
    each = λ t below. ap (λ xs. slice_get xs t) same ∙ copy_at tasks t None below;
  }

  pub all_events : (n : ℕ) (events : List TaskEvent) (table : List (Option ℕ)) → length events ≤ n → IsTableOf is_event tasks (take n events) table → IsTableOf is_event tasks events table
  all_events n events table past h = subst (λ xs. IsTableOf is_event tasks xs table) (take_all n events past) h

-- a table, after the next event
pub event_next : (kind : EventKind) (tasks i : ℕ) (events : List TaskEvent) (table new : List (Option ℕ)) → IsTableOf (is_of_kind kind) tasks (take i events) table → i < length events → new ≡ noted_event kind table (slice_get events i) i → IsTableOf (is_of_kind kind) tasks (take (i + 1) events) new
event_next kind tasks i events table new h below changed = subst (IsTableOf (is_of_kind kind) tasks (take (i + 1) events)) (sym changed) (by_event (slice_get events i) refl)
  where
    by_kind : (k : EventKind) (e : TaskEvent) → IsTableOf (is_of_kind k) tasks (take i events) table → IsTableOf (is_of_kind k) tasks (take i events ++ e ∷ []) (noted_task table (task_if k e) i)
    by_kind Starts (Started u) has = put_down is_start_of tasks (take i events) (Started u) table u i (λ t. refl) (sym (front_count events i (omega arith))) has
    by_kind Starts (Ended u) has = skipped is_start_of tasks (take i events) (Ended u) table (λ t. refl) has
    by_kind Ends (Started u) has = skipped is_end_of tasks (take i events) (Started u) table (λ t. refl) has
    by_kind Ends (Ended u) has = put_down is_end_of tasks (take i events) (Ended u) table u i (λ t. refl) (sym (front_count events i (omega arith))) has

    by_event : (o : Option TaskEvent) → slice_get events i ≡ o → IsTableOf (is_of_kind kind) tasks (take (i + 1) events) (noted_event kind table o i)
    by_event None at = absurd (not_none events i below at)
    by_event (Some e) at =
        subst (λ xs. IsTableOf (is_of_kind kind) tasks xs (noted_task table (task_if kind e) i))
        (sym (take_next events i e at) ∙ ap (λ k. take k events) (let same : suc i ≡ i + 1 = omega arith in same)) (by_kind kind e h)

-- what the tables say of a task
place_by : (is_event : ℕ → TaskEvent → Bool) (adds : List AddRow) (events : List TaskEvent) (table : List (Option ℕ)) (t : ℕ) → IsTableOf is_event (length adds) events table → noted_place table t ≡ place_of is_event adds events t
place_by is_event adds events table t h = by_order (cases_lt t (length adds))
  where
    known : (o : Option ℕ) → known_place (Some o) ≡ unwrap_or o 0
    known None = refl
    known (Some k) = refl

    by_order : (t < length adds) ⊎ (length adds ≤ t) → noted_place table t ≡ place_of is_event adds events t
    by_order (inl below) =
        let less : ltb t (length adds) ≡ true = grind (arith, nat_tests) in
        ap known_place (h.each t below) ∙ known (position (is_event t) events) ∙ ap (λ b. cond b (unwrap_or (position (is_event t) events) 0) 0) (sym less)
    by_order (inr past) =
        let more : ltb t (length adds) ≡ false = grind (arith, nat_tests) in
        let count = h.count in
        ap known_place (get_past_end table t (omega arith)) ∙ ap (λ b. cond b (unwrap_or (position (is_event t) events) 0) 0) (sym more)

-- the journal by the tables is that of the events
pub journal_by_tables : {E : Type 0} (net : NetRows) (adds : List AddRow) (events : List TaskEvent) (starts ends starts' ends' : List (Option ℕ)) (result : Result (List Entry) E) → IfOk result (λ journal. journal ≡ map (entry_by net adds starts' ends') events) → starts' ≡ starts → ends' ≡ ends →
    IsTableOf is_start_of (length adds) events starts → IsTableOf is_end_of (length adds) events ends → IfOk result (λ journal. journal ≡ run_journal net adds events)
journal_by_tables net adds events starts ends starts' ends' (Err e) is same_starts same_ends has_starts has_ends = tt
journal_by_tables net adds events starts ends starts' ends' (Ok journal) is same_starts same_ends has_starts has_ends =
    is ∙ ap (λ table. map (entry_by net adds table ends') events) same_starts ∙ ap (λ table. map (entry_by net adds starts table) events) same_ends
    ∙ map_same (entry_by net adds starts ends) (entry_of net adds events) events each
  where
    each : (event : TaskEvent) → entry_by net adds starts ends event ≡ entry_of net adds events event
    each (Started t) = ap (Start t (cause_after (named_by (slice_get adds t))))
        (map_same (noted_part ends) (part_of adds events) (named_by (slice_get adds t)) (λ before. ap From (place_by is_end_of adds events ends before has_ends)))
    each (Ended t) = ap (λ k. End k (end_gives net t) false) (place_by is_start_of adds events starts t has_starts)
