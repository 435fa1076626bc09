-- What a keeper's journal says of the work of its job.
use Rattle.std.proofs.Common.{◌≡◌, ◌≢◌, ◌⊎◌, inl, inr, ℕ, zero, suc, ◌+◌, ◌<◌, ◌≤◌, Bool, true, false, List, [], ◌∷◌, ◌++◌, length, map, Option, Some, None, append_assoc, refl, sym, ap, ◌∙◌, subst, arith}
use Rattle.std.specs.Prelude.{◌==◌, count_by, sum_by, slice_get, reverse, IsSomeAnd, IsTrue}
use Rattle.std.specs.List.{AllByRecursion, AllZip}
use Rattle.std.specs.Option.{option_map_or}
use Rattle.std.specs.Arc.{arc_value}
use Rattle.std.proofs.lemmas.Bool.{cases_eq, false≢true}
use Rattle.std.proofs.lemmas.Bool.Decides.{nat_tests}
use Rattle.std.proofs.lemmas.List.Sums.{sum_by-cons}
use Rattle.task_graph.specs.NetRows.{NetRows}
use Rattle.journal_rules.specs.declared.entry.Cause.{Cause}
use Rattle.journal_rules.specs.declared.entry.Why.{Why}
use Rattle.journal_rules.specs.declared.entry.Part.{Part}
use Rattle.journal_rules.specs.declared.entry.Part.TheVariants.{From, First, Nothing}
use Rattle.journal_rules.specs.declared.entry.Entry.{Entry}
use Rattle.journal_rules.specs.declared.entry.Entry.TheVariants.{Start, End, Fault, Drop}
use Rattle.journal_rules.specs.Counts.{gives_edge}
use Rattle.journal_rules.specs.Entries.{EachAfterThese}
use Rattle.journal_rules.specs.DataRule.{DataRule, IsPartAt, edges_of}
use Rattle.journal_rules.specs.ShapeLegal.{MeetsDataRule}
use Rattle.join_words.specs.Ins.{first, nothing, found_of}
use Rattle.join_words.specs.declared.ins.Given.{Given}
use Rattle.join_words.specs.declared.ins.Given.TheVariants.{Value, First as FirstToken, Nothing as NoValue}
use Rattle.table_steps.specs.Values.{AreValues, given_part, values_in}
use Rattle.table_steps.specs.Giving.{one_if}
use Rattle.table_steps.proofs.Values.{are_front, are_back}
use Rattle.table_steps.proofs.Journals.{count_cons}
use Rattle.join_tables.specs.Values.{known_values, values_known}
use Rattle.join_tables.specs.declared.fates.Dropping.{Dropping}
use Rattle.join_tables.specs.declared.fates.Failure.{Failure}
use Rattle.join_tables.specs.declared.fates.Fate.{Fate}
use Rattle.join_tables.specs.declared.fates.Fate.TheVariants.{Ended, Faulted, Dropped, AllDropped}
use Rattle.join_tables.specs.declared.turns.EndedStart.{EndedStart}
use Rattle.join_tables.specs.declared.keeper.Recorded.{Recorded}
use Rattle.join_tables.specs.Keeping.{drop_of, entries_of, entries_told}
use Rattle.join_tables.specs.Finishing.{recorded_values, values_told}
use Rattle.run_frame.specs.declared.run.FrameRun.{FrameRun}
use Rattle.run_frame.specs.declared.run.ValueRow.{ValueRow}
use Rattle.run_frame.specs.Rows.{MayHaveInner}
use Rattle.run_frame.specs.Meaning.{Meaning}
use Rattle.run_frame.specs.Runs.{value_at, found_by, found_ins}
use Rattle.table_runs.specs.AllowedFates.{EndAllowed, FateAllowed, IsAllowed, work_with}
use Rattle.table_runs.specs.inside.FateRuns.{FateWithRun, PlacedRun, closing_place, placed_runs, run_at}
use Rattle.table_runs.proofs.Runs.{RunAt, fates_in}
use Rattle.table_runs.proofs.Rows.{IsItsValue}

-- an entry stands at this place
abbrev pub HasPlace : ℕ → List Recorded → Type 0
HasPlace m [] = ⊥
HasPlace m (r ∷ rs) = (r.place ≡ m) ⊎ HasPlace m rs

pub place_counted : (m : ℕ) (rs : List Recorded) → 1 ≤ count_by (λ (r : Recorded). r.place == m) rs → HasPlace m rs
place_counted m [] some = absurd (omega (arith, some))
place_counted m (r ∷ rs) some = by_place (cases_eq r.place m) (place_counted m rs)
  where
    by_place : (r.place ≡ m) ⊎ (r.place ≢ m) → (1 ≤ count_by (λ (q : Recorded). q.place == m) rs → HasPlace m rs) → HasPlace m (r ∷ rs)
    by_place (inl here) rest = inl here
    by_place (inr other) rest = let off : (r.place == m) ≡ false = grind (arith, nat_tests, other) in inr (rest (omega (arith, some, ap one_if off, count_cons (λ (q : Recorded). q.place == m) r rs)))

has_counted : (m : ℕ) (rs : List Recorded) → HasPlace m rs → 1 ≤ count_by (λ (r : Recorded). r.place == m) rs
has_counted m [] has = absurd has
has_counted m (r ∷ rs) (inl here) = let on : (r.place == m) ≡ true = grind (arith, nat_tests, here) in omega (arith, ap one_if on, count_cons (λ (q : Recorded). q.place == m) r rs)
has_counted m (r ∷ rs) (inr there) = omega (arith, has_counted m rs there, count_cons (λ (q : Recorded). q.place == m) r rs)

count_append : {X : Type 0} (p : X → Bool) (xs ys : List X) → count_by p (xs ++ ys) ≡ count_by p xs + count_by p ys
count_append p [] ys = let none : count_by p [] ≡ 0 = refl in omega (arith, none)
count_append p (x ∷ xs) ys = omega (arith, count_append p xs ys, count_cons p x xs, count_cons p x (xs ++ ys))

all_front : {X : Type 0} (P : X → Type 0) (xs ys : List X) → AllByRecursion P (xs ++ ys) → AllByRecursion P xs
all_front P [] ys all = tt
all_front P (x ∷ xs) ys all = (all.0, all_front P xs ys all.1)

all_back : {X : Type 0} (P : X → Type 0) (xs ys : List X) → AllByRecursion P (xs ++ ys) → AllByRecursion P ys
all_back P [] ys all = all
all_back P (x ∷ xs) ys all = all_back P xs ys all.1

pub below_where : (n m : ℕ) (rs : List Recorded) → AllByRecursion (λ (r : Recorded). r.place < n) rs → HasPlace m rs → m < n
below_where n m [] all has = absurd has
below_where n m (r ∷ rs) all (inl here) = omega (arith, all.0, here)
below_where n m (r ∷ rs) all (inr there) = below_where n m rs all.1 there

get_front : {X : Type 0} (xs ys : List X) (n : ℕ) (x : X) → slice_get xs n ≡ Some x → slice_get (xs ++ ys) n ≡ Some x
get_front [] ys n x is = absurd (cc)
get_front (y ∷ xs) ys zero x is = is
get_front (y ∷ xs) ys (suc n) x is = get_front xs ys n x is

pub get_left : {X : Type 0} (xs ys : List X) (n : ℕ) → n < length xs → slice_get xs n ≡ slice_get (xs ++ ys) n
get_left [] ys n below = absurd (omega (arith, below))
get_left (y ∷ xs) ys zero below = refl
get_left (y ∷ xs) ys (suc n) below = get_left xs ys n (omega (arith, below))

pub get_here : {X : Type 0} (xs ys : List X) (x : X) → slice_get (xs ++ x ∷ ys) (length xs) ≡ Some x
get_here [] ys x = refl
get_here (y ∷ xs) ys x = get_here xs ys x

module _ (h : List Entry) where
  abbrev pub Stand : Recorded → Type 0
  Stand r = slice_get h r.place ≡ Some r.entry

  -- an End stands at this place
  abbrev pub EndAt : ℕ → Type 0
  EndAt m = (s : ℕ) × (g : List ℕ) × (b : Bool) × (slice_get h m ≡ Some (End s g b))

  abbrev pub NamesEnd : Part → Type 0
  NamesEnd (From n) = EndAt n
  NamesEnd First = Unit {0}
  NamesEnd Nothing = Unit {0}

  no_drop : (m : ℕ) (x : Entry) (drops : List Dropping) → AllByRecursion Stand (map drop_of drops) → HasPlace m (map drop_of drops) → slice_get h m ≡ Some x → ((t : ℕ) (c : Cause) (w : _) → x ≡ Drop t c w → ⊥) → ⊥
  no_drop m x [] stand has is other = absurd has
  no_drop m x (d ∷ drops) stand (inl here) is other =
      let there : slice_get h m ≡ Some (Drop d.task d.cause d.why) = ap (slice_get h) (sym here) ∙ stand.0 in
      other d.task d.cause d.why (cc)
  no_drop m x (d ∷ drops) stand (inr there) is other = no_drop m x drops stand.1 there is other

  -- a Start at a place, where its rule holds
  data_at : (net : NetRows) (before rest : List Entry) → EachAfterThese (DataRule net) before rest → (n : ℕ) (x : Entry) → slice_get rest n ≡ Some x → (c : List Entry) × (d : List Entry) × (c ++ x ∷ d ≡ before ++ rest) × DataRule net c x
  data_at net before [] each n x is = absurd (cc)
  data_at net before (y ∷ rest) each zero x is = let same : y ≡ x = cc in (before, rest, ap (λ z. before ++ z ∷ rest) (sym same), subst (DataRule net before) same each.0)
  data_at net before (y ∷ rest) each (suc n) x is =
      let r = data_at net (before ++ y ∷ []) rest each.1 n x is in
      (r.0, r.1, r.2 ∙ append_assoc before (y ∷ []) rest, r.3)

  gives_end : (c d : List Entry) (e n : ℕ) → c ++ d ≡ h → IsTrue (option_map_or (gives_edge e) (slice_get c n) false) → EndAt n
  gives_end c d e n is gives = by_entry (slice_get c n) refl gives
    where
      by_entry : (o : Option Entry) → slice_get c n ≡ o → IsTrue (option_map_or (gives_edge e) o false) → EndAt n
      by_entry None at g = absurd (false≢true g)
      by_entry (Some (Start t k ins)) at g = absurd (false≢true g)
      by_entry (Some (End s gs b)) at g = (s, gs, b, subst (λ j. slice_get j n ≡ Some (End s gs b)) is (get_front c d n (End s gs b) at))
      by_entry (Some (Fault s w)) at g = absurd (false≢true g)
      by_entry (Some (Drop t k w)) at g = absurd (false≢true g)

  parts_end : (net : NetRows) (c d : List Entry) (es : List ℕ) (parts : List Part) → c ++ d ≡ h → AllZip (IsPartAt net c) es parts → AllByRecursion NamesEnd parts
  parts_end net c d [] [] is all = tt
  parts_end net c d [] (p ∷ parts) is all = absurd all
  parts_end net c d (e ∷ es) [] is all = tt
  parts_end net c d (e ∷ es) (From n ∷ parts) is all = (gives_end c d e n is all.0.found.0, parts_end net c d es parts is all.1)
  parts_end net c d (e ∷ es) (First ∷ parts) is all = (tt, parts_end net c d es parts is all.1)
  parts_end net c d (e ∷ es) (Nothing ∷ parts) is all = (tt, parts_end net c d es parts is all.1)

  -- what a Start names are Ends
  pub names_ends : (net : NetRows) → MeetsDataRule net h → (n t : ℕ) (cause : Cause) (parts : List Part) → slice_get h n ≡ Some (Start t cause parts) → AllByRecursion NamesEnd parts
  names_ends net meets n t cause parts at = let r = data_at net [] h meets n (Start t cause parts) at in parts_end net r.0 (Start t cause parts ∷ r.1) (edges_of net t cause) parts r.2 r.3

  module _ {V : Type 0} (star : ℕ → Option V) where
    -- what starts found, by rows that say the values of Ends
    pub found_is : (rows : List (ValueRow V)) → ((n : ℕ) → EndAt n → value_at rows n ≡ star n) → (parts : List (Given V)) → AllByRecursion NamesEnd (map given_part parts) → AreValues star (values_in parts) → found_ins rows (map given_part parts) ≡ map found_of parts
    found_is rows says [] names are = refl
    found_is rows says (Value n shared ∷ parts) names are =
        let here : value_at rows n ≡ Some (arc_value shared) = says n names.0 ∙ are.0 in
        (λ i. found_by (here i) ∷ found_is rows says parts names.1 are.1 i)
    found_is rows says (FirstToken ∷ parts) names are = ap (λ fs. first ∷ fs) (found_is rows says parts names.1 are)
    found_is rows says (NoValue ∷ parts) names are = ap (λ fs. nothing ∷ fs) (found_is rows says parts names.1 are)

    module _ {J : Type 0} (meaning : Meaning J V) (job : J) where
      -- what is known of a turn that was taken in
      pub record TurnHolds (turn : FateWithRun J V) : Type 0 where
        pub stand : AllByRecursion Stand (entries_of turn.fate)
        pub allowed : IsAllowed meaning job turn.fate turn.run
        pub known : AreValues star (known_values turn.fate)

      pub all_hold : (turns : List (FateWithRun J V)) → AllByRecursion Stand (entries_told (fates_in turns)) → AllByRecursion (λ (turn : FateWithRun J V). IsAllowed meaning job turn.fate turn.run) turns → AreValues star (values_known (fates_in turns)) → AllByRecursion TurnHolds turns
      all_hold [] stand allowed known = tt
      all_hold (t ∷ ts) stand allowed known = (
        record {
          stand = all_front Stand (entries_of t.fate) (entries_told (fates_in ts)) stand;
          allowed = allowed.0;
          known = are_front star (known_values t.fate) (values_known (fates_in ts)) known;
        },
        all_hold ts (all_back Stand (entries_of t.fate) (entries_told (fates_in ts)) stand) allowed.1 (are_back star (known_values t.fate) (values_known (fates_in ts)) known),
      )

      -- a turn whose start made a run has an End or a Fault, at its own place
      pub has_closing : (turn : FateWithRun J V) (run : FrameRun J V) → TurnHolds turn → turn.run ≡ Some run → HasPlace (closing_place turn.fate) (entries_of turn.fate)
      has_closing turn run holds is = by_fate turn.fate (subst (FateAllowed meaning job turn.fate) is holds.allowed.by_job)
        where
          by_fate : (f : Fate V) → FateAllowed meaning job f (Some run) → HasPlace (closing_place f) (entries_of f)
          by_fate (Ended e) allowed = inr (inl refl)
          by_fate (Faulted f) allowed = inr (inl refl)
          by_fate (Dropped d) allowed = absurd (cc)
          by_fate (AllDropped drops) allowed = absurd (cc)

      -- the runs at a place are no more than the entries there
      pub placed_counted : (m : ℕ) (turns : List (FateWithRun J V)) → AllByRecursion TurnHolds turns → sum_by (λ (p : PlacedRun J V). one_if (p.place == m)) (placed_runs turns) ≤ count_by (λ (r : Recorded). r.place == m) (entries_told (fates_in turns))
      placed_counted m [] all = omega arith
      placed_counted m (t ∷ ts) all = by_run t.run refl (placed_counted m ts all.1)
        where
          here : Recorded → Bool
          here r = r.place == m

          at : PlacedRun J V → ℕ
          at p = one_if (p.place == m)

          split : count_by here (entries_of t.fate ++ entries_told (fates_in ts)) ≡ count_by here (entries_of t.fate) + count_by here (entries_told (fates_in ts))
          split = count_append here (entries_of t.fate) (entries_told (fates_in ts))

          own : (run : FrameRun J V) → t.run ≡ Some run → (closing_place t.fate ≡ m) ⊎ (closing_place t.fate ≢ m) → one_if (closing_place t.fate == m) ≤ count_by here (entries_of t.fate)
          own run is (inl same) = let on : (closing_place t.fate == m) ≡ true = grind (arith, nat_tests, same) in omega (arith, ap one_if on, has_counted m (entries_of t.fate) (subst (λ n. HasPlace n (entries_of t.fate)) same (has_closing t run all.0 is)))
          own run is (inr other) = let off : (closing_place t.fate == m) ≡ false = grind (arith, nat_tests, other) in omega (arith, ap one_if off)

          by_run : (o : Option (FrameRun J V)) → t.run ≡ o → sum_by at (placed_runs ts) ≤ count_by here (entries_told (fates_in ts)) → sum_by at (run_at (closing_place t.fate) o ++ placed_runs ts) ≤ count_by here (entries_of t.fate ++ entries_told (fates_in ts))
          by_run None is rest = omega (arith, rest, split)
          by_run (Some run) is rest = omega (arith, rest, split, own run is (cases_eq (closing_place t.fate) m), sum_by-cons at (record { place = closing_place t.fate; run = run }) (placed_runs ts))

      -- the turn of an entry, which has the run at that place if one of the turns has it
      pub record TurnOf (m : ℕ) (turns : List (FateWithRun J V)) : Type 0 where
        pub turn : FateWithRun J V
        pub holds : TurnHolds turn
        pub has : HasPlace m (entries_of turn.fate)
        pub own : (run : FrameRun J V) → RunAt m run turns → (turn.run ≡ Some run) × (closing_place turn.fate ≡ m)
        pub there : (run : FrameRun J V) → turn.run ≡ Some run → closing_place turn.fate ≡ m → RunAt m run turns

      run_counted : (m : ℕ) (run : FrameRun J V) (turns : List (FateWithRun J V)) → AllByRecursion TurnHolds turns → RunAt m run turns → 1 ≤ count_by (λ (r : Recorded). r.place == m) (entries_told (fates_in turns))
      run_counted m run [] all at = absurd at
      run_counted m run (t ∷ ts) all (inl here) =
          let closing = subst (λ n. HasPlace n (entries_of t.fate)) here.0 (has_closing t run all.0 here.1) in
          omega (arith, has_counted m (entries_of t.fate) closing, count_append (λ (r : Recorded). r.place == m) (entries_of t.fate) (entries_told (fates_in ts)))
      run_counted m run (t ∷ ts) all (inr there) = omega (arith, run_counted m run ts all.1 there, count_append (λ (r : Recorded). r.place == m) (entries_of t.fate) (entries_told (fates_in ts)))

      pub find : (m : ℕ) (turns : List (FateWithRun J V)) → AllByRecursion TurnHolds turns → count_by (λ (r : Recorded). r.place == m) (entries_told (fates_in turns)) ≡ 1 → TurnOf m turns
      find m [] all one = absurd (omega (arith, one))
      find m (t ∷ ts) all one = by_count (count_by here own) refl (find m ts all.1)
        where
          here : Recorded → Bool
          here r = r.place == m

          own : List Recorded
          own = entries_of t.fate

          rest : List Recorded
          rest = entries_told (fates_in ts)

          by_count : (n : ℕ) → count_by here own ≡ n → (count_by here rest ≡ 1 → TurnOf m ts) → TurnOf m (t ∷ ts)
          by_count zero none later =
              let found = later (omega (arith, one, none, count_append here own rest)) in
              record {
                turn = found.turn;
                holds = found.holds;
                has = found.has;
                own = λ run at. elim at [
                  | inl mine ↦ let closing = subst (λ n. HasPlace n own) mine.0 (has_closing t run all.0 mine.1) in absurd (omega (arith, none, has_counted m own closing))
                  | inr there ↦ found.own run there
                ];
                there = λ run is closing. inr (found.there run is closing);
              }
          by_count (suc n) some later = record {
            turn = t;
            holds = all.0;
            has = place_counted m own (omega (arith, some));
            own = λ run at. elim at [
              | inl mine ↦ (mine.1, mine.0)
              | inr there ↦ absurd (omega (arith, one, some, run_counted m run ts all.1 there, count_append here own rest))
            ];
            there = λ run is closing. inl (closing, is);
          }

      -- the turn that an End at a place is of
      pub record EndsAs (m s : ℕ) (g : List ℕ) (b : Bool) (run : Option (FrameRun J V)) : Type 0 where
        pub ended : EndedStart V
        pub holds : TurnHolds (record { fate = Ended ended; run = run })
        pub place : ended.place ≡ m
        pub start : ended.start ≡ s
        pub gives : ended.gives ≡ g
        pub inner : ended.inner ≡ b

      pub ends_as : (m s : ℕ) (g : List ℕ) (b : Bool) → slice_get h m ≡ Some (End s g b) → (f : Fate V) (run : Option (FrameRun J V)) → TurnHolds (record { fate = f; run = run }) → HasPlace m (entries_of f) → EndsAs m s g b run
      ends_as m s g b is (Ended e) run holds (inl here) = let there = ap (slice_get h) (sym here) ∙ holds.stand.0 in absurd (cc)
      ends_as m s g b is (Ended e) run holds (inr (inl here)) =
          let there : slice_get h m ≡ Some (End e.start e.gives e.inner) = ap (slice_get h) (sym here) ∙ holds.stand.1.0 in
          let same : Some (End e.start e.gives e.inner) ≡ Some (End s g b) = sym there ∙ is in
          record { ended = e; holds = holds; place = here; start = cc; gives = cc; inner = cc }
      ends_as m s g b is (Ended e) run holds (inr (inr none)) = absurd none
      ends_as m s g b is (Faulted f) run holds (inl here) = let there = ap (slice_get h) (sym here) ∙ holds.stand.0 in absurd (cc)
      ends_as m s g b is (Faulted f) run holds (inr (inl here)) = let there = ap (slice_get h) (sym here) ∙ holds.stand.1.0 in absurd (cc)
      ends_as m s g b is (Faulted f) run holds (inr (inr none)) = absurd none
      ends_as m s g b is (Dropped d) run holds (inl here) = let there = ap (slice_get h) (sym here) ∙ holds.stand.0 in absurd (cc)
      ends_as m s g b is (Dropped d) run holds (inr none) = absurd none
      ends_as m s g b is (AllDropped drops) run holds has = absurd (no_drop m (End s g b) (reverse drops.items) holds.stand has is (λ t c w e. absurd (cc)))

      pub ends_place : (m s : ℕ) (g : List ℕ) (b : Bool) → slice_get h m ≡ Some (End s g b) → (f : Fate V) (run : Option (FrameRun J V)) → TurnHolds (record { fate = f; run = run }) → HasPlace m (entries_of f) → closing_place f ≡ m
      ends_place m s g b is (Ended e) run holds (inl here) = let there = ap (slice_get h) (sym here) ∙ holds.stand.0 in absurd (cc)
      ends_place m s g b is (Ended e) run holds (inr (inl here)) = here
      ends_place m s g b is (Ended e) run holds (inr (inr none)) = absurd none
      ends_place m s g b is (Faulted f) run holds (inl here) = let there = ap (slice_get h) (sym here) ∙ holds.stand.0 in absurd (cc)
      ends_place m s g b is (Faulted f) run holds (inr (inl here)) = let there = ap (slice_get h) (sym here) ∙ holds.stand.1.0 in absurd (cc)
      ends_place m s g b is (Faulted f) run holds (inr (inr none)) = absurd none
      ends_place m s g b is (Dropped d) run holds (inl here) = let there = ap (slice_get h) (sym here) ∙ holds.stand.0 in absurd (cc)
      ends_place m s g b is (Dropped d) run holds (inr none) = absurd none
      ends_place m s g b is (AllDropped drops) run holds has = absurd (no_drop m (End s g b) (reverse drops.items) holds.stand has is (λ t c w e. absurd (cc)))

      -- and that a Fault is of
      pub record FaultsAs (m s : ℕ) (why : Why) (run : Option (FrameRun J V)) : Type 0 where
        pub failure : Failure V
        pub holds : TurnHolds (record { fate = Faulted failure; run = run })
        pub place : failure.place ≡ m
        pub start : failure.start ≡ s
        pub why_is : failure.why ≡ why

      pub faults_as : (m s : ℕ) (why : Why) → slice_get h m ≡ Some (Fault s why) → (f : Fate V) (run : Option (FrameRun J V)) → TurnHolds (record { fate = f; run = run }) → HasPlace m (entries_of f) → FaultsAs m s why run
      faults_as m s why is (Ended e) run holds (inl here) = let there = ap (slice_get h) (sym here) ∙ holds.stand.0 in absurd (cc)
      faults_as m s why is (Ended e) run holds (inr (inl here)) = let there = ap (slice_get h) (sym here) ∙ holds.stand.1.0 in absurd (cc)
      faults_as m s why is (Ended e) run holds (inr (inr none)) = absurd none
      faults_as m s why is (Faulted f) run holds (inl here) = let there = ap (slice_get h) (sym here) ∙ holds.stand.0 in absurd (cc)
      faults_as m s why is (Faulted f) run holds (inr (inl here)) =
          let there : slice_get h m ≡ Some (Fault f.start f.why) = ap (slice_get h) (sym here) ∙ holds.stand.1.0 in
          let same : Some (Fault f.start f.why) ≡ Some (Fault s why) = sym there ∙ is in
          record { failure = f; holds = holds; place = here; start = cc; why_is = cc }
      faults_as m s why is (Faulted f) run holds (inr (inr none)) = absurd none
      faults_as m s why is (Dropped d) run holds (inl here) = let there = ap (slice_get h) (sym here) ∙ holds.stand.0 in absurd (cc)
      faults_as m s why is (Dropped d) run holds (inr none) = absurd none
      faults_as m s why is (AllDropped drops) run holds has = absurd (no_drop m (Fault s why) (reverse drops.items) holds.stand has is (λ t c w e. absurd (cc)))

      pub faults_place : (m s : ℕ) (why : Why) → slice_get h m ≡ Some (Fault s why) → (f : Fate V) (run : Option (FrameRun J V)) → TurnHolds (record { fate = f; run = run }) → HasPlace m (entries_of f) → closing_place f ≡ m
      faults_place m s why is (Ended e) run holds (inl here) = let there = ap (slice_get h) (sym here) ∙ holds.stand.0 in absurd (cc)
      faults_place m s why is (Ended e) run holds (inr (inl here)) = let there = ap (slice_get h) (sym here) ∙ holds.stand.1.0 in absurd (cc)
      faults_place m s why is (Ended e) run holds (inr (inr none)) = absurd none
      faults_place m s why is (Faulted f) run holds (inl here) = let there = ap (slice_get h) (sym here) ∙ holds.stand.0 in absurd (cc)
      faults_place m s why is (Faulted f) run holds (inr (inl here)) = here
      faults_place m s why is (Faulted f) run holds (inr (inr none)) = absurd none
      faults_place m s why is (Dropped d) run holds (inl here) = let there = ap (slice_get h) (sym here) ∙ holds.stand.0 in absurd (cc)
      faults_place m s why is (Dropped d) run holds (inr none) = absurd none
      faults_place m s why is (AllDropped drops) run holds has = absurd (no_drop m (Fault s why) (reverse drops.items) holds.stand has is (λ t c w e. absurd (cc)))

      -- what is at the End or the Fault of a turn whose start made a run may have one
      pub may_have : (turn : FateWithRun J V) (run : FrameRun J V) → TurnHolds turn → turn.run ≡ Some run → IsSomeAnd (slice_get h (closing_place turn.fate)) MayHaveInner
      may_have turn run holds is = by_fate turn.fate (subst (FateAllowed meaning job turn.fate) is holds.allowed.by_job) holds.stand
        where
          ended_inner : (e : EndedStart V) (b : Bool) → EndAllowed meaning job (work_with e.task e.found.ins.value) (arc_value e.value) e.gives b (Some run) → b ≡ true
          ended_inner e true allowed = refl
          ended_inner e false allowed = absurd allowed

          by_fate : (f : Fate V) → FateAllowed meaning job f (Some run) → AllByRecursion Stand (entries_of f) → IsSomeAnd (slice_get h (closing_place f)) MayHaveInner
          by_fate (Ended e) allowed stand = subst (λ o. IsSomeAnd o MayHaveInner) (sym stand.1.0) (ended_inner e e.inner allowed)
          by_fate (Faulted f) allowed stand = subst (λ o. IsSomeAnd o MayHaveInner) (sym stand.1.0) tt
          by_fate (Dropped d) allowed stand = absurd (cc)
          by_fate (AllDropped drops) allowed stand = absurd (cc)

      -- the values that turns tell are those of the Ends
      pub all_own : (turns : List (FateWithRun J V)) → AllByRecursion TurnHolds turns → AllByRecursion (IsItsValue star) (values_told (fates_in turns))
      all_own [] all = tt
      all_own (t ∷ ts) all = by_fate t.fate all.0.known (all_own ts all.1)
        where
          by_fate : (f : Fate V) → AreValues star (known_values f) → AllByRecursion (IsItsValue star) (values_told (fates_in ts)) → AllByRecursion (IsItsValue star) (recorded_values f ++ values_told (fates_in ts))
          by_fate (Ended e) known rest = (known.0, rest)
          by_fate (Faulted f) known rest = rest
          by_fate (Dropped d) known rest = rest
          by_fate (AllDropped d) known rest = rest
