-- A run that a keeper tells may be kept.
use Rattle.std.proofs.Common.{◌≡◌, ◌⊎◌, inl, inr, ◌≢◌, ℕ, zero, suc, ◌+◌, ◌<◌, ◌≤◌, get_or, Bool, true, false, List, [], ◌∷◌, ◌++◌, length, map, Option, Some, None, append_assoc, refl, sym, ap, ◌∙◌, subst, arith}
use Rattle.std.specs.Prelude.{◌==◌, All, AllPairs, count_by, slice_get, sum_by, IfSome, IsPermutation, IsSomeAnd}
use Rattle.std.specs.List.{AllByRecursion}
use Rattle.std.specs.List.Sorted.{IsNonDecreasingBy}
use Rattle.std.specs.Arc.{arc_value}
use Rattle.std.specs.Global.{Vec, Global}
use Rattle.std.specs.declared.sync.Arc.{Arc}
use Rattle.std.proofs.lemmas.Option.{slice_get_within}
use Rattle.std.proofs.lemmas.List.Elements.{All-from_recursion}
use Rattle.std.proofs.lemmas.Bool.{cases_eq}
use Rattle.std.proofs.lemmas.Bool.Decides.{nat_tests}
use Rattle.std.proofs.lemmas.List.{length-map}
use Rattle.std.proofs.lemmas.List.Sums.{sum_by-cons}
use Rattle.std.proofs.lemmas.List.Sorted.{IsPermutation-sym, sum_by-IsPermutation}
use Rattle.table_steps.specs.Giving.{one_if}
use Rattle.journal_rules.specs.declared.entry.Why.{Why}
use Rattle.journal_rules.specs.declared.entry.Entry.{Entry}
use Rattle.journal_rules.specs.declared.entry.Entry.TheVariants.{Start, End, Fault, Drop}
use Rattle.journal_rules.specs.Counts.{is_open}
use Rattle.journal_rules.specs.Entries.{EachAfter, EachAfterThese}
use Rattle.journal_rules.specs.ShapeLegal.{ShapeLegal, MayFollow, MeetsDataRule}
use Rattle.journal_rules.specs.Complete.{Complete}
use Rattle.journal_rules.proofs.Reaching.{open_stands}
use Rattle.join_words.specs.Ins.{found_of, parts_of}
use Rattle.table_steps.specs.Values.{AreValues, values_in}
use Rattle.join_tables.specs.declared.fates.Fate.{Fate}
use Rattle.join_tables.specs.declared.parts.FoundParts.{FoundParts}
use Rattle.join_tables.specs.declared.keeper.Recorded.{Recorded}
use Rattle.join_tables.specs.declared.keeper.RecordedValue.{RecordedValue}
use Rattle.join_tables.specs.Finishing.{AreEndValues, values_told}
use Rattle.join_tables.specs.Keeping.{AgreeOnValues, Merges, entries_told}
use Rattle.join_tables.specs.Values.{values_known}
use Rattle.run_frame.specs.declared.run.ValueRow.{ValueRow}
use Rattle.run_frame.specs.declared.run.FrameRun.{FrameRun, FrameRun-F, roll-FrameRun, out-FrameRun, out-roll-FrameRun, FrameRun', rolls-FrameRun', Row_of-InnerRow, end_of-InnerRow, more_of-InnerRow, items-the_row-InnerRow, items_hidden-the_row-InnerRow-0}
use Rattle.run_frame.specs.declared.run.InnerRow.{InnerRow, InnerRow', out-InnerRow}
use Rattle.run_frame.specs.Legal.{Legal, LegalJournal, LegalRow, LegalRows, IsKept}
use Rattle.run_frame.specs.Meaning.{Meaning}
use Rattle.run_frame.specs.Rows.{RowsFit, MayHaveInner, ends_from}
use Rattle.run_frame.specs.Runs.{value_at, inner_in, found_ins}
use Rattle.run_frame.specs.WorkRule.{EndRule, FaultRule, Work, WorkRule, work_at, work_of}
use Rattle.run_frame.specs.NestedRule.{InnerEndRule, InnerFault, NestedRule, job_of}
use Rattle.table_runs.specs.AllowedFates.{EndAllowed, WhyAllowed, work_with}
use Rattle.table_runs.specs.inside.FateRuns.{AreAllowed, FateWithRun, PlacedRun, closing_place, in_row, in_rows, placed_runs}
use Rattle.table_runs.specs.inside.Rows.{place_in_row, rows_of}
use Rattle.table_runs.proofs.Rows.{HasNumber, IsItsValue, end_among, found_at, own_all, places_are, row_places}
use Rattle.table_runs.proofs.Runs.{IsIn, RunAt, fates_in, placed_at, placed_of, row_at, rows_moved, run_of}
use Rattle.table_runs.proofs.Working.{Stand, EndAt, NamesEnd, TurnHolds, TurnOf, EndsAs, FaultsAs, get_left, get_here, names_ends, found_is, all_hold, all_own, find, ends_as, ends_place, faults_as, faults_place, may_have, placed_counted}

-- what is known of the fates and the runs that a keeper has when it has taken in the last turn, and of the journal, the
-- values and the rows that it hands out
pub record Tells {J V : Type 0} (meaning : Meaning J V) (job : J) (fates : List (Fate V)) (told : List (InnerRow J V)) (h : List Entry) (values : List (RecordedValue V)) (rows : List (ValueRow V)) (inner : List (InnerRow J V)) : Type 0 where
  pub allowed : AreAllowed meaning job fates told
  pub agree : AgreeOnValues fates
  pub merges : Merges (entries_told fates) h
  pub legal : ShapeLegal (meaning.net job) (meaning.limit job) h
  pub meets : MeetsDataRule (meaning.net job) h
  pub complete : Complete (meaning.net job) (meaning.limit job) h
  pub are : AreEndValues fates h values
  pub rows_are : rows ≡ rows_of values
  pub same : IsPermutation told inner
  pub sorted : IsNonDecreasingBy place_in_row inner

module _ {J V : Type 0} (meaning : Meaning J V) (job : J) (fates : List (Fate V)) (told : List (InnerRow J V)) (h : List Entry) (values : List (RecordedValue V)) (rows : List (ValueRow V)) (inner : List (InnerRow J V)) (tells : Tells meaning job fates told h values rows inner) where
  abbrev star : ℕ → Option V
  star = tells.agree.value_at

  abbrev turns : List (FateWithRun J V)
  turns = tells.allowed.turns

  abbrev inner_of : ℕ → Option (FrameRun J V)
  inner_of n = inner_in inner n

  holds : AllByRecursion (TurnHolds h star meaning job) turns
  holds = all_hold h star meaning job turns
      (subst (λ fs. AllByRecursion (Stand h) (entries_told fs)) (sym tells.allowed.fates_are) tells.merges.stand)
      tells.allowed.each
      (subst (λ fs. AreValues star (values_known fs)) (sym tells.allowed.fates_are) tells.agree.all)

  turn_of : (m : ℕ) → m < length h → TurnOf h star meaning job m turns
  turn_of m below = find h star meaning job m turns holds (subst (λ fs. count_by (λ (r : Recorded). r.place == m) (entries_told fs) ≡ 1) (sym tells.allowed.fates_are) (tells.merges.each m below))

  -- the run that a turn made stands at its End or Fault
  to_rows : (p : PlacedRun J V) → IsIn p (placed_runs turns) → IsIn p (in_rows inner)
  to_rows p is = rows_moved told inner p tells.same (subst (IsIn p) tells.allowed.rows_are is)

  from_rows : (p : PlacedRun J V) → IsIn p (in_rows inner) → IsIn p (placed_runs turns)
  from_rows p is = subst (IsIn p) (sym tells.allowed.rows_are) (rows_moved inner told p (IsPermutation-sym told inner tells.same) is)

  -- what a place has, by the turn of its entry
  closing_run : (m : ℕ) (of : TurnOf h star meaning job m turns) → closing_place of.turn.fate ≡ m → inner_of m ≡ of.turn.run
  closing_run m of closing = by_row (row_at m inner)
    where
      by_none : inner_of m ≡ None → ((run : FrameRun J V) → IsIn (placed_at m run) (in_rows inner) → ⊥) → (o : Option (FrameRun J V)) → of.turn.run ≡ o → inner_of m ≡ o
      by_none none never None same = none
      by_none none never (Some run) same = absurd (never run (to_rows (placed_at m run) (placed_of m run turns (of.there run same closing))))

      by_row : ((run : FrameRun J V) × (inner_of m ≡ Some run) × IsIn (placed_at m run) (in_rows inner)) ⊎ ((inner_of m ≡ None) × ((run : FrameRun J V) → IsIn (placed_at m run) (in_rows inner) → ⊥)) → inner_of m ≡ of.turn.run
      by_row (inl found) = found.1 ∙ sym (of.own found.0 (run_of m found.0 turns (from_rows (placed_at m found.0) found.2))).0
      by_row (inr none) = by_none none.0 none.1 of.turn.run refl

  no_run : (m : ℕ) (of : TurnOf h star meaning job m turns) → ((run : FrameRun J V) → of.turn.run ≡ Some run → closing_place of.turn.fate ≡ m → ⊥) → inner_of m ≡ None
  no_run m of never = by_row (row_at m inner)
    where
      by_row : ((run : FrameRun J V) × (inner_of m ≡ Some run) × IsIn (placed_at m run) (in_rows inner)) ⊎ ((inner_of m ≡ None) × ((run : FrameRun J V) → IsIn (placed_at m run) (in_rows inner) → ⊥)) → inner_of m ≡ None
      by_row (inl found) = let own = of.own found.0 (run_of m found.0 turns (from_rows (placed_at m found.0) found.2)) in absurd (never found.0 own.0 own.1)
      by_row (inr none) = none.0

  -- the value at the place of an End
  value_end : (m : ℕ) → EndAt h m → value_at rows m ≡ star m
  value_end m end =
      ap (λ rs. value_at rs m) tells.rows_are
      ∙ found_at star m values (own_all star (values_told fates) values (subst (λ fs. AllByRecursion (IsItsValue star) (values_told fs)) tells.allowed.fates_are (all_own h star meaning job turns holds)) tells.are.told)
      (subst (HasNumber m) (sym tells.are.places) (end_among m h end.0 end.1 end.2 end.3))

  pub rows_ends : map (λ (row : ValueRow V). row.place) rows ≡ ends_from 0 h
  rows_ends = ap (map (λ (row : ValueRow V). row.place)) tells.rows_are ∙ row_places values ∙ tells.are.places ∙ places_are 0 h

  -- the work of a start that stands before
  work_is : (before rest : List Entry) → before ++ rest ≡ h → (s t : ℕ) (cause : _) (found : FoundParts V) → is_open before s ≡ true → slice_get h s ≡ Some (Start t cause found.parts) → AreValues star (values_in (parts_of found.ins.value)) → work_at rows before s ≡ Some (work_with t found.ins.value)
  work_is before rest is s t cause found opened at values =
      let here : slice_get before s ≡ Some (Start t cause found.parts) = get_left before rest s (open_stands before s opened) ∙ ap (λ j. slice_get j s) is ∙ at in
      let named = subst (AllByRecursion (NamesEnd h)) found.same (names_ends h (meaning.net job) tells.meets s t cause found.parts at) in
      let same : found_ins rows found.parts ≡ map found_of (parts_of found.ins.value) = ap (found_ins rows) found.same ∙ found_is h star rows value_end (parts_of found.ins.value) named values in
      ap (λ (o : Option Entry). elim o [ None ↦ None | Some entry ↦ work_of rows entry ]) here ∙ ap (λ fs. Some (record { task = t; found = fs })) same

  some_and : {X : Type 0} (P : X → Type 0) (o : Option X) (x : X) → o ≡ Some x → P x → IsSomeAnd o P
  some_and P o x is p = subst (λ q. IsSomeAnd q P) (sym is) p

  -- what an End and a Fault are allowed is what the rules say
  end_rules : (before : List Entry) (s : ℕ) (g : List ℕ) (b : Bool) (w : Work V) (v : V) (run : Option (FrameRun J V)) → work_at rows before s ≡ Some w → value_at rows (length before) ≡ Some v → EndAllowed meaning job w v g b run → EndRule meaning job rows before s g b × InnerEndRule meaning job rows before s g b run
  end_rules before s g false w v None work value allowed = (some_and _ (work_at rows before s) w work (some_and _ (value_at rows (length before)) v value allowed), tt)
  end_rules before s g false w v (Some run) work value allowed = absurd allowed
  end_rules before s g true w v None work value allowed = absurd allowed
  end_rules before s g true w v (Some run) work value allowed = (tt, some_and _ (work_at rows before s) w work (some_and _ (value_at rows (length before)) v value allowed))

  fault_rules : (before : List Entry) (s : ℕ) (why : Why) (w : Work V) (run : Option (FrameRun J V)) → work_at rows before s ≡ Some w → WhyAllowed meaning job w why run → FaultRule meaning job rows before s why run × InnerFault meaning job rows before s why run
  fault_rules before s why w None work allowed = (some_and _ (work_at rows before s) w work allowed, tt)
  fault_rules before s why w (Some run) work allowed = (tt, some_and _ (work_at rows before s) w work allowed)

  one : (before : List Entry) (x : Entry) (rest : List Entry) → before ++ x ∷ rest ≡ h → MayFollow (meaning.net job) (meaning.limit job) before x → WorkRule meaning job rows inner_of before x × NestedRule meaning job rows inner_of before x
  one before (Start t c i) rest is may = (tt, no_run n of never)
    where
      n : ℕ
      n = length before

      at : slice_get h n ≡ Some (Start t c i)
      at = subst (λ j. slice_get j n ≡ Some (Start t c i)) is (get_here before rest (Start t c i))

      of : TurnOf h star meaning job n turns
      of = turn_of n (slice_get_within h n (Start t c i) at)

      never : (run : FrameRun J V) → of.turn.run ≡ Some run → closing_place of.turn.fate ≡ n → ⊥
      never run has closing = subst (λ o. IsSomeAnd o MayHaveInner) at (subst (λ m. IsSomeAnd (slice_get h m) MayHaveInner) closing (may_have h star meaning job of.turn run of.holds has))
  one before (Drop t c w) rest is may = (tt, no_run n of never)
    where
      n : ℕ
      n = length before

      at : slice_get h n ≡ Some (Drop t c w)
      at = subst (λ j. slice_get j n ≡ Some (Drop t c w)) is (get_here before rest (Drop t c w))

      of : TurnOf h star meaning job n turns
      of = turn_of n (slice_get_within h n (Drop t c w) at)

      never : (run : FrameRun J V) → of.turn.run ≡ Some run → closing_place of.turn.fate ≡ n → ⊥
      never run has closing = subst (λ o. IsSomeAnd o MayHaveInner) at (subst (λ m. IsSomeAnd (slice_get h m) MayHaveInner) closing (may_have h star meaning job of.turn run of.holds has))
  one before (End s g b) rest is may = subst (λ o. EndRule meaning job rows before s g b × InnerEndRule meaning job rows before s g b o) (sym run_is) rules
    where
      n : ℕ
      n = length before

      at : slice_get h n ≡ Some (End s g b)
      at = subst (λ j. slice_get j n ≡ Some (End s g b)) is (get_here before rest (End s g b))

      of : TurnOf h star meaning job n turns
      of = turn_of n (slice_get_within h n (End s g b) at)

      turn : EndsAs h star meaning job n s g b of.turn.run
      turn = ends_as h star meaning job n s g b at of.turn.fate of.turn.run of.holds of.has

      run_is : inner_of n ≡ of.turn.run
      run_is = closing_run n of (ends_place h star meaning job n s g b at of.turn.fate of.turn.run of.holds of.has)

      found : work_at rows before s ≡ Some (work_with turn.ended.task turn.ended.found.ins.value)
      found = subst (λ q. work_at rows before q ≡ Some (work_with turn.ended.task turn.ended.found.ins.value)) turn.start
          (work_is before (End s g b ∷ rest) is turn.ended.start turn.ended.task turn.ended.cause turn.ended.found (subst (λ q. is_open before q ≡ true) (sym turn.start) may.closing) turn.holds.stand.0 turn.holds.known.1)

      value : value_at rows n ≡ Some (arc_value turn.ended.value)
      value = value_end n (s, g, b, at) ∙ ap star (sym turn.place) ∙ turn.holds.known.0

      rules : EndRule meaning job rows before s g b × InnerEndRule meaning job rows before s g b of.turn.run
      rules = end_rules before s g b (work_with turn.ended.task turn.ended.found.ins.value) (arc_value turn.ended.value) of.turn.run found value
          (subst (λ gs. EndAllowed meaning job (work_with turn.ended.task turn.ended.found.ins.value) (arc_value turn.ended.value) gs b of.turn.run) turn.gives
          (subst (λ q. EndAllowed meaning job (work_with turn.ended.task turn.ended.found.ins.value) (arc_value turn.ended.value) turn.ended.gives q of.turn.run) turn.inner turn.holds.allowed.by_job))
  one before (Fault s why) rest is may = subst (λ o. FaultRule meaning job rows before s why o × InnerFault meaning job rows before s why o) (sym run_is) rules
    where
      n : ℕ
      n = length before

      at : slice_get h n ≡ Some (Fault s why)
      at = subst (λ j. slice_get j n ≡ Some (Fault s why)) is (get_here before rest (Fault s why))

      of : TurnOf h star meaning job n turns
      of = turn_of n (slice_get_within h n (Fault s why) at)

      turn : FaultsAs h star meaning job n s why of.turn.run
      turn = faults_as h star meaning job n s why at of.turn.fate of.turn.run of.holds of.has

      run_is : inner_of n ≡ of.turn.run
      run_is = closing_run n of (faults_place h star meaning job n s why at of.turn.fate of.turn.run of.holds of.has)

      found : work_at rows before s ≡ Some (work_with turn.failure.task turn.failure.found.ins.value)
      found = subst (λ q. work_at rows before q ≡ Some (work_with turn.failure.task turn.failure.found.ins.value)) turn.start
          (work_is before (Fault s why ∷ rest) is turn.failure.start turn.failure.task turn.failure.cause turn.failure.found (subst (λ q. is_open before q ≡ true) (sym turn.start) may.closing) turn.holds.stand.0 turn.holds.known)

      rules : FaultRule meaning job rows before s why of.turn.run × InnerFault meaning job rows before s why of.turn.run
      rules = fault_rules before s why (work_with turn.failure.task turn.failure.found.ins.value) of.turn.run found
          (subst (λ w. WhyAllowed meaning job (work_with turn.failure.task turn.failure.found.ins.value) w of.turn.run) turn.why_is turn.holds.allowed.by_job)

  along : (before rest : List Entry) → before ++ rest ≡ h → EachAfterThese (MayFollow (meaning.net job) (meaning.limit job)) before rest → EachAfterThese (WorkRule meaning job rows inner_of) before rest × EachAfterThese (NestedRule meaning job rows inner_of) before rest
  along before [] is each = (tt, tt)
  along before (x ∷ rest) is each =
      let o = one before x rest is each.0 in
      let r = along (before ++ x ∷ []) rest (append_assoc before (x ∷ []) rest ∙ is) each.1 in
      ((o.0, r.0), (o.1, r.1))

  pub works : EachAfter (WorkRule meaning job rows inner_of) h
  works = (along [] h refl tells.legal).0

  pub nests : EachAfter (NestedRule meaning job rows inner_of) h
  nests = (along [] h refl tells.legal).1

  -- each row is of a turn
  turn_at : (m : ℕ) (run : FrameRun J V) (ts : List (FateWithRun J V)) → AllByRecursion (TurnHolds h star meaning job) ts → RunAt m run ts → (turn : FateWithRun J V) × TurnHolds h star meaning job turn × (closing_place turn.fate ≡ m) × (turn.run ≡ Some run)
  turn_at m run [] all at = absurd at
  turn_at m run (t ∷ ts) all (inl here) = (t, all.0, here.0, here.1)
  turn_at m run (t ∷ ts) all (inr there) = turn_at m run ts all.1 there

  abbrev RowHolds : InnerRow J V → Type 0
  RowHolds row = IsSomeAnd (slice_get h (place_in_row row)) MayHaveInner × IsKept meaning (out-InnerRow J V row).run

  row_holds : (row : InnerRow J V) → IsIn (in_row row) (in_rows inner) → RowHolds row
  row_holds row is =
      let found = turn_at (place_in_row row) (out-InnerRow J V row).run turns holds (run_of (place_in_row row) (out-InnerRow J V row).run turns (from_rows (in_row row) is)) in (
        subst (λ m. IsSomeAnd (slice_get h m) MayHaveInner) found.2 (may_have h star meaning job found.0 (out-InnerRow J V row).run found.1 found.3),
        subst (λ o. IfSome o (IsKept meaning)) found.3 found.1.allowed.kept,
      )

  pub rows_hold : AllByRecursion RowHolds inner
  rows_hold = each inner (λ p is. is)
    where
      each : (rs : List (InnerRow J V)) → ((p : PlacedRun J V) → IsIn p (in_rows rs) → IsIn p (in_rows inner)) → AllByRecursion RowHolds rs
      each [] within = tt
      each (r ∷ rs) within = (row_holds r (within (in_row r) (inl refl)), each rs (λ p is. within p (inr is)))

got_mapped : {X Y : Type 0} (f : X → Y) (xs : List X) (i : ℕ) (d : Y) (r : X) → i < length xs → get_or (map f xs) i d ≡ f (get_or xs i r)
got_mapped f [] i d r below = absurd (omega (arith, below))
got_mapped f (x ∷ xs) zero d r below = refl
got_mapped f (x ∷ xs) (suc i) d r below = got_mapped f xs i d r (omega (arith, below))

one_counted : {X : Type 0} (f : X → ℕ) (xs : List X) (j : ℕ) (r : X) → j < length xs → f (get_or xs j r) ≡ 1 → 1 ≤ sum_by f xs
one_counted f [] j r below is = absurd (omega (arith, below))
one_counted f (x ∷ xs) zero r below is = omega (arith, is, sum_by-cons f x xs)
one_counted f (x ∷ xs) (suc j) r below is = omega (arith, one_counted f xs j r (omega (arith, below)) is, sum_by-cons f x xs)

two_counted : {X : Type 0} (f : X → ℕ) (xs : List X) (i j : ℕ) (r : X) → i < j → j < length xs → f (get_or xs i r) ≡ 1 → f (get_or xs j r) ≡ 1 → 2 ≤ sum_by f xs
two_counted f [] i j r less below one other = absurd (omega (arith, below))
two_counted f (x ∷ xs) i zero r less below one other = absurd (omega (arith, less))
two_counted f (x ∷ xs) zero (suc j) r less below one other = omega (arith, one, one_counted f xs j r (omega (arith, below)) other, sum_by-cons f x xs)
two_counted f (x ∷ xs) (suc i) (suc j) r less below one other = omega (arith, two_counted f xs i j r (omega (arith, less)) (omega (arith, below)) one other, sum_by-cons f x xs)

-- places that don't fall and of which each is there once rise
module _ {J V : Type 0} (meaning : Meaning J V) (job : J) (fates : List (Fate V)) (told : List (InnerRow J V)) (h : List Entry) (values : List (RecordedValue V)) (rows : List (ValueRow V)) (inner : List (InnerRow J V)) (tells : Tells meaning job fates told h values rows inner) where
  abbrev at_place : ℕ → InnerRow J V → ℕ
  at_place m row = one_if (place_in_row row == m)

  rows_counted : (m : ℕ) (rs : List (InnerRow J V)) → sum_by (at_place m) rs ≡ sum_by (λ (p : PlacedRun J V). one_if (p.place == m)) (in_rows rs)
  rows_counted m [] = refl
  rows_counted m (r ∷ rs) =
      let at : PlacedRun J V → ℕ = λ p. one_if (p.place == m) in
      sum_by-cons (at_place m) r rs ∙ ap (λ n. at_place m r + n) (rows_counted m rs) ∙ sym (sum_by-cons at (in_row r) (in_rows rs))

  few : (m : ℕ) → m < length h → sum_by (at_place m) inner ≤ 1
  few m below =
      let all = holds meaning job fates told h values rows inner tells in
      let same : sum_by (at_place m) inner ≡ sum_by (at_place m) told = sum_by-IsPermutation (at_place m) told inner tells.same in
      let placed : sum_by (λ (p : PlacedRun J V). one_if (p.place == m)) (placed_runs tells.allowed.turns) ≡ sum_by (λ (p : PlacedRun J V). one_if (p.place == m)) (in_rows told) = ap (sum_by (λ (p : PlacedRun J V). one_if (p.place == m))) tells.allowed.rows_are in
      let one : count_by (λ (r : Recorded). r.place == m) (entries_told (fates_in tells.allowed.turns)) ≡ 1 = subst (λ fs. count_by (λ (r : Recorded). r.place == m) (entries_told fs) ≡ 1) (sym tells.allowed.fates_are) (tells.merges.each m below) in
      let most = placed_counted h tells.agree.value_at meaning job m tells.allowed.turns all in
      omega (arith, same, placed, one, most, rows_counted m told)

  within : (m : ℕ) → IsSomeAnd (slice_get h m) MayHaveInner → m < length h
  within m is = by_entry (slice_get h m) refl is
    where
      by_entry : (o : Option Entry) → slice_get h m ≡ o → IsSomeAnd o MayHaveInner → m < length h
      by_entry None at has = absurd has
      by_entry (Some x) at has = slice_get_within h m x at

  one_before : (i j : ℕ) (r : InnerRow J V) → i < j → j < length inner → place_in_row (get_or inner i r) < place_in_row (get_or inner j r)
  one_before i j r less below = by_order (cases_eq (place_in_row (get_or inner i r)) (place_in_row (get_or inner j r)))
    where
      m : ℕ
      m = place_in_row (get_or inner i r)

      by_order : (m ≡ place_in_row (get_or inner j r)) ⊎ (m ≢ place_in_row (get_or inner j r)) → m < place_in_row (get_or inner j r)
      by_order (inl same) =
          let all = All-from_recursion (RowHolds meaning job fates told h values rows inner tells) inner (rows_hold meaning job fates told h values rows inner tells) in
          let here : (place_in_row (get_or inner i r) == m) ≡ true = grind (arith, nat_tests) in
          let there : (place_in_row (get_or inner j r) == m) ≡ true = grind (arith, nat_tests, same) in
          let twice = two_counted (at_place m) inner i j r less below (ap one_if here) (ap one_if there) in
          absurd (omega (arith, twice, few m (within m (all i r (omega (arith, less, below))).0)))
      by_order (inr other) = let kept = tells.sorted i j r (omega (arith, less)) below in omega (arith, kept, other)

  pub rising_rows : AllPairs (λ a b. a < b) (map place_in_row inner)
  rising_rows = by_rows inner refl
    where
      by_rows : (rs : List (InnerRow J V)) → inner ≡ rs → AllPairs (λ a b. a < b) (map place_in_row inner)
      by_rows [] none i j d less below = absurd (omega (arith, below, length-map inner place_in_row, ap length none))
      by_rows (r ∷ rs) some i j d less below =
          let long : j < length inner = omega (arith, below, length-map inner place_in_row) in
          let first : get_or (map place_in_row inner) i d ≡ place_in_row (get_or inner i r) = got_mapped place_in_row inner i d r (omega (arith, less, long)) in
          let second : get_or (map place_in_row inner) j d ≡ place_in_row (get_or inner j r) = got_mapped place_in_row inner j d r long in
          omega (arith, first, second, one_before i j r less long)

module _ {J V : Type 0} (meaning : Meaning J V) where
  legal_row : (row : InnerRow J V) → IsKept meaning (out-InnerRow J V row).run → LegalRow meaning row
  unfolding out-InnerRow denote.Hole.Carrier.out
  legal_row (InnerRow' place run) kept = (kept.legal, kept.complete)

  legal_rows : {m : _} (row : Row_of-InnerRow J V m) → AllByRecursion (λ inner. IsKept meaning (out-InnerRow J V inner).run) (items-the_row-InnerRow J V m row) → LegalRows meaning row
  legal_rows end_of-InnerRow all = tt
  legal_rows (more_of-InnerRow inner rest) all = (legal_row inner all.0, legal_rows rest all.1)

  abbrev inner_rows : FrameRun J V → List (InnerRow J V)
  inner_rows (FrameRun' job journal values shape rows) = items-the_row-InnerRow J V _ rows

  legal_with : (run : FrameRun J V) → AllByRecursion (λ inner. IsKept meaning (out-InnerRow J V inner).run) (inner_rows run) → LegalJournal meaning run → RowsFit run → Legal meaning run
  legal_with (FrameRun' job journal values shape rows) all legal fit = (legal, fit, legal_rows rows all)

  abbrev Layer : Type 0
  Layer = FrameRun-F J V (FrameRun J V) (InnerRow J V)

  module _ (job : Arc J Global) (fates : List (Fate V)) (told : List (InnerRow J V)) (h : List Entry) (recorded : List (RecordedValue V)) (values : List (ValueRow V)) (inner : Vec (InnerRow J V)) (tells : Tells meaning (arc_value job) fates told h recorded values inner.items) where
    abbrev layer : Layer
    layer = record { job = job; journal = h; values = values; inner = inner }

    opened : out-FrameRun J V (roll-FrameRun J V layer) ≡ layer
    opened = out-roll-FrameRun J V layer

    abbrev places : List (InnerRow J V) → List ℕ
    places rows = map place_in_row rows

    kept_rows : AllByRecursion (λ row. IsKept meaning (out-InnerRow J V row).run) inner.items
    kept_rows = each inner.items (rows_hold meaning (arc_value job) fates told h recorded values inner.items tells)
      where
        each : (rs : List (InnerRow J V)) → AllByRecursion (λ row. IsSomeAnd (slice_get h (place_in_row row)) MayHaveInner × IsKept meaning (out-InnerRow J V row).run) rs → AllByRecursion (λ row. IsKept meaning (out-InnerRow J V row).run) rs
        each [] all = tt
        each (r ∷ rs) all = (all.0.1, each rs all.1)

    fit_rows : AllByRecursion (λ n. IsSomeAnd (slice_get h n) MayHaveInner) (places inner.items)
    fit_rows = each inner.items (rows_hold meaning (arc_value job) fates told h recorded values inner.items tells)
      where
        each : (rs : List (InnerRow J V)) → AllByRecursion (λ row. IsSomeAnd (slice_get h (place_in_row row)) MayHaveInner × IsKept meaning (out-InnerRow J V row).run) rs → AllByRecursion (λ n. IsSomeAnd (slice_get h n) MayHaveInner) (places rs)
        each [] all = tt
        each (r ∷ rs) all = (all.0.0, each rs all.1)

    rows_fit : RowsFit (roll-FrameRun J V layer)
    rows_fit = record {
      values = subst (λ (l : Layer). map (λ (row : ValueRow V). row.place) l.values ≡ ends_from 0 l.journal) (sym opened) (rows_ends meaning (arc_value job) fates told h recorded values inner.items tells);
      rising = subst (λ (l : Layer). AllPairs (λ a b. a < b) (places l.inner.items)) (sym opened) (rising_rows meaning (arc_value job) fates told h recorded values inner.items tells);
      fit = subst (λ (l : Layer). All (λ n. IsSomeAnd (slice_get l.journal n) MayHaveInner) (places l.inner.items)) (sym opened) (All-from_recursion (λ n. IsSomeAnd (slice_get h n) MayHaveInner) (places inner.items) fit_rows);
    }

    finished_legal : Legal meaning (roll-FrameRun J V layer)
    finished_legal =
        let same = items_hidden-the_row-InnerRow-0 J V inner in
        let rolls = rolls-FrameRun' {X1 = J} {X2 = V} layer in
        legal_with (roll-FrameRun J V layer) (subst (λ run. AllByRecursion (λ row. IsKept meaning (out-InnerRow J V row).run) (inner_rows run)) (sym rolls) (subst (AllByRecursion (λ row. IsKept meaning (out-InnerRow J V row).run)) (sym same) kept_rows)) (record {
          shape = subst (λ (l : Layer). ShapeLegal (meaning.net (arc_value l.job)) (meaning.limit (arc_value l.job)) l.journal) (sym opened) tells.legal;
          found = subst (λ (l : Layer). MeetsDataRule (meaning.net (arc_value l.job)) l.journal) (sym opened) tells.meets;
          work = subst (λ (l : Layer). EachAfter (WorkRule meaning (arc_value l.job) l.values (λ n. inner_in l.inner.items n)) l.journal) (sym opened) (works meaning (arc_value job) fates told h recorded values inner.items tells);
          nested = subst (λ (l : Layer). EachAfter (NestedRule meaning (arc_value l.job) l.values (λ n. inner_in l.inner.items n)) l.journal) (sym opened) (nests meaning (arc_value job) fates told h recorded values inner.items tells);
        }) rows_fit

    -- a run of what a keeper tells may be kept
    pub finished : IsKept meaning (roll-FrameRun J V layer)
    finished = record {
      legal = finished_legal;
      complete = subst (λ (l : Layer). Complete (meaning.net (arc_value l.job)) (meaning.limit (arc_value l.job)) l.journal) (sym opened) tells.complete;
    }

    pub job_is : job_of (roll-FrameRun J V layer) ≡ arc_value job
    job_is = ap (λ (l : Layer). arc_value l.job) opened
