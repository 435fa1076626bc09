-- What contracts of tables say, line by line, computed on a small net.
use Rattle.std.proofs.Common.{◌≡◌, ◌≢◌, inl, inr, ℕ, zero, suc, ◌<◌, ◌≤◌, true, false, List, [], ◌∷◌, ◌++◌, length, map, Some, Contains, refl, sym, ap, ◌∙◌, subst, arith}
use Rattle.std.specs.Prelude.{slice_index, slice_index_or, slice_get}
use Rattle.std.proofs.lemmas.List.Elements.{All-from_recursion}
use Rattle.std.specs.Arc.{arc_value}
use Rattle.std.specs.Global.{Global}
use Rattle.std.specs.declared.sync.Arc.{Arc}
use Rattle.task_graph.specs.declared.net.Shape.{Shape}
use Rattle.task_graph.specs.declared.net.Shape.TheVariants.{Plain, Choice}
use Rattle.task_graph.specs.declared.net.TaskRow.{TaskRow}
use Rattle.task_graph.specs.declared.net.EdgeRow.{EdgeRow}
use Rattle.task_graph.specs.NetRows.{NetRows}
use Rattle.atomic_table.specs.Seated.{TableId}
use Rattle.journal_rules.specs.declared.entry.Cause.TheVariants.{Source, Strong, Weak}
use Rattle.journal_rules.specs.declared.entry.Entry.TheVariants.{Start, End, Fault}
use Rattle.journal_rules.specs.declared.entry.Part.TheVariants.{From, First, Nothing}
use Rattle.journal_rules.specs.declared.entry.Why.TheVariants.{Inner}
use Rattle.join_words.specs.declared.ins.Given.TheVariants as given
use Rattle.join_words.specs.Ins.{parts_of}
use Rattle.table_steps.specs.Values.{given_part, values_in, AreValues}
use Rattle.table_steps.proofs.Values.{values_agree}
use Rattle.journal_rules.specs.declared.entry.DropWhy.TheVariants.{Halted as AfterFault, Limit}
use Rattle.join_tables.specs.declared.turns.Collected.TheVariants.{More, Last, LastAgain}
use Rattle.join_tables.specs.declared.turns.Gave.TheVariants.{Next, Released, Finished}
use Rattle.join_tables.specs.declared.turns.Admitted.TheVariants.{Go, Over, Halted}
use Rattle.join_tables.specs.declared.turns.EndedStart.{EndedStart}
use Rattle.join_tables.specs.declared.fates.Failure.{Failure}
use Rattle.join_tables.specs.declared.fates.Fate.{Fate}
use Rattle.join_tables.specs.declared.fates.Fate.TheVariants.{Ended, Faulted}
use Rattle.join_tables.specs.declared.keeper.Recorded.{Recorded}
use Rattle.join_tables.specs.declared.keeper.RecordedValue.{RecordedValue}
use Rattle.join_tables.specs.declared.keeper.Remaining.TheVariants.{More as TurnsLeft, All as NoneLeft}
use Rattle.table_steps.specs.Giving.{times, target, MayEndGiving}
use Rattle.join_tables.specs.Findings.{FindsOne, FindsTwo, CountsEdge, TakesToken, GivesToken}
use Rattle.join_tables.specs.declared.parts.FoundParts.{FoundParts}
use Rattle.join_tables.specs.States.{FreshState, CollectingState, TurnState, AdmittedState, RunningState, OwingState, SpentState, fresh_state, turn_state, turn_with, admitted_state, spent_state}
use Rattle.join_tables.specs.FirstCauses.{begin_full, first_causes, first_fresh}
use Rattle.join_tables.specs.Turns.{CollectsFrom, Admits, EndedAs, GivesNext, release_cause}
use Rattle.join_tables.specs.Finishing.{AreEndValues, recorded_values, values_told}
use Rattle.join_tables.specs.Keeping.{KeeperState, AgreeOnValues, entries_of, entries_told, keeper_with, Merges, LeavesOf}

abbrev free : Shape → TaskRow
free shape = record { shape = shape; takes = []; puts = [] }

abbrev edge : ℕ → ℕ → EdgeRow
edge from to = record { from = from; to = to; start = false }

-- Task 0 leads to task 1. Task 2 leads to itself by edge 1, which begins with a token. Task 1 leads to the Choice 3,
-- which leads to tasks 1 and 4 by the weak edges 3 and 4.
abbrev net : NetRows
net = record {
  tasks = free Plain ∷ free Plain ∷ free Plain ∷ free Choice ∷ free Plain ∷ [];
  edges = edge 0 1 ∷ record { from = 2; to = 2; start = true } ∷ edge 1 3 ∷ edge 3 1 ∷ edge 3 4 ∷ [];
  sems = [];
}

-- FIRST RELEASES
source_is_first : first_causes net 0 ≡ Source ∷ []
source_is_first = refl

edge_without_a_token_waits : first_causes net 1 ≡ []
edge_without_a_token_waits = refl

edge_with_a_token_is_first : first_causes net 2 ≡ Strong ∷ []
edge_with_a_token_is_first = refl

weak_edge_is_no_first : first_causes net 4 ≡ []
weak_edge_is_no_first = refl

one_bare_edge_waits : begin_full net (1 ∷ 0 ∷ []) ≡ false
one_bare_edge_waits = refl

by_rising_task : (n : TableId) → first_fresh n net 0 5 ≡ fresh_state n 0 Source ∷ fresh_state n 2 Strong ∷ []
by_rising_task n = refl

-- WHAT ENDS GIVE
named_often : times 2 (2 ∷ 1 ∷ 2 ∷ []) ≡ 2
named_often = refl

leads_to : target net 4 ≡ 4
leads_to = refl

no_edge_leads : target net 5 ≡ 0
no_edge_leads = refl

no_edge_twice : MayEndGiving net 3 (3 ∷ 3 ∷ []) false → ⊥
no_edge_twice may = omega (arith, may.once 3)

no_edge_past_the_end : MayEndGiving net 3 (5 ∷ []) false → ⊥
no_edge_past_the_end may = omega (arith, may.in_range.0)

weak_cause : release_cause net 3 ≡ Weak 3
weak_cause = refl

strong_cause : release_cause net 0 ≡ Strong
strong_cause = refl

-- COLLECTING
more_where_one_is_left : (c d : CollectingState) → CollectsFrom {V = ℕ} c (0 ∷ 1 ∷ []) (More d) → d.left ≡ 1 ∷ []
more_where_one_is_left c d h = ap (λ (s : CollectingState). s.left) h.0

no_more_after_the_last : (c d : CollectingState) → CollectsFrom {V = ℕ} c (0 ∷ []) (More d) → ⊥
no_more_after_the_last c d h = h

no_last_before_the_last : (c : CollectingState) (t : TurnState) → CollectsFrom {V = ℕ} c (0 ∷ 1 ∷ []) (Last t) → ⊥
no_last_before_the_last c t h = h

not_again_before_the_last : (c : CollectingState) (t : TurnState) (f : FreshState) → CollectsFrom {V = ℕ} c (0 ∷ 1 ∷ []) (LastAgain t f) → ⊥
not_again_before_the_last c t f h = h

again_by_its_strong_edges : (c : CollectingState) (t : TurnState) (f : FreshState) → CollectsFrom {V = ℕ} c (0 ∷ []) (LastAgain t f) → TakesToken c.cause true c.found t.found × (f.cause ≡ Strong) × (f.task ≡ c.task)
again_by_its_strong_edges c t f h = (h.2, ap (λ (s : FreshState). s.cause) h.1, ap (λ (s : FreshState). s.task) h.1)

last_without_another : (c : CollectingState) (t : TurnState) → CollectsFrom {V = ℕ} c (0 ∷ []) (Last t) → TakesToken c.cause false c.found t.found
last_without_another c t h = h.1

nothing_is_found_without_an_edge : (c : CollectingState) (t : TurnState) → CollectsFrom {V = ℕ} c [] (Last t) → t.found ≡ c.found
nothing_is_found_without_an_edge c t h = ap (λ (s : TurnState). s.found) h

-- WHAT A CALL FOUND: after a first number, 9
one_was_found : FindsOne (λ n. n ≡ 4) (9 ∷ []) (4 ∷ 9 ∷ [])
one_was_found = (refl, refl)

not_without_a_number : FindsOne (λ n. Unit {0}) (9 ∷ []) (9 ∷ []) → ⊥
not_without_a_number h = omega (arith, ap length h.0)

not_with_two : FindsOne (λ n. Unit {0}) (9 ∷ []) (4 ∷ 5 ∷ 9 ∷ []) → ⊥
not_with_two h = omega (arith, ap length h.0)

no_first_number_is_lost : FindsOne (λ n. Unit {0}) (9 ∷ []) (4 ∷ 8 ∷ []) → ⊥
no_first_number_is_lost h = omega (arith, ap (λ ns. slice_index ns 0) h.0)

two_were_found : FindsTwo (λ m n. (m ≡ 5) × (n ≡ 4)) (9 ∷ []) (4 ∷ 5 ∷ 9 ∷ [])
two_were_found = (refl, (refl, refl))

not_two_with_one : FindsTwo (λ m n. Unit {0}) (9 ∷ []) (4 ∷ 9 ∷ []) → ⊥
not_two_with_one h = omega (arith, ap length h.0)

last_of_the_join_word_releases : CountsEdge true [] (1 ∷ [])
last_of_the_join_word_releases = (refl, refl)

no_release_is_hidden : CountsEdge false [] (1 ∷ []) → ⊥
no_release_is_hidden h = h.1 refl

no_release_before_the_last : CountsEdge true [] (2 ∷ []) → ⊥
no_release_before_the_last h = omega (arith, h.1)

last_token_is_not_counted : TakesToken Strong false [] (1 ∷ [])
last_token_is_not_counted = inl (refl, λ is. omega arith)

another_token_is_counted : TakesToken Strong false [] (2 ∷ []) → ⊥
another_token_is_counted (inl h) = omega (arith, h.1 refl)
another_token_is_counted (inr h) = h

counted_where_two_were_left : TakesToken Strong false [] (2 ∷ 3 ∷ [])
counted_where_two_were_left = inr (refl, (refl, omega arith, λ is. omega (arith, is)))

not_last_where_it_released : TakesToken Strong false [] (1 ∷ 3 ∷ []) → ⊥
not_last_where_it_released (inl h) = omega (arith, ap length h.0)
not_last_where_it_released (inr h) = h.1.2 refl

again_where_one_was_left : TakesToken Strong true [] (1 ∷ 3 ∷ [])
again_where_one_was_left = (refl, (refl, omega arith, refl))

not_again_where_two_were_left : TakesToken Strong true [] (2 ∷ 3 ∷ []) → ⊥
not_again_where_two_were_left h = omega (arith, h.1.2)

weak_edge_is_not_counted_again : TakesToken (Weak 3) true [] (1 ∷ 3 ∷ []) → ⊥
weak_edge_is_not_counted_again h = let no : Weak 3 ≡ Strong = h.1.0 in absurd (cc)

weak_token_releases : GivesToken true true [] (7 ∷ [])
weak_token_releases = (refl, tt)

no_weak_token_without_a_release : GivesToken true false [] (7 ∷ []) → ⊥
no_weak_token_without_a_release h = h

second_token_is_not_counted : GivesToken false false [] (1 ∷ [])
second_token_is_not_counted = inl (refl, λ is. omega (arith, is))

first_token_is_counted : GivesToken false false [] (0 ∷ []) → ⊥
first_token_is_counted (inl h) = h.1 refl
first_token_is_counted (inr h) = h

first_token_of_a_target_with_two_left : GivesToken false false [] (2 ∷ 0 ∷ [])
first_token_of_a_target_with_two_left = inr (refl, (refl, λ is. omega (arith, is)))

first_token_releases : GivesToken false true [] (1 ∷ 0 ∷ [])
first_token_releases = (refl, (refl, refl))

no_release_by_a_first_token_is_hidden : GivesToken false false [] (1 ∷ 0 ∷ []) → ⊥
no_release_by_a_first_token_is_hidden (inl h) = omega (arith, ap length h.0)
no_release_by_a_first_token_is_hidden (inr h) = h.1.1 refl

no_release_by_a_second_token : GivesToken false true [] (1 ∷ 1 ∷ []) → ⊥
no_release_by_a_second_token h = omega (arith, h.1.0)

-- ADMISSIONS
go_below_the_limit : (t : TurnState) (ticket : AdmittedState) → Admits {V = ℕ} 5 t (Go ticket) → FindsTwo (λ h n. (h ≡ 0) × (n < 5)) t.found ticket.found
go_below_the_limit t ticket h = h.1

goes_on_without_a_fault : (n : TableId) → Admits {V = ℕ} 5 (turn_state n 1 Strong []) (Go (admitted_state n 1 Strong [] (4 ∷ 0 ∷ [])))
goes_on_without_a_fault n = (refl, (refl, (refl, omega arith)))

no_start_that_did_not_look : (n : TableId) → Admits {V = ℕ} 5 (turn_state n 1 Strong []) (Go (admitted_state n 1 Strong [] (4 ∷ []))) → ⊥
no_start_that_did_not_look n h = h.1

no_start_past_the_limit : (n : TableId) → Admits {V = ℕ} 5 (turn_state n 1 Strong []) (Go (admitted_state n 1 Strong [] (5 ∷ 0 ∷ []))) → ⊥
no_start_past_the_limit n h = omega (arith, h.1.1.1)

no_start_after_a_fault : (n : TableId) → Admits {V = ℕ} 5 (turn_state n 1 Strong []) (Go (admitted_state n 1 Strong [] (4 ∷ 1 ∷ []))) → ⊥
no_start_after_a_fault n h = omega (arith, h.1.1.0)

over_from_the_limit_on : (t u : TurnState) → Admits {V = ℕ} 5 t (Over u) → FindsTwo (λ h n. (h ≡ 0) × (5 ≤ n)) t.found u.found
over_from_the_limit_on t u h = h.1

not_over_below_the_limit : (n : TableId) → Admits {V = ℕ} 5 (turn_state n 1 Strong []) (Over (turn_with n 1 Strong (Some Limit) [] (4 ∷ 0 ∷ []))) → ⊥
not_over_below_the_limit n h = omega (arith, h.1.1.1)

over_is_refused : (t u : TurnState) → Admits {V = ℕ} 5 t (Over u) → u.refused ≡ Some Limit
over_is_refused t u h = ap (λ (s : TurnState). s.refused) h.0

halted_by_its_mark : (t u : TurnState) → Admits {V = ℕ} 5 t (Halted u) → (u.refused ≡ Some AfterFault) × FindsOne (λ h. h ≢ 0) t.found u.found
halted_by_its_mark t u h = (ap (λ (s : TurnState). s.refused) h.0, h.1)

not_halted_without_a_mark : (n : TableId) → Admits {V = ℕ} 5 (turn_state n 1 Strong []) (Halted (turn_with n 1 Strong (Some AfterFault) [] (0 ∷ []))) → ⊥
not_halted_without_a_mark n h = h.1.1 refl

-- ENDS
end_of_its_start : (r : RunningState ℕ) (ended : EndedStart ℕ) → EndedAs r (3 ∷ []) 7 false ended → (ended.start ≡ r.place) × (ended.found.ins.value ≡ r.ins) × (ended.gives ≡ 3 ∷ [])
end_of_its_start r ended h = (h.2, h.3, h.5)

end_with_its_value : (r : RunningState ℕ) (ended : EndedStart ℕ) → EndedAs r (3 ∷ []) 7 false ended → arc_value ended.value ≡ 7
end_with_its_value r ended h = h.4

-- GIVING
next_without_a_release : (o p : OwingState ℕ) → GivesNext net o (0 ∷ 2 ∷ []) (Next p) → GivesToken false false o.found p.found
next_without_a_release o p h = h.1

weak_edge_always_releases : (o p : OwingState ℕ) → GivesNext net o (3 ∷ []) (Next p) → ⊥
weak_edge_always_releases o p h = h.1

released_where_one_was_found : (o p : OwingState ℕ) (f : FreshState) → GivesNext net o (0 ∷ []) (Released p f) → GivesToken false true o.found p.found × (f.task ≡ 1) × (f.cause ≡ Strong)
released_where_one_was_found o p f h = (h.2, ap (λ (s : FreshState). s.task) h.1, ap (λ (s : FreshState). s.cause) h.1)

released_by_a_weak_edge : (o p : OwingState ℕ) (f : FreshState) → GivesNext net o (4 ∷ []) (Released p f) → (f.task ≡ 4) × (f.cause ≡ Weak 4)
released_by_a_weak_edge o p f h = (ap (λ (s : FreshState). s.task) h.1, ap (λ (s : FreshState). s.cause) h.1)

not_finished_with_an_edge : (o : OwingState ℕ) (s : SpentState ℕ) → GivesNext net o (0 ∷ []) (Finished s) → ⊥
not_finished_with_an_edge o s h = h

no_next_without_an_edge : (o p : OwingState ℕ) → GivesNext net o [] (Next p) → ⊥
no_next_without_an_edge o p h = h

finished_without_an_edge : (o : OwingState ℕ) → GivesNext net o [] (Finished (spent_state o.table (Ended o.ended)))
finished_without_an_edge o = refl

-- THE KEEPER
all_after_the_last : LeavesOf 1 NoneLeft
all_after_the_last = refl

not_all_before_the_last : LeavesOf 2 NoneLeft → ⊥
not_all_before_the_last h = omega (arith, h)

no_more_after_the_last_turn : LeavesOf 1 TurnsLeft → ⊥
no_more_after_the_last_turn h = h refl

-- a start of task 0 that found these parts, and ended with a value or faulted, and one at place 2 that found others
module _ (shared : Arc ℕ Global) (found later : FoundParts ℕ) where
  abbrev ended : EndedStart ℕ
  ended = record { task = 0; cause = Source; start = 0; found = found; value = shared; place = 1; gives = 0 ∷ []; inner = false }

  abbrev other_ended : EndedStart ℕ
  other_ended = record { task = 0; cause = Source; start = 0; found = found; value = shared; place = 0; gives = 0 ∷ []; inner = false }

  abbrev failure : Failure ℕ
  failure = record { task = 1; cause = Strong; start = 2; found = later; place = 3; why = Inner }

  values_are_left_out : parts_of later.ins.value ≡ given.Value 3 shared ∷ given.First ∷ given.Nothing ∷ [] → later.parts ≡ From 3 ∷ First ∷ Nothing ∷ []
  values_are_left_out is = later.same ∙ ap (map given_part) is

  start_and_end : entries_of (Ended ended) ≡ record { place = 0; entry = Start 0 Source found.parts } ∷ record { place = 1; entry = End 0 (0 ∷ []) false } ∷ []
  start_and_end = refl

  value_at_its_end : recorded_values (Ended ended) ≡ record { place = 1; value = shared } ∷ []
  value_at_its_end = refl

  no_value_of_a_fault : recorded_values (Faulted failure) ≡ []
  no_value_of_a_fault = refl

  taken_in_their_order : (k : KeeperState ℕ) → (keeper_with k (Ended ended ∷ []) (2 ∷ k.found)).fates ≡ k.fates ++ Ended ended ∷ []
  taken_in_their_order k = refl

  -- the End at place 1 has the value shared, and the start at place 2 found these parts
  abbrev kept : List (Fate ℕ)
  kept = Ended ended ∷ Faulted failure ∷ []

  entries_in_their_order : map (λ (r : Recorded). r.place) (entries_told kept) ≡ 0 ∷ 1 ∷ 2 ∷ 3 ∷ []
  entries_in_their_order = refl

  found_the_value_of_the_end : parts_of found.ins.value ≡ [] → parts_of later.ins.value ≡ given.Value 1 shared ∷ [] → AgreeOnValues kept
  found_the_value_of_the_end none is = record {
    value_at = λ m. Some (arc_value shared);
    all = (
      refl,
      subst (λ l. AreValues (λ m. Some (arc_value shared)) (values_in l ++ (values_in (parts_of later.ins.value) ++ []))) (sym none)
          (subst (λ l. AreValues (λ m. Some (arc_value shared)) (values_in l ++ [])) (sym is) (refl, tt)),
    );
  }

  found_no_other_value : (other : Arc ℕ Global) → parts_of found.ins.value ≡ [] → parts_of later.ins.value ≡ given.Value 1 other ∷ [] → arc_value shared ≡ 7 → arc_value other ≡ 8 → AgreeOnValues kept → ⊥
  found_no_other_value other none is seven eight agree =
      let second : slice_get (record { place = 1; value = arc_value shared } ∷ values_in (parts_of found.ins.value) ++ (values_in (parts_of later.ins.value) ++ [])) 1 ≡ Some (record { place = 1; value = arc_value other }) =
      (λ i. slice_get (record { place = 1; value = arc_value shared } ∷ values_in (none i) ++ (values_in (is i) ++ [])) 1) in
      let same = values_agree _ 0 1 (record { place = 1; value = arc_value shared }) (record { place = 1; value = arc_value other }) agree refl second refl in omega (arith, same, seven, eight)

  -- A FINISHED RUN
  a_value_for_its_end : AreEndValues (Ended ended ∷ []) (Start 0 Source [] ∷ End 0 (0 ∷ []) false ∷ []) (record { place = 1; value = shared } ∷ [])
  a_value_for_its_end = let rows : List (RecordedValue ℕ) = record { place = 1; value = shared } ∷ [] in record { places = refl; told = All-from_recursion (Contains rows) rows ((0, omega arith, refl), tt) }

  no_value_is_left_out : AreEndValues (Ended ended ∷ []) (Start 0 Source [] ∷ End 0 (0 ∷ []) false ∷ []) [] → ⊥
  no_value_is_left_out are = omega (arith, ap length are.places)

  no_value_without_an_end : AreEndValues (Ended ended ∷ []) (Start 0 Source [] ∷ Fault 0 Inner ∷ []) (record { place = 1; value = shared } ∷ []) → ⊥
  no_value_without_an_end are = omega (arith, ap length are.places)

  no_value_at_another_place : AreEndValues (Ended ended ∷ []) (Start 0 Source [] ∷ End 0 (0 ∷ []) false ∷ []) (record { place = 0; value = shared } ∷ []) → ⊥
  no_value_at_another_place are = omega (arith, ap (λ l. slice_index l 0) are.places)

  no_value_of_another_end : (other : Arc ℕ Global) → AreEndValues (Ended ended ∷ []) (Start 0 Source [] ∷ End 0 (0 ∷ []) false ∷ []) (record { place = 1; value = other } ∷ []) → shared ≡ other
  no_value_of_another_end other are = let there = are.told 0 (record { place = 1; value = other }) (omega arith) in by_place there.0 there.1 there.2
    where
      row : RecordedValue ℕ
      row = record { place = 1; value = other }

      by_place : (k : ℕ) → k < 1 → slice_index_or (values_told (Ended ended ∷ [])) k row ≡ row → shared ≡ other
      by_place zero below is = ap (λ (r : RecordedValue ℕ). r.value) is
      by_place (suc k) below is = absurd (omega (arith, below))

  no_place_twice : Merges (entries_of (Ended other_ended)) (Start 0 Source [] ∷ []) → ⊥
  no_place_twice m = omega (arith, m.each 0 (omega arith))

  no_place_unnamed : Merges (entries_of (Ended ended)) (Start 0 Source [] ∷ End 0 (0 ∷ []) false ∷ Start 2 Strong [] ∷ []) → ⊥
  no_place_unnamed m = omega (arith, m.each 2 (omega arith))
