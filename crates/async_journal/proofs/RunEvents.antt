-- The events of a finished run of async tasks, and the entries of its journal, by their indices.
use Rattle.std.proofs.Common.{◌≡◌, ◌≢◌, ◌⊎◌, inl, inr, ◌∙◌, ℕ, ◌<◌, ◌≤◌, Bool, true, false, ◌&&◌, cond, eqb, ltb, List, [], ◌∷◌, length, map, take, Option, Some, None, refl, sym, ap, subst, arith}
use Rattle.std.specs.Prelude.{slice_get, unwrap_or, ◌==◌, zip}
use Rattle.std.specs.Option.{option_map_or}
use Rattle.std.specs.List.{AllZip, AllByRecursion, list_any, position}
use Rattle.std.proofs.lemmas.Bool.{cases_eq, and_parts, false≢true}
use Rattle.std.proofs.lemmas.Bool.Decides.{nat_tests}
use Rattle.std.proofs.lemmas.List.{length-replicate}
use Rattle.task_graph.specs.NetRows.{NetRows}
use Rattle.task_graph.specs.declared.net.EdgeRow.{EdgeRow}
use Rattle.task_graph.specs.Net.{out_edges, strong_in}
use Rattle.journal_rules.specs.declared.entry.Cause.{Cause}
use Rattle.journal_rules.specs.declared.entry.Part.{Part}
use Rattle.journal_rules.specs.declared.entry.Entry.{Entry}
use Rattle.journal_rules.specs.Counts.{gives_edge, uses, started, closes}
use Rattle.journal_rules.specs.DataRule.{edges_of, has_part}
use Rattle.journal_rules.specs.HaltLimitStuckRule.{is_stuck}
use Rattle.journal_rules.specs.Complete.{is_limited}
use Rattle.journal_rules.proofs.NetLemmas.{any_place}
use Rattle.async_tasks.specs.declared.history.AddRow.{AddRow}
use Rattle.async_tasks.specs.declared.history.TaskEvent.{TaskEvent}
use Rattle.async_tasks.specs.declared.history.TaskEvent.TheVariants.{Started, Ended}
use Rattle.async_tasks.specs.Histories.{is_start_of, is_end_of, times_started, times_ended, AllEnded, RowRule, EventRule}
use Rattle.async_journal.specs.RunNets.{plain_task, run_net}
use Rattle.async_journal.specs.RunJournals.{place_of, named_by, cause_after, part_of, entry_of, run_journal}
use Rattle.async_journal.specs.WholeJournals.{IsFinishedHistory}
use Rattle.async_journal.proofs.ByPlace.{in_range, in_front, in_mapped, mapped_get, front_get, front_count, one_that_passes, only_place, position_is, rule_at, some_out}
use Rattle.async_journal.proofs.RunEdges.{IsEdge, edges_in, strong_edges}

pub is_started : (t : ℕ) (x : TaskEvent) → is_start_of t x ≡ true → x ≡ Started t
is_started t (Started u) is = let same : u ≡ t = grind (arith, nat_tests) in ap Started same
is_started t (Ended u) is = absurd (false≢true is)

pub is_ended : (t : ℕ) (x : TaskEvent) → is_end_of t x ≡ true → x ≡ Ended t
is_ended t (Started u) is = absurd (false≢true is)
is_ended t (Ended u) is = let same : u ≡ t = grind (arith, nat_tests) in ap Ended same

self_same : (t : ℕ) → eqb t t ≡ true
self_same t = grind (arith, nat_tests)

pub task_count : (adds : List AddRow) → length (run_net adds).tasks ≡ length adds
task_count adds = length-replicate (length adds) plain_task

pub started_task : {t u : ℕ} → Started t ≡ Started u → t ≡ u
started_task e = cc

module _ (adds : List AddRow) (events : List TaskEvent) (h : IsFinishedHistory adds events) where
  abbrev pub net : NetRows
  net = run_net adds

  abbrev pub entry : TaskEvent → Entry
  entry = entry_of net adds events

  abbrev pub journal : List Entry
  journal = run_journal net adds events

  pub row_ids : (k : ℕ) (row : AddRow) → slice_get adds k ≡ Some row → row.id ≡ k
  row_ids k row at =
      let below = in_range adds k row at in
      (rule_at (RowRule h.callers) adds h.history.each_row k row at).id ∙ front_count adds k (omega (arith, below))

  pub row_after : (t : ℕ) (row : AddRow) → slice_get adds t ≡ Some row → AllByRecursion (λ a. a < t) row.after
  row_after t row at =
      let below = in_range adds t row at in
      subst (λ n. AllByRecursion (λ a. a < n) row.after) (front_count adds t (omega (arith, below))) (rule_at (RowRule h.callers) adds h.history.each_row t row at).after

  -- a start has a row, wasn't made before, and comes after the ends of the tasks named
  pub start_rule : (k t : ℕ) → slice_get events k ≡ Some (Started t) → (times_started (take k events) t ≡ 0) × ((row : AddRow) × (slice_get adds t ≡ Some row) × AllEnded (take k events) row.after)
  start_rule k t at =
      let rule = rule_at (EventRule adds) events h.history.each_event k (Started t) at in
      let row = some_out (slice_get adds t) (λ (r : AddRow). (r.place ≤ length (take k events)) × AllEnded (take k events) r.after) rule.1 in
      (rule.0, (row.0, row.1, row.2.1))

  pub start_below : (k t : ℕ) → slice_get events k ≡ Some (Started t) → t < length adds
  start_below k t at = let rule = start_rule k t at in in_range adds t rule.1.0 rule.1.1

  -- an end comes after the start, and wasn't before
  pub end_rule : (k t : ℕ) → slice_get events k ≡ Some (Ended t) → ((j : ℕ) × (j < k) × (slice_get events j ≡ Some (Started t))) × (times_ended (take k events) t ≡ 0)
  end_rule k t at =
      let rule = rule_at (EventRule adds) events h.history.each_event k (Ended t) at in
      let one = one_that_passes (is_start_of t) (take k events) (omega (arith, rule.0)) in
      let front = in_front events k one.0 one.1 one.2 in
      ((one.0, front.0, front.1 ∙ ap Some (is_started t one.1 one.3)), rule.1)

  pub end_below : (k t : ℕ) → slice_get events k ≡ Some (Ended t) → t < length adds
  end_below k t at = let rule = end_rule k t at in start_below rule.0.0 t rule.0.2

  pub started_once : (j k t : ℕ) → slice_get events j ≡ Some (Started t) → slice_get events k ≡ Some (Started t) → j ≡ k
  started_once j k t at_j at_k =
      let below = start_below j t at_j in
      only_place (is_start_of t) events j k (Started t) (Started t) (let e = (h.each t below).0 in omega (arith, e)) at_j (self_same t) at_k (self_same t)

  pub ended_once : (j k t : ℕ) → slice_get events j ≡ Some (Ended t) → slice_get events k ≡ Some (Ended t) → j ≡ k
  ended_once j k t at_j at_k =
      let below = end_below j t at_j in
      only_place (is_end_of t) events j k (Ended t) (Ended t) (let e = (h.each t below).1 in omega (arith, e)) at_j (self_same t) at_k (self_same t)

  -- each task has a start and an end
  pub start_of : (t : ℕ) → t < length adds → (k : ℕ) × (slice_get events k ≡ Some (Started t))
  start_of t below =
      let one = one_that_passes (is_start_of t) events (let e = (h.each t below).0 in omega (arith, e)) in
      (one.0, one.2 ∙ ap Some (is_started t one.1 one.3))

  pub end_of : (t : ℕ) → t < length adds → (k : ℕ) × (slice_get events k ≡ Some (Ended t))
  end_of t below =
      let one = one_that_passes (is_end_of t) events (let e = (h.each t below).1 in omega (arith, e)) in
      (one.0, one.2 ∙ ap Some (is_ended t one.1 one.3))

  -- where the tables have them
  pub start_place : (s t : ℕ) → slice_get events s ≡ Some (Started t) → place_of is_start_of adds events t ≡ s
  start_place s t at =
      let below = start_below s t at in
      let less : ltb t (length adds) ≡ true = grind (arith, nat_tests) in
      ap (λ b. cond b (unwrap_or (position (is_start_of t) events) 0) 0) less
      ∙ ap (λ o. unwrap_or o 0) (position_is (is_start_of t) events s (Started t) at (self_same t) (λ j y at_j is. started_once j s t (at_j ∙ ap Some (is_started t y is)) at))

  pub end_place : (s t : ℕ) → slice_get events s ≡ Some (Ended t) → place_of is_end_of adds events t ≡ s
  end_place s t at =
      let below = end_below s t at in
      let less : ltb t (length adds) ≡ true = grind (arith, nat_tests) in
      ap (λ b. cond b (unwrap_or (position (is_end_of t) events) 0) 0) less
      ∙ ap (λ o. unwrap_or o 0) (position_is (is_end_of t) events s (Ended t) at (self_same t) (λ j y at_j is. ended_once j s t (at_j ∙ ap Some (is_ended t y is)) at))

  -- an end among the first events
  pub ended_in : (k a : ℕ) → times_ended (take k events) a ≡ 1 → (j : ℕ) × (j < k) × (slice_get events j ≡ Some (Ended a))
  ended_in k a one =
      let found = one_that_passes (is_end_of a) (take k events) (omega (arith, one)) in
      let front = in_front events k found.0 found.1 found.2 in
      (found.0, front.0, front.1 ∙ ap Some (is_ended a found.1 found.3))

  -- the entries of the first events
  pub entry_in : (k j : ℕ) (x : Entry) → slice_get (take k journal) j ≡ Some x → (j < k) × ((event : TaskEvent) × (slice_get events j ≡ Some event) × (x ≡ entry event))
  entry_in k j x at =
      let front = in_front journal k j x at in
      let mapped = in_mapped entry events j x front.1 in
      (front.0, mapped)

  pub entry_at : (k j : ℕ) (event : TaskEvent) → j < k → slice_get events j ≡ Some event → slice_get (take k journal) j ≡ Some (entry event)
  entry_at k j event less at = front_get journal k j (entry event) less (mapped_get entry events j event at)

  -- what an entry that uses a release, gives an edge or finds something at an edge is of
  pub uses_event : (by : Cause → Bool) (t : ℕ) (event : TaskEvent) → uses by t (entry event) ≡ true → event ≡ Started t
  uses_event by t (Started u) is =
      let parts = and_parts (eqb u t) (by (cause_after (named_by (slice_get adds u)))) is in
      let hit : eqb u t ≡ true = parts.0 in
      let same : u ≡ t = grind (arith, nat_tests) in
      ap Started same
  uses_event by t (Ended u) is = absurd (false≢true is)

  pub gives_event : (e a t : ℕ) → IsEdge net.edges t e a → (event : TaskEvent) → gives_edge e (entry event) ≡ true → event ≡ Ended a
  gives_event e a t at (Started u) is = absurd (false≢true is)
  gives_event e a t at (Ended u) is = by_below (ltb u (length net.tasks)) is
    where
      by_below : (b : Bool) → list_any (λ g. g == e) (cond b (out_edges net u) []) ≡ true → Ended u ≡ Ended a
      by_below true any =
          let hit : eqb a u ≡ true = ap (λ o. option_map_or (λ (row : EdgeRow). row.from == u) o false) (sym at) ∙ sym (any_place (λ (row : EdgeRow). row.from == u) e net.edges) ∙ any in
          let same : u ≡ a = grind (arith, nat_tests) in
          ap Ended same
      by_below false any = absurd (false≢true any)

  pub ended_gives : (e a t : ℕ) → IsEdge net.edges t e a → a < length adds → gives_edge e (entry (Ended a)) ≡ true
  ended_gives e a t at below =
      let count = task_count adds in
      let less : ltb a (length net.tasks) ≡ true = grind (arith, nat_tests) in
      ap (λ b. list_any (λ g. g == e) (cond b (out_edges net a) [])) less
      ∙ any_place (λ (row : EdgeRow). row.from == a) e net.edges
      ∙ ap (λ o. option_map_or (λ (row : EdgeRow). row.from == a) o false) at ∙ self_same a

  -- the edges that release a task
  pub edges_at : (t : ℕ) (row : AddRow) → slice_get adds t ≡ Some row → AllZip (IsEdge net.edges t) (strong_in net t) row.after
  edges_at t row at = subst (λ es. AllZip (IsEdge net.edges t) es row.after) (sym (strong_edges adds t)) (edges_in adds t row row_ids at)

  part_elsewhere : (e u t a : ℕ) (test : Part → Bool) (es after : List ℕ) (ins : List Part) → IsEdge net.edges t e a → u ≢ t → AllZip (IsEdge net.edges u) es after → list_any (λ p. (p.0 == e) && test p.1) (zip es ins) ≡ false
  part_elsewhere e u t a test [] after ins at other h = refl
  part_elsewhere e u t a test (f ∷ es) [] ins at other h = absurd h
  part_elsewhere e u t a test (f ∷ es) (b ∷ after) [] at other h = refl
  part_elsewhere e u t a test (f ∷ es) (b ∷ after) (i ∷ ins) at other h = by_case (cases_eq f e) (part_elsewhere e u t a test es after ins at other h.1)
    where
      same_target : {x y : EdgeRow} → Some x ≡ Some y → x.to ≡ y.to
      same_target {x} {y} e = ap (λ o. option_map_or (λ (row : EdgeRow). row.to) o 0) e

      by_case : (f ≡ e) ⊎ (f ≢ e) → list_any (λ p. (p.0 == e) && test p.1) (zip es ins) ≡ false → list_any (λ p. (p.0 == e) && test p.1) (zip (f ∷ es) (i ∷ ins)) ≡ false
      by_case (inl same) rest = absurd (other (same_target (sym h.0 ∙ ap (slice_get net.edges) same ∙ at)))
      by_case (inr differs) rest = let miss : eqb f e ≡ false = grind (arith, nat_tests) in rw miss rest

  pub finds_event : (e a t : ℕ) (test : Part → Bool) → IsEdge net.edges t e a → (event : TaskEvent) → has_part net e test (entry event) ≡ true → event ≡ Started t
  finds_event e a t test at (Ended u) is = absurd (false≢true is)
  finds_event e a t test at (Started u) is = by_case (cases_eq u t)
    where
      by_row : u ≢ t → (o : Option AddRow) → slice_get adds u ≡ o → (after : List ℕ) → named_by o ≡ after → list_any (λ p. (p.0 == e) && test p.1) (zip (edges_of net u (cause_after after)) (map (part_of adds events) after)) ≡ false
      by_row other o at_row [] named = refl
      by_row other None at_row (b ∷ after) named = absurd (cc)
      by_row other (Some row) at_row (b ∷ after) named =
          part_elsewhere e u t a test (strong_in net u) row.after (map (part_of adds events) (b ∷ after)) at other (edges_at u row at_row)

      by_case : (u ≡ t) ⊎ (u ≢ t) → Started u ≡ Started t
      by_case (inl same) = ap Started same
      by_case (inr other) = absurd (false≢true (sym (by_row other (slice_get adds u) refl (named_by (slice_get adds u)) refl) ∙ is))

  pub never_stuck : (event : TaskEvent) → is_stuck (entry event) ≡ false
  never_stuck (Started u) = refl
  never_stuck (Ended u) = refl

  pub never_limited : (event : TaskEvent) → is_limited (entry event) ≡ false
  never_limited (Started u) = refl
  never_limited (Ended u) = refl

  pub starts_event : (t : ℕ) (event : TaskEvent) → started (entry event) ≡ Some t → event ≡ Started t
  starts_event t (Started u) is = ap Started (some_number is)
    where
      some_number : {x y : ℕ} → Some x ≡ Some y → x ≡ y
      some_number e = cc
  starts_event t (Ended u) is = absurd (cc)

  -- what closes a start
  pub closes_event : (s t k : ℕ) (event : TaskEvent) → slice_get events s ≡ Some (Started t) → slice_get events k ≡ Some event → closes s (entry event) ≡ true → event ≡ Ended t
  closes_event s t k (Started u) at_s at_k is = absurd (false≢true is)
  closes_event s t k (Ended u) at_s at_k is =
      let begun = (end_rule k u at_k).0 in
      let place = start_place begun.0 u begun.2 in
      let hit : eqb (place_of is_start_of adds events u) s ≡ true = is in
      let same : place_of is_start_of adds events u ≡ s = grind (arith, nat_tests) in
      let here : begun.0 ≡ s = sym place ∙ same in
      ap Ended (started_task (some_event (sym begun.2 ∙ ap (slice_get events) here ∙ at_s)))
    where
      some_event : {x y : TaskEvent} → Some x ≡ Some y → x ≡ y
      some_event e = cc

  pub ended_closes : (s t : ℕ) → slice_get events s ≡ Some (Started t) → closes s (entry (Ended t)) ≡ true
  ended_closes s t at = ap (λ p. eqb p s) (start_place s t at) ∙ self_same s
