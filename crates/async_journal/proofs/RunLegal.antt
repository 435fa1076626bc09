-- The journal of a finished run of async tasks is legal, and that of a finished run of its net.
use Rattle.std.proofs.Common.{◌≡◌, ◌≢◌, inl, ◌∙◌, ℕ, zero, suc, ◌+◌, ◌<◌, ◌≤◌, Bool, true, false, ◌&&◌, cond, eqb, ltb, List, [], ◌∷◌, length, map, take, Option, Some, None, refl, sym, ap, subst, arith}
use Rattle.std.specs.Prelude.{slice_get, count_by, is_some, ◌==◌, IsTrue, IsSomeAnd, Result, Ok, Err, IfOk}
use Rattle.std.specs.Option.{option_map_or, option_and_then}
use Rattle.std.specs.List.{AllZip, AllByRecursion, range_with_len}
use Rattle.std.proofs.lemmas.Bool.{false≢true}
use Rattle.std.proofs.lemmas.Bool.Decides.{nat_tests}
use Rattle.std.proofs.lemmas.List.Elements.{recursion_from_All}
use Rattle.task_graph.specs.NetRows.{NetRows}
use Rattle.task_graph.specs.declared.net.TaskRow.{TaskRow}
use Rattle.task_graph.specs.declared.net.EdgeRow.{EdgeRow}
use Rattle.task_graph.specs.Net.{out_edges, strong_in, is_weak, IsSource}
use Rattle.journal_rules.specs.declared.entry.Cause.{Cause}
use Rattle.journal_rules.specs.declared.entry.Cause.TheVariants.{Source, Strong}
use Rattle.journal_rules.specs.declared.entry.Part.{Part}
use Rattle.journal_rules.specs.declared.entry.Part.TheVariants.{From, First}
use Rattle.journal_rules.specs.declared.entry.Entry.{Entry}
use Rattle.journal_rules.specs.Counts.{gives_edge, first_tokens, given, is_source, is_strong, uses, used, used_weak, used_source, started, start_at, closes, is_open, starts}
use Rattle.journal_rules.specs.ChoiceRule.{GivesFit, InnerFits}
use Rattle.journal_rules.specs.ReleaseRule.{IsReleased}
use Rattle.journal_rules.specs.HaltLimitStuckRule.{is_stuck}
use Rattle.journal_rules.specs.DataRule.{edges_of, has_part, is_from, last_from, IsPartAt, DataRule}
use Rattle.journal_rules.specs.ShapeLegal.{CauseInRange, MayFollow, ShapeLegal, MeetsDataRule}
use Rattle.journal_rules.specs.Complete.{least, is_limited, Complete}
use Rattle.journal_rules.proofs.NetLemmas.{places_below}
use Rattle.async_tasks.specs.declared.history.AddRow.{AddRow}
use Rattle.async_tasks.specs.declared.history.TaskEvent.{TaskEvent}
use Rattle.async_tasks.specs.declared.history.TaskEvent.TheVariants.{Started, Ended}
use Rattle.async_tasks.specs.Histories.{times_ended, AllEnded}
use Rattle.async_journal.specs.RunNets.{plain_task, run_net}
use Rattle.async_journal.specs.RunJournals.{named_by, cause_after, part_of, end_gives, entry_of, run_journal}
use Rattle.async_journal.specs.WholeJournals.{IsFinishedHistory, IsWholeJournal}
use Rattle.async_journal.proofs.ByPlace.{not_true, in_mapped, mapped_get, none_pass, some_pass, one_passes, each_after, copy_at, some_in, zip_empty, empty_zip, zip_filled, zip_all, zip_mapped, all_of, all_below, least_ones, get_below, fewer_keys}
use Rattle.async_journal.proofs.RunEdges.{IsEdge, strong_edges, no_weak}
use Rattle.async_journal.proofs.RunEvents as run
use Rattle.async_journal.proofs.RunEvents.{task_count}

-- the last gift of an edge that is given once
last_from_none : (e n : ℕ) (part : Part) (xs : List Entry) → ((k : ℕ) (x : Entry) → slice_get xs k ≡ Some x → gives_edge e x ≡ false) → last_from e n part xs ≡ part
last_from_none e n part [] none = refl
last_from_none e n part (x ∷ xs) none =
    ap (λ b. last_from e (suc n) (cond b (From n) part) xs) (none 0 x refl) ∙ last_from_none e (suc n) part xs (λ k y at. none (suc k) y at)

last_from_is : (e n : ℕ) (part : Part) (xs : List Entry) (m : ℕ) (x : Entry) → slice_get xs m ≡ Some x → gives_edge e x ≡ true → ((k : ℕ) (y : Entry) → slice_get xs k ≡ Some y → gives_edge e y ≡ true → k ≡ m) → last_from e n part xs ≡ From (n + m)
last_from_is e n part [] m x at gives only = absurd (cc)
last_from_is e n part (y ∷ ys) zero x at gives only =
    ap (λ b. last_from e (suc n) (cond b (From n) part) ys) (ap (λ o. option_map_or (gives_edge e) o false) at ∙ gives)
    ∙ last_from_none e (suc n) (From n) ys (λ k z at_k. not_true (gives_edge e z) (λ is. let here : suc k ≡ 0 = only (suc k) z at_k is in absurd (omega arith)))
    ∙ ap From (let same : n ≡ n + 0 = omega arith in same)
last_from_is e n part (y ∷ ys) (suc m) x at gives only =
    ap (λ b. last_from e (suc n) (cond b (From n) part) ys) (not_true (gives_edge e y) (λ is. let here : 0 ≡ suc m = only 0 y refl is in absurd (omega arith)))
    ∙ last_from_is e (suc n) part ys m x at gives (λ k z at_k is. let here : suc k ≡ suc m = only (suc k) z at_k is in omega arith)
    ∙ ap From (let same : suc n + m ≡ n + suc m = omega arith in same)

cause_in_range : (net : NetRows) (after : List ℕ) → CauseInRange net (cause_after after)
cause_in_range net [] = tt
cause_in_range net (a ∷ after) = tt

module _ (adds : List AddRow) (events : List TaskEvent) (h : IsFinishedHistory adds events) where
  abbrev net : NetRows
  net = run_net adds

  abbrev entry : TaskEvent → Entry
  entry = entry_of net adds events

  abbrev journal : List Entry
  journal = run_journal net adds events

  -- a task that is started now has used no release
  unused : (k t : ℕ) → slice_get events k ≡ Some (Started t) → (by : Cause → Bool) → count_by (uses by t) (take k journal) ≡ 0
  unused k t at by = none_pass (uses by t) (take k journal) (λ j x at_j. not_true (uses by t x) (λ is.
      let it = run.entry_in adds events h k j x at_j in
      let same = run.uses_event adds events h by t it.1.0 (ap (uses by t) (sym it.1.2) ∙ is) in
      let again = run.started_once adds events h j k t (it.1.1 ∙ ap Some same) at in
      absurd (omega (arith, it.0, again))))

  -- an edge from a task that ended was given
  given_before : (k e a t : ℕ) → IsEdge net.edges t e a → times_ended (take k events) a ≡ 1 → 1 ≤ count_by (gives_edge e) (take k journal)
  given_before k e a t is_edge one =
      let found = run.ended_in adds events h k a one in
      some_pass (gives_edge e) (take k journal) found.0 (entry (Ended a)) (run.entry_at adds events h k found.0 (Ended a) found.1 found.2)
      (run.ended_gives adds events h e a t is_edge (run.end_below adds events h found.0 a found.2))

  source_at : (k t : ℕ) (row : AddRow) → slice_get events k ≡ Some (Started t) → slice_get adds t ≡ Some row → row.after ≡ [] → IsReleased net (take k journal) t Source
  source_at k t row at at_row none = (
    sym (strong_edges adds t) ∙ zip_empty (IsEdge net.edges t) (strong_in net t) (subst (AllZip (IsEdge net.edges t) (strong_in net t)) none (run.edges_at adds events h t row at_row)),
    unused k t at is_source,
  )

  strong_at : (k t : ℕ) (row : AddRow) (a : ℕ) (more : List ℕ) → slice_get events k ≡ Some (Started t) → slice_get adds t ≡ Some row → row.after ≡ a ∷ more → AllEnded (take k events) row.after → IsReleased net (take k journal) t Strong
  strong_at k t row a more at at_row is ended = (
    zip_filled (IsEdge net.edges t) (strong_in net t) a more (subst (AllZip (IsEdge net.edges t) (strong_in net t)) is (run.edges_at adds events h t row at_row)),
    zip_all (IsEdge net.edges t) (λ b. times_ended (take k events) b ≡ 1) (λ e. used t (take k journal) + 1 ≤ given net e (take k journal)) (strong_in net t) row.after
        (λ e b is_edge one. let some = given_before k e b t is_edge one in let none = unused k t at is_strong in omega (arith, some, none))
        (run.edges_at adds events h t row at_row) ended,
  )

  released : (k t : ℕ) (row : AddRow) (after : List ℕ) → slice_get events k ≡ Some (Started t) → slice_get adds t ≡ Some row → row.after ≡ after → AllEnded (take k events) row.after → IsReleased net (take k journal) t (cause_after after)
  released k t row [] at at_row is ended = source_at k t row at at_row is
  released k t row (a ∷ more) at at_row is ended = strong_at k t row a more at at_row is ended

  few_starts : (k t : ℕ) → slice_get events k ≡ Some (Started t) → starts (take k journal) < length adds
  few_starts k t at = fewer_keys started (length adds) t (take k journal)
      (λ j x u at_j is.
      let it = run.entry_in adds events h k j x at_j in
      run.start_below adds events h j u (it.1.1 ∙ ap Some (run.starts_event adds events h u it.1.0 (ap started (sym it.1.2) ∙ is))))
      (λ i j x y u at_i at_j is_x is_y.
      let one = run.entry_in adds events h k i x at_i in
      let two = run.entry_in adds events h k j y at_j in
      run.started_once adds events h i j u
      (one.1.1 ∙ ap Some (run.starts_event adds events h u one.1.0 (ap started (sym one.1.2) ∙ is_x)))
      (two.1.1 ∙ ap Some (run.starts_event adds events h u two.1.0 (ap started (sym two.1.2) ∙ is_y))))
      (run.start_below adds events h k t at)
      (λ j x at_j is.
      let it = run.entry_in adds events h k j x at_j in
      let again = run.started_once adds events h j k t (it.1.1 ∙ ap Some (run.starts_event adds events h t it.1.0 (ap started (sym it.1.2) ∙ is))) at in
      absurd (omega (arith, it.0, again)))

  no_stuck : (k : ℕ) → count_by is_stuck (take k journal) ≡ 0
  no_stuck k = none_pass is_stuck (take k journal) (λ j x at.
      let it = run.entry_in adds events h k j x at in
      ap is_stuck it.1.2 ∙ run.never_stuck adds events h it.1.0)

  start_follows : (k t : ℕ) → slice_get events k ≡ Some (Started t) → MayFollow net (length adds) (take k journal) (entry (Started t))
  start_follows k t at =
      let rule = run.start_rule adds events h k t at in record {
        in_range = (subst (λ n. t < n) (sym (task_count adds)) (run.start_below adds events h k t at), cause_in_range net (named_by (slice_get adds t)));
        release = released k t rule.1.0 (named_by (slice_get adds t)) at rule.1.1 (ap named_by (sym rule.1.1)) rule.1.2;
        closing = tt;
        choice = tt;
        semaphore = record { within = tt; over = tt };
        halt_limit_stuck = record { dropped = few_starts k t at; after_stuck = λ is. no_stuck k };
      }

  -- the edges that an end gives
  gives_out : (t : ℕ) → t < length adds → end_gives net t ≡ out_edges net t
  gives_out t below =
      let count = task_count adds in
      let less : ltb t (length net.tasks) ≡ true = grind (arith, nat_tests) in
      ap (λ b. cond b (out_edges net t) []) less

  -- the start that an end closes
  start_there : (k s t : ℕ) → s < k → slice_get events s ≡ Some (Started t) → start_at (take k journal) s ≡ Some t
  start_there k s t less at = ap (option_and_then started) (run.entry_at adds events h k s (Started t) less at)

  open_there : (k s t : ℕ) → s < k → slice_get events s ≡ Some (Started t) → slice_get events k ≡ Some (Ended t) → is_open (take k journal) s ≡ true
  open_there k s t less at_s at_k =
      ap (λ o. is_some o && eqb (count_by (closes s) (take k journal)) 0) (start_there k s t less at_s)
      ∙ ap (λ n. eqb n 0) (none_pass (closes s) (take k journal) (λ j x at_j. not_true (closes s x) (λ is.
      let it = run.entry_in adds events h k j x at_j in
      let same = run.closes_event adds events h s t j it.1.0 at_s it.1.1 (ap (closes s) (sym it.1.2) ∙ is) in
      let again = run.ended_once adds events h j k t (it.1.1 ∙ ap Some same) at_k in
      absurd (omega (arith, it.0, again)))))

  end_follows : (k t : ℕ) → slice_get events k ≡ Some (Ended t) → MayFollow net (length adds) (take k journal) (entry (Ended t))
  end_follows k t at =
      let begun = (run.end_rule adds events h k t at).0 in
      let place = run.start_place adds events h begun.0 t begun.2 in
      let below = run.end_below adds events h k t at in
      record {
        in_range = subst (λ es. AllByRecursion (λ e. e < length net.edges) es) (sym (gives_out t below))
            (recursion_from_All (λ e. e < length net.edges) (out_edges net t) (places_below (λ (row : EdgeRow). row.from == t) net.edges));
        release = tt;
        closing = subst (λ s. IsTrue (is_open (take k journal) s)) (sym place) (open_there k begun.0 t begun.1 begun.2 at);
        choice = subst (λ s. IsSomeAnd (start_at (take k journal) s) (λ u. IsSomeAnd (slice_get net.tasks u) (λ (row : TaskRow). GivesFit row.shape (out_edges net u) (end_gives net t) × InnerFits row.shape false))) (sym place)
            (some_in (start_at (take k journal) begun.0) (λ u. IsSomeAnd (slice_get net.tasks u) (λ (row : TaskRow). GivesFit row.shape (out_edges net u) (end_gives net t) × InnerFits row.shape false)) t (start_there k begun.0 t begun.1 begun.2)
            (some_in (slice_get net.tasks t) (λ (row : TaskRow). GivesFit row.shape (out_edges net t) (end_gives net t) × InnerFits row.shape false) plain_task (copy_at (length adds) t plain_task below) (inl (gives_out t below), refl)));
        semaphore = record { within = tt; over = tt };
        halt_limit_stuck = record { dropped = tt; after_stuck = λ is. no_stuck k };
      }

  follows : (k : ℕ) (event : TaskEvent) → slice_get events k ≡ Some event → MayFollow net (length adds) (take k journal) (entry event)
  follows k (Started t) at = start_follows k t at
  follows k (Ended t) at = end_follows k t at

  legal : ShapeLegal net (length adds) journal
  legal = each_after (MayFollow net (length adds)) journal (λ k x at.
      let it = in_mapped entry events k x at in
      subst (MayFollow net (length adds) (take k journal)) (sym it.2) (follows k it.0 it.1))

  -- what a start finds at an edge
  part_at : (k t e a : ℕ) → slice_get events k ≡ Some (Started t) → IsEdge net.edges t e a → times_ended (take k events) a ≡ 1 → IsPartAt net (take k journal) e (part_of adds events a)
  part_at k t e a at is_edge one =
      let found = run.ended_in adds events h k a one in
      let below = run.end_below adds events h found.0 a found.2 in
      let there = run.entry_at adds events h k found.0 (Ended a) found.1 found.2 in
      let gives = run.ended_gives adds events h e a t is_edge below in
      subst (IsPartAt net (take k journal) e) (ap From (sym (run.end_place adds events h found.0 a found.2))) record {
        found = (
          ap (λ o. option_map_or (gives_edge e) o false) there ∙ gives,
          none_pass (has_part net e (is_from found.0)) (take k journal) (λ j x at_j. not_true (has_part net e (is_from found.0) x) (λ is.
              let it = run.entry_in adds events h k j x at_j in
              let same = run.finds_event adds events h e a t (is_from found.0) is_edge it.1.0 (ap (has_part net e (is_from found.0)) (sym it.1.2) ∙ is) in
              let again = run.started_once adds events h j k t (it.1.1 ∙ ap Some same) at in
              absurd (omega (arith, it.0, again)))),
        );
        last = λ calm. sym (last_from_is e 0 First (take k journal) found.0 (entry (Ended a)) there gives (λ j x at_j is.
            let it = run.entry_in adds events h k j x at_j in
            let same = run.gives_event adds events h e a t is_edge it.1.0 (ap (gives_edge e) (sym it.1.2) ∙ is) in
            run.ended_once adds events h j found.0 a (it.1.1 ∙ ap Some same) found.2)
            ∙ ap From (let same : 0 + found.0 ≡ found.0 = omega arith in same));
      }

  parts_at : (k t : ℕ) (row : AddRow) (after : List ℕ) → slice_get events k ≡ Some (Started t) → slice_get adds t ≡ Some row → row.after ≡ after → AllEnded (take k events) row.after →
      AllZip (IsPartAt net (take k journal)) (edges_of net t (cause_after after)) (map (part_of adds events) after)
  parts_at k t row [] at at_row is ended = tt
  parts_at k t row (a ∷ more) at at_row is ended =
      subst (λ bs. AllZip (IsPartAt net (take k journal)) (strong_in net t) (map (part_of adds events) bs)) is
      (zip_mapped (IsEdge net.edges t) (λ b. times_ended (take k events) b ≡ 1) (part_of adds events) (IsPartAt net (take k journal)) (strong_in net t) row.after
      (λ e b is_edge one. part_at k t e b at is_edge one) (run.edges_at adds events h t row at_row) ended)

  finds : (k : ℕ) (event : TaskEvent) → slice_get events k ≡ Some event → DataRule net (take k journal) (entry event)
  finds k (Started t) at =
      let rule = run.start_rule adds events h k t at in
      parts_at k t rule.1.0 (named_by (slice_get adds t)) at rule.1.1 (ap named_by (sym rule.1.1)) rule.1.2
  finds k (Ended t) at = tt

  all_found : MeetsDataRule net journal
  all_found = each_after (DataRule net) journal (λ k x at.
      let it = in_mapped entry events k x at in
      subst (DataRule net (take k journal)) (sym it.2) (finds k it.0 it.1))

  -- in the end no start is open
  closed : (n : ℕ) → is_open journal n ≡ false
  closed n = by_entry (slice_get journal n) refl
    where
      by_event : (event : TaskEvent) → slice_get events n ≡ Some event → is_some (started (entry event)) && eqb (count_by (closes n) journal) 0 ≡ false
      by_event (Ended t) at = refl
      by_event (Started t) at =
          let end = run.end_of adds events h t (run.start_below adds events h n t at) in
          let some = some_pass (closes n) journal end.0 (entry (Ended t)) (mapped_get entry events end.0 (Ended t) end.1) (run.ended_closes adds events h n t at) in
          grind (arith, nat_tests)

      by_entry : (o : Option Entry) → slice_get journal n ≡ o → is_some (option_and_then started o) && eqb (count_by (closes n) journal) 0 ≡ false
      by_entry None at = refl
      by_entry (Some x) at =
          let it = in_mapped entry events n x at in
          subst (λ y. is_some (started y) && eqb (count_by (closes n) journal) 0 ≡ false) (sym it.2) (by_event it.0 it.1)

  -- each task used its release
  used_once : (by : Cause → Bool) (t : ℕ) → t < length adds → IsTrue (by (cause_after (named_by (slice_get adds t)))) → count_by (uses by t) journal ≡ 1
  used_once by t below passes =
      let start = run.start_of adds events h t below in
      let self : eqb t t ≡ true = grind (arith, nat_tests) in
      one_passes (uses by t) journal start.0 (entry (Started t)) (mapped_get entry events start.0 (Started t) start.1)
      (ap (λ b. b && by (cause_after (named_by (slice_get adds t)))) self ∙ passes)
      (λ j x at_j is.
      let it = in_mapped entry events j x at_j in
      let same = run.uses_event adds events h by t it.0 (ap (uses by t) (sym it.2) ∙ is) in
      run.started_once adds events h j start.0 t (it.1 ∙ ap Some same) start.1)

  -- each edge was given once
  given_once : (e a t : ℕ) → IsEdge net.edges t e a → a < length adds → given net e journal ≡ 1
  given_once e a t is_edge below =
      let end = run.end_of adds events h a below in
      let once = one_passes (gives_edge e) journal end.0 (entry (Ended a)) (mapped_get entry events end.0 (Ended a) end.1) (run.ended_gives adds events h e a t is_edge below)
      (λ j x at_j is.
      let it = in_mapped entry events j x at_j in
      let same = run.gives_event adds events h e a t is_edge it.0 (ap (gives_edge e) (sym it.2) ∙ is) in
      run.ended_once adds events h j end.0 a (it.1 ∙ ap Some same) end.1) in
      let none : first_tokens net e ≡ 0 = ap (λ o. option_map_or (λ (row : EdgeRow). cond row.start 1 0) o 0) is_edge in
      omega (arith, once, none)

  by_source : (after : List ℕ) → after ≡ [] → IsTrue (is_source (cause_after after))
  by_source [] is = refl
  by_source (a ∷ after) is = absurd (cc)

  by_strong : (after : List ℕ) → after ≢ [] → IsTrue (is_strong (cause_after after))
  by_strong [] filled = absurd (filled refl)
  by_strong (a ∷ after) filled = refl

  sources_used : (t : ℕ) → t < length adds → IsSource net t → used_source t journal ≡ 1
  sources_used t below source =
      let row = get_below adds t below in
      let none = empty_zip (IsEdge net.edges t) row.0.after (subst (λ es. AllZip (IsEdge net.edges t) es row.0.after) (strong_edges adds t ∙ source) (run.edges_at adds events h t row.0 row.1)) in
      used_once is_source t below (by_source (named_by (slice_get adds t)) (ap named_by row.1 ∙ none))

  strong_used : (t : ℕ) → t < length adds → strong_in net t ≢ [] → used t journal ≡ least (map (λ e. given net e journal) (strong_in net t))
  strong_used t below filled =
      let row = get_below adds t below in
      let edges = run.edges_at adds events h t row.0 row.1 in
      used_once is_strong t below (by_strong (named_by (slice_get adds t)) (λ none. filled (zip_empty (IsEdge net.edges t) (strong_in net t) (subst (AllZip (IsEdge net.edges t) (strong_in net t)) (sym (ap named_by row.1) ∙ none) edges))))
      ∙ sym (least_ones (λ e. given net e journal) (strong_in net t) filled
      (zip_all (IsEdge net.edges t) (λ a. a < t) (λ e. given net e journal ≡ 1) (strong_in net t) row.0.after
      (λ e a is_edge before. given_once e a t is_edge (omega (arith, before, below))) edges (run.row_after adds events h t row.0 row.1)))

  complete : Complete net (length adds) journal
  complete = record {
    none_open = all_of (λ n. is_open journal n ≡ false) (range_with_len 0 (length journal)) closed;
    sources = all_below (λ t. IsSource net t → used_source t journal ≡ 1) 0 (length net.tasks) (λ t less. let count = task_count adds in sources_used t (omega (arith, less, count)));
    weak = all_of (λ e. IsTrue (is_weak net e) → used_weak e journal ≡ given net e journal) (range_with_len 0 (length net.edges)) (λ e is. absurd (false≢true (sym (no_weak adds e) ∙ is)));
    strong = all_below (λ t. strong_in net t ≢ [] → used t journal ≡ least (map (λ e. given net e journal) (strong_in net t))) 0 (length net.tasks) (λ t less. let count = task_count adds in strong_used t (omega (arith, less, count)));
    limited = λ some. absurd (some (none_pass is_limited journal (λ k x at. let it = in_mapped entry events k x at in ap is_limited it.2 ∙ run.never_limited adds events h it.0)));
  }

  pub whole : IsWholeJournal net (length adds) journal
  whole = record { legal = legal; found = all_found; complete = complete }

-- So is the journal that is made.
pub made_whole : {E : Type 0} (rows : NetRows) (adds : List AddRow) (events : List TaskEvent) (result : Result (List Entry) E) → IfOk result (λ made. made ≡ run_journal rows adds events) →
    IfOk result (λ made. rows ≡ run_net adds → IsFinishedHistory adds events → IsWholeJournal rows (length adds) made)
made_whole rows adds events (Err e) is = tt
made_whole rows adds events (Ok made) is = λ same h.
    subst (IsWholeJournal rows (length adds)) (sym is) (subst (λ n. IsWholeJournal n (length adds) (run_journal n adds events)) (sym same) (whole adds events h))
