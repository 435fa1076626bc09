-- The net and the journal of a run of async tasks, which histories are finished, and which journals are whole.
use Rattle.std.proofs.Common.{◌≡◌, ℕ, zero, suc, ◌<◌, ◌≤◌, List, [], ◌∷◌, length, false, None, refl, arith}
use Rattle.std.specs.Prelude.{slice_get}
use Rattle.std.proofs.lemmas.Bool.{false≢true}
use Rattle.task_graph.specs.NetRows.{NetRows}
use Rattle.task_graph.specs.NetBuilder.{task_limit}
use Rattle.task_graph.specs.declared.net.EdgeRow.{EdgeRow}
use Rattle.task_graph.specs.declared.net.Shape.TheVariants.{Plain}
use Rattle.journal_rules.specs.declared.entry.Cause.TheVariants.{Source, Strong}
use Rattle.journal_rules.specs.declared.entry.Part.TheVariants.{From}
use Rattle.journal_rules.specs.declared.entry.Entry.TheVariants.{Start, End}
use Rattle.async_tasks.specs.declared.history.AddRow.{AddRow}
use Rattle.async_tasks.specs.declared.history.TaskEvent.{TaskEvent}
use Rattle.async_tasks.specs.declared.history.TaskEvent.TheVariants.{Started, Ended}
use Rattle.async_tasks.specs.Adds.{after_limit, task_limit as book_limit}
use Rattle.async_tasks.specs.Histories.{is_start_of, is_end_of, times_started, times_ended}
use Rattle.async_tasks.specs.declared.run.AsyncRun.{AsyncRun}
use Rattle.async_tasks.specs.Runs.{IsAsyncRun}
use Rattle.async_journal.specs.RunNets.{plain_task, edges_into, edges_of_add, with_plain_tasks, with_edge_rows, run_net, FitsBuilder, JoinsTasks}
use Rattle.async_journal.specs.RunJournals.{place_of, named_by, cause_after, part_of, end_gives, entry_of, run_journal}
use Rattle.async_journal.specs.WholeJournals.{IsFinishedHistory, AreBookAdds, IsWholeJournal}
use Rattle.library_claims.proofs.WorkedHistories.{add}

abbrev edge : ℕ → ℕ → EdgeRow
edge from to = record { from = from; to = to; start = false }

-- a task after the first, and one after the first and twice the second
abbrev adds : List AddRow
adds = add 0 0 [] 0 ∷ add 0 1 (0 ∷ []) 0 ∷ add 0 2 (0 ∷ 1 ∷ 1 ∷ []) 0 ∷ []

abbrev events : List TaskEvent
events = Started 0 ∷ Ended 0 ∷ Started 1 ∷ Ended 1 ∷ Started 2 ∷ Ended 2 ∷ []

abbrev net : NetRows
net = record { tasks = plain_task ∷ plain_task ∷ plain_task ∷ []; edges = edge 0 1 ∷ edge 0 2 ∷ edge 1 2 ∷ edge 1 2 ∷ []; sems = [] }

its_tasks : (plain_task ≡ record { shape = Plain; takes = []; puts = [] }) × (with_plain_tasks net 1 ≡ record { tasks = plain_task ∷ plain_task ∷ plain_task ∷ plain_task ∷ []; edges = net.edges; sems = [] })
its_tasks = (refl, refl)

its_edges : (edges_into 2 (0 ∷ 1 ∷ []) ≡ edge 0 2 ∷ edge 1 2 ∷ []) × (edges_of_add (add 0 1 (0 ∷ []) 0) ≡ edge 0 1 ∷ [])
its_edges = (refl, refl)

edges_more : with_edge_rows (run_net []) (edge 4 5 ∷ []) ≡ record { tasks = []; edges = edge 4 5 ∷ []; sems = [] }
edges_more = refl

its_net : run_net adds ≡ net
its_net = refl

-- a net can be built of these adds, but not of one that names a task that isn't there, nor of too many
its_ends : JoinsTasks 2 (edge 0 1) × ¬ JoinsTasks 2 (edge 2 1) × ¬ JoinsTasks 2 (edge 0 2)
its_ends = ((omega arith, omega arith), (λ joins. absurd (omega (arith, joins.0))), (λ joins. absurd (omega (arith, joins.1))))

fitting : FitsBuilder adds
fitting = record {
  tasks = let few : 3 ≤ 4000000 = omega arith in few;
  edges = let few : 4 ≤ 8000000 = omega arith in few;
  known = ((omega arith, omega arith), ((omega arith, omega arith), ((omega arith, omega arith), ((omega arith, omega arith), tt))));
}

names_no_task : ¬ FitsBuilder (add 0 0 (1 ∷ []) 0 ∷ [])
names_no_task fits = absurd (omega (arith, fits.known.0.0))

too_many : (rows : List AddRow) → task_limit < length rows → ¬ FitsBuilder rows
too_many rows more fits = let few = fits.tasks in absurd (omega (arith, more, few))

-- at which index each task was started and ended; 0 where it wasn't or wasn't added
its_places : (place_of is_start_of adds events 1 ≡ 2) × (place_of is_end_of adds events 1 ≡ 3) × (place_of is_end_of adds (Started 0 ∷ []) 0 ≡ 0) × (place_of is_end_of [] events 1 ≡ 0)
its_places = (refl, refl, refl, refl)

-- a start comes from what its add names, and finds the ends of these
its_names : (named_by (slice_get adds 1) ≡ 0 ∷ []) × (named_by None ≡ []) × (cause_after [] ≡ Source) × (cause_after (0 ∷ []) ≡ Strong) × (part_of adds events 1 ≡ From 3)
its_names = (refl, refl, refl, refl, refl)

-- an end gives the edges out of its task
its_gifts : (end_gives net 0 ≡ 0 ∷ 1 ∷ []) × (end_gives net 3 ≡ []) × (entry_of net adds events (Ended 0) ≡ End 0 (0 ∷ 1 ∷ []) false)
its_gifts = (refl, refl, refl)

its_journal : run_journal net adds events
    ≡ Start 0 Source [] ∷ End 0 (0 ∷ 1 ∷ []) false ∷ Start 1 Strong (From 1 ∷ []) ∷ End 2 (2 ∷ 3 ∷ []) false ∷ Start 2 Strong (From 1 ∷ From 3 ∷ From 3 ∷ []) ∷ End 4 [] false ∷ []
its_journal = refl

-- the history of one task that ended, and others that lack something
abbrev one : List AddRow
one = add 0 0 [] 0 ∷ []

finished : IsFinishedHistory one (Started 0 ∷ Ended 0 ∷ [])
finished = record {
  callers = 1;
  history = record {
    each_row = (record { id = refl; caller = omega arith; after = tt; rising = tt }, tt);
    places = (omega arith, tt);
    each_event = ((refl, (omega arith, tt)), ((refl, refl), tt));
  };
  each = once;
}
  where
    once : (t : ℕ) → t < 1 → (times_started (Started 0 ∷ Ended 0 ∷ []) t ≡ 1) × (times_ended (Started 0 ∷ Ended 0 ∷ []) t ≡ 1)
    once zero below = (refl, refl)
    once (suc t) below = absurd (omega arith)

unfinished : ¬ IsFinishedHistory one (Started 0 ∷ []) × ¬ IsFinishedHistory one []
unfinished = ((λ h. absurd (omega (arith, (h.each 0 (omega arith)).1))), (λ h. absurd (omega (arith, (h.each 0 (omega arith)).0))))

ended_before_its_start : ¬ IsFinishedHistory one (Ended 0 ∷ Started 0 ∷ [])
ended_before_its_start h = absurd (omega (arith, h.history.each_event.0.0))

-- adds that a book takes, and others that it doesn't
book_adds : AreBookAdds one
book_adds = record {
  events = Started 0 ∷ Ended 0 ∷ [];
  history = finished;
  count = let few : 1 ≤ 100000 = omega arith in few;
  after = (let none : 0 ≤ 64 = omega arith in none, tt);
}

wrong_number : ¬ AreBookAdds (add 0 1 [] 0 ∷ [])
wrong_number book = let number = book.history.history.each_row.0.id in absurd (omega (arith, number))

names_too_many : (after : List ℕ) → after_limit < length after → ¬ AreBookAdds (add 0 0 after 0 ∷ [])
names_too_many after more book = let few = book.after.0 in absurd (omega (arith, more, few))

too_many_for_a_book : (rows : List AddRow) → book_limit < length rows → ¬ AreBookAdds rows
too_many_for_a_book rows more book = let few = book.count in absurd (omega (arith, more, few))

-- what a finished book gives has such a history
finished_of_a_run : {W V : Type 0} (answers : W → List V → V → Type 0) (callers : ℕ) (run : AsyncRun W V) → IsAsyncRun answers callers run → IsFinishedHistory run.adds run.events
finished_of_a_run answers callers run is = record { callers = callers; history = is.history; each = is.complete }

-- the journal of no tasks is whole; one that isn't legal, isn't complete, or in which a start finds another value is
-- not
whole : IsWholeJournal (run_net []) 0 []
whole = record { legal = tt; found = tt; complete = record { none_open = tt; sources = tt; weak = tt; strong = tt; limited = λ some. absurd (some refl) } }

not_complete : ¬ IsWholeJournal (run_net one) 1 []
not_complete h = absurd (omega (arith, h.complete.sources.0 refl))

not_legal : ¬ IsWholeJournal (run_net one) 1 (End 0 [] false ∷ [])
not_legal h = absurd (false≢true h.legal.0.closing)

over_the_limit : ¬ IsWholeJournal (run_net one) 0 (Start 0 Source [] ∷ End 0 [] false ∷ [])
over_the_limit h = let e = h.legal.0.halt_limit_stuck.dropped in absurd (omega arith)

found_another_value : ¬ IsWholeJournal (run_net (add 0 0 [] 0 ∷ add 0 1 (0 ∷ []) 0 ∷ [])) 2 (Start 0 Source [] ∷ End 0 (0 ∷ []) false ∷ Start 1 Strong (From 0 ∷ []) ∷ End 2 [] false ∷ [])
found_another_value h = absurd (false≢true h.found.1.1.0.0.found.0)
