-- What passes, seats and tickets of books of async tasks say, and what finishing such a book comes to.
use Rattle.std.proofs.Common.{◌≡◌, ◌≢◌, ℕ, zero, suc, ◌+◌, ◌<◌, List, [], ◌∷◌, ◌++◌, true, Some, None, length, map, refl, sym, ap, ◌∙◌, subst, arith}
use Rattle.std.specs.Prelude.{slice_get, is_some}
use Rattle.std.specs.Arc.{arc_value}
use Rattle.std.specs.declared.alloc.Global.{Global}
use Rattle.std.specs.declared.sync.Arc.{Arc}
use Rattle.std.specs.declared.vec.Vec.{Vec}
use Rattle.std.specs.declared.snapshot.Snapshot.{Snapshot}
use Rattle.atomic_table.specs.Seated.{TableId}
use Rattle.tickets.specs.Books.{ticket_state}
use Rattle.ready_deques.specs.declared.ready.Ready.{Ready}
use Rattle.ready_deques.specs.Lists.{OwnerState, IsOwnerOf}
use Rattle.async_tasks.specs.declared.history.AddRow.{AddRow}
use Rattle.async_tasks.specs.declared.history.TaskEvent.TheVariants.{Started, Ended}
use Rattle.async_tasks.specs.declared.stage.Stage.TheVariants.{Open, Over}
use Rattle.async_tasks.specs.declared.run.AsyncRun.{AsyncRun}
use Rattle.async_tasks.specs.declared.finish.Finished.TheVariants.{Done, Open as Unfinished}
use Rattle.async_tasks.specs.declared.outstanding.Outstanding.{Outstanding}
use Rattle.async_tasks.specs.declared.outstanding.Outstanding.TheVariants.{Pass, Running, Recorded}
use Rattle.async_tasks.specs.declared.seat.AsyncStep.TheVariants.{Ran, Empty}
use Rattle.async_tasks.specs.Histories.{times_started, times_ended, kept_of, found}
use Rattle.async_tasks.specs.Books.{BookHistory, BookKey, book_history, value_at, holder_of, caller_of, task_of, end_at, NothingOut}
use Rattle.async_tasks.specs.Starts.{IsTicketFor, IsPassFor, rows_seen, HasSeen, IsFreshPass, EndRecord, end_record, IsEndAt, IsAfter}
use Rattle.async_tasks.specs.Passes.{PassState, pass_state, IsHeld, IsTicketOf, rows_in, number_in, seen, looked, kept, LooksAgain, HasLooked, HaveLooked}
use Rattle.async_tasks.specs.AsyncBooks.{AsyncBookState, async_book_state, counts_of, IsPassOf, HasAdded, AsyncSeatState, async_seat_state, IsSeatOf, IsNewSeatOf, HasRun, HasStepped, ArePassesOf, AreFirstPasses, caller_limit, IsOwnerAt}
use Rattle.async_tasks.specs.Runs.{IsAsyncRun}
use Rattle.async_tasks.specs.Finishes.{IsDone, IsOpenAt, HaveSeen, HaveTickets, IsFinished}
use Rattle.library_claims.proofs.WorkedHistories.{add}

some_same : {X : Type 0} {x y : X} → Some x ≡ Some y → x ≡ y
some_same e = cc

-- how many tasks the rows that were kept name
abbrev named_in_all : List (ℕ × List ℕ) → ℕ
named_in_all [] = 0
named_in_all (kept ∷ more) = length kept.1 + named_in_all more

-- the number in the first of some rows
abbrev ids_in : List AddRow → ℕ
ids_in [] = 0
ids_in (row ∷ rows) = row.id

most_callers : caller_limit ≡ 64
most_callers = refl

abbrev two : List AddRow
two = add 0 0 [] 0 ∷ add 1 1 (0 ∷ []) 0 ∷ []

abbrev three : List AddRow
three = two ++ add 0 2 (0 ∷ 1 ∷ []) 2 ∷ []

-- what was seen is a prefix with all of the caller's rows
prefix_seen : HasSeen three 1 two × ¬ HasSeen three 0 two
prefix_seen = (((add 0 2 (0 ∷ 1 ∷ []) 2 ∷ [], refl), refl), λ h. let e = ap length h.1 in absurd (omega (arith, e)))

no_prefix : ¬ HasSeen two 0 (add 0 1 [] 0 ∷ [])
no_prefix h = absurd (omega (arith, ap ids_in h.0.1))

-- A pass of caller 1 that has seen two rows, a pass that has seen three, and a start of task 4.
module _ (r s : TableId) (other : s ≢ r) (fewer more : Snapshot (Vec AddRow Global)) (has_two : fewer.value.items ≡ two) (has_three : more.value.items ≡ three) (work : Snapshot (Arc ℕ Global)) (values : Snapshot (List (Arc ℕ Global))) (its_work : arc_value work.value ≡ 5) (its_values : map arc_value values.value ≡ 6 ∷ []) where
  abbrev pass : Outstanding ℕ ℕ
  pass = Pass 1 fewer

  tickets_of_passes : IsPassFor 1 pass × ¬ IsPassFor 0 pass × (rows_seen pass ≡ two)
  tickets_of_passes = (refl, (λ h. absurd (omega (arith, h))), has_two)

  holders : (holder_of pass ≡ caller_of 1) × NothingOut {W = ℕ} {V = ℕ} (caller_of 1) (None ∷ []) × ¬ NothingOut (caller_of 1) (None ∷ Some pass ∷ [])
  holders = (refl, (λ n item at same. none_there n item at), (λ none. none 1 pass refl refl))
    where
      none_there : (n : ℕ) (item : Outstanding ℕ ℕ) → slice_get (None ∷ []) n ≡ Some (Some item) → ⊥
      none_there zero item at = absurd (cc)
      none_there (suc n) item at = absurd (cc)

  others_out : NothingOut (caller_of 0) (Some pass ∷ [])
  others_out zero item at same = absurd (cc)
  others_out (suc n) item at same = absurd (cc)

  -- the state of a pass
  abbrev old : PassState ℕ ℕ
  old = pass_state 1 (Some (ticket_state r 3 pass))

  abbrev new : PassState ℕ ℕ
  new = pass_state 1 (Some (ticket_state r 5 (Pass 1 more)))

  its_state : IsHeld 1 old.ticket × IsTicketOf r old.ticket × ¬ IsTicketOf s old.ticket × (seen old ≡ two) × (looked old ≡ 3) × (kept old ≡ (1, 0 ∷ []) ∷ [])
  its_state = (refl, refl, (λ h. other (sym h)), has_two, refl, ap (kept_of 1) has_two)

  without_a_ticket : (rows_in {W = ℕ} {V = ℕ} None ≡ []) × (number_in {W = ℕ} {V = ℕ} None ≡ 0) × ¬ IsHeld {W = ℕ} {V = ℕ} 1 None
  without_a_ticket = (refl, refl, λ h. h)

  looks : LooksAgain old new
  looks = record { caller = refl; later = omega arith; longer = (add 0 2 (0 ∷ 1 ∷ []) 2 ∷ [], has_three ∙ ap (λ rows. rows ++ add 0 2 (0 ∷ 1 ∷ []) 2 ∷ []) (sym has_two)) }

  looks_no_later : ¬ LooksAgain old (pass_state 1 (Some (ticket_state r 3 (Pass 1 more))))
  looks_no_later h = let e = h.later in absurd (omega arith)

  looks_as_another : ¬ LooksAgain old (pass_state 0 (Some (ticket_state r 5 (Pass 0 more))))
  looks_as_another h = absurd (omega (arith, h.caller))

  looks_at_less : ¬ LooksAgain new (pass_state 1 (Some (ticket_state r 6 pass)))
  looks_at_less h = let e = ap length (sym has_two ∙ h.longer.1 ∙ ap (λ rows. rows ++ h.longer.0) has_three) in absurd (omega (arith, e))

  -- it has seen all rows, and keeps what it kept
  has_looked : HaveLooked three (old ∷ []) (new ∷ [])
  has_looked = (record { again = looks; all = has_three; same_kept = ap (kept_of 1) has_three ∙ ap (kept_of 1) (sym has_two) }, tt)

  too_few_look : ¬ HaveLooked three (old ∷ []) [] × ¬ HaveLooked three [] (new ∷ [])
  too_few_look = ((λ h. h), (λ h. h))

  looked_at_others : ¬ HasLooked two old new
  looked_at_others h = let e = ap length (sym has_three ∙ h.all) in absurd (omega (arith, e))

  -- it is of its book and its caller
  abbrev book : AsyncBookState
  book = async_book_state r 2 s

  pass_of_the_book : IsPassOf book old
  pass_of_the_book = record { ticket = refl; caller = omega arith }

  pass_of_too_few : ¬ IsPassOf (async_book_state r 1 s) old
  pass_of_too_few h = let e = h.caller in absurd (omega arith)

  pass_of_another : ¬ IsPassOf (async_book_state s 2 s) old
  pass_of_another h = other (sym h.ticket)

  -- a pass for each caller, at its place
  all_passes : ArePassesOf (async_book_state r 2 s) (pass_state 0 (Some (ticket_state r 3 (Pass 0 fewer))) ∷ old ∷ [])
  all_passes = record { count = refl; each = each_one }
    where
      each_one : (c : ℕ) (p : PassState ℕ ℕ) → slice_get (pass_state 0 (Some (ticket_state r 3 (Pass 0 fewer))) ∷ old ∷ []) c ≡ Some p → IsPassOf (async_book_state r 2 s) p × (p.caller ≡ c)
      each_one zero p at = subst (λ (q : PassState ℕ ℕ). IsPassOf (async_book_state r 2 s) q × (q.caller ≡ 0)) (some_same at) (record { ticket = refl; caller = omega arith }, refl)
      each_one (suc zero) p at = subst (λ (q : PassState ℕ ℕ). IsPassOf (async_book_state r 2 s) q × (q.caller ≡ 1)) (some_same at) (pass_of_the_book, refl)
      each_one (suc (suc c)) p at = absurd (cc)

  too_few_passes : ¬ ArePassesOf book (old ∷ [])
  too_few_passes h = absurd (omega (arith, h.count))

  at_another_place : ¬ ArePassesOf book (old ∷ old ∷ []) × ¬ AreFirstPasses r (old ∷ [])
  at_another_place = ((λ h. absurd (omega (arith, (h.each 0 old refl).1))), (λ h. absurd (omega (arith, (h 0 old refl).1))))

  -- a seat is of the book's list, and the book recorded its last end
  seats : (owner : OwnerState) → owner.tag ≡ [] → owner.counts ≡ s → IsSeatOf book (async_seat_state owner None) × IsSeatOf book (async_seat_state owner (Some (end_record r 4 9))) × IsOwnerAt s owner
  seats owner tag counts = (record { owner = (tag, counts); last = tt }, record { owner = (tag, counts); last = refl }, (tag, counts))

  seat_of_another_list : (owner : OwnerState) → owner.counts ≡ r → ¬ IsSeatOf book (async_seat_state owner None) × ¬ IsOwnerAt s owner
  seat_of_another_list owner counts = ((λ h. other (sym h.owner.1 ∙ counts)), (λ h. other (sym h.1 ∙ counts)))

  seat_of_a_tagged_list : (owner : OwnerState) → owner.tag ≡ 7 ∷ [] → ¬ IsSeatOf book (async_seat_state owner None) × ¬ IsOwnerAt s owner
  seat_of_a_tagged_list owner tag = ((λ h. let e = sym tag ∙ h.owner.0 in absurd (cc)), (λ h. let e = sym tag ∙ h.0 in absurd (cc)))

  seat_with_another_end : (owner : OwnerState) → ¬ IsSeatOf book (async_seat_state owner (Some (end_record s 4 9)))
  seat_with_another_end owner h = other h.last

  -- a step names the task whose end the seat was given, which comes after the end that it had
  abbrev ran_4 : OwnerState → AsyncSeatState
  ran_4 owner = async_seat_state owner (Some (end_record r 4 9))

  ran : (owner : OwnerState) → HasStepped book (async_seat_state owner None) (Ran 4) (ran_4 owner) × HasStepped book (ran_4 owner) (Ran 5) (async_seat_state owner (Some (end_record r 5 12)))
  ran owner = ((refl, refl, tt), (refl, refl, omega arith))

  ran_without_an_end : (owner : OwnerState) → ¬ HasStepped book (async_seat_state owner None) (Ran 4) (async_seat_state owner None)
  ran_without_an_end owner h = h

  ran_another : (owner : OwnerState) → ¬ HasRun book (async_seat_state owner None) 5 (ran_4 owner)
  ran_another owner h = absurd (omega (arith, h.1))

  ran_before : (owner : OwnerState) → ¬ HasRun book (ran_4 owner) 4 (ran_4 owner) × ¬ HasRun book (ran_4 owner) 5 (async_seat_state owner (Some (end_record r 5 8)))
  ran_before owner = ((λ h. let e = h.2 in absurd (omega arith)), (λ h. let e = h.2 in absurd (omega arith)))

  ran_elsewhere : (owner : OwnerState) → ¬ HasRun book (async_seat_state owner None) 4 (async_seat_state owner (Some (end_record s 4 9)))
  ran_elsewhere owner h = other h.0

  found_empty : (owner later : OwnerState) → owner.zeros ≡ 3 → later.zeros ≡ 4 → HasStepped book (ran_4 owner) Empty (ran_4 later) × ¬ HasStepped book (ran_4 owner) Empty (async_seat_state later None)
  found_empty owner later before after = ((omega (arith, before, after), refl), (λ h. let e = h.1 in absurd (cc)))

  found_nothing : (owner : OwnerState) → ¬ HasStepped book (ran_4 owner) Empty (ran_4 owner)
  found_nothing owner h = let e = h.0 in absurd (omega arith)

  -- a ticket of an end is for its task and its index
  ticket_of_an_end : IsEndAt {W = ℕ} {V = ℕ} 4 9 (Recorded 4 9) × ¬ IsEndAt {W = ℕ} {V = ℕ} 5 9 (Recorded 4 9) × ¬ IsEndAt {W = ℕ} {V = ℕ} 4 8 (Recorded 4 9) × ¬ IsEndAt 4 9 pass × ¬ IsEndAt 4 9 (Running 4 work values)
  ticket_of_an_end = ((refl, refl), (λ h. absurd (omega (arith, h.0))), (λ h. absurd (omega (arith, h.1))), (λ h. h), (λ h. h))

  no_other_ticket : ¬ IsPassFor {W = ℕ} {V = ℕ} 4 (Recorded 4 9) × ¬ IsTicketFor {W = ℕ} {V = ℕ} 4 5 [] (Recorded 4 9) × (rows_seen {W = ℕ} {V = ℕ} (Recorded 4 9) ≡ []) × (holder_of {W = ℕ} {V = ℕ} (Recorded 4 9) ≡ end_at 9)
  no_other_ticket = ((λ h. h), (λ h. h), refl, refl)

  after_ends : IsAfter None 0 × IsAfter (Some (end_record r 4 9)) 10 × ¬ IsAfter (Some (end_record r 4 9)) 9
  after_ends = (tt, omega arith, (λ h. absurd (omega arith)))

  -- a ticket of a start is for its task, its work and what it found
  ticket_of_a_start : IsTicketFor 4 5 (6 ∷ []) (Running 4 work values) × ¬ IsTicketFor 4 5 (6 ∷ []) pass × ¬ IsPassFor 4 (Running 4 work values) × (rows_seen (Running 4 work values) ≡ []) × (holder_of (Running 4 work values) ≡ task_of 4)
  ticket_of_a_start = ((refl, its_work, its_values), (λ h. h), (λ h. h), refl, refl)

  ticket_of_another_start : ¬ IsTicketFor 3 5 (6 ∷ []) (Running 4 work values) × ¬ IsTicketFor 4 7 (6 ∷ []) (Running 4 work values) × ¬ IsTicketFor 4 5 [] (Running 4 work values)
  ticket_of_another_start = (
    (λ h. absurd (omega (arith, h.0))),
    (λ h. absurd (omega (arith, h.1, its_work))),
    (λ h. let e = ap length (sym its_values ∙ h.2) in absurd (omega (arith, e))),
  )

  -- the next ticket of a caller's pass, which has seen all rows
  abbrev found_book : BookHistory ℕ ℕ
  found_book = book_history r 2 three [] [] [] (None ∷ [])

  fresh : IsFreshPass found_book 1 (ticket_state r 1 (Pass 1 more))
  fresh = record { register = refl; number = refl; caller_is = refl; all = has_three }

  not_fresh : ¬ IsFreshPass found_book 1 (ticket_state s 1 (Pass 1 more)) × ¬ IsFreshPass found_book 1 (ticket_state r 2 (Pass 1 more)) × ¬ IsFreshPass found_book 0 (ticket_state r 1 (Pass 1 more)) × ¬ IsFreshPass found_book 1 (ticket_state r 1 pass)
  not_fresh = (
    (λ h. other h.register),
    (λ h. absurd (omega (arith, h.number))),
    (λ h. absurd (omega (arith, h.caller_is))),
    (λ h. let e = ap length (sym has_two ∙ h.all) in absurd (omega (arith, e))),
  )

  -- what passes have seen and whose tickets they have
  abbrev before : PassState ℕ ℕ
  before = pass_state 0 (Some (ticket_state r 3 (Pass 0 fewer)))

  abbrev after : PassState ℕ ℕ
  after = pass_state 0 (Some (ticket_state r 5 (Pass 0 more)))

  have : HaveSeen three (old ∷ []) × ¬ HaveSeen three (before ∷ []) × HaveTickets r (old ∷ before ∷ []) × ¬ HaveTickets s (old ∷ [])
  have = (
    (subst (HasSeen three 1) (sym has_two) prefix_seen.0, tt),
    (λ h. prefix_seen.1 (subst (HasSeen three 0) has_two h.0)),
    (refl, (refl, tt)),
    (λ h. other (sym h.0)),
  )

  -- an add that is the last of the rows seen
  has_added : HasAdded before 2 (0 ∷ 1 ∷ []) after
  has_added = record { last = ap length has_three; kept_it = ap (kept_of 0) has_three ∙ ap (λ rows. kept_of 0 rows ++ (2, 0 ∷ 1 ∷ []) ∷ []) (sym has_two) }

  added_another : ¬ HasAdded before 1 (0 ∷ 1 ∷ []) after
  added_another h = let e : length (seen after) ≡ 2 = h.last in absurd (omega (arith, e, ap length has_three))

  added_after_others : ¬ HasAdded before 2 (0 ∷ []) after
  added_after_others h =
      let e : (0, []) ∷ (2, 0 ∷ 1 ∷ []) ∷ [] ≡ (0, []) ∷ (2, 0 ∷ []) ∷ [] = ap (kept_of 0) (sym has_three) ∙ h.kept_it ∙ ap (λ rows. kept_of 0 rows ++ (2, 0 ∷ []) ∷ []) has_two in
      absurd (omega (arith, ap named_in_all e))

  -- An open book is found with a task that has no end.
  abbrev a_found : Snapshot (BookHistory ℕ ℕ) → Type 0
  a_found found = found.value ≡ book_history r 1 (add 0 0 [] 0 ∷ []) [] [] [] []

  module _ (found : Snapshot (BookHistory ℕ ℕ)) (is : a_found found) (answers : ℕ → List ℕ → ℕ → Type 0) (back : Vec (PassState ℕ ℕ) Global) where
    its_task : IsFinished answers (async_book_state r 1 s) (before ∷ []) (Unfinished (async_book_state r 1 s) back 0 found) → (0 < length found.value.rows) × (times_ended found.value.events 0 ≡ 0)
    its_task h = h.1.no_end

    task_that_is_not_there : ¬ IsFinished answers (async_book_state r 1 s) (before ∷ []) (Unfinished (async_book_state r 1 s) back 1 found)
    task_that_is_not_there h = absurd (omega (arith, h.1.no_end.0, ap (λ (b : BookHistory ℕ ℕ). length b.rows) is))

    rows_not_seen : back.items ≡ old ∷ [] → ¬ IsFinished answers (async_book_state r 1 s) (before ∷ []) (Unfinished (async_book_state r 1 s) back 0 found)
    rows_not_seen has h =
        let one = (subst (HaveLooked found.value.rows (before ∷ [])) has h.1.looked).0 in
        let e = ap length (sym has_two ∙ one.all) in
        absurd (omega (arith, e, ap (λ (b : BookHistory ℕ ℕ). length b.rows) is))

    found_another_book : (found_r : Snapshot (BookHistory ℕ ℕ)) → found_r.value.register ≡ s → ¬ IsOpenAt (async_book_state r 1 s) (before ∷ []) back.items 0 found_r.value
    found_another_book other_book there h = other (sym there ∙ ap (λ (k : BookKey). k.register) h.same)

    another_book_back : ¬ IsFinished answers (async_book_state r 1 s) (before ∷ []) (Unfinished (async_book_state s 1 s) back 0 found)
    another_book_back h = other (ap (λ (b : AsyncBookState). b.register) h.0)

-- A finished run of one task, and others that lack something.
module _ (answers : ℕ → List ℕ → ℕ → Type 0) (work a : Arc ℕ Global) (answered : answers (arc_value work) [] (arc_value a)) where
  abbrev run : AsyncRun ℕ ℕ
  run = record { adds = add 0 0 [] 0 ∷ []; events = Started 0 ∷ Ended 0 ∷ []; works = work ∷ []; stages = Over a ∷ [] }

  one_run : IsAsyncRun answers 1 run
  one_run = record {
    history = record {
      each_row = (record { id = refl; caller = omega arith; after = tt; rising = tt }, tt);
      places = (omega arith, tt);
      each_event = ((refl, (omega arith, tt)), ((refl, refl), tt));
    };
    complete = ended;
    work_count = refl;
    value_count = refl;
    each_value = has_value;
    values = has_answer;
  }
    where
      ended : (t : ℕ) → t < 1 → (times_started (Started 0 ∷ Ended 0 ∷ []) t ≡ 1) × (times_ended (Started 0 ∷ Ended 0 ∷ []) t ≡ 1)
      ended zero below = (refl, refl)
      ended (suc t) below = absurd (omega arith)

      has_value : (t : ℕ) → t < 1 → is_some (value_at (Over a ∷ []) t) ≡ true
      has_value zero below = refl
      has_value (suc t) below = absurd (omega arith)

      has_answer : (t : ℕ) (row : AddRow) (w v : ℕ) → slice_get (add 0 0 [] 0 ∷ []) t ≡ Some row → slice_get (arc_value work ∷ []) t ≡ Some w → value_at (Over a ∷ []) t ≡ Some v → answers w (found (value_at (Over a ∷ [])) row.after) v
      has_answer zero row w v at_row at_work at_value =
          subst (λ (q : AddRow). answers w (found (value_at (Over a ∷ [])) q.after) v) (some_same at_row)
          (subst (λ x. answers w [] x) (some_same at_value) (subst (λ x. answers x [] (arc_value a)) (some_same at_work) answered))
      has_answer (suc t) row w v at_row at_work at_value = absurd (cc)

  unfinished : ¬ IsAsyncRun answers 1 (record { adds = add 0 0 [] 0 ∷ []; events = Started 0 ∷ []; works = work ∷ []; stages = Open ∷ [] })
  unfinished h = absurd (omega (arith, (h.complete 0 (omega arith)).1))

  wrong_history : ¬ IsAsyncRun answers 0 run
  wrong_history h = let e = h.history.each_row.0.caller in absurd (omega arith)

  without_works : ¬ IsAsyncRun answers 1 (record { adds = run.adds; events = run.events; works = []; stages = run.stages })
  without_works h = absurd (omega (arith, h.work_count))

  with_a_value_more : ¬ IsAsyncRun answers 1 (record { adds = run.adds; events = run.events; works = run.works; stages = Over a ∷ Over a ∷ [] })
  with_a_value_more h = absurd (omega (arith, h.value_count))

  without_its_value : ¬ IsAsyncRun answers 1 (record { adds = run.adds; events = run.events; works = run.works; stages = Open ∷ [] })
  without_its_value h = let e = h.each_value 0 (omega arith) in absurd (cc)

  with_another_value : (b : Arc ℕ Global) → ¬ answers (arc_value work) [] (arc_value b) → ¬ IsAsyncRun answers 1 (record { adds = run.adds; events = run.events; works = run.works; stages = Over b ∷ [] })
  with_another_value b wrong h = wrong (h.values 0 (add 0 0 [] 0) (arc_value work) (arc_value b) refl refl refl)

  -- a book is finished with such a run, of which each caller's pass has kept its adds, and no other adds
  done_without_passes : (r : TableId) → ¬ IsFinished {W = ℕ} {V = ℕ} answers (async_book_state r 1 r) [] (Done run)
  done_without_passes r h = absurd (omega (arith, h.counted))

  done_with_the_pass : (r : TableId) (seen_one : Snapshot (Vec AddRow Global)) → seen_one.value.items ≡ run.adds → IsFinished answers (async_book_state r 1 r) (pass_state 0 (Some (ticket_state r 3 (Pass 0 seen_one))) ∷ []) (Done run)
  done_with_the_pass r seen_one has = record { is_run = one_run; kept_all = kept_one; counted = let e = ap (λ rows. length (kept_of 0 rows)) has in omega (arith, e) }
    where
      kept_one : (c : ℕ) (p : PassState ℕ ℕ) → slice_get (pass_state 0 (Some (ticket_state r 3 (Pass 0 seen_one))) ∷ []) c ≡ Some p → kept_of c run.adds ≡ kept p
      kept_one zero p at = ap (kept_of 0) (sym has) ∙ ap kept (some_same at)
      kept_one (suc c) p at = absurd (cc)

  done_with_another_pass : (r : TableId) (seen_none : Snapshot (Vec AddRow Global)) → seen_none.value.items ≡ [] → ¬ IsDone answers 1 (pass_state 0 (Some (ticket_state r 3 (Pass 0 seen_none))) ∷ []) run
  done_with_another_pass r seen_none none h = let e = h.kept_all 0 (pass_state 0 (Some (ticket_state r 3 (Pass 0 seen_none)))) refl ∙ ap (kept_of 0) none in absurd (cc)

-- the table of the count word of a list
counts_of_a_list : (ready : Ready ℕ) (r : TableId) → ready.counter.table.shared.table_id ≡ r → counts_of ready ≡ r
counts_of_a_list ready r same = same

-- a new seat has an owner of the list, and ran nothing
new_seats : (ready : Ready ℕ) (owner : OwnerState) (last : EndRecord) → IsOwnerOf ready owner → IsNewSeatOf ready (async_seat_state owner None) × ¬ IsNewSeatOf ready (async_seat_state owner (Some last))
new_seats ready owner last own = ((own, refl), (λ h. let e = h.1 in absurd (cc)))
