-- Seats of a crew of two, one state after the other, computed; on both sides of each line of each definition.
use Rattle.std.proofs.Common.{◌≡◌, ◌∙◌, ℕ, zero, suc, ◌<◌, true, false, List, [], ◌∷◌, Option, Some, None, inl, inr, refl, sym, ap, arith}
use Rattle.std.specs.List.{slice_index_or}
use Rattle.std.proofs.lemmas.List.Elements.{All-from_recursion, recursion_from_All}
use Rattle.atomic_table.specs.Seated.{TableId}
use Rattle.nested_runs.specs.Totals.{all_spans}
use Rattle.run_frame.specs.declared.run.FrameRun.{FrameRun}
use Rattle.run_frame.specs.Meaning.{Meaning}
use Rattle.run_frame.specs.Legal.{IsKept}
use Rattle.run_frame.specs.NestedRule.{job_of}
use Rattle.worker_seat.specs.declared.crew.Crew.{Crew}
use Rattle.worker_seat.specs.declared.seat.WorkerSeat.{WorkerSeat}
use Rattle.worker_seat.specs.Seats.{ListName, CrewState, RunBook, SeatState, crew_state, new_seat, run_book, IsBusy, at_job, found_closed, away, refused_seat, left_refused, IsClosedWith}
use Rattle.worker_seat.specs.Crews.{state_of, told_in_run, watcher_of, crew_of, moved, AreAtOneRun, AreSent, AreSpansOf, AreWatched, HasFound, HasWatched, IsSeatOf, IsServed, IsToldMore, AreSeatsOf, MayBegin, MayEnter, MayHaveBook, IsEntered, AreEntered, IsOpen, IsKeptOf, IsFoundRunOf}

-- two lists, which differ in the words of their tables
abbrev table : ℕ → TableId
table n = record { words = n; slots = 0; views_name = 0; atom = 0; block = 0; offset = 0; slot_names = [] }

abbrev here : ListName
here = record { begun = 3 ∷ []; counts = table 1 }

abbrev there : ListName
there = record { begun = 3 ∷ []; counts = table 2 }

-- a book for two seats, and one for three
abbrev book : RunBook
book = run_book (table 5) 2

abbrev wide : RunBook
wide = run_book (table 6) 3

-- jobs are numbers here
abbrev fresh : SeatState ℕ
fresh = new_seat here

abbrev at_seven : SeatState ℕ
at_seven = record { list = here; job = Some 7; book = Some book; closed = false; refused = false; told = 0 }

-- four spans have ended there by its steps
abbrev found_seven : SeatState ℕ
found_seven = record { list = here; job = Some 7; book = Some book; closed = true; refused = false; told = 4 }

abbrev refused_at_seven : SeatState ℕ
refused_at_seven = record { list = here; job = Some 7; book = Some book; closed = false; refused = true; told = 0 }

a_new_seat_is_at_no_run : fresh ≡ record { list = here; job = None; book = None; closed = false; refused = false; told = 0 }
a_new_seat_is_at_no_run = refl

a_crew_has_a_list_and_seats : crew_state here 2 ≡ record { list = here; seats = 2 }
a_crew_has_a_list_and_seats = refl

a_book_has_a_name_and_tellers : run_book (table 5) 2 ≡ record { name = table 5; tellers = 2 }
a_book_has_a_name_and_tellers = refl

a_seat_goes_to_a_run : at_job 7 book fresh ≡ at_seven
a_seat_goes_to_a_run = refl

a_seat_goes_on_to_the_next_run : at_job 8 wide found_seven ≡ record { list = here; job = Some 8; book = Some wide; closed = false; refused = false; told = 0 }
a_seat_goes_on_to_the_next_run = refl

a_seat_finds_its_run_closed : found_closed 4 at_seven ≡ found_seven
a_seat_finds_its_run_closed = refl

a_seat_finds_it_closed_again : found_closed 0 found_seven ≡ found_seven
a_seat_finds_it_closed_again = refl

a_seat_leaves : away found_seven ≡ record { list = here; job = None; book = None; closed = false; refused = false; told = 4 }
a_seat_leaves = refl

a_seat_is_refused_at_its_run : refused_seat at_seven ≡ refused_at_seven
a_seat_is_refused_at_its_run = refl

a_seat_is_refused_as_a_run_was_to_begin : left_refused found_seven ≡ record { list = here; job = None; book = None; closed = false; refused = true; told = 0 }
a_seat_is_refused_as_a_run_was_to_begin = refl

a_seat_at_a_run_is_busy : IsBusy at_seven.job
a_seat_at_a_run_is_busy = tt

a_new_seat_is_not_busy : ¬ IsBusy fresh.job
a_new_seat_is_not_busy never = never

a_seat_has_found_its_run_closed : IsClosedWith 7 found_seven
a_seat_has_found_its_run_closed = (refl, refl)

a_seat_has_not_found_its_run_closed : ¬ IsClosedWith 7 at_seven
a_seat_has_not_found_its_run_closed (closed, job) = cc

a_seat_has_not_found_another_run_closed : ¬ IsClosedWith 8 found_seven
a_seat_has_not_found_another_run_closed (closed, job) = cc

module _ (V : Type 0) {X : Type 0} (watcher : X) where
  abbrev seat : SeatState ℕ → WorkerSeat ℕ X V
  seat state = record { watcher = watcher; station = state }

  a_seat_has_a_state : state_of (seat at_seven) ≡ at_seven
  a_seat_has_a_state = refl

  a_seat_has_a_watcher : watcher_of (seat at_seven) ≡ watcher
  a_seat_has_a_watcher = refl

  a_seat_moves_with_its_watcher : moved (found_closed 4) (seat at_seven) ≡ seat found_seven
  a_seat_moves_with_its_watcher = refl

  a_new_seat_may_begin : MayBegin (seat fresh)
  a_new_seat_may_begin = record { free = refl; served = refl }

  a_seat_at_a_run_may_not : ¬ MayBegin (seat at_seven)
  a_seat_at_a_run_may_not may = let free = may.free in cc

  a_refused_seat_may_not : ¬ MayBegin (seat (left_refused fresh))
  a_refused_seat_may_not may = let served = may.served in cc

  a_seat_at_a_run_is_open : IsOpen (seat at_seven)
  a_seat_at_a_run_is_open = refl

  a_seat_that_found_it_closed_is_not : ¬ IsOpen (seat found_seven)
  a_seat_that_found_it_closed_is_not open_seat = cc

  -- A seat may be entered where it is of the crew and at a run.
  a_busy_seat_may_be_entered : (crew : Crew ℕ V) → crew_of crew ≡ crew_state here 2 → MayEnter crew (seat at_seven)
  a_busy_seat_may_be_entered crew two = record { of_crew = sym (ap (λ (made : CrewState). made.list) two); busy = tt }

  a_seat_at_no_run_may_not_be_entered : (crew : Crew ℕ V) → ¬ MayEnter crew (seat fresh)
  a_seat_at_no_run_may_not_be_entered crew may = may.busy

  a_seat_of_another_crew_may_not_be_entered : (crew : Crew ℕ V) → crew_of crew ≡ crew_state here 2 → ¬ MayEnter crew (seat (at_job 7 book (new_seat there)))
  a_seat_of_another_crew_may_not_be_entered crew two may = absurd (omega (arith, ap (λ (l : ListName). l.counts.words) (may.of_crew ∙ ap (λ (made : CrewState). made.list) two)))

  a_seat_has_told : told_in_run (seat found_seven) ≡ 4
  a_seat_has_told = refl

  a_seat_that_found_it_closed_has : HasFound (seat found_seven)
  a_seat_that_found_it_closed_has = refl

  a_seat_at_a_run_has_not : ¬ HasFound (seat at_seven)
  a_seat_at_a_run_has_not found = cc

  a_seat_at_a_run_is_served : IsServed (seat at_seven)
  a_seat_at_a_run_is_served = refl

  a_refused_seat_is_not_served : ¬ IsServed (seat refused_at_seven)
  a_refused_seat_is_not_served served = cc

  -- It may be at no run, or at one with this book.
  a_seat_at_no_run_may_have_any_book : MayHaveBook wide (seat fresh)
  a_seat_at_no_run_may_have_any_book = tt

  a_seat_at_a_run_has_its_book : MayHaveBook book (seat at_seven)
  a_seat_at_a_run_has_its_book = refl

  a_seat_at_a_run_has_no_other_book : ¬ MayHaveBook wide (seat at_seven)
  a_seat_at_a_run_has_no_other_book has = absurd (omega (arith, ap (λ (b : RunBook). b.tellers) has))

  -- Both are at the run, or one of them is at none.
  both_at_one_run : AreAtOneRun 2 (seat at_seven ∷ seat found_seven ∷ [])
  both_at_one_run = record {
    book = book;
    count = refl;
    each = All-from_recursion (MayHaveBook book) (seat at_seven ∷ seat found_seven ∷ []) (refl, (refl, tt));
  }

  one_at_a_run : AreAtOneRun 2 (seat at_seven ∷ seat fresh ∷ [])
  one_at_a_run = record {
    book = book;
    count = refl;
    each = All-from_recursion (MayHaveBook book) (seat at_seven ∷ seat fresh ∷ []) (refl, (tt, tt));
  }

  not_at_one_run : ¬ AreAtOneRun 2 (seat at_seven ∷ seat (at_job 8 wide fresh) ∷ [])
  not_at_one_run are =
      let both = recursion_from_All (MayHaveBook are.book) (seat at_seven ∷ seat (at_job 8 wide fresh) ∷ []) are.each in
      absurd (omega (arith, ap (λ (b : RunBook). b.tellers) both.0, ap (λ (b : RunBook). b.tellers) both.1.0))

  a_book_for_three : ¬ AreAtOneRun 3 (seat at_seven ∷ [])
  a_book_for_three are =
      let one = recursion_from_All (MayHaveBook are.book) (seat at_seven ∷ []) are.each in
      absurd (omega (arith, ap (λ (b : RunBook). b.tellers) one.0, are.count))

  -- They are sent to a run, all to the same.
  both_sent : AreSent 2 7 (seat fresh ∷ seat fresh ∷ []) (seat at_seven ∷ seat at_seven ∷ [])
  both_sent = record { book = book; count = refl; seats_are = refl }

  one_not_sent : ¬ AreSent 2 7 (seat fresh ∷ seat fresh ∷ []) (seat at_seven ∷ seat fresh ∷ [])
  one_not_sent are = absurd (omega (arith, ap (λ (seats : List (WorkerSeat ℕ X V)). job_or_none (state_of (slice_index_or seats 1 (seat fresh))).job) are.seats_are))
    where
      job_or_none : Option ℕ → ℕ
      job_or_none None = 0
      job_or_none (Some j) = j

-- Watchers are the numbers of spans that they were told.
abbrev itself : ℕ → ℕ
itself n = n

told_four_more : IsToldMore itself 4 3 7
told_four_more = refl

told_to_the_greatest : IsToldMore itself 4 18446744073709551614 18446744073709551615
told_to_the_greatest = refl

not_told_all : ¬ IsToldMore itself 4 3 6
not_told_all is = absurd (omega (arith, is))

module _ (V : Type 0) where
  abbrev by : SeatState ℕ → ℕ → WorkerSeat ℕ ℕ V
  by state watcher = record { watcher = watcher; station = state }

  -- Once a seat was entered, it has found its run closed, and its watcher was told the spans, or it is refused.
  watched : HasWatched itself (by at_seven 3) (by found_seven 7)
  watched = record { count = 4; state = refl; watcher_told = refl }

  not_watched : ¬ HasWatched itself (by at_seven 3) (by found_seven 6)
  not_watched has = absurd (omega (arith, ap (λ (s : SeatState ℕ). s.told) has.state, has.watcher_told))

  watched_but_open : ¬ HasWatched itself (by at_seven 3) (by at_seven 3)
  watched_but_open has = let same : false ≡ true = ap (λ (s : SeatState ℕ). s.closed) has.state in cc

  entered_and_found_closed : IsEntered itself (by at_seven 3) (by found_seven 7)
  entered_and_found_closed = inl watched

  entered_and_refused : IsEntered itself (by at_seven 3) (by refused_at_seven 5)
  entered_and_refused = inr refl

  not_entered : ¬ IsEntered itself (by at_seven 3) (by at_seven 3)
  not_entered (inl has) = watched_but_open has
  not_entered (inr refused) = let same : false ≡ true = ap (λ (s : SeatState ℕ). s.refused) refused in cc

  both_entered : AreEntered itself (by at_seven 3 ∷ by at_seven 0 ∷ []) (by found_seven 7 ∷ by refused_at_seven 5 ∷ [])
  both_entered zero d below = entered_and_found_closed
  both_entered (suc zero) d below = inr refl
  both_entered (suc (suc k)) d below = absurd (omega (arith, below))

  second_not_entered : ¬ AreEntered itself (by at_seven 3 ∷ by at_seven 3 ∷ []) (by found_seven 7 ∷ by at_seven 3 ∷ [])
  second_not_entered are = not_entered (are 1 (by fresh 0) (omega arith))

  -- Of a whole run the watchers of seats that were served are spoken of.
  both_watched : AreWatched itself (by fresh 3 ∷ by fresh 0 ∷ []) (by (away found_seven) 7 ∷ by (away refused_at_seven) 5 ∷ [])
  both_watched zero d below served = refl
  both_watched (suc zero) d below served = absurd (cc)
  both_watched (suc (suc k)) d below served = absurd (omega (arith, below))

  first_not_watched : ¬ AreWatched itself (by fresh 3 ∷ []) (by (away found_seven) 3 ∷ [])
  first_not_watched are = absurd (omega (arith, are 0 (by fresh 0) (omega arith) refl))

  -- Their spans together are those of the run.
  spans_of_both : (run : FrameRun ℕ V) → all_spans run ≡ 8 → AreSpansOf (by found_seven 0 ∷ by found_seven 0 ∷ []) run
  spans_of_both run eight = sym eight

  spans_of_one : (run : FrameRun ℕ V) → all_spans run ≡ 8 → ¬ AreSpansOf (by found_seven 0 ∷ by at_seven 0 ∷ []) run
  spans_of_one run eight are = absurd (omega (arith, eight, are))

module _ (V : Type 0) {X : Type 0} (watcher : X) where
  abbrev of_crew : SeatState ℕ → WorkerSeat ℕ X V
  of_crew state = record { watcher = watcher; station = state }

  -- The seats of a crew of two: each of its list, and as many as it was made with.
  a_seat_of_its_list : (crew : Crew ℕ V) → crew_of crew ≡ crew_state here 2 → IsSeatOf crew (of_crew fresh)
  a_seat_of_its_list crew two = sym (ap (λ (made : CrewState). made.list) two)

  a_seat_of_another_list : (crew : Crew ℕ V) → crew_of crew ≡ crew_state here 2 → ¬ IsSeatOf crew (of_crew (new_seat there))
  a_seat_of_another_list crew two is = absurd (omega (arith, ap (λ (l : ListName). l.counts.words) (is ∙ ap (λ (made : CrewState). made.list) two)))

  both_seats : (crew : Crew ℕ V) → crew_of crew ≡ crew_state here 2 → AreSeatsOf crew (of_crew found_seven ∷ of_crew fresh ∷ [])
  both_seats crew two = record {
    of_crew = All-from_recursion (IsSeatOf crew) (of_crew found_seven ∷ of_crew fresh ∷ []) (a_seat_of_its_list crew two, (a_seat_of_its_list crew two, tt));
    count = sym (ap (λ (made : CrewState). made.seats) two);
    one_run = record {
      book = book;
      count = sym (ap (λ (made : CrewState). made.seats) two);
      each = All-from_recursion (MayHaveBook book) (of_crew found_seven ∷ of_crew fresh ∷ []) (refl, (tt, tt));
    };
  }

  at_two_runs : (crew : Crew ℕ V) → ¬ AreSeatsOf crew (of_crew at_seven ∷ of_crew (at_job 7 wide fresh) ∷ [])
  at_two_runs crew are =
      let both = recursion_from_All (MayHaveBook are.one_run.book) (of_crew at_seven ∷ of_crew (at_job 7 wide fresh) ∷ []) are.one_run.each in
      absurd (omega (arith, ap (λ (b : RunBook). b.tellers) both.0, ap (λ (b : RunBook). b.tellers) both.1.0))

  one_seat_left_out : (crew : Crew ℕ V) → crew_of crew ≡ crew_state here 2 → ¬ AreSeatsOf crew (of_crew fresh ∷ [])
  one_seat_left_out crew two are = absurd (omega (arith, are.count, ap (λ (made : CrewState). made.seats) two))

  second_of_another_list : (crew : Crew ℕ V) → crew_of crew ≡ crew_state here 2 → ¬ AreSeatsOf crew (of_crew fresh ∷ of_crew (new_seat there) ∷ [])
  second_of_another_list crew two are = a_seat_of_another_list crew two (recursion_from_All (IsSeatOf crew) (of_crew fresh ∷ of_crew (new_seat there) ∷ []) are.of_crew).1.0

  -- A run is handed out that may be kept, and that one of the seats, whichever, has found closed.
  found_by_the_second : (meaning : Meaning ℕ V) (run : FrameRun ℕ V) → IsKept meaning run → job_of run ≡ 7 → IsFoundRunOf meaning (of_crew fresh ∷ of_crew found_seven ∷ []) run
  found_by_the_second meaning run kept job = record { kept = kept; found = (1, of_crew found_seven, omega arith, refl, (refl, ap Some (sym job))) }

  found_but_not_kept : (meaning : Meaning ℕ V) (run : FrameRun ℕ V) → ¬ IsKept meaning run → ¬ IsFoundRunOf meaning (of_crew found_seven ∷ []) run
  found_but_not_kept meaning run never is = never is.kept

  found_by_none : (meaning : Meaning ℕ V) (run : FrameRun ℕ V) → ¬ IsFoundRunOf meaning (of_crew at_seven ∷ []) run
  found_by_none meaning run is = by_place is.found.0 is.found.1 is.found.2 is.found.3 is.found.4
    where
      by_place : (k : ℕ) (one : WorkerSeat ℕ X V) → k < 1 → slice_index_or (of_crew at_seven ∷ []) k one ≡ one → IsClosedWith (job_of run) (state_of one) → ⊥
      by_place zero one below at closed = let same : true ≡ false = sym closed.0 ∙ sym (ap (λ (s : WorkerSeat ℕ X V). s.station.closed) at) in absurd (cc)
      by_place (suc k) one below at closed = absurd (omega (arith, below))

  another_run_found : (meaning : Meaning ℕ V) (run : FrameRun ℕ V) → job_of run ≡ 8 → ¬ IsFoundRunOf meaning (of_crew found_seven ∷ []) run
  another_run_found meaning run job is = by_place is.found.0 is.found.1 is.found.2 is.found.3 is.found.4
    where
      job_of_seat : Option ℕ → ℕ
      job_of_seat None = 0
      job_of_seat (Some j) = j

      by_place : (k : ℕ) (one : WorkerSeat ℕ X V) → k < 1 → slice_index_or (of_crew found_seven ∷ []) k one ≡ one → IsClosedWith (job_of run) (state_of one) → ⊥
      by_place zero one below at closed = absurd (omega (arith, job, ap (λ (s : WorkerSeat ℕ X V). job_of_seat s.station.job) at, ap job_of_seat closed.1))
      by_place (suc k) one below at closed = absurd (omega (arith, below))

  -- A run is a kept one of a job where it may be kept and is of that job.
  kept_of_seven : (meaning : Meaning ℕ V) (run : FrameRun ℕ V) → IsKept meaning run → job_of run ≡ 7 → IsKeptOf meaning 7 run
  kept_of_seven meaning run is job = record { kept = is; same = job }

  kept_of_another_job : (meaning : Meaning ℕ V) (run : FrameRun ℕ V) → job_of run ≡ 8 → ¬ IsKeptOf meaning 7 run
  kept_of_another_job meaning run job is = absurd (omega (arith, job, is.same))

  of_seven_but_not_kept : (meaning : Meaning ℕ V) (run : FrameRun ℕ V) → ¬ IsKept meaning run → ¬ IsKeptOf meaning 7 run
  of_seven_but_not_kept meaning run never is = never is.kept
