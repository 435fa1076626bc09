-- Histories of async tasks: a finished one, and others that break one rule each.
use Rattle.std.proofs.Common.{◌≡◌, ℕ, ◌+◌, List, [], ◌∷◌, Some, refl, arith}
use Rattle.async_tasks.specs.declared.history.AddRow.{AddRow}
use Rattle.async_tasks.specs.declared.history.TaskEvent.{TaskEvent}
use Rattle.async_tasks.specs.declared.history.TaskEvent.TheVariants.{Started, Ended}
use Rattle.async_tasks.specs.Histories.{times_started, times_ended, AllEnded, IsHistory, rows_of, kept_row, kept_of, found}

abbrev pub add : ℕ → ℕ → List ℕ → ℕ → AddRow
add caller id after place = record { caller = caller; id = id; after = after; place = place }

-- Caller 0 adds the first task and the last, which runs after both others; caller 1 adds the middle one, after the
-- first.
abbrev pub adds : List AddRow
adds = add 0 0 [] 0 ∷ add 1 1 (0 ∷ []) 0 ∷ add 0 2 (0 ∷ 1 ∷ 1 ∷ []) 2 ∷ []

abbrev pub first_two : List TaskEvent
first_two = Started 0 ∷ Ended 0 ∷ Started 1 ∷ Ended 1 ∷ []

abbrev pub all_three : List TaskEvent
all_three = Started 0 ∷ Ended 0 ∷ Started 1 ∷ Ended 1 ∷ Started 2 ∷ Ended 2 ∷ []

-- starts and ends are counted task by task
counts : (times_started first_two 1 ≡ 1) × (times_started first_two 2 ≡ 0) × (times_ended first_two 0 ≡ 1) × (times_ended (Started 0 ∷ []) 0 ≡ 0) × (times_started (Ended 0 ∷ Ended 0 ∷ []) 0 ≡ 0) × (times_ended (Ended 0 ∷ Ended 0 ∷ []) 0 ≡ 2)
counts = (refl, refl, refl, refl, refl, refl)

all_ended : AllEnded first_two (0 ∷ 1 ∷ 0 ∷ []) × ¬ AllEnded first_two (0 ∷ 2 ∷ [])
all_ended = ((refl, (refl, (refl, tt))), λ h. absurd (omega (arith, h.1.0)))

finished : IsHistory 2 adds all_three
finished = record {
  each_row = (
    record { id = refl; caller = omega arith; after = tt; rising = tt },
    (
      record { id = refl; caller = omega arith; after = (omega arith, tt); rising = (omega arith, tt) },
      (record { id = refl; caller = omega arith; after = (omega arith, (omega arith, (omega arith, tt))); rising = (omega arith, (omega arith, tt)) }, tt),
    ),
  );
  places = (omega arith, (omega arith, (omega arith, tt)));
  each_event = ((refl, (omega arith, tt)), ((refl, refl), ((refl, (omega arith, (refl, tt))), ((refl, refl), ((refl, (omega arith, (refl, (refl, (refl, tt))))), ((refl, refl), tt))))));
}

empty : IsHistory 1 [] []
empty = record { each_row = tt; places = tt; each_event = tt }

-- rows that break one rule each
wrong_number : ¬ IsHistory 1 (add 0 1 [] 0 ∷ []) []
wrong_number h = absurd (omega (arith, h.each_row.0.id))

unknown_caller : ¬ IsHistory 1 (add 1 0 [] 0 ∷ []) []
unknown_caller h = let e = h.each_row.0.caller in absurd (omega arith)

after_itself : ¬ IsHistory 1 (add 0 0 (0 ∷ []) 0 ∷ []) []
after_itself h = let e = h.each_row.0.after.0 in absurd (omega arith)

falling_places : ¬ IsHistory 1 (add 0 0 [] 0 ∷ add 0 1 [] 2 ∷ add 0 2 [] 1 ∷ []) (Started 0 ∷ Ended 0 ∷ [])
falling_places h = let e = h.each_row.1.1.0.rising.1.0 in absurd (omega arith)

added_after_the_end : ¬ IsHistory 1 (add 0 0 [] 1 ∷ []) []
added_after_the_end h = let e = h.places.0 in absurd (omega arith)

-- events that break one rule each
started_twice : ¬ IsHistory 1 (add 0 0 [] 0 ∷ []) (Started 0 ∷ Started 0 ∷ [])
started_twice h = absurd (omega (arith, h.each_event.1.0.0))

started_without_an_add : ¬ IsHistory 1 (add 0 0 [] 0 ∷ []) (Started 1 ∷ [])
started_without_an_add h = absurd h.each_event.0.1

started_before_its_add : ¬ IsHistory 1 (add 0 0 [] 1 ∷ []) (Started 0 ∷ [])
started_before_its_add h = let e = h.each_event.0.1.0 in absurd (omega arith)

started_after_one_of_two : ¬ IsHistory 1 (add 0 0 [] 0 ∷ add 0 1 [] 0 ∷ add 0 2 (0 ∷ 1 ∷ []) 0 ∷ []) (Started 0 ∷ Started 1 ∷ Ended 0 ∷ Started 2 ∷ [])
started_after_one_of_two h = absurd (omega (arith, h.each_event.1.1.1.0.1.1.1.0))

ended_without_a_start : ¬ IsHistory 1 (add 0 0 [] 0 ∷ []) (Ended 0 ∷ [])
ended_without_a_start h = absurd (omega (arith, h.each_event.0.0))

ended_twice : ¬ IsHistory 1 (add 0 0 [] 0 ∷ []) (Started 0 ∷ Ended 0 ∷ Ended 0 ∷ [])
ended_twice h = absurd (omega (arith, h.each_event.1.1.0.1))

-- what the passes of both callers keep
kept : (rows_of 1 adds ≡ add 1 1 (0 ∷ []) 0 ∷ []) × (kept_row (add 0 2 (1 ∷ []) 5) ≡ (2, 1 ∷ [])) × (kept_of 0 adds ≡ (0, []) ∷ (2, 0 ∷ 1 ∷ 1 ∷ []) ∷ [])
kept = (refl, refl, refl)

-- values are found in the order in which the tasks are named, each as often as it is named
in_order : found (λ t. Some (t + 7)) (1 ∷ 0 ∷ 1 ∷ []) ≡ 8 ∷ 7 ∷ 8 ∷ []
in_order = refl
