-- What an add, a start and an end of a book of tasks change, what may be started, and what is refused.
use Rattle.std.proofs.Common.{◌≡◌, ◌≢◌, ℕ, List, [], ◌∷◌, ◌++◌, Some, None, refl, ap, arith}
use Rattle.std.specs.Arc.{arc_value}
use Rattle.std.specs.declared.alloc.Global.{Global}
use Rattle.std.specs.declared.sync.Arc.{Arc}
use Rattle.atomic_table.specs.Seated.{TableId}
use Rattle.async_tasks.specs.declared.history.AddRow.{AddRow}
use Rattle.async_tasks.specs.declared.history.TaskEvent.{TaskEvent}
use Rattle.async_tasks.specs.declared.history.TaskEvent.TheVariants.{Started, Ended}
use Rattle.async_tasks.specs.declared.stage.Stage.{Stage}
use Rattle.async_tasks.specs.declared.stage.Stage.TheVariants.{Waiting, Open, Over}
use Rattle.async_tasks.specs.declared.state.AddError.TheVariants.{NoSuch, Full, NoMemory}
use Rattle.async_tasks.specs.Books.{BookHistory, book_history, book_key, key_of, value_at}
use Rattle.async_tasks.specs.Adds.{task_limit, after_limit, first_unseen, next_row, with_add, RefusesAdd, CanStart, HasNoEnd, with_start, with_end, with_items, StartsTask, EndsTask}
use Rattle.async_tasks.specs.Starts.{open_start}
use Rattle.library_claims.proofs.WorkedHistories.{add}

limits : (task_limit ≡ 100000) × (after_limit ≡ 64)
limits = (refl, refl)

-- the first task named that isn't there
unseen : (first_unseen 3 (0 ∷ 3 ∷ 5 ∷ []) ≡ Some 3) × (first_unseen 3 (2 ∷ 0 ∷ []) ≡ None)
unseen = (refl, refl)

-- A book of two tasks and a third after both: the first has ended with the value of a, and the second is open.
module _ (r : TableId) (a b : Arc ℕ Global) where
  abbrev rows : List AddRow
  rows = add 0 0 [] 0 ∷ add 1 1 [] 0 ∷ add 0 2 (0 ∷ 1 ∷ []) 1 ∷ []

  abbrev book_at : List TaskEvent → List (Stage ℕ) → BookHistory ℕ ℕ
  book_at events stages = book_history r 2 rows events (5 ∷ 6 ∷ 7 ∷ []) stages []

  abbrev events : List TaskEvent
  events = Started 0 ∷ Started 1 ∷ Ended 0 ∷ []

  abbrev book : BookHistory ℕ ℕ
  book = book_at events (Over a ∷ Open ∷ Waiting ∷ [])

  -- the same with the second over
  abbrev later : BookHistory ℕ ℕ
  later = book_at (events ++ Ended 1 ∷ []) (Over a ∷ Over b ∷ Waiting ∷ [])

  its_key : key_of book ≡ book_key r 2
  its_key = refl

  its_values : (value_at book.stages 0 ≡ Some (arc_value a)) × (value_at book.stages 1 ≡ None) × (value_at book.stages 2 ≡ None) × (value_at book.stages 3 ≡ None)
  its_values = (refl, refl, refl, refl)

  -- an add puts its row behind the others, with its number and how many events there were
  added : (next_row book 1 (2 ∷ []) ≡ add 1 3 (2 ∷ []) 3)
      × (with_add book 1 8 (2 ∷ []) ≡ book_history r 2 (rows ++ add 1 3 (2 ∷ []) 3 ∷ []) events (5 ∷ 6 ∷ 7 ∷ 8 ∷ []) (Over a ∷ Open ∷ Waiting ∷ Waiting ∷ []) [])
  added = (refl, refl)

  -- a start and an end change the events and one stage
  changed : (with_start later 2 ≡ book_at (events ++ Ended 1 ∷ Started 2 ∷ []) (Over a ∷ Over b ∷ Open ∷ []))
      × (with_end book 1 b ≡ later) × (with_items book (None ∷ []) ≡ book_history r 2 rows events (5 ∷ 6 ∷ 7 ∷ []) book.stages (None ∷ []))
  changed = (refl, refl, refl)

  -- which tasks may start, and which have no end
  may_start : CanStart later 2
  may_start = (refl, (refl, (refl, tt)))

  one_is_open : ¬ CanStart book 2
  one_is_open can = absurd (omega (arith, can.1.1.0))

  was_started : ¬ CanStart book 1
  was_started can = absurd (omega (arith, can.0))

  not_there : ¬ CanStart book 3
  not_there can = absurd can.1

  without_end : HasNoEnd book 1 × HasNoEnd book 2 × ¬ HasNoEnd book 0 × ¬ HasNoEnd book 3
  without_end = ((omega arith, refl), (omega arith, refl), (λ h. absurd (omega (arith, h.1))), (λ h. let e = h.0 in absurd (omega arith)))

  -- a start that is told rightly, and others that differ in one thing
  abbrev began : BookHistory ℕ ℕ
  began = with_start later 2

  starts : StartsTask later 2 began (open_start r 2 7 (arc_value a ∷ arc_value b ∷ []))
  starts = record { could = may_start; register = refl; number = refl; work = refl; ins = refl; book = refl }

  starts_too_early : ¬ StartsTask book 2 (with_start book 2) (open_start r 2 7 (arc_value a ∷ arc_value b ∷ []))
  starts_too_early h = one_is_open h.could

  starts_elsewhere : (s : TableId) → s ≢ r → ¬ StartsTask later 2 began (open_start s 2 7 (arc_value a ∷ arc_value b ∷ []))
  starts_elsewhere s other h = other h.register

  starts_another : ¬ StartsTask later 2 began (open_start r 1 7 (arc_value a ∷ arc_value b ∷ []))
  starts_another h = absurd (omega (arith, h.number))

  starts_other_work : ¬ StartsTask later 2 began (open_start r 2 6 (arc_value a ∷ arc_value b ∷ []))
  starts_other_work h = let e = h.work in absurd (cc)

  starts_with_one_input : ¬ StartsTask later 2 began (open_start r 2 7 (arc_value a ∷ []))
  starts_with_one_input h = let e = h.ins in absurd (cc)

  starts_nothing : ¬ StartsTask later 2 later (open_start r 2 7 (arc_value a ∷ arc_value b ∷ []))
  starts_nothing h = let e = ap (λ (n : BookHistory ℕ ℕ). n.events) h.book in absurd (cc)

  -- an end that is told rightly, and others
  ends : EndsTask book (open_start r 1 6 []) b later
  ends = record { was_started = refl; not_ended = refl; work = refl; book = refl }

  ends_what_waits : ¬ EndsTask book (open_start r 2 7 []) b (with_end book 2 b)
  ends_what_waits h = absurd (omega (arith, h.was_started))

  ends_what_ended : ¬ EndsTask book (open_start r 0 5 []) b (with_end book 0 b)
  ends_what_ended h = absurd (omega (arith, h.not_ended))

  ends_other_work : ¬ EndsTask book (open_start r 1 7 []) b later
  ends_other_work h = let e = h.work in absurd (cc)

  ends_nothing : ¬ EndsTask book (open_start r 1 6 []) b book
  ends_nothing h = let e = ap (λ (n : BookHistory ℕ ℕ). n.events) h.book in absurd (cc)

-- Why an add is refused: a full book comes first, then the first task that isn't there, and then only memory.
module _ (work other : Arc ℕ Global) (differs : other ≢ work) where
  refused : RefusesAdd 3 work (0 ∷ 4 ∷ 3 ∷ []) (NoSuch work 4 3) × RefusesAdd 100000 work (100000 ∷ []) (Full work 100000) × RefusesAdd 3 work (2 ∷ []) (NoMemory work)
  refused = ((refl, omega arith, refl, refl), (refl, refl, refl), (refl, omega arith, refl))

  refused_by_the_second : ¬ RefusesAdd 3 work (4 ∷ 3 ∷ []) (NoSuch work 3 3)
  refused_by_the_second h = let e = h.2 in absurd (cc)

  refused_with_another_count : ¬ RefusesAdd 3 work (3 ∷ []) (NoSuch work 3 4)
  refused_with_another_count h = absurd (omega (arith, h.3))

  refused_though_full : ¬ RefusesAdd 100000 work (100000 ∷ []) (NoSuch work 100000 100000)
  refused_though_full h = let e = h.1 in absurd (omega arith)

  full_too_early : ¬ RefusesAdd 99999 work [] (Full work 100000)
  full_too_early h = let e = h.2 in absurd (omega arith)

  full_with_another_count : ¬ RefusesAdd 100000 work [] (Full work 99999)
  full_with_another_count h = let e = h.1 in absurd (omega arith)

  memory_before_what_is_named : ¬ RefusesAdd 3 work (3 ∷ []) (NoMemory work)
  memory_before_what_is_named h = let e = h.2 in absurd (cc)

  memory_though_full : ¬ RefusesAdd 100000 work [] (NoMemory work)
  memory_though_full h = let e = h.1 in absurd (omega arith)

  other_work_back : ¬ RefusesAdd 3 work (3 ∷ []) (NoSuch other 3 3) × ¬ RefusesAdd 100000 work [] (Full other 100000) × ¬ RefusesAdd 3 work [] (NoMemory other)
  other_work_back = ((λ h. differs h.0), (λ h. differs h.0), (λ h. differs h.0))
