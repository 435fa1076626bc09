-- What a task's counts, its value and its inputs are after a change.
use Rattle.std.proofs.Common.{◌≡◌, ◌≢◌, ℕ, zero, suc, ◌+◌, true, false, cond, eqb, List, [], ◌∷◌, ◌++◌, set, Option, Some, None, refl, sym, ap, ◌∙◌, arith}
use Rattle.std.specs.Prelude.{slice_get, sum_by}
use Rattle.std.specs.List.{AllByRecursion}
use Rattle.std.specs.Option.{option_to_list}
use Rattle.std.proofs.lemmas.Bool.Decides.{nat_tests}
use Rattle.std.proofs.lemmas.List.{append-nil, append_assoc}
use Rattle.std.proofs.lemmas.List.Sums.{sum_by-cons, sum_by_push}
use Rattle.std.proofs.lemmas.List.Elements.{filter-append}
use Rattle.journal_rules.proofs.Snoc.{count_by_push}
use Rattle.async_tasks.specs.declared.history.AddRow.{AddRow}
use Rattle.async_tasks.specs.declared.history.TaskEvent.{TaskEvent}
use Rattle.async_tasks.specs.declared.history.TaskEvent.TheVariants.{Started, Ended}
use Rattle.async_tasks.specs.declared.stage.Stage.{Stage}
use Rattle.async_tasks.specs.declared.stage.Stage.TheVariants.{Waiting, Open, Over}
use Rattle.async_tasks.specs.Histories.{is_start_of, is_end_of, times_started, times_ended, rows_of, found}
use Rattle.async_tasks.specs.Books.{value_in, value_at}
use Rattle.async_tasks.specs.inside.Keeps.{StageFits, events_left}
use Rattle.async_tasks.proofs.Lists.{some_same}

-- the counts of tasks, after a start
pub started_here : (events : List TaskEvent) (t : ℕ) → times_started (events ++ Started t ∷ []) t ≡ times_started events t + 1
started_here events t =
    let hit : eqb t t ≡ true = grind (arith, nat_tests) in
    count_by_push (is_start_of t) events (Started t) ∙ ap (λ b. times_started events t + cond b 1 0) hit

pub started_elsewhere : (events : List TaskEvent) (t u : ℕ) → u ≢ t → times_started (events ++ Started u ∷ []) t ≡ times_started events t
started_elsewhere events t u other =
    let miss : eqb u t ≡ false = grind (arith, nat_tests) in
    count_by_push (is_start_of t) events (Started u) ∙ ap (λ b. times_started events t + cond b 1 0) miss ∙ omega arith

pub ended_as_before : (events : List TaskEvent) (t u : ℕ) → times_ended (events ++ Started u ∷ []) t ≡ times_ended events t
ended_as_before events t u = count_by_push (is_end_of t) events (Started u) ∙ omega arith

-- after an end
pub ended_here : (events : List TaskEvent) (t : ℕ) → times_ended (events ++ Ended t ∷ []) t ≡ times_ended events t + 1
ended_here events t =
    let hit : eqb t t ≡ true = grind (arith, nat_tests) in
    count_by_push (is_end_of t) events (Ended t) ∙ ap (λ b. times_ended events t + cond b 1 0) hit

pub ended_elsewhere : (events : List TaskEvent) (t u : ℕ) → u ≢ t → times_ended (events ++ Ended u ∷ []) t ≡ times_ended events t
ended_elsewhere events t u other =
    let miss : eqb u t ≡ false = grind (arith, nat_tests) in
    count_by_push (is_end_of t) events (Ended u) ∙ ap (λ b. times_ended events t + cond b 1 0) miss ∙ omega arith

pub started_as_before : (events : List TaskEvent) (t u : ℕ) → times_started (events ++ Ended u ∷ []) t ≡ times_started events t
started_as_before events t u = count_by_push (is_start_of t) events (Ended u) ∙ omega arith

module _ {V : Type 0} where
  -- what is found depends on the values of the tasks named alone
  pub found_same : (f g : ℕ → Option V) (tasks : List ℕ) → AllByRecursion (λ a. f a ≡ g a) tasks → found f tasks ≡ found g tasks
  found_same f g [] h = refl
  found_same f g (a ∷ tasks) h =
      ap (λ o. option_to_list o ++ found f tasks) h.0 ∙ ap (λ xs. option_to_list (g a) ++ xs) (found_same f g tasks h.1)

  pub all_same : (f g : ℕ → Option V) (tasks : List ℕ) → ((a : ℕ) → f a ≡ g a) → AllByRecursion (λ a. f a ≡ g a) tasks
  all_same f g [] h = tt
  all_same f g (a ∷ tasks) h = (h a, all_same f g tasks h)

  pub found_push : (f : ℕ → Option V) (tasks : List ℕ) (a : ℕ) → found f (tasks ++ a ∷ []) ≡ found f tasks ++ found f (a ∷ [])
  found_push f [] a = refl
  found_push f (b ∷ tasks) a = ap (λ xs. option_to_list (f b) ++ xs) (found_push f tasks a) ∙ sym (append_assoc (option_to_list (f b)) (found f tasks) (found f (a ∷ [])))

  -- values, after a new task, a start or an end
  pub value_push : (stages : List (Stage V)) (t : ℕ) → value_at (stages ++ Waiting ∷ []) t ≡ value_at stages t
  value_push [] zero = refl
  value_push [] (suc t) = refl
  value_push (s ∷ ss) zero = refl
  value_push (s ∷ ss) (suc t) = value_push ss t

  pub value_opened : (stages : List (Stage V)) (k t : ℕ) → slice_get stages k ≡ Some Waiting → value_at (set stages k Open) t ≡ value_at stages t
  value_opened [] k t at = refl
  value_opened (s ∷ ss) zero zero at = sym (ap value_in at)
  value_opened (s ∷ ss) zero (suc t) at = refl
  value_opened (s ∷ ss) (suc k) zero at = refl
  value_opened (s ∷ ss) (suc k) (suc t) at = value_opened ss k t at

  -- a fact of each task's stage, after a new task
  pub staged_push : (F : Option (Stage V) → Type 0) (stages : List (Stage V)) (t : ℕ) → (F None → F (Some Waiting)) → F (slice_get stages t) → F (slice_get (stages ++ Waiting ∷ []) t)
  staged_push F [] zero step h = step h
  staged_push F [] (suc t) step h = h
  staged_push F (s ∷ ss) zero step h = h
  staged_push F (s ∷ ss) (suc t) step h = staged_push F ss t step h

  -- a task that has a value ended
  pub ended_of_value : (events : List TaskEvent) (t : ℕ) (o : Option (Stage V)) (v : V) → StageFits events t o → value_in o ≡ Some v → times_ended events t ≡ 1
  ended_of_value events t None v h is = absurd (cc)
  ended_of_value events t (Some Waiting) v h is = absurd (cc)
  ended_of_value events t (Some Open) v h is = absurd (cc)
  ended_of_value events t (Some (Over value)) v h is = h.1

  pub started_of_value : (events : List TaskEvent) (t : ℕ) (o : Option (Stage V)) (v : V) → StageFits events t o → value_in o ≡ Some v → times_started events t ≡ 1
  started_of_value events t None v h is = absurd (cc)
  started_of_value events t (Some Waiting) v h is = absurd (cc)
  started_of_value events t (Some Open) v h is = absurd (cc)
  started_of_value events t (Some (Over value)) v h is = h.0

-- the events to come, after a new task and after a change of one
module _ {V : Type 0} where
  pub left_push : (stages : List (Stage V)) → sum_by events_left (stages ++ Waiting ∷ []) ≡ sum_by events_left stages + 2
  left_push stages = sum_by_push events_left stages Waiting

  pub left_set : (stages : List (Stage V)) (k : ℕ) (old new : Stage V) → slice_get stages k ≡ Some old → sum_by events_left (set stages k new) + events_left old ≡ sum_by events_left stages + events_left new
  left_set [] k old new at = absurd (cc)
  left_set (s ∷ ss) zero old new at = let same = ap events_left (some_same at) in omega (arith, sum_by-cons events_left s ss, sum_by-cons events_left new ss)
  left_set (s ∷ ss) (suc k) old new at = let rest = left_set ss k old new at in omega (arith, sum_by-cons events_left s ss, sum_by-cons events_left s (set ss k new))

-- the rows of a caller, after an add of another
pub rows_of_other : (caller : ℕ) (rows : List AddRow) (row : AddRow) → row.caller ≢ caller → rows_of caller (rows ++ row ∷ []) ≡ rows_of caller rows
rows_of_other caller rows row other =
    let miss : eqb row.caller caller ≡ false = grind (arith, nat_tests) in
    filter-append (λ (r : AddRow). eqb r.caller caller) rows (row ∷ []) ∙ ap (λ b. rows_of caller rows ++ cond b (row ∷ []) []) miss ∙ append-nil (rows_of caller rows)
