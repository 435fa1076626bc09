-- An add keeps what holds of a book.
use Rattle.std.proofs.Common.{◌≡◌, ◌≢◌, ◌⊎◌, inl, inr, ℕ, ◌<◌, ◌≤◌, Bool, true, false, cond, List, [], ◌∷◌, ◌++◌, length, map, Option, Some, None, refl, sym, ap, ◌∙◌, subst, arith}
use Rattle.std.specs.Prelude.{slice_get, IsSomeAnd, nat_le}
use Rattle.std.specs.Arc.{arc_value}
use Rattle.std.specs.List.{AllByRecursion}
use Rattle.std.proofs.lemmas.Bool.{cases_lt}
use Rattle.std.proofs.lemmas.Bool.Decides.{nat_tests}
use Rattle.std.proofs.lemmas.List.{length_push, append_assoc}
use Rattle.journal_rules.proofs.Snoc.{EachAfter-push}
use Rattle.atomic_table.specs.Seated.{TableId}
use Rattle.async_tasks.specs.declared.history.AddRow.{AddRow}
use Rattle.async_tasks.specs.declared.history.TaskEvent.{TaskEvent}
use Rattle.async_tasks.specs.declared.history.TaskEvent.TheVariants.{Started, Ended}
use Rattle.async_tasks.specs.declared.outstanding.Outstanding.{Outstanding}
use Rattle.async_tasks.specs.declared.outstanding.Outstanding.TheVariants.{Pass, Running, Recorded}
use Rattle.async_tasks.specs.declared.stage.Stage.{Stage}
use Rattle.async_tasks.specs.declared.stage.Stage.TheVariants.{Waiting, Open}
use Rattle.async_tasks.specs.Histories.{times_started, AllEnded, RowRule, EventRule, IsHistory, found}
use Rattle.async_tasks.specs.Books.{BookHistory, book_history, value_in, value_at, caller_of, NothingOut}
use Rattle.async_tasks.specs.Adds.{task_limit, first_unseen, next_row, with_add}
use Rattle.async_tasks.specs.inside.Keeps.{StageFits, ItemFits, KeepsBook}
use Rattle.async_tasks.proofs.Lists.{get_push_cases, get_in_range, get_past_end, get_kept, some_kept, all_push, each_map}
use Rattle.async_tasks.proofs.Telling.{left_push, found_same, all_same, value_push, staged_push, rows_of_other}

-- what may happen goes on to be allowed
rule_kept : (rows : List AddRow) (row : AddRow) (events : List TaskEvent) (event : TaskEvent) → EventRule rows events event → EventRule (rows ++ row ∷ []) events event
rule_kept rows row events (Started t) h = (h.0, some_kept (λ (r : AddRow). (r.place ≤ length events) × AllEnded events r.after) rows row t h.1)
rule_kept rows row events (Ended t) h = h

module _ {W V : Type 0} (answers : W → List V → V → Type 0) (book : BookHistory W V) (caller : ℕ) (work : W) (after : List ℕ) where
  abbrev row : AddRow
  row = next_row book caller after

  abbrev more : BookHistory W V
  more = with_add book caller work after

  found_kept : (tasks : List ℕ) → found (value_at book.stages) tasks ≡ found (value_at more.stages) tasks
  found_kept tasks = found_same (value_at book.stages) (value_at more.stages) tasks (all_same (value_at book.stages) (value_at more.stages) tasks (λ a. sym (value_push book.stages a)))

  history_kept : IsHistory book.callers book.rows book.events → caller < book.callers → AllByRecursion (λ a. a < length book.rows) after → IsHistory more.callers more.rows more.events
  history_kept h below named = record {
    each_row = EachAfter-push (RowRule book.callers) book.rows row h.each_row (record { id = refl; caller = below; after = named; rising = h.places });
    places = all_push (λ (r : AddRow). r.place ≤ length book.events) book.rows row h.places (omega arith);
    each_event = each_map (EventRule book.rows) (EventRule more.rows) [] book.events (λ before event. rule_kept book.rows row before event) h.each_event;
  }

  -- the new task isn't started
  not_started : KeepsBook answers book → times_started book.events (length book.rows) ≡ 0
  not_started h = (subst (StageFits book.events (length book.rows)) (get_past_end book.stages (length book.rows) (omega (arith, h.stage_count))) (h.staged (length book.rows))).0

  no_value : KeepsBook answers book → value_at more.stages (length book.rows) ≡ None
  no_value h = value_push book.stages (length book.rows) ∙ ap value_in (get_past_end book.stages (length book.rows) (omega (arith, h.stage_count)))

  inputs_kept : KeepsBook answers book → (t : ℕ) (r : AddRow) → slice_get more.rows t ≡ Some r → times_started book.events t ≡ 1 → AllEnded book.events r.after
  inputs_kept h t r at started = by_place (get_push_cases book.rows row r t at)
    where
      by_place : (slice_get book.rows t ≡ Some r) ⊎ ((t ≡ length book.rows) × (row ≡ r)) → AllEnded book.events r.after
      by_place (inl old) = h.inputs t r old started
      by_place (inr last) =
          let none : times_started book.events t ≡ 0 = ap (times_started book.events) last.0 ∙ not_started h in
          absurd (omega arith)

  values_kept : KeepsBook answers book → (t : ℕ) (r : AddRow) (w : W) (v : V) → slice_get more.rows t ≡ Some r → slice_get more.works t ≡ Some w → value_at more.stages t ≡ Some v → answers w (found (value_at more.stages) r.after) v
  values_kept h t r w v at_row at_work at_value = by_place (get_push_cases book.rows row r t at_row) (get_push_cases book.works work w t at_work)
    where
      by_place : (slice_get book.rows t ≡ Some r) ⊎ ((t ≡ length book.rows) × (row ≡ r)) → (slice_get book.works t ≡ Some w) ⊎ ((t ≡ length book.works) × (work ≡ w)) → answers w (found (value_at more.stages) r.after) v
      by_place (inl old) (inl had) = subst (λ ins. answers w ins v) (found_kept r.after) (h.values t r w v old had (sym (value_push book.stages t) ∙ at_value))
      by_place (inl old) (inr last) =
          let below = get_in_range book.rows t r old in
          let count = h.work_count in
          let here = last.0 in
          absurd (omega arith)
      by_place (inr last) had =
          let none : value_at more.stages t ≡ None = ap (value_at more.stages) last.0 ∙ no_value h in
          absurd (cc)

  item_kept : KeepsBook answers book → NothingOut (caller_of caller) book.items → (n : ℕ) (item : Outstanding W V) → slice_get book.items n ≡ Some (Some item) → ItemFits book item → ItemFits more item
  item_kept h none n (Pass c seen) at fits = (
    (fits.0.0 ++ row ∷ [], ap (λ rs. rs ++ row ∷ []) fits.0.1 ∙ append_assoc seen.value.items fits.0.0 (row ∷ [])),
    rows_of_other c book.rows row (λ same. none n (Pass c seen) at (sym (ap caller_of same))) ∙ fits.1,
  )
  item_kept h none n (Recorded t place) at fits = fits
  item_kept h none n (Running t w ins) at fits = (
    get_kept book.stages Waiting Open t fits.0,
    get_kept book.works work (arc_value w.value) t fits.1,
    some_kept (λ (r : AddRow). map arc_value ins.value ≡ found (value_at more.stages) r.after) book.rows row t
        (more_found (slice_get book.rows t) fits.2),
  )
    where
      more_found : (o : Option AddRow) → IsSomeAnd o (λ (r : AddRow). map arc_value ins.value ≡ found (value_at book.stages) r.after) → IsSomeAnd o (λ (r : AddRow). map arc_value ins.value ≡ found (value_at more.stages) r.after)
      more_found None h = h
      more_found (Some r) h = h ∙ found_kept r.after

  pub keeps_add : KeepsBook answers book → caller < book.callers → length book.rows < task_limit → AllByRecursion (λ a. a < length book.rows) after → NothingOut (caller_of caller) book.items → KeepsBook answers more
  keeps_add h below room named none = record {
    history = history_kept h.history below named;
    row_count = omega (arith, length_push book.rows row);
    work_count = omega (arith, length_push book.rows row, length_push book.works work, h.work_count);
    stage_count = omega (arith, length_push book.rows row, length_push book.stages Waiting, h.stage_count);
    event_count = omega (arith, length_push book.rows row, left_push book.stages, h.event_count);
    staged = λ t. staged_push (StageFits book.events t) book.stages t (λ fits. fits) (h.staged t);
    inputs = inputs_kept h;
    values = values_kept h;
    fits = λ n item at. item_kept h none n item at (h.fits n item at);
    once = h.once;
  }

-- tasks of which none is unseen are below the number
pub all_below : (count : ℕ) (after : List ℕ) → first_unseen count after ≡ None → AllByRecursion (λ a. a < count) after
all_below count [] none = tt
all_below count (a ∷ after) none = by_test (nat_le count a) refl none (λ rest. all_below count after rest)
  where
    by_test : (b : Bool) → nat_le count a ≡ b → cond b (Some a) (first_unseen count after) ≡ None → (first_unseen count after ≡ None → AllByRecursion (λ x. x < count) after) → AllByRecursion (λ x. x < count) (a ∷ after)
    by_test true is found rest = absurd (cc)
    by_test false is found rest = (grind (arith, nat_tests), rest found)

-- An add keeps what holds of a book, by its parts.
pub added : {W V : Type 0} (answers : W → List V → V → Type 0) (register : TableId) (callers : ℕ) (rows rows' : List AddRow) (events events' : List TaskEvent) (works works' : List W) (stages stages' : List (Stage V)) (items : List (Option (Outstanding W V)))
    (caller : ℕ) (work : W) (after : List ℕ) (row : AddRow) →
    KeepsBook answers (book_history register callers rows events works stages items) →
    caller < callers → length rows ≢ task_limit → first_unseen (length rows) after ≡ None → NothingOut (caller_of caller) items →
    row ≡ record { caller = caller; id = length rows; after = after; place = length events } →
    rows' ≡ rows ++ row ∷ [] → events' ≡ events → works' ≡ works ++ work ∷ [] → stages' ≡ stages ++ Waiting ∷ [] →
    KeepsBook answers (book_history register callers rows' events' works' stages' items)
added {W} {V} answers register callers rows rows' events events' works works' stages stages' items caller work after row h below room none out same_row same_rows same_events same_works same_stages =
    rw (same_rows, same_events, same_works, same_stages, same_row)
    (keeps_add answers (book_history register callers rows events works stages items) caller work after h below fewer (all_below (length rows) after none) out)
  where
    fewer : length rows < task_limit
    fewer = by_order (cases_lt (length rows) task_limit)
      where
        by_order : (length rows < task_limit) ⊎ (task_limit ≤ length rows) → length rows < task_limit
        by_order (inl less) = less
        by_order (inr past) = let most : length rows ≤ task_limit = h.row_count in absurd (room (let e : length rows ≡ task_limit = omega arith in e))
