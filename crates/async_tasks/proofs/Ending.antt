-- An end keeps what holds of a book.
use Rattle.std.proofs.Common.{◌≡◌, ◌≢◌, ◌⊎◌, inl, inr, ℕ, ◌+◌, ◌<◌, ◌≤◌, List, [], ◌∷◌, ◌++◌, length, map, set, Option, Some, None, refl, sym, ap, ◌∙◌, subst, arith, length-set}
use Rattle.std.specs.Prelude.{slice_get, IsSomeAnd, IfSome}
use Rattle.std.specs.Arc.{arc_value}
use Rattle.std.specs.declared.alloc.Global.{Global}
use Rattle.std.specs.declared.sync.Arc.{Arc}
use Rattle.std.proofs.lemmas.Bool.{cases_eq}
use Rattle.std.proofs.lemmas.List.{length_push}
use Rattle.journal_rules.proofs.Snoc.{EachAfter-push}
use Rattle.async_tasks.specs.declared.history.AddRow.{AddRow}
use Rattle.async_tasks.specs.declared.history.TaskEvent.{TaskEvent}
use Rattle.async_tasks.specs.declared.history.TaskEvent.TheVariants.{Ended}
use Rattle.async_tasks.specs.declared.outstanding.Outstanding.{Outstanding}
use Rattle.async_tasks.specs.declared.outstanding.Outstanding.TheVariants.{Pass, Running, Recorded}
use Rattle.async_tasks.specs.declared.stage.Stage.{Stage}
use Rattle.async_tasks.specs.declared.stage.Stage.TheVariants.{Waiting, Open, Over}
use Rattle.async_tasks.specs.Histories.{times_started, times_ended, AllEnded, EventRule, IsHistory, found}
use Rattle.async_tasks.specs.Books.{BookHistory, book_history, value_in, value_at, holder_of, task_of, end_at, NothingOut}
use Rattle.async_tasks.specs.Adds.{with_end, with_items, EndsTask}
use Rattle.async_tasks.specs.Starts.{OpenStart, IsTicketFor, open_start, EndRecord, IsEndAt, IsAfter}
use Rattle.atomic_table.specs.Seated.{TableId}
use Rattle.async_tasks.specs.inside.Keeps.{StageFits, ItemFits, KeepsBook, HasEventRoom}
use Rattle.async_tasks.proofs.Lists.{some_same, get_kept, get_at_end, get_in_range, get_set_same, get_set_other, some_at, all_map}
use Rattle.async_tasks.proofs.Issuing.{keeps_redeem, keeps_issue, nothing_left}
use Rattle.async_tasks.proofs.Telling.{left_set, found_same, started_as_before, ended_here, ended_elsewhere, started_of_value}

module _ {W V : Type 0} (answers : W → List V → V → Type 0) (book : BookHistory W V) (t : ℕ) (work : W) (ins : List V) (value : Arc V Global) where
  abbrev more : BookHistory W V
  more = with_end book t value

  module _ (h : KeepsBook answers book) (running : slice_get book.stages t ≡ Some Open) (has_work : slice_get book.works t ≡ Some work) (has_ins : IsSomeAnd (slice_get book.rows t) (λ (r : AddRow). ins ≡ found (value_at book.stages) r.after)) (none : NothingOut (task_of t) book.items) (answered : answers work ins (arc_value value)) where
    one_start : times_started book.events t ≡ 1
    one_start = (subst (StageFits book.events t) running (h.staged t)).0

    no_end : times_ended book.events t ≡ 0
    no_end = (subst (StageFits book.events t) running (h.staged t)).1

    -- what a task that is started found, it finds still
    found_kept : (tasks : List ℕ) → AllEnded book.events tasks → found (value_at book.stages) tasks ≡ found (value_at more.stages) tasks
    found_kept tasks ended = found_same (value_at book.stages) (value_at more.stages) tasks
        (all_map (λ a. times_ended book.events a ≡ 1) (λ a. value_at book.stages a ≡ value_at more.stages a) tasks
        (λ a one. sym (ap value_in (get_set_other book.stages t a (Over value) (λ same. absurd (let e : times_ended book.events a ≡ 0 = ap (times_ended book.events) same ∙ no_end in omega arith))))) ended)

    history_kept : IsHistory more.callers more.rows more.events
    history_kept = record {
      each_row = h.history.each_row;
      places = all_map (λ (r : AddRow). r.place ≤ length book.events) (λ (r : AddRow). r.place ≤ length more.events) book.rows (λ r le. omega (arith, length_push book.events (Ended t))) h.history.places;
      each_event = EachAfter-push (EventRule book.rows) book.events (Ended t) h.history.each_event (one_start, no_end);
    }

    staged_kept : (u : ℕ) → StageFits more.events u (slice_get more.stages u)
    staged_kept u = by_case (cases_eq t u)
      where
        as_before : (o : Option (Stage V)) → t ≢ u → StageFits book.events u o → StageFits more.events u o
        as_before None other fits = (started_as_before book.events u t ∙ fits.0, ended_elsewhere book.events u t other ∙ fits.1)
        as_before (Some Waiting) other fits = (started_as_before book.events u t ∙ fits.0, ended_elsewhere book.events u t other ∙ fits.1)
        as_before (Some Open) other fits = (started_as_before book.events u t ∙ fits.0, ended_elsewhere book.events u t other ∙ fits.1)
        as_before (Some (Over v)) other fits = (started_as_before book.events u t ∙ fits.0, ended_elsewhere book.events u t other ∙ fits.1)

        by_case : (t ≡ u) ⊎ (t ≢ u) → StageFits more.events u (slice_get more.stages u)
        by_case (inl same) = subst (λ k. StageFits more.events k (slice_get more.stages k)) same
            (subst (StageFits more.events t) (sym (get_set_same book.stages t Open (Over value) running))
            (started_as_before book.events t t ∙ one_start, ended_here book.events t ∙ ap (λ n. n + 1) no_end))
        by_case (inr other) = subst (StageFits more.events u) (sym (get_set_other book.stages t u (Over value) (λ e. other (sym e)))) (as_before (slice_get book.stages u) other (h.staged u))

    all_ended : (tasks : List ℕ) → AllEnded book.events tasks → AllEnded more.events tasks
    all_ended tasks ended = all_map (λ a. times_ended book.events a ≡ 1) (λ a. times_ended more.events a ≡ 1) tasks one_still ended
      where
        one_still : (a : ℕ) → times_ended book.events a ≡ 1 → times_ended more.events a ≡ 1
        one_still a one = ended_elsewhere book.events a t (λ same. absurd (let e : times_ended book.events a ≡ 0 = ap (times_ended book.events) (sym same) ∙ no_end in omega arith)) ∙ one

    inputs_before : (u : ℕ) (r : AddRow) → slice_get book.rows u ≡ Some r → times_started more.events u ≡ 1 → AllEnded book.events r.after
    inputs_before u r at_row started = h.inputs u r at_row (sym (started_as_before book.events u t) ∙ started)

    values_kept : (u : ℕ) (r : AddRow) (w : W) (v : V) → slice_get book.rows u ≡ Some r → slice_get book.works u ≡ Some w → value_at more.stages u ≡ Some v → answers w (found (value_at more.stages) r.after) v
    values_kept u r w v at_row at_work at_value = by_case (cases_eq t u)
      where
        started : times_started book.events u ≡ 1
        started = sym (started_as_before book.events u t) ∙ started_of_value more.events u (slice_get more.stages u) v (staged_kept u) at_value

        its_inputs : found (value_at book.stages) r.after ≡ found (value_at more.stages) r.after
        its_inputs = found_kept r.after (h.inputs u r at_row started)

        by_case : (t ≡ u) ⊎ (t ≢ u) → answers w (found (value_at more.stages) r.after) v
        by_case (inr other) = subst (λ xs. answers w xs v) its_inputs (h.values u r w v at_row at_work (sym (ap value_in (get_set_other book.stages t u (Over value) (λ e. other (sym e)))) ∙ at_value))
        by_case (inl same) =
            let same_work : work ≡ w = some_same (sym has_work ∙ ap (slice_get book.works) same ∙ at_work) in
            let new_value : Some (arc_value value) ≡ Some v = sym (ap value_in (get_set_same book.stages t Open (Over value) running)) ∙ ap (value_at more.stages) same ∙ at_value in
            let same_ins : ins ≡ found (value_at book.stages) r.after = some_at (λ (q : AddRow). ins ≡ found (value_at book.stages) q.after) (slice_get book.rows t) r (ap (slice_get book.rows) same ∙ at_row) has_ins in
            subst (λ xs. answers w xs v) (same_ins ∙ its_inputs) (subst (λ x. answers w ins x) (some_same new_value) (subst (λ x. answers x ins (arc_value value)) same_work answered))

    item_kept : (n : ℕ) (item : Outstanding W V) → slice_get book.items n ≡ Some (Some item) → ItemFits book item → ItemFits more item
    item_kept n (Pass c seen) at_item fits = fits
    item_kept n (Recorded u place) at_item fits = get_kept book.events (Ended t) (Ended u) place fits
    item_kept n (Running u w found_ins) at_item fits =
        (get_set_other book.stages t u (Over value) other ∙ fits.0, fits.1, more_found (slice_get book.rows u) refl fits.2)
      where
        other : u ≢ t
        other same = none n (Running u w found_ins) at_item (ap task_of same)

        started : times_started book.events u ≡ 1
        started = (subst (StageFits book.events u) fits.0 (h.staged u)).0

        more_found : (o : Option AddRow) → slice_get book.rows u ≡ o → IsSomeAnd o (λ (r : AddRow). map arc_value found_ins.value ≡ found (value_at book.stages) r.after) → IsSomeAnd o (λ (r : AddRow). map arc_value found_ins.value ≡ found (value_at more.stages) r.after)
        more_found None is g = g
        more_found (Some r) is g = g ∙ found_kept r.after (h.inputs u r is started)

    pub keeps_end : KeepsBook answers more
    keeps_end = record {
      history = history_kept;
      row_count = h.row_count;
      work_count = h.work_count;
      stage_count = length-set book.stages t (Over value) ∙ h.stage_count;
      event_count = omega (arith, length_push book.events (Ended t), left_set book.stages t Open (Over value) running, h.event_count);
      staged = staged_kept;
      inputs = λ u r at_row started. all_ended r.after (inputs_before u r at_row started);
      values = values_kept;
      fits = λ n item at_item. item_kept n item at_item (h.fits n item at_item);
      once = h.once;
    }

-- nothing is outstanding for the end that comes next
none_recorded : {W V : Type 0} (answers : W → List V → V → Type 0) (book : BookHistory W V) → KeepsBook answers book → NothingOut (end_at (length book.events)) book.items
none_recorded answers book h n (Pass c seen) at same = absurd (cc)
none_recorded answers book h n (Running u w ins) at same = absurd (cc)
none_recorded answers book h n (Recorded u place) at same =
    let below = get_in_range book.events place (Ended u) (h.fits n (Recorded u place) at) in
    let here = same_place same in
    absurd (omega (arith, below, here))
  where
    same_place : end_at place ≡ end_at (length book.events) → place ≡ length book.events
    same_place e = cc

-- An end keeps what holds of a book, by its parts.
module _ {W V : Type 0} (answers : W → List V → V → Type 0) (register : TableId) (callers : ℕ) (rows : List AddRow) (events : List TaskEvent) (works : List W) (stages : List (Stage V)) (items : List (Option (Outstanding W V))) where
  abbrev book : BookHistory W V
  book = book_history register callers rows events works stages items

  -- the start of an outstanding ticket is open, with its work and its inputs
  pub record HasOpen (t : ℕ) (w : W) (ins : List V) : Type 0 where
    pub running : slice_get stages t ≡ Some Open
    pub has_work : slice_get works t ≡ Some w
    pub has_ins : IsSomeAnd (slice_get rows t) (λ (r : AddRow). ins ≡ found (value_at stages) r.after)

  pub is_open : (t : ℕ) (w : W) (ins : List V) (n : ℕ) (item : Outstanding W V) → KeepsBook answers book → slice_get items n ≡ Some (Some item) → IsTicketFor t w ins item → HasOpen t w ins
  is_open t w ins n (Pass c seen) h at is = absurd is
  is_open t w ins n (Recorded u place) h at is = absurd is
  is_open t w ins n (Running u work values) h at is =
      let fits = h.fits n (Running u work values) at in
      record {
        running = ap (slice_get stages) (sym is.0) ∙ fits.0;
        has_work = ap (slice_get works) (sym is.0) ∙ fits.1 ∙ ap Some is.1;
        has_ins = subst (λ k. IsSomeAnd (slice_get rows k) (λ (r : AddRow). ins ≡ found (value_at stages) r.after)) is.0
            (subst (λ xs. IsSomeAnd (slice_get rows u) (λ (r : AddRow). xs ≡ found (value_at stages) r.after)) is.2 fits.2);
      }

  ticket_holder : (t : ℕ) (w : W) (ins : List V) (item : Outstanding W V) → IsTicketFor t w ins item → holder_of item ≡ task_of t
  ticket_holder t w ins (Pass c seen) is = absurd is
  ticket_holder t w ins (Recorded u place) is = absurd is
  ticket_holder t w ins (Running u work values) is = ap task_of is.0

  pub ended : (events' : List TaskEvent) (stages' : List (Stage V)) (items' : List (Option (Outstanding W V))) (t : ℕ) (w : W) (ins : List V) (value : Arc V Global) (n : ℕ) (item : Outstanding W V) (place : ℕ) →
      KeepsBook answers book → slice_get items n ≡ Some (Some item) → IsTicketFor t w ins item → answers w ins (arc_value value) →
      events' ≡ events ++ Ended t ∷ [] → stages' ≡ set stages t (Over value) → items' ≡ set items n None ++ Some (Recorded t place) ∷ [] → place ≡ length events →
      KeepsBook answers (book_history register callers rows events' works stages' items')
  ended events' stages' items' t w ins value n item place h at is answered same_events same_stages same_items same_place =
      let o = is_open t w ins n item h at is in
      let left = keeps_redeem answers book n h in
      rw (same_events, same_stages, same_items, same_place)
      (keeps_issue answers (with_end (with_items book (set items n None)) t value) (Recorded t (length events))
      (keeps_end answers (with_items book (set items n None)) t w ins value left o.running o.has_work o.has_ins
      (subst (λ holder. NothingOut holder (set items n None)) (ticket_holder t w ins item is) (nothing_left items n item h.once at)) answered)
      (get_at_end events (Ended t)) (none_recorded answers (with_items book (set items n None)) left))

  -- the counts of an open start
  pub open_counts : (t : ℕ) (w : W) (ins : List V) → KeepsBook answers book → HasOpen t w ins → (times_started events t ≡ 1) × (times_ended events t ≡ 0)
  open_counts t w ins h o = subst (StageFits events t) o.running (h.staged t)

  -- there is memory for its end
  pub room_to_end : (t : ℕ) (w : W) (ins : List V) (value : Arc V Global) (capacity : ℕ) → KeepsBook answers book → HasOpen t w ins → HasEventRoom (length rows) capacity → length events < capacity
  room_to_end t w ins value capacity h o room = omega (arith, left_set stages t Open (Over value) o.running, h.event_count)

  -- What an end says, by the parts of the book.
  pub ends : (register' reg : TableId) (events' : List TaskEvent) (stages' : List (Stage V)) (items' : List (Option (Outstanding W V))) (t : ℕ) (w : W) (ins : List V) (value : Arc V Global) →
      KeepsBook answers book → HasOpen t w ins →
      register' ≡ register → events' ≡ events ++ Ended t ∷ [] → stages' ≡ set stages t (Over value) →
      (old : BookHistory W V) (started : OpenStart W V) → book ≡ old → open_start reg t w ins ≡ started →
      EndsTask old started value (book_history register' callers rows events' works stages' items')
  ends register' reg events' stages' items' t w ins value h o same_register same_events same_stages old started same same_start =
      rw (← same, ← same_start, same_register, same_events, same_stages) record {
        was_started = (open_counts t w ins h o).0;
        not_ended = (open_counts t w ins h o).1;
        work = o.has_work;
        book = refl;
      }

-- An end that comes back is in the history.
pub recorded_at : {W V : Type 0} (answers : W → List V → V → Type 0) (book : BookHistory W V) (n t place : ℕ) (item : Outstanding W V) → KeepsBook answers book → slice_get book.items n ≡ Some (Some item) → IsEndAt t place item → slice_get book.events place ≡ Some (Ended t)
recorded_at answers book n t place (Pass c seen) h at is = absurd is
recorded_at answers book n t place (Running u w ins) h at is = absurd is
recorded_at answers book n t place (Recorded u p) h at is = ap (slice_get book.events) (sym is.1) ∙ h.fits n (Recorded u p) at ∙ ap (λ k. Some (Ended k)) is.0

-- So the next one comes after it.
pub next_is_after : (last : Option EndRecord) (events : List TaskEvent) (place : ℕ) → IfSome last (λ (end : EndRecord). slice_get events end.place ≡ Some (Ended end.task)) → place ≡ length events → IsAfter last place
next_is_after None events place was next = tt
next_is_after (Some end) events place was next = let below = get_in_range events end.place (Ended end.task) was in omega (arith, below, next)
