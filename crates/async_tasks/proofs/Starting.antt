-- A start keeps what holds of a book.
use Rattle.std.proofs.Common.{◌≡◌, ◌≢◌, ◌⊎◌, inl, inr, ℕ, zero, suc, ◌+◌, ◌<◌, ◌≤◌, List, [], ◌∷◌, ◌++◌, length, map, set, Option, Some, None, refl, sym, ap, ◌∙◌, subst, arith, length-set, get_or}
use Rattle.std.specs.Prelude.{slice_get, IsSomeAnd, IsTrue, is_some}
use Rattle.std.specs.Arc.{arc_value}
use Rattle.std.specs.declared.alloc.Global.{Global}
use Rattle.std.specs.declared.sync.Arc.{Arc}
use Rattle.std.specs.List.{list_all}
use Rattle.std.proofs.lemmas.Option.{slice_get-get_or}
use Rattle.std.proofs.lemmas.Bool.{cases_eq, and_parts, false≢true}
use Rattle.std.proofs.lemmas.List.{length_push}
use Rattle.journal_rules.proofs.Snoc.{EachAfter-push}
use Rattle.async_tasks.specs.declared.history.AddRow.{AddRow}
use Rattle.async_tasks.specs.declared.history.TaskEvent.{TaskEvent}
use Rattle.async_tasks.specs.declared.history.TaskEvent.TheVariants.{Started, Ended}
use Rattle.async_tasks.specs.declared.outstanding.Outstanding.{Outstanding}
use Rattle.async_tasks.specs.declared.outstanding.Outstanding.TheVariants.{Pass, Running, Recorded}
use Rattle.async_tasks.specs.declared.stage.Stage.{Stage}
use Rattle.async_tasks.specs.declared.stage.Stage.TheVariants.{Waiting, Open, Over}
use Rattle.async_tasks.specs.Histories.{times_started, times_ended, AllEnded, EventRule, IsHistory, found}
use Rattle.async_tasks.specs.Books.{BookHistory, book_history, value_in, value_at, holder_of, task_of, NothingOut}
use Rattle.async_tasks.specs.Adds.{CanStart, with_start, StartsTask}
use Rattle.atomic_table.specs.Seated.{TableId}
use Rattle.async_tasks.specs.Starts.{IsTicketFor, open_start}
use Rattle.async_tasks.specs.inside.Ready.{is_over, IsReady}
use Rattle.async_tasks.specs.inside.Keeps.{StageFits, ItemFits, KeepsBook, HasEventRoom}
use Rattle.async_tasks.proofs.Lists.{some_same, get_in_range, get_kept, not_none, both_of, get_set_same, get_set_other, some_at, all_map, all_at}
use Rattle.async_tasks.proofs.Issuing.{keeps_issue}
use Rattle.async_tasks.proofs.Telling.{left_set, found_same, all_same, value_opened, started_here, started_elsewhere, ended_as_before}

module _ {W V : Type 0} (answers : W → List V → V → Type 0) (book : BookHistory W V) (t : ℕ) (row : AddRow) where
  abbrev more : BookHistory W V
  more = with_start book t

  module _ (h : KeepsBook answers book) (waiting : slice_get book.stages t ≡ Some Waiting) (at : slice_get book.rows t ≡ Some row) (ready : AllEnded book.events row.after) where
    no_start : times_started book.events t ≡ 0
    no_start = (subst (StageFits book.events t) waiting (h.staged t)).0

    no_end : times_ended book.events t ≡ 0
    no_end = (subst (StageFits book.events t) waiting (h.staged t)).1

    pub found_kept : (tasks : List ℕ) → found (value_at book.stages) tasks ≡ found (value_at more.stages) tasks
    found_kept tasks = found_same (value_at book.stages) (value_at more.stages) tasks (all_same (value_at book.stages) (value_at more.stages) tasks (λ a. sym (value_opened book.stages t a waiting)))

    history_kept : IsHistory more.callers more.rows more.events
    history_kept = record {
      each_row = h.history.each_row;
      places = all_map (λ (r : AddRow). r.place ≤ length book.events) (λ (r : AddRow). r.place ≤ length more.events) book.rows (λ r le. omega (arith, length_push book.events (Started t))) h.history.places;
      each_event = EachAfter-push (EventRule book.rows) book.events (Started t) h.history.each_event (
        no_start,
        subst (λ o. IsSomeAnd o (λ (r : AddRow). (r.place ≤ length book.events) × AllEnded book.events r.after)) (sym at)
            (all_at (λ (r : AddRow). r.place ≤ length book.events) book.rows t row at h.history.places, ready),
      );
    }

    staged_kept : (u : ℕ) → StageFits more.events u (slice_get more.stages u)
    staged_kept u = by_case (cases_eq t u)
      where
        as_before : (o : Option (Stage V)) → t ≢ u → StageFits book.events u o → StageFits more.events u o
        as_before None other fits = (started_elsewhere book.events u t other ∙ fits.0, ended_as_before book.events u t ∙ fits.1)
        as_before (Some Waiting) other fits = (started_elsewhere book.events u t other ∙ fits.0, ended_as_before book.events u t ∙ fits.1)
        as_before (Some Open) other fits = (started_elsewhere book.events u t other ∙ fits.0, ended_as_before book.events u t ∙ fits.1)
        as_before (Some (Over v)) other fits = (started_elsewhere book.events u t other ∙ fits.0, ended_as_before book.events u t ∙ fits.1)

        by_case : (t ≡ u) ⊎ (t ≢ u) → StageFits more.events u (slice_get more.stages u)
        by_case (inl same) = subst (λ k. StageFits more.events k (slice_get more.stages k)) same
            (subst (StageFits more.events t) (sym (get_set_same book.stages t Waiting Open waiting))
            (started_here book.events t ∙ ap (λ n. n + 1) no_start, ended_as_before book.events t t ∙ no_end))
        by_case (inr other) = subst (StageFits more.events u) (sym (get_set_other book.stages t u Open (λ e. other (sym e)))) (as_before (slice_get book.stages u) other (h.staged u))

    all_ended : (tasks : List ℕ) → AllEnded book.events tasks → AllEnded more.events tasks
    all_ended tasks ended = all_map (λ a. times_ended book.events a ≡ 1) (λ a. times_ended more.events a ≡ 1) tasks (λ a one. ended_as_before book.events a t ∙ one) ended

    inputs_kept : (u : ℕ) (r : AddRow) → slice_get book.rows u ≡ Some r → times_started more.events u ≡ 1 → AllEnded more.events r.after
    inputs_kept u r at_row started = by_case (cases_eq t u)
      where
        by_case : (t ≡ u) ⊎ (t ≢ u) → AllEnded more.events r.after
        by_case (inl same) =
            let one : Some row ≡ Some r = sym at ∙ ap (slice_get book.rows) same ∙ at_row in
            subst (λ (q : AddRow). AllEnded more.events q.after) (some_same one) (all_ended row.after ready)
        by_case (inr other) = all_ended r.after (h.inputs u r at_row (sym (started_elsewhere book.events u t other) ∙ started))

    values_kept : (u : ℕ) (r : AddRow) (w : W) (v : V) → slice_get book.rows u ≡ Some r → slice_get book.works u ≡ Some w → value_at more.stages u ≡ Some v → answers w (found (value_at more.stages) r.after) v
    values_kept u r w v at_row at_work at_value = subst (λ ins. answers w ins v) (found_kept r.after) (h.values u r w v at_row at_work (sym (value_opened book.stages t u waiting) ∙ at_value))

    item_kept : (n : ℕ) (item : Outstanding W V) → slice_get book.items n ≡ Some (Some item) → ItemFits book item → ItemFits more item
    item_kept n (Pass c seen) at_item fits = fits
    item_kept n (Recorded u place) at_item fits = get_kept book.events (Started t) (Ended u) place fits
    item_kept n (Running u w ins) at_item fits =
        (get_set_other book.stages t u Open other ∙ fits.0, fits.1, more_found (slice_get book.rows u) fits.2)
      where
        other : u ≢ t
        other same = absurd (let e : Some Open ≡ Some Waiting = sym fits.0 ∙ ap (slice_get book.stages) same ∙ waiting in cc)

        more_found : (o : Option AddRow) → IsSomeAnd o (λ (r : AddRow). map arc_value ins.value ≡ found (value_at book.stages) r.after) → IsSomeAnd o (λ (r : AddRow). map arc_value ins.value ≡ found (value_at more.stages) r.after)
        more_found None g = g
        more_found (Some r) g = g ∙ found_kept r.after

    -- nothing is outstanding for a task that waits
    pub none_running : NothingOut (task_of t) book.items
    none_running n (Pass c seen) at_item same = absurd (cc)
    none_running n (Recorded u place) at_item same = absurd (cc)
    none_running n (Running u w ins) at_item same = absurd (let e : Some Open ≡ Some Waiting = sym (h.fits n (Running u w ins) at_item).0 ∙ ap (slice_get book.stages) (holder_task same) ∙ waiting in cc)
      where
        holder_task : task_of u ≡ task_of t → u ≡ t
        holder_task e = cc

    pub keeps_start : KeepsBook answers more
    keeps_start = record {
      history = history_kept;
      row_count = h.row_count;
      work_count = h.work_count;
      stage_count = length-set book.stages t Open ∙ h.stage_count;
      event_count = omega (arith, length_push book.events (Started t), left_set book.stages t Waiting Open waiting, h.event_count);
      staged = staged_kept;
      inputs = inputs_kept;
      values = values_kept;
      fits = λ n item at_item. item_kept n item at_item (h.fits n item at_item);
      once = h.once;
    }

-- tasks that have a value ended
all_over_ended : {V : Type 0} (events : List TaskEvent) (stages : List (Stage V)) (tasks : List ℕ) → ((u : ℕ) → StageFits events u (slice_get stages u)) → IsTrue (list_all (is_over stages) tasks) → AllEnded events tasks
all_over_ended events stages [] staged over = tt
all_over_ended {V} events stages (a ∷ tasks) staged over =
    (one (slice_get stages a) (staged a) (and_parts (is_over stages a) (list_all (is_over stages) tasks) over).0, all_over_ended events stages tasks staged (and_parts (is_over stages a) (list_all (is_over stages) tasks) over).1)
  where
    one : (o : Option (Stage V)) → StageFits events a o → IsTrue (is_some (value_in o)) → times_ended events a ≡ 1
    one None fits some = absurd (false≢true some)
    one (Some Waiting) fits some = absurd (false≢true some)
    one (Some Open) fits some = absurd (false≢true some)
    one (Some (Over v)) fits some = fits.1

-- and those that ended have a value
all_ended_over : {V : Type 0} (events : List TaskEvent) (stages : List (Stage V)) (tasks : List ℕ) → ((u : ℕ) → StageFits events u (slice_get stages u)) → AllEnded events tasks → IsTrue (list_all (is_over stages) tasks)
all_ended_over events stages [] staged ended = refl
all_ended_over {V} events stages (a ∷ tasks) staged ended =
    both_of (is_over stages a) (list_all (is_over stages) tasks) (one (slice_get stages a) (staged a) ended.0) (all_ended_over events stages tasks staged ended.1)
  where
    one : (o : Option (Stage V)) → StageFits events a o → times_ended events a ≡ 1 → IsTrue (is_some (value_in o))
    one None fits is = absurd (omega (arith, fits.1))
    one (Some Waiting) fits is = absurd (omega (arith, fits.1))
    one (Some Open) fits is = absurd (omega (arith, fits.1))
    one (Some (Over v)) fits is = refl

some_out : {X : Type 0} (o : Option X) (P : X → Type 0) → IsSomeAnd o P → (x : X) × (o ≡ Some x) × P x
some_out None P h = absurd h
some_out (Some x) P h = (x, refl, h)

module _ {W V : Type 0} (answers : W → List V → V → Type 0) (register : TableId) (callers : ℕ) (rows : List AddRow) (events : List TaskEvent) (works : List W) (stages : List (Stage V)) (items : List (Option (Outstanding W V))) where
  abbrev book : BookHistory W V
  book = book_history register callers rows events works stages items

  -- a task that is ready may start
  pub ready_can_start : (t : ℕ) → KeepsBook answers book → IsReady rows stages t → CanStart book t
  ready_can_start t h ready = (
    (subst (StageFits events t) ready.0 (h.staged t)).0,
    over_ended (slice_get rows t) ready.1,
  )
    where
      over_ended : (o : Option AddRow) → IsSomeAnd o (λ (row : AddRow). IsTrue (list_all (is_over stages) row.after)) → IsSomeAnd o (λ (row : AddRow). AllEnded events row.after)
      over_ended None over = over
      over_ended (Some row) over = all_over_ended events stages row.after h.staged over

  -- and no other
  pub can_start_ready : (t : ℕ) → KeepsBook answers book → CanStart book t → IsReady rows stages t
  can_start_ready t h can = (waits (slice_get stages t) refl (h.staged t), ended_over (slice_get rows t) can.1)
    where
      row : (r : AddRow) × (slice_get rows t ≡ Some r) × AllEnded events r.after
      row = some_out (slice_get rows t) (λ (r : AddRow). AllEnded events r.after) can.1

      waits : (o : Option (Stage V)) → slice_get stages t ≡ o → StageFits events t o → slice_get stages t ≡ Some Waiting
      waits None is fits =
          let below = get_in_range rows t row.0 row.1 in
          absurd (not_none stages t (omega (arith, below, h.stage_count)) is)
      waits (Some Waiting) is fits = is
      waits (Some Open) is fits = absurd (omega (arith, fits.0, can.0))
      waits (Some (Over v)) is fits = absurd (omega (arith, fits.0, can.0))

      ended_over : (o : Option AddRow) → IsSomeAnd o (λ (r : AddRow). AllEnded events r.after) → IsSomeAnd o (λ (r : AddRow). IsTrue (list_all (is_over stages) r.after))
      ended_over None ended = ended
      ended_over (Some r) ended = all_ended_over events stages r.after h.staged ended

  -- the ticket of a start that was just made fits
  ticket_fits : (t : ℕ) (w : W) (ins : List V) (row : AddRow) (item : Outstanding W V) → KeepsBook answers book → slice_get stages t ≡ Some Waiting → slice_get rows t ≡ Some row → AllEnded events row.after → slice_get works t ≡ Some w → ins ≡ found (value_at stages) row.after → IsTicketFor t w ins item → ItemFits (with_start book t) item
  ticket_fits t w ins row (Pass c seen) h waiting at ended has_work has_ins is = absurd is
  ticket_fits t w ins row (Recorded u place) h waiting at ended has_work has_ins is = absurd is
  ticket_fits t w ins row (Running u work values) h waiting at ended has_work has_ins is = (
    subst (λ k. slice_get (set stages t Open) k ≡ Some Open) (sym is.0) (get_set_same stages t Waiting Open waiting),
    ap (slice_get works) is.0 ∙ has_work ∙ ap Some (sym is.1),
    subst (λ k. IsSomeAnd (slice_get rows k) (λ (r : AddRow). map arc_value values.value ≡ found (value_at (set stages t Open)) r.after)) (sym is.0)
        (subst (λ o. IsSomeAnd o (λ (r : AddRow). map arc_value values.value ≡ found (value_at (set stages t Open)) r.after)) (sym at)
        (is.2 ∙ has_ins ∙ found_kept answers book t row h waiting at ended row.after)),
  )

  ticket_holder : (t : ℕ) (w : W) (ins : List V) (item : Outstanding W V) → IsTicketFor t w ins item → holder_of item ≡ task_of t
  ticket_holder t w ins (Pass c seen) is = absurd is
  ticket_holder t w ins (Recorded u place) is = absurd is
  ticket_holder t w ins (Running u work values) is = ap task_of is.0

  -- A start keeps what holds of a book, by its parts.
  pub started : (events' : List TaskEvent) (stages' : List (Stage V)) (items' : List (Option (Outstanding W V))) (t : ℕ) (w : W) (ins : List V) (item : Outstanding W V) →
      KeepsBook answers book → IsReady rows stages t → slice_get works t ≡ Some w → IsSomeAnd (slice_get rows t) (λ (row : AddRow). ins ≡ found (value_at stages) row.after) → IsTicketFor t w ins item →
      events' ≡ events ++ Started t ∷ [] → stages' ≡ set stages t Open → items' ≡ items ++ Some item ∷ [] →
      KeepsBook answers (book_history register callers rows events' works stages' items')
  started events' stages' items' t w ins item h ready has_work has_ins is same_events same_stages same_items =
      let at = some_out (slice_get rows t) (λ (row : AddRow). IsTrue (list_all (is_over stages) row.after)) ready.1 in
      let ended = all_over_ended events stages at.0.after h.staged at.2 in
      let found_ins = some_at (λ (row : AddRow). ins ≡ found (value_at stages) row.after) (slice_get rows t) at.0 at.1 has_ins in
      rw (same_events, same_stages, same_items)
      (keeps_issue answers (with_start book t) item (keeps_start answers book t at.0 h ready.0 at.1 ended)
      (ticket_fits t w ins at.0 item h ready.0 at.1 ended has_work found_ins is)
      (subst (λ holder. NothingOut holder items) (sym (ticket_holder t w ins item is)) (none_running answers book t at.0 h ready.0 at.1 ended)))

  -- a test that fails of a task that may start
  pub not_ready : (rows' : List AddRow) (stages' : List (Stage V)) (t : ℕ) → rows' ≡ rows → stages' ≡ stages → KeepsBook answers book → (IsReady rows' stages' t → ⊥) → CanStart book t → ⊥
  not_ready rows' stages' t same_rows same_stages h not can = not (rw (same_rows, same_stages) (can_start_ready t h can))

  pub is_ready_of : (rows' : List AddRow) (stages' : List (Stage V)) (t : ℕ) → rows' ≡ rows → stages' ≡ stages → IsReady rows' stages' t → IsReady rows stages t
  is_ready_of rows' stages' t same_rows same_stages ready = subst (λ rs. IsReady rs stages t) same_rows (subst (λ ss. IsReady rows' ss t) same_stages ready)

  -- a task that is ready is in range
  pub ready_below : (t : ℕ) → KeepsBook answers book → IsReady rows stages t → (t < length rows) × (t < length works)
  ready_below t h ready =
      let below = get_in_range stages t Waiting ready.0 in
      (omega (arith, below, h.stage_count), omega (arith, below, h.stage_count, h.work_count))

  -- there is memory for its start
  pub room_to_start : (t capacity : ℕ) → KeepsBook answers book → IsReady rows stages t → HasEventRoom (length rows) capacity → length events < capacity
  room_to_start t capacity h ready room = omega (arith, left_set stages t Waiting Open ready.0, h.event_count)

  -- the inputs of a task that is ready, from its row
  pub has_inputs : (t : ℕ) (d : AddRow) (ins : List V) → t < length rows → ins ≡ found (value_at stages) (get_or rows t d).after → IsSomeAnd (slice_get rows t) (λ (row : AddRow). ins ≡ found (value_at stages) row.after)
  has_inputs t d ins below is = subst (λ o. IsSomeAnd o (λ (row : AddRow). ins ≡ found (value_at stages) row.after)) (sym (slice_get-get_or rows t d below)) is

  -- What a start says, by the parts of the book.
  pub starts : (register' reg : TableId) (events' : List TaskEvent) (stages' : List (Stage V)) (items' : List (Option (Outstanding W V))) (t : ℕ) (w : W) (ins : List V) →
      KeepsBook answers book → IsReady rows stages t → slice_get works t ≡ Some w → IsSomeAnd (slice_get rows t) (λ (row : AddRow). ins ≡ found (value_at stages) row.after) →
      register' ≡ register → reg ≡ register → events' ≡ events ++ Started t ∷ [] → stages' ≡ set stages t Open →
      (old : BookHistory W V) → book ≡ old →
      StartsTask old t (book_history register' callers rows events' works stages' items') (open_start reg t w ins)
  starts register' reg events' stages' items' t w ins h ready has_work has_ins same_register same_reg same_events same_stages old same =
      rw (← same, same_register, same_reg, same_events, same_stages) record {
        could = ready_can_start t h ready;
        register = refl;
        number = refl;
        work = has_work;
        ins = has_ins;
        book = refl;
      }

-- a book's table is no part of what it keeps
pub keeps_at : {W V : Type 0} (answers : W → List V → V → Type 0) (register register' : TableId) (callers : ℕ) (rows : List AddRow) (events : List TaskEvent) (works : List W) (stages : List (Stage V)) (items : List (Option (Outstanding W V))) →
    register ≡ register' → KeepsBook answers (book_history register callers rows events works stages items) → KeepsBook answers (book_history register' callers rows events works stages items)
keeps_at answers register register' callers rows events works stages items same h = subst (λ r. KeepsBook answers (book_history r callers rows events works stages items)) same h

-- the work of a task, from the list of shared work
pub has_work_at : {W : Type 0} (works : List (Arc W Global)) (t : ℕ) (d w : Arc W Global) → t < length works → arc_value w ≡ arc_value (get_or works t d) → slice_get (map arc_value works) t ≡ Some (arc_value w)
has_work_at [] t d w below is = absurd (omega arith)
has_work_at (x ∷ xs) zero d w below is = ap Some (sym is)
has_work_at (x ∷ xs) (suc t) d w below is = has_work_at xs t d w (omega arith) is
