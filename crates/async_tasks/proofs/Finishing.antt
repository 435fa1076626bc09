-- A book in which each task is over is a finished run.
use Rattle.std.proofs.Common.{◌≡◌, ℕ, ◌<◌, true, false, List, [], length, map, Option, Some, None, refl, sym, subst, ◌∙◌, arith}
use Rattle.std.specs.Prelude.{slice_get, is_some, IfSome}
use Rattle.std.specs.Arc.{arc_value}
use Rattle.std.specs.declared.alloc.Global.{Global}
use Rattle.std.specs.declared.sync.Arc.{Arc}
use Rattle.std.proofs.lemmas.Bool.{false≢true}
use Rattle.std.proofs.lemmas.List.{length-map}
use Rattle.atomic_table.specs.Seated.{TableId}
use Rattle.async_tasks.specs.declared.history.AddRow.{AddRow}
use Rattle.async_tasks.specs.declared.history.TaskEvent.{TaskEvent}
use Rattle.async_tasks.specs.declared.outstanding.Outstanding.{Outstanding}
use Rattle.async_tasks.specs.declared.stage.Stage.{Stage}
use Rattle.async_tasks.specs.declared.stage.Stage.TheVariants.{Waiting, Open, Over}
use Rattle.async_tasks.specs.Histories.{times_started, times_ended, IsHistory}
use Rattle.async_tasks.specs.Adds.{HasNoEnd}
use Rattle.async_tasks.specs.Books.{BookHistory, book_history, value_in}
use Rattle.async_tasks.specs.Runs.{IsAsyncRun}
use Rattle.async_tasks.specs.inside.Ready.{is_over}
use Rattle.async_tasks.specs.inside.Keeps.{StageFits, KeepsBook}

-- a task that has a value was started and ended
over_counts : {V : Type 0} (events : List TaskEvent) (t : ℕ) (o : Option (Stage V)) → StageFits events t o → is_some (value_in o) ≡ true → (times_started events t ≡ 1) × (times_ended events t ≡ 1)
over_counts events t None fits is = absurd (false≢true is)
over_counts events t (Some Waiting) fits is = absurd (false≢true is)
over_counts events t (Some Open) fits is = absurd (false≢true is)
over_counts events t (Some (Over value)) fits is = fits

pub is_run : {W V : Type 0} (answers : W → List V → V → Type 0) (register : TableId) (callers callers' : ℕ) (rows rows' : List AddRow) (events events' : List TaskEvent) (works works' : List (Arc W Global)) (stages stages' : List (Stage V)) (items : List (Option (Outstanding W V))) →
    KeepsBook answers (book_history register callers rows events (map arc_value works) stages items) →
    ((t : ℕ) → t < length stages → is_over stages t ≡ true) →
    callers' ≡ callers → rows' ≡ rows → events' ≡ events → works' ≡ works → stages' ≡ stages →
    IsAsyncRun answers callers' (record { adds = rows'; events = events'; works = works'; stages = stages' })
is_run answers register callers callers' rows rows' events events' works works' stages stages' items h over same_callers same_rows same_events same_works same_stages =
    let all : (t : ℕ) → t < length rows → is_over stages t ≡ true = (λ t below. over t (omega (arith, below, h.stage_count))) in
    rw (same_callers, same_rows, same_events, same_works, same_stages) record {
      history = h.history;
      complete = λ t below. over_counts events t (slice_get stages t) (h.staged t) (all t below);
      work_count = sym (length-map works arc_value) ∙ h.work_count;
      value_count = h.stage_count;
      each_value = all;
      values = h.values;
    }

-- a task that has no value has no end
not_over : {V : Type 0} (events : List TaskEvent) (t : ℕ) (o : Option (Stage V)) → StageFits events t o → is_some (value_in o) ≡ false → times_ended events t ≡ 0
not_over events t None fits is = fits.1
not_over events t (Some Waiting) fits is = fits.1
not_over events t (Some Open) fits is = fits.1
not_over events t (Some (Over value)) fits is = absurd (false≢true (sym is))

module _ {W V : Type 0} (answers : W → List V → V → Type 0) (register : TableId) (callers : ℕ) (rows : List AddRow) (events : List TaskEvent) (works : List W) (stages : List (Stage V)) (items : List (Option (Outstanding W V))) where
  abbrev book : BookHistory W V
  book = book_history register callers rows events works stages items

  -- the task that was found without a value has no end
  pub open_has_no_end : (stages' : List (Stage V)) (o : Option ℕ) (seen : BookHistory W V) → KeepsBook answers book → stages' ≡ stages → IfSome o (λ t. (t < length stages') × (is_over stages' t ≡ false)) → book ≡ seen → IfSome o (HasNoEnd seen)
  open_has_no_end stages' None seen h same first is = tt
  open_has_no_end stages' (Some t) seen h same first is = rw (← is) (
    let below : t < length stages = subst (λ ss. t < length ss) same first.0 in omega (arith, h.stage_count),
    not_over events t (slice_get stages t) (h.staged t) (subst (λ ss. is_over ss t ≡ false) same first.1),
  )

  pub history_of : (seen : BookHistory W V) → KeepsBook answers book → book ≡ seen → IsHistory seen.callers seen.rows seen.events
  history_of seen h is = rw (← is) h.history

-- a book without tasks
pub keeps_none : {W V : Type 0} (answers : W → List V → V → Type 0) (register : TableId) (callers : ℕ) (rows : List AddRow) (events : List TaskEvent) (works : List (Arc W Global)) (stages : List (Stage V)) (items : List (Option (Outstanding W V))) →
    rows ≡ [] → events ≡ [] → works ≡ [] → stages ≡ [] → items ≡ [] → KeepsBook answers (book_history register callers rows events (map arc_value works) stages items)
keeps_none answers register callers rows events works stages items no_rows no_events no_works no_stages no_items =
    rw (no_rows, no_events, no_works, no_stages, no_items) record {
      history = record { each_row = tt; places = tt; each_event = tt };
      row_count = omega arith;
      work_count = refl;
      stage_count = refl;
      event_count = refl;
      staged = λ t. (refl, refl);
      inputs = λ t row at started. absurd (omega (arith, started));
      values = λ t row work v at has_work has_value. absurd (cc);
      fits = λ n item at. absurd (cc);
      once = λ n m x y at_n at_m same. absurd (cc);
    }
