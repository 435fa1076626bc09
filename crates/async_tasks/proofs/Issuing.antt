-- What is outstanding, after a ticket was issued or redeemed.
use Rattle.std.proofs.Common.{◌≡◌, ◌≢◌, ◌⊎◌, inl, inr, ℕ, List, [], ◌∷◌, ◌++◌, length, set, Option, Some, None, sym, ap, ◌∙◌, subst}
use Rattle.std.specs.Prelude.{slice_get}
use Rattle.atomic_table.specs.Seated.{TableId}
use Rattle.async_tasks.specs.declared.history.AddRow.{AddRow}
use Rattle.async_tasks.specs.declared.history.TaskEvent.{TaskEvent}
use Rattle.async_tasks.specs.declared.stage.Stage.{Stage}
use Rattle.async_tasks.specs.declared.outstanding.Outstanding.{Outstanding}
use Rattle.std.proofs.lemmas.List.{append-nil}
use Rattle.async_tasks.specs.declared.outstanding.Outstanding.TheVariants.{Pass, Running, Recorded}
use Rattle.async_tasks.specs.Histories.{rows_of}
use Rattle.async_tasks.specs.Starts.{IsPassFor, rows_seen, HasSeen}
use Rattle.async_tasks.specs.Books.{BookHistory, book_history, Holder, holder_of, caller_of, NothingOut}
use Rattle.async_tasks.specs.Adds.{with_items}
use Rattle.async_tasks.specs.inside.Keeps.{ItemFits, KeepsBook}
use Rattle.async_tasks.proofs.Lists.{some_same, get_push_cases, get_cleared, not_cleared}

module _ {W V : Type 0} where
  -- each caller and each task is outstanding once at most
  abbrev pub OnceEach : List (Option (Outstanding W V)) → Type 0
  OnceEach items = (n m : ℕ) (x y : Outstanding W V) → slice_get items n ≡ Some (Some x) → slice_get items m ≡ Some (Some y) → holder_of x ≡ holder_of y → n ≡ m

  pub once_issued : (items : List (Option (Outstanding W V))) (item : Outstanding W V) → OnceEach items → NothingOut (holder_of item) items → OnceEach (items ++ Some item ∷ [])
  once_issued items item once none n m x y at_n at_m same = by_places (get_push_cases items (Some item) (Some x) n at_n) (get_push_cases items (Some item) (Some y) m at_m)
    where
      by_places : (slice_get items n ≡ Some (Some x)) ⊎ ((n ≡ length items) × (Some item ≡ Some x)) → (slice_get items m ≡ Some (Some y)) ⊎ ((m ≡ length items) × (Some item ≡ Some y)) → n ≡ m
      by_places (inl a) (inl b) = once n m x y a b same
      by_places (inl a) (inr b) = absurd (none n x a (same ∙ sym (ap holder_of (some_same b.1))))
      by_places (inr a) (inl b) = absurd (none m y b (sym same ∙ sym (ap holder_of (some_same a.1))))
      by_places (inr a) (inr b) = a.0 ∙ sym b.0

  pub once_redeemed : (items : List (Option (Outstanding W V))) (k : ℕ) → OnceEach items → OnceEach (set items k None)
  once_redeemed items k once n m x y at_n at_m same = once n m x y (get_cleared items k n x at_n) (get_cleared items k m y at_m) same

  -- a holder whose ticket was redeemed has nothing out
  pub nothing_left : (items : List (Option (Outstanding W V))) (k : ℕ) (item : Outstanding W V) → OnceEach items → slice_get items k ≡ Some (Some item) → NothingOut (holder_of item) (set items k None)
  nothing_left items k item once at n x at_n same =
      let here : n ≡ k = once n k x item (get_cleared items k n x at_n) at same in
      not_cleared items k x (subst (λ j. slice_get (set items k None) j ≡ Some (Some x)) here at_n)

  pub nothing_more : (holder : Holder) (items : List (Option (Outstanding W V))) (k : ℕ) → NothingOut holder items → NothingOut holder (set items k None)
  nothing_more holder items k none n x at same = none n x (get_cleared items k n x at) same

  pub nothing_issued : (holder : Holder) (items : List (Option (Outstanding W V))) (item : Outstanding W V) → holder_of item ≢ holder → NothingOut holder items → NothingOut holder (items ++ Some item ∷ [])
  nothing_issued holder items item other none n x at same = by_place (get_push_cases items (Some item) (Some x) n at)
    where
      by_place : (slice_get items n ≡ Some (Some x)) ⊎ ((n ≡ length items) × (Some item ≡ Some x)) → ⊥
      by_place (inl old) = none n x old same
      by_place (inr last) = other (ap holder_of (some_same last.1) ∙ same)

  module _ (answers : W → List V → V → Type 0) (book : BookHistory W V) where
    pub keeps_redeem : (k : ℕ) → KeepsBook answers book → KeepsBook answers (with_items book (set book.items k None))
    keeps_redeem k h = record {
      history = h.history;
      row_count = h.row_count;
      work_count = h.work_count;
      stage_count = h.stage_count;
      event_count = h.event_count;
      staged = h.staged;
      inputs = h.inputs;
      values = h.values;
      fits = λ n item at. h.fits n item (get_cleared book.items k n item at);
      once = once_redeemed book.items k h.once;
    }

    pub keeps_issue : (item : Outstanding W V) → KeepsBook answers book → ItemFits book item → NothingOut (holder_of item) book.items → KeepsBook answers (with_items book (book.items ++ Some item ∷ []))
    keeps_issue item h fits none = record {
      history = h.history;
      row_count = h.row_count;
      work_count = h.work_count;
      stage_count = h.stage_count;
      event_count = h.event_count;
      staged = h.staged;
      inputs = h.inputs;
      values = h.values;
      fits = λ n x at. all_fit n x (get_push_cases book.items (Some item) (Some x) n at);
      once = once_issued book.items item h.once none;
    }
      where
        all_fit : (n : ℕ) (x : Outstanding W V) → (slice_get book.items n ≡ Some (Some x)) ⊎ ((n ≡ length book.items) × (Some item ≡ Some x)) → ItemFits book x
        all_fit n x (inl old) = h.fits n x old
        all_fit n x (inr last) = subst (ItemFits book) (some_same last.1) fits

-- What a pass's ticket shows when it comes back.
pub seen_by : {W V : Type 0} (book : BookHistory W V) (caller : ℕ) (item : Outstanding W V) → ItemFits book item → IsPassFor caller item → HasSeen book.rows caller (rows_seen item)
seen_by book caller (Pass c front) fits is = subst (λ k. HasSeen book.rows k front.value.items) is fits
seen_by book caller (Running u work values) fits is = absurd is
seen_by book caller (Recorded u place) fits is = absurd is

pub pass_holder : {W V : Type 0} (caller : ℕ) (item : Outstanding W V) → IsPassFor caller item → holder_of item ≡ caller_of caller
pass_holder caller (Pass c front) is = ap caller_of is
pass_holder caller (Running u work values) is = absurd is
pass_holder caller (Recorded u place) is = absurd is

-- A pass that has seen all rows fits.
pub pass_fits : {W V : Type 0} (book : BookHistory W V) (caller : ℕ) (item : Outstanding W V) → IsPassFor caller item → rows_seen item ≡ book.rows → ItemFits book item
pass_fits book caller (Pass c front) is all = (([], sym all ∙ sym (append-nil front.value.items)), ap (rows_of c) (sym all))
pass_fits book caller (Running u work values) is all = absurd is
pass_fits book caller (Recorded u place) is all = absurd is

-- other callers have nothing out, as before
pub others_out : {W V : Type 0} (items items' : List (Option (Outstanding W V))) (caller c : ℕ) (item : Outstanding W V) → items' ≡ items ++ Some item ∷ [] → IsPassFor caller item → NothingOut (caller_of c) items → (c ≡ caller → ⊥) → NothingOut (caller_of c) items'
others_out items items' caller c item same is none other =
    subst (λ xs. NothingOut (caller_of c) xs) (sym same)
    (nothing_issued (caller_of c) items item (λ here. other (sym (same_caller (sym (pass_holder caller item is) ∙ here)))) none)
  where
    same_caller : {a b : ℕ} → caller_of a ≡ caller_of b → a ≡ b
    same_caller e = cc

-- Tickets keep what holds of a book, by its parts.
module _ {W V : Type 0} (answers : W → List V → V → Type 0) (register register' : TableId) (callers : ℕ) (rows : List AddRow) (events : List TaskEvent) (works : List W) (stages : List (Stage V)) (items items' : List (Option (Outstanding W V))) where
  pub redeemed : (n : ℕ) → register ≡ register' → items' ≡ set items n None → KeepsBook answers (book_history register callers rows events works stages items) → KeepsBook answers (book_history register' callers rows events works stages items')
  redeemed n same same_items h = rw (← same, same_items) (keeps_redeem answers (book_history register callers rows events works stages items) n h)

  pub issued : (item : Outstanding W V) → register ≡ register' → items' ≡ items ++ Some item ∷ [] → KeepsBook answers (book_history register callers rows events works stages items) → ItemFits (book_history register callers rows events works stages items) item → NothingOut (holder_of item) items → KeepsBook answers (book_history register' callers rows events works stages items')
  issued item same same_items h fits none = rw (← same, same_items) (keeps_issue answers (book_history register callers rows events works stages items) item h fits none)
