-- What the passes of a finished book have kept.
use Rattle.std.proofs.Common.{◌≡◌, ◌∙◌, ℕ, suc, List, [], ◌∷◌, length, map, Some, refl, sym, ap, subst}
use Rattle.std.specs.Prelude.{slice_get}
use Rattle.std.specs.List.{AllByRecursion}
use Rattle.journal_rules.specs.Entries.{EachAfter}
use Rattle.atomic_table.specs.Seated.{TableId}
use Rattle.async_tasks.specs.declared.history.AddRow.{AddRow}
use Rattle.async_tasks.specs.declared.run.AsyncRun.{AsyncRun}
use Rattle.async_tasks.specs.Histories.{RowRule, kept_row, kept_of}
use Rattle.async_tasks.specs.Starts.{HasSeen}
use Rattle.async_tasks.specs.Passes.{PassState, IsTicketOf, seen, kept}
use Rattle.async_tasks.specs.AsyncBooks.{AsyncBookState, ArePassesOf}
use Rattle.async_tasks.specs.Runs.{IsAsyncRun}
use Rattle.async_tasks.specs.Finishes.{IsDone, HaveSeen, HaveTickets}
use Rattle.async_tasks.proofs.Lists.{all_at}
use Rattle.async_tasks.proofs.Counting.{counted}

all_of_gets : {X : Type 0} (P : X → Type 0) (xs : List X) → ((k : ℕ) (x : X) → slice_get xs k ≡ Some x → P x) → AllByRecursion P xs
all_of_gets P [] each = tt
all_of_gets P (x ∷ xs) each = (each 0 x refl, all_of_gets P xs (λ k y at. each (suc k) y at))

module _ {W V : Type 0} (book : AsyncBookState) (passes : List (PassState W V)) (own : ArePassesOf book passes) where
  -- each has a ticket of the book
  pub tickets_of : HaveTickets book.register passes
  tickets_of = all_of_gets (λ (p : PassState W V). IsTicketOf book.register p.ticket) passes (λ c p at. (own.each c p at).0.ticket)

  -- the rows of each caller are those that its pass has kept
  pub is_done : (answers : W → List V → V → Type 0) (callers callers' : ℕ) (run : AsyncRun W V) (rows : List AddRow) → IsAsyncRun answers callers' run → callers' ≡ callers → run.adds ≡ rows → HaveSeen rows passes → callers ≡ book.callers → IsDone answers callers passes run
  is_done answers callers callers' run rows h same_callers same_rows have all_callers = record {
    is_run = subst (λ n. IsAsyncRun answers n run) same_callers h;
    kept_all = λ c p at. ap (kept_of c) same_rows ∙ subst (λ k. kept_of k rows ≡ kept p) (own.each c p at).1 (all_kept c p at);
    counted = ap length same_rows
        ∙ counted callers' rows passes (subst (EachAfter (RowRule callers')) same_rows h.history.each_row) (own.count ∙ sym all_callers ∙ sym same_callers) (λ c p at. ((own.each c p at).1, all_kept c p at));
  }
    where
      all_kept : (c : ℕ) (p : PassState W V) → slice_get passes c ≡ Some p → kept_of p.caller rows ≡ kept p
      all_kept c p at = ap (map kept_row) (all_at (λ (q : PassState W V). HasSeen rows q.caller (seen q)) passes c p at have).1

pub tickets_at : {W V : Type 0} (book : AsyncBookState) (passes : List (PassState W V)) (r : TableId) → ArePassesOf book passes → book.register ≡ r → HaveTickets r passes
tickets_at book passes r own same = subst (λ t. HaveTickets t passes) same (tickets_of book passes own)
