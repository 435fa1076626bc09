-- What finishing a desk comes to.
use Rattle.std.proofs.Common.{◌≡◌, ◌∙◌, ℕ, ◌<◌, List, Some, sym, ap, subst, arith}
use Rattle.std.specs.Prelude.{slice_get}
use Rattle.atomic_table.specs.Seated.{TableId}
use Rattle.run_frame.specs.Meaning.{Meaning}
use Rattle.desk_book.specs.declared.entry.Ask.{Ask}
use Rattle.desk_book.specs.declared.entry.DeskEntry.{DeskEntry}
use Rattle.desk_book.specs.declared.desk_run.DeskRun.{DeskRun}
use Rattle.desk_book.specs.Histories.{asks_of, IsFirstUnended}
use Rattle.desk_book.specs.Books.{BookHistory, with_items}
use Rattle.desk_book.specs.Passes.{PassState, IsTicketOf, AllLooked, HaveSeen}
use Rattle.desk_book.specs.States.{DeskKey, DeskLocked, key_of, with_book}
use Rattle.desk_book.specs.Desks.{ArePassesOf, IsPassOf}
use Rattle.desk_book.specs.Finishes.{IsDeskRun, IsDone, AllSeeFirstUnended}
use Rattle.desk_book.proofs.Lists.{get_in_range, get_there}
use Rattle.desk_book.proofs.Closing.{kept_all, together}

-- the books of a desk, after tickets came back and before
module _ {J : Type 0} (state state' : DeskLocked J) (desk : state' ≡ with_book state state'.book) (book : state'.book ≡ with_items state.book state'.book.items) where
  pub later_key : key_of state' ≡ key_of state
  later_key = ap (λ (d : DeskLocked J). key_of d) desk ∙ ap (λ (b : BookHistory). key_of (with_book state b)) book

  pub later_history : state'.book.history ≡ state.book.history
  later_history = ap (λ (b : BookHistory). b.history) book

-- and after more came back
pub book_trans : {J : Type 0} (a b c : DeskLocked J) → b ≡ with_book a b.book → c ≡ with_book b c.book → c ≡ with_book a c.book
book_trans a b c first last = last ∙ ap (λ d. with_book d c.book) first

pub items_trans : (a b c : BookHistory) → b ≡ with_items a b.items → c ≡ with_items b c.items → c ≡ with_items a c.items
items_trans a b c first last = last ∙ ap (λ x. with_items x c.items) first

-- where each ask has ended
pub is_done : {J V : Type 0} (meaning : Meaning J V) (desk : DeskKey J) (passes : List PassState) (state state' : DeskLocked J) (run : DeskRun J V) → ArePassesOf desk passes → key_of state ≡ desk →
    state' ≡ with_book state state'.book → state'.book ≡ with_items state.book state'.book.items → HaveSeen state.book.history passes →
    IsDeskRun meaning state'.book.callers state'.jobs run → run.history ≡ state'.book.history → ((n : ℕ) (a : Ask) → slice_get (asks_of run.history) n ≡ Some a → a.caller < state'.book.callers) → IsDone meaning desk passes run
is_done {J} {V} meaning desk passes state state' run own key same_desk same_book have is_run same_history each =
    let key' : key_of state' ≡ desk = later_key state state' same_desk same_book ∙ key in
    let history : run.history ≡ state.book.history = same_history ∙ later_history state state' same_desk same_book in
    let have' = subst (λ hs. HaveSeen hs passes) (sym history) have in record {
      is_run = subst (λ (k : DeskKey J). IsDeskRun meaning k.callers k.jobs run) key' is_run;
      kept_all = λ c p at. kept_all desk passes own run.history have' c p at;
      together = together desk passes own run.history have' (subst (λ (k : DeskKey J). (n : ℕ) (a : Ask) → slice_get (asks_of run.history) n ≡ Some a → a.caller < k.callers) key' each);
    }

-- where one has not
pub is_open : {J : Type 0} (desk : DeskKey J) (passes passes' : List PassState) (register : TableId) (history : List DeskEntry) (n : ℕ) → ArePassesOf desk passes → desk.register ≡ register → AllLooked register history passes passes' → IsFirstUnended history n →
    ArePassesOf desk passes' × AllSeeFirstUnended n passes passes'
is_open desk passes passes' register history n own same all unended = (
  record {
    count = all.count ∙ own.count;
    each = passes_still;
  },
  λ c before after at_old at_new. ((all.each c before after at_old at_new).looks, subst (λ hs. IsFirstUnended hs n) (sym (all.each c before after at_old at_new).all) unended),
)
  where
    passes_still : (c : ℕ) (p : PassState) → slice_get passes' c ≡ Some p → IsPassOf desk p × (p.caller ≡ c)
    passes_still c p at =
        let below = get_in_range passes' c p at in
        let before = get_there passes c (omega (arith, below, all.count)) in
        let was = own.each c before.0 before.1 in
        let looked = all.each c before.0 p before.1 at in
        let same_caller : p.caller ≡ c = looked.looks.caller ∙ was.1 in (
          record {
            ticket = subst (λ r. IsTicketOf r p.ticket) (sym same) looked.ticket;
            caller = subst (λ k. k < desk.callers) (sym looked.looks.caller) was.0.caller;
          },
          same_caller,
        )
