-- The rule of a table: the accounts hold of the notes, and no End has two values.
use Rattle.std.specs.Prelude.{◌≡◌, ◌≤◌, ℕ, Option, None, List, slice_index}
use mathlib.Core.Option.{some}
use lib.ListN.{get_elem?}
use Rattle.atomic_table.specs.Table.{State}
use Rattle.task_graph.specs.NetRows.{NetRows}
use Rattle.join_words.specs.declared.ins.Given.{Given}
use Rattle.table_steps.specs.declared.view.SeatView.{SeatView}
use Rattle.table_steps.specs.Values.{given_parts, values_in, AreValues}
use Rattle.table_steps.specs.inside.SeatViews.{notes_alone}
use Rattle.table_steps.specs.inside.Accounts.{KeepsAccounts}

-- No End has two values: what the seats know of values, and the parcels in each slot, agree. A place that isn't drawn
-- yet has none.
pub record KeepsValues {V : Type 0} (s : State (List (Given V)) (SeatView V)) : Type 0 where
  pub value_at : ℕ → Option V
  pub views : (id : ℕ) (v : SeatView V) → get_elem? s.views id ≡ some v → AreValues value_at v.values
  pub parcels : (e : ℕ) (ys : List (Given V)) → get_elem? s.homes e ≡ some (some ys) → AreValues value_at (values_in ys)
  -- the clock is the place of the next entry
  pub later : (n : ℕ) → slice_index s.words 8 ≤ n → value_at n ≡ None

pub record KeepsTable {V : Type 0} (net : NetRows) (limit : ℕ) (s : State (List (Given V)) (SeatView V)) : Type 0 where
  pub accounts : KeepsAccounts given_parts net limit (notes_alone s)
  pub values : KeepsValues s
