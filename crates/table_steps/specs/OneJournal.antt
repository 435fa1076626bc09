-- What is known of the journal between any two steps.
use Rattle.std.specs.Prelude.{◌≡◌, ◌==◌, ℕ, ◌<◌, List, [], ◌∷◌, Some, length, slice_get, slice_index, flat_map, count_by}
use Rattle.std.specs.List.{AllByRecursion}
use Rattle.atomic_table.specs.Table.{State}
use Rattle.task_graph.specs.NetRows.{NetRows}
use Rattle.journal_rules.specs.declared.entry.Entry.{Entry}
use Rattle.journal_rules.specs.ShapeLegal.{ShapeLegal, MeetsDataRule}
use Rattle.join_words.specs.declared.ins.Given.{Given}
use Rattle.table_steps.specs.declared.view.TurnDuty.TheVariants.{Told}
use Rattle.table_steps.specs.declared.view.Note.{Note}
use Rattle.table_steps.specs.declared.view.Note.TheVariants.{Duty}
use Rattle.table_steps.specs.declared.view.SeatView.{SeatView}

-- the entry that a note has, with its index in the journal, and those of notes
abbrev pub told_by : Note → List (ℕ × Entry)
told_by (Duty (Told n x)) = (n, x) ∷ []
told_by _ = []

abbrev pub entries_in : List Note → List (ℕ × Entry)
entries_in notes = flat_map told_by notes

-- the journal has the entry at this index
abbrev pub HasEntry : List Entry → ℕ × Entry → Type 0
HasEntry journal e = slice_get journal e.0 ≡ Some e.1

-- One journal, legal as far as the net decides and in which each start finds what it may, has each of these entries at
-- its index.
pub record AreInOneJournal (net : NetRows) (limit : ℕ) (entries : List (ℕ × Entry)) : Type 0 where
  pub journal : List Entry
  pub legal : ShapeLegal net limit journal
  pub meets : MeetsDataRule net journal
  pub stand : AllByRecursion (HasEntry journal) entries

-- And these are all of its entries, n of them, each once.
pub record AreOneJournal (net : NetRows) (limit n : ℕ) (entries : List (ℕ × Entry)) : Type 0 where
  pub within : AreInOneJournal net limit entries
  pub size : n ≡ length within.journal
  pub once : (m : ℕ) → m < n → count_by (λ (e : ℕ × Entry). e.0 == m) entries ≡ 1

-- how many entries were drawn, as the clock says, and those that the seats have
abbrev pub drawn_count : {V : Type 0} → State (List (Given V)) (SeatView V) → ℕ
drawn_count s = slice_index s.words 8

abbrev pub seats_entries : {V : Type 0} → State (List (Given V)) (SeatView V) → List (ℕ × Entry)
seats_entries {V} s = flat_map (λ (v : SeatView V). entries_in v.notes) s.views
