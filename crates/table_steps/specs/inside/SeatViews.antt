-- A seat's view: its notes, and what it knows of the values of Ends.
use Rattle.std.specs.Prelude.{ℕ, List, [], ◌∷◌, ◌++◌, map, flat_map}
use Rattle.atomic_table.specs.Table.{State, Me}
use Rattle.join_words.specs.declared.ins.Given.{Given}
use Rattle.table_steps.specs.declared.view.Note.{Note}
use Rattle.table_steps.specs.declared.view.EndValue.{EndValue}
use Rattle.table_steps.specs.declared.view.SeatView.{SeatView}
use Rattle.table_steps.specs.Values.{ended_with, values_in, Knows, HaveOneValueEach}

-- the End at this place has the first of these values, if there is one
abbrev pub drawn_values : {V : Type 0} → ℕ → List V → List (EndValue V)
drawn_values n [] = []
drawn_values n (v ∷ more) = ended_with n v

-- its notes and the slots that it holds
abbrev pub me_of : {V : Type 0} → Me (List (Given V)) (SeatView V) → Me (List (Given V)) (List Note)
me_of me = (me.0.notes, me.1)

-- the values of the parcels in those slots
abbrev pub values_held : {V : Type 0} → List (ℕ × List (Given V)) → List (EndValue V)
values_held slots = flat_map (λ x. values_in x.1) slots

-- other notes, and the same values
abbrev pub with_notes : {V : Type 0} → (List Note → List Note) → SeatView V → SeatView V
with_notes f v = record { notes = f v.notes; values = v.values }

-- one seat's notes with another's, and the values of both
abbrev pub both_views : {V : Type 0} → (List Note → List Note → List Note) → SeatView V → SeatView V → SeatView V
both_views f v w = record { notes = f v.notes w.notes; values = w.values ++ v.values }

abbrev pub nothing_known : {V : Type 0} → SeatView V
nothing_known = record { notes = []; values = [] }

-- After a step the seat has the notes and slots that the kind of step leaves. It knows what it knew, and the values of
-- the parcels that it holds, and no two values of one End.
abbrev pub StepsKnowing : {V : Type 0} → (ℕ → Me (List (Given V)) (List Note) → Type 0) → Me (List (Given V)) (SeatView V) → ℕ → Me (List (Given V)) (SeatView V) → Type 0
StepsKnowing then before n after = then n (me_of after) × Knows after.0.values before.0.values × Knows after.0.values (values_held after.1) × HaveOneValueEach after.0.values

-- the table without what is known of values
abbrev pub notes_alone : {V : Type 0} → State (List (Given V)) (SeatView V) → State (List (Given V)) (List Note)
notes_alone s = record { words = s.words; homes = s.homes; views = map (λ v. v.notes) s.views }
