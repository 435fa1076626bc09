-- What a keeper has, and what its seat knows: the newest entry first.
use Rattle.std.specs.Prelude.{List, [], ◌∷◌}
use Rattle.table_steps.specs.declared.view.TurnDuty.TheVariants.{Told}
use Rattle.table_steps.specs.declared.view.Note.{Note}
use Rattle.table_steps.specs.declared.view.Note.TheVariants.{Duty}
use Rattle.join_tables.specs.declared.keeper.Recorded.{Recorded}

abbrev pub told_after : List Note → List Recorded → List Note
told_after notes [] = notes
told_after notes (r ∷ rs) = told_after (Duty (Told r.place r.entry) ∷ notes) rs

-- the entries that a seat knows, without what it knows besides
abbrev pub tellings : List Note → List Note
tellings [] = []
tellings (Duty (Told n x) ∷ rest) = Duty (Told n x) ∷ tellings rest
tellings (note ∷ rest) = tellings rest

abbrev pub told_notes : List Recorded → List Note
told_notes entries = told_after [] entries
