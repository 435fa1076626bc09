-- The values of Ends that turns and keepers know.
use Rattle.std.specs.Prelude.{List, [], flat_map, ◌++◌}
use Rattle.std.specs.Arc.{arc_value}
use Rattle.join_words.specs.Ins.{parts_of}
use Rattle.table_steps.specs.declared.view.EndValue.{EndValue}
use Rattle.table_steps.specs.Values.{ended_with, values_in}
use Rattle.join_tables.specs.declared.parts.Inputs.{Inputs}
use Rattle.join_tables.specs.declared.turns.EndedStart.{EndedStart}
use Rattle.join_tables.specs.declared.fates.Fate.{Fate}
use Rattle.join_tables.specs.declared.fates.Fate.TheVariants.{Ended, Faulted}

-- that of an end, and those that its start found
abbrev pub own_values : {V : Type 0} → EndedStart V → List (EndValue V)
own_values ended = ended_with ended.place (arc_value ended.value) ++ values_in (parts_of ended.found.ins.value)

-- those that a turn knows that is done
abbrev pub known_values : {V : Type 0} → Fate V → List (EndValue V)
known_values (Ended ended) = own_values ended
known_values (Faulted f) = values_in (parts_of f.found.ins.value)
known_values _ = []

-- and those of several turns
abbrev pub values_known : {V : Type 0} → List (Fate V) → List (EndValue V)
values_known fates = flat_map known_values fates

-- those that turns found
abbrev pub found_values : {V : Type 0} → List (Inputs V) → List (EndValue V)
found_values all = flat_map (λ inputs. values_in (parts_of inputs.ins)) all
