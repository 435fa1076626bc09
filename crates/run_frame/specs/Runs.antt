-- Looking into a run.
use Rattle.std.specs.Prelude.{◌≡◌, ℕ, ◌==◌, List, [], ◌∷◌, map, count_by, Option, Some, None, if◌then◌else◌}
use Rattle.std.specs.Arc.{arc_value}
use Rattle.journal_rules.specs.declared.entry.Part.{Part}
use Rattle.journal_rules.specs.declared.entry.Part.TheVariants.{From, First, Nothing}
use Rattle.journal_rules.specs.declared.entry.Entry.{Entry}
use Rattle.journal_rules.specs.Counts.{faults}
use Rattle.journal_rules.specs.HaltLimitStuckRule.{is_stuck}
use Rattle.journal_rules.specs.Complete.{is_limited}
use Rattle.join_words.specs.Ins.{InputValue, value, first, nothing}
use Rattle.run_frame.specs.declared.run.ValueRow.{ValueRow}
use Rattle.run_frame.specs.declared.run.FrameRun.{FrameRun, out-FrameRun}
use Rattle.run_frame.specs.declared.run.InnerRow.{InnerRow, out-InnerRow}

-- the value at a place, where a row has it
abbrev pub value_at : {V : Type 0} → List (ValueRow V) → ℕ → Option V
value_at [] n = None
value_at (row ∷ rows) n = if row.place == n then Some (arc_value row.value) else value_at rows n

-- the rows of a run's values
abbrev pub values_of : {J V : Type 0} → FrameRun J V → List (ValueRow V)
values_of {J} {V} run = (out-FrameRun J V run).values

-- what is found by a part: the value of the End that it names
abbrev pub found_by : {V : Type 0} → Option V → InputValue V
found_by None = nothing
found_by (Some v) = value v

abbrev pub found_at : {V : Type 0} → List (ValueRow V) → Part → InputValue V
found_at values (From n) = found_by (value_at values n)
found_at values First = first
found_at values Nothing = nothing

-- what a Start with these ins finds
abbrev pub found_ins : {V : Type 0} → List (ValueRow V) → List Part → List (InputValue V)
found_ins values ins = map (found_at values) ins

-- the inner run at a place, where a row has it
abbrev pub inner_in : {J V : Type 0} → List (InnerRow J V) → ℕ → Option (FrameRun J V)
inner_in [] n = None
inner_in {J} {V} (row ∷ rows) n = if (out-InnerRow J V row).place == n then Some (out-InnerRow J V row).run else inner_in rows n

-- nothing was cut short: no Fault, and no Drop at the limit or for want of a unit
pub record IsFine (journal : List Entry) : Type 0 where
  pub no_fault : faults journal ≡ 0
  pub none_limited : count_by is_limited journal ≡ 0
  pub none_stuck : count_by is_stuck journal ≡ 0
