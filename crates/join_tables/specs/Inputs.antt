-- What a release has found so far.
use Rattle.std.specs.Prelude.{ℕ, List}
use Rattle.std.specs.Vec.{vec_capacity}
use Rattle.journal_rules.specs.declared.entry.Part.{Part}
use Rattle.join_words.specs.declared.ins.Given.{Given}
use Rattle.join_words.specs.Ins.{parts_of}
use Rattle.join_tables.specs.Parts.{parts_in}
use Rattle.join_tables.specs.declared.parts.Inputs.{Inputs}

-- what it found at its edges so far, in their order
abbrev pub given_in : {V : Type 0} → Inputs V → List (Given V)
given_in inputs = parts_of inputs.ins

-- and without the values
abbrev pub parts_found : {V : Type 0} → Inputs V → List Part
parts_found inputs = parts_in inputs.ins

-- for how many edges there is room in all
abbrev pub room_in : {V : Type 0} → Inputs V → ℕ
room_in inputs = vec_capacity inputs.parts
