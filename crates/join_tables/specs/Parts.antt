-- What a release found at its edges.
use Rattle.std.specs.Prelude.{List, map}
use Rattle.journal_rules.specs.declared.entry.Part.{Part}
use Rattle.join_words.specs.declared.ins.Ins.{Ins}
use Rattle.join_words.specs.Ins.{parts_of}
use Rattle.table_steps.specs.Values.{given_part}

-- the parts that it found, without their values
abbrev pub parts_in : {V : Type 0} → Ins V → List Part
parts_in ins = map given_part (parts_of ins)
