-- What an End or a Fault closes.
use Rattle.std.specs.Prelude.{List, IsTrue}
use Rattle.journal_rules.specs.declared.entry.Entry.{Entry}
use Rattle.journal_rules.specs.declared.entry.Entry.TheVariants.{Start, End, Fault, Drop}
use Rattle.journal_rules.specs.Counts.{is_open}

-- An End or a Fault names the place of a Start that is open.
abbrev pub ClosingRule : List Entry → Entry → Type 0
ClosingRule journal (Start task cause ins) = Unit {0}
ClosingRule journal (End start gives inner) = IsTrue (is_open journal start)
ClosingRule journal (Fault start why) = IsTrue (is_open journal start)
ClosingRule journal (Drop task cause why) = Unit {0}
