-- Entries that cut a run short.
use Rattle.std.specs.Prelude.{Bool, true, false}
use Rattle.journal_rules.specs.declared.entry.DropWhy.{DropWhy}
use Rattle.journal_rules.specs.declared.entry.DropWhy.TheVariants.{Halted, Limit, Stuck}
use Rattle.journal_rules.specs.declared.entry.Entry.{Entry}
use Rattle.journal_rules.specs.declared.entry.Entry.TheVariants.{Start, End, Fault, Drop}

-- whether an entry says that its run was cut short
abbrev pub is_cut_by : DropWhy → Bool
is_cut_by Halted = false
is_cut_by Limit = true
is_cut_by (Stuck s) = true

abbrev pub cuts_short : Entry → Bool
cuts_short (Start task cause ins) = false
cuts_short (End start gives inner) = false
cuts_short (Fault start why) = true
cuts_short (Drop task cause why) = is_cut_by why
