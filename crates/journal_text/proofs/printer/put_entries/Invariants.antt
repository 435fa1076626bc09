use Rattle.std.proofs.Common.{take}
use Rattle.std.specs.List.{All, flat_map}
use Rattle.outside_io.specs.Sink.{Accepts}
use Rattle.journal_text.specs.JournalText.{HasLine, entry_line}
use Rattle.journal_text.specs.declared.version.Version.TheVariants.{Two}
use Rattle.journal_text.proofs.printer.put_entries.Given as goal

abbrev pub invariant-loop-entry : goal.invariant-loop-entry
invariant-loop-entry g l = Accepts (g.S.Sink.state l.initial.out) (g.S.Sink.state l.out) (flat_map entry_line (take l.entry-index l.journal)) × All (HasLine Two) (take l.entry-index l.journal)
