use Rattle.std.proofs.Common.{◌≡◌, ◌++◌, codes, take}
use Rattle.std.specs.List.{All, flat_map}
use Rattle.journal_text.specs.JournalText.{FitsPart, part_field}
use Rattle.journal_text.proofs.printer.add_ins.Given as goal

abbrev pub invariant-loop-part : goal.invariant-loop-part
invariant-loop-part l = (l.line ≡ l.initial.line ++ flat_map (λ part. codes "," ++ part_field part) (take l.part-index l.rest)) × All FitsPart (take l.part-index l.rest)
