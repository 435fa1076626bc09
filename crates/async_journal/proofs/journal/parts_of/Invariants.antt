use Rattle.std.proofs.Common.{◌≡◌, map, take}
use Rattle.async_journal.specs.inside.Tables.{noted_part}
use Rattle.async_journal.proofs.journal.parts_of.Given as goal

abbrev pub invariant-loop-before : goal.invariant-loop-before
invariant-loop-before l = l.ins ≡ map (noted_part l.ends) (take l.before-index l.after)
