use Rattle.std.proofs.Common.{◌≡◌, ◌≤◌, ◌+◌, length}
use Rattle.journal_text.specs.inside.Reading.{HasRead}
use Rattle.journal_text.proofs.reader.read_entries.Given as goal

abbrev pub invariant-loop-rest : goal.invariant-loop-rest
invariant-loop-rest l = HasRead l.version l.fn.bytes l.journal l.rest × (l.line ≡ length l.journal + 2) × (length l.journal + length l.rest ≤ length l.fn.bytes)

abbrev pub decreases-loop-rest : goal.decreases-loop-rest
decreases-loop-rest l = length l.rest
