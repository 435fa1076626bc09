use Rattle.std.proofs.Common.{◌≡◌, ◌^◌, ◌<◌, drop}
use Rattle.journal_text.specs.inside.Reading.{number_on}
use Rattle.journal_text.proofs.words.digits_at.Given as goal

abbrev pub invariant-loop-i : goal.invariant-loop-i
invariant-loop-i l = (l.value < 2 ^ 64) × (number_on l.value (drop l.i l.bytes) ≡ number_on 0 l.bytes)
