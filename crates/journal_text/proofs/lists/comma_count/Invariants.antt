use Rattle.std.proofs.Common.{◌≡◌, ◌+◌, ◌≤◌, drop}
use Rattle.journal_text.specs.inside.Reading.{comma_count}
use Rattle.journal_text.proofs.lists.comma_count.Given as goal

abbrev pub invariant-loop-byte : goal.invariant-loop-byte
invariant-loop-byte l = (l.count + comma_count (drop l.byte-index l.bytes) ≡ comma_count l.bytes) × (l.count ≤ l.byte-index)
