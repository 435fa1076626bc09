use Rattle.std.proofs.Common.{◌≡◌, length, take}
use Rattle.join_tables.specs.Keeping.{entries_told}
use Rattle.join_tables.proofs.merge.count_entries.Given as goal

abbrev pub invariant-loop-fate : goal.invariant-loop-fate
invariant-loop-fate g l = l.count ≡ length (entries_told (take l.fate-index l.fate-items))
