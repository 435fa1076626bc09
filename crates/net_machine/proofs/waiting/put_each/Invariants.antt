use Rattle.std.proofs.Common.{◌≡◌, ◌==◌, ◌<◌, ℕ, length, slice_index_or, if◌then◌else◌, take}
use Rattle.std.specs.List.{list_any}
use Rattle.journal_rules.specs.declared.entry.Part.{Part}
use Rattle.net_machine.proofs.waiting.put_each.Given as goal

abbrev pub invariant-loop-at : goal.invariant-loop-at
invariant-loop-at l =
    (length l.parts.items ≡ length l.initial.parts.items)
    × ((k : ℕ) (d : Part) → k < length l.initial.parts.items →
    slice_index_or l.parts.items k d ≡ (if list_any (λ at. at == k) (take l.at-index l.places) then l.part else slice_index_or l.initial.parts.items k d))
