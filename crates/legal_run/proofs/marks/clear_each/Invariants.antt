use Rattle.std.proofs.Common.{◌≡◌, ℕ, ◌<◌, ◌==◌, Bool, false, cond, length, take, slice_index_or}
use Rattle.std.specs.List.{list_any}
use Rattle.legal_run.proofs.marks.clear_each.Given as goal

abbrev pub invariant-loop-number : goal.invariant-loop-number
invariant-loop-number l =
    (length l.flags.items ≡ length l.fn.flags.items)
    × ((k : ℕ) (d : Bool) → k < length l.fn.flags.items → slice_index_or l.flags.items k d ≡ cond (list_any (λ n. n == k) (take l.number-index l.numbers)) false (slice_index_or l.fn.flags.items k d))
