use Rattle.std.proofs.Common.{◌≡◌, ◌≤◌, ℕ, length}
use Rattle.async_tasks.specs.Books.{caller_of, key_of, NothingOut}
use Rattle.async_tasks.specs.AsyncBooks.{AreFirstPasses}
use Rattle.async_tasks.proofs.parts.open_passes.Given as goal

abbrev pub invariant-loop-caller : goal.invariant-loop-caller
invariant-loop-caller g l = (key_of l.state ≡ key_of l.initial.state) × (length l.passes.items ≡ l.caller)
    × AreFirstPasses l.register l.passes.items × ((c : ℕ) → l.caller ≤ c → NothingOut (caller_of c) l.state.items)
