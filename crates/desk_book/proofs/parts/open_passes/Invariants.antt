use Rattle.std.proofs.Common.{◌≡◌, ◌≤◌, ℕ, length}
use Rattle.desk_book.specs.Books.{caller_of, NothingOut}
use Rattle.desk_book.specs.States.{key_of}
use Rattle.desk_book.specs.Desks.{AreFirstPasses}
use Rattle.desk_book.proofs.parts.open_passes.Given as goal

abbrev pub invariant-loop-caller : goal.invariant-loop-caller
invariant-loop-caller g l = (key_of l.state ≡ key_of l.initial.state) × (length l.passes.items ≡ l.caller)
    × AreFirstPasses l.register l.passes.items × ((c : ℕ) → l.caller ≤ c → NothingOut (caller_of c) l.state.book.items)
