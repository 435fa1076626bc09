use Rattle.std.proofs.Common.{◌≡◌}
use Rattle.desk_book.specs.Books.{with_items}
use Rattle.desk_book.specs.States.{with_book}
use Rattle.desk_book.proofs.Closing.{LookedBelow}
use Rattle.desk_book.proofs.finish.look_all.Given as goal

abbrev pub invariant-loop-at : goal.invariant-loop-at
invariant-loop-at g l = (l.state ≡ with_book l.initial.state l.state.book) × (l.state.book ≡ with_items l.initial.state.book l.state.book.items)
    × LookedBelow l.register l.initial.state.book.history l.initial.passes.items l.passes.items l.at
