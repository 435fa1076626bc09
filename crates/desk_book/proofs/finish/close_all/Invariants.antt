use Rattle.std.proofs.Common.{◌≡◌, ◌++◌, List}
use Rattle.std.specs.Vec.{vec_len}
use Rattle.desk_book.specs.Books.{with_items}
use Rattle.desk_book.specs.States.{with_book}
use Rattle.desk_book.specs.Passes.{PassState, HaveSeen, HaveTickets}
use Rattle.desk_book.proofs.finish.close_all.Given as goal

abbrev pub invariant-loop-pass : goal.invariant-loop-pass
invariant-loop-pass g l = (l.state ≡ with_book l.initial.state l.state.book) × (l.state.book ≡ with_items l.initial.state.book l.state.book.items) × HaveTickets l.register l.left.items
    × ((rest : List PassState) × (l.initial.left.items ≡ l.left.items ++ rest) × HaveSeen l.initial.state.book.history rest)

abbrev pub decreases-loop-pass : goal.decreases-loop-pass
decreases-loop-pass g l = vec_len l.left
