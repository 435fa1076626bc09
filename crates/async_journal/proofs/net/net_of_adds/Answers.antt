use Rattle.std.proofs.Common.{refl}
use Rattle.async_journal.proofs.BookAdds.{book_refused}
use Rattle.async_journal.proofs.Refusing.{joins_refused}
use Rattle.async_journal.proofs.net.net_of_adds.Goals as goal

pub returns-in_err-add_edges-clause-book : goal.returns-in_err-add_edges-clause-book
returns-in_err-add_edges-clause-book c =
    let adds = c.args.adds.now in
    let result = c.from_residual-in_err-add_edges.result in
    book_refused adds result
    (joins_refused adds c.new-builder.result c.add_tasks.new.builder _ c.in_err-add_edges.field-0.0 result c.new-builder.ensures.empty refl c.in_ok-add_tasks.ensures.ok c.in_err-add_edges.ensures.refused
    c.from_residual-in_err-add_edges.ensures.1)
