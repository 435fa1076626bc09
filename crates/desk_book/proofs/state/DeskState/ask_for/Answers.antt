use Rattle.std.proofs.Common.{ap, sym, subst}
use Rattle.desk_book.specs.Books.{BookHistory}
use Rattle.desk_book.specs.Taking.{HasSeen, entries_seen}
use Rattle.desk_book.proofs.Seeing.{ask_asked}
use Rattle.desk_book.proofs.state.DeskState.ask_for.Goals as goal

pub returns-clause-asked : goal.returns-clause-asked
returns-clause-asked g c =
    let seen = subst (λ history. HasSeen history c.args.caller (entries_seen c.args.ticket.item)) (sym (ap (λ (b : BookHistory). b.history) c.close_pass.ensures.book)) c.close_pass.ensures.seen in
    ask_asked c.close_pass.new.self c.add-answer.new.self c.args.caller c.args.graph c.args.times (entries_seen c.args.ticket.item) (entries_seen c.open_pass.result.item) c.add-answer.result seen c.add-answer.ensures.ok c.open_pass.ensures.ticket.all c.add-answer.ensures.number
