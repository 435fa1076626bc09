use Rattle.std.proofs.Common.{subst, ◌≡◌, ◌∙◌, sym, ap, length, arith}
use Rattle.std.specs.Arc.{arc_value}
use Rattle.async_tasks.specs.Books.{BookHistory, key_of}
use Rattle.async_tasks.specs.Starts.{HasSeen, rows_seen}
use Rattle.async_tasks.proofs.Passing.{seen_longer, kept_added, kept_same, refused_same, items_same, table_same}
use Rattle.async_tasks.proofs.state.BookState.add_for.Goals as goal

pub returns-clause-later : goal.returns-clause-later
returns-clause-later g c =
    let mid = c.close_pass.new.self in
    let new = c.add_listed-answer.new.self in
    let same = items_same mid new c.args.caller (arc_value c.args.work) c.args.after.now (rows_seen c.args.ticket.item) (rows_seen c.open_pass.result.item) c.add_listed-answer.result c.add_listed-answer.ensures.ok c.add_listed-answer.ensures.err in
    let number : c.open_pass.result.number ≡ length mid.items = c.open_pass.ensures.ticket.number ∙ ap length same in
    omega (arith, c.close_pass.ensures.number, number)

pub returns-clause-longer : goal.returns-clause-longer
returns-clause-longer g c =
    let seen = subst (λ rows. HasSeen rows c.args.caller (rows_seen c.args.ticket.item)) (sym (ap (λ (b : BookHistory g.row.W.Denot g.row.W-V.Denot). b.rows) c.close_pass.ensures.book)) c.close_pass.ensures.seen in
    seen_longer c.close_pass.new.self c.add_listed-answer.new.self c.args.caller (arc_value c.args.work) c.args.after.now (rows_seen c.args.ticket.item) (rows_seen c.open_pass.result.item) c.add_listed-answer.result
    seen c.add_listed-answer.ensures.ok c.add_listed-answer.ensures.err c.open_pass.ensures.ticket.all

pub returns-clause-added : goal.returns-clause-added
returns-clause-added g c =
    let seen = subst (λ rows. HasSeen rows c.args.caller (rows_seen c.args.ticket.item)) (sym (ap (λ (b : BookHistory g.row.W.Denot g.row.W-V.Denot). b.rows) c.close_pass.ensures.book)) c.close_pass.ensures.seen in
    kept_added c.close_pass.new.self c.add_listed-answer.new.self c.args.caller (arc_value c.args.work) c.args.after.now (rows_seen c.args.ticket.item) (rows_seen c.open_pass.result.item) c.add_listed-answer.result
    seen c.add_listed-answer.ensures.ok c.add_listed-answer.ensures.number c.open_pass.ensures.ticket.all

pub returns-clause-not_added : goal.returns-clause-not_added
returns-clause-not_added g c =
    let seen = subst (λ rows. HasSeen rows c.args.caller (rows_seen c.args.ticket.item)) (sym (ap (λ (b : BookHistory g.row.W.Denot g.row.W-V.Denot). b.rows) c.close_pass.ensures.book)) c.close_pass.ensures.seen in
    kept_same c.close_pass.new.self c.add_listed-answer.new.self c.args.caller (arc_value c.args.work) c.args.after.now (rows_seen c.args.ticket.item) (rows_seen c.open_pass.result.item) c.add_listed-answer.result
    seen c.add_listed-answer.ensures.err c.open_pass.ensures.ticket.all

pub returns-clause-refused : goal.returns-clause-refused
returns-clause-refused g c =
    refused_same c.close_pass.new.self c.add_listed-answer.new.self c.args.caller (arc_value c.args.work) c.args.after.now (rows_seen c.args.ticket.item) (rows_seen c.open_pass.result.item) c.add_listed-answer.result c.args.work
    c.add_listed-answer.ensures.err c.open_pass.ensures.ticket.all c.add_listed-answer.ensures.refused

pub returns-clause-key : goal.returns-clause-key
returns-clause-key g c =
    let W = g.row.W.Denot in
    let V = g.row.W-V.Denot in
    let mid = c.close_pass.new.self in
    let new = c.add_listed-answer.new.self in
    let same = table_same mid new c.args.caller (arc_value c.args.work) c.args.after.now (rows_seen c.args.ticket.item) (rows_seen c.open_pass.result.item) c.add_listed-answer.result c.add_listed-answer.ensures.ok c.add_listed-answer.ensures.err in
    ap (λ (b : BookHistory W V). key_of b) c.open_pass.ensures.book ∙ same ∙ ap (λ (b : BookHistory W V). key_of b) c.close_pass.ensures.book
