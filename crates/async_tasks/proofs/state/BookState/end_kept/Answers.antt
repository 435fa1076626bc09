use Rattle.std.proofs.Common.{subst, ◌≡◌, ◌∙◌, sym, ap, map, length, arith, ◌++◌, ◌∷◌, [], Some}
use Rattle.std.specs.Arc.{arc_value}
use Rattle.std.specs.Vec.{vec_capacity}
use Rattle.tickets.specs.Books.{BookState}
use Rattle.async_tasks.specs.declared.outstanding.Outstanding.{Outstanding}
use Rattle.async_tasks.specs.declared.outstanding.Outstanding.TheVariants.{Recorded}
use Rattle.async_tasks.specs.Books.{BookHistory, book_key}
use Rattle.async_tasks.specs.Starts.{OpenStart}
use Rattle.async_tasks.specs.inside.Keeps.{HasEventRoom}
use Rattle.async_tasks.proofs.Starting.{keeps_at}
use Rattle.async_tasks.proofs.Ending.{ended, ends, is_open, room_to_end}
use Rattle.async_tasks.proofs.state.BookState.end_kept.Goals as goal

pub push_reserved-requires : goal.push_reserved-requires
push_reserved-requires g c =
    let s = c.self.inside in
    let start = c.started.inside in
    let running = is_open g.W.AsyncWork.answers s.book.register s.callers s.rows.items s.events.items (map arc_value s.works.items) s.stages.items s.book.items start.task (arc_value start.work) (map arc_value start.ins) start.ticket.number start.ticket.item c.self.invariant.0 c.redeem.ensures.outstanding c.started.invariant in
    omega (arith, room_to_end g.W.AsyncWork.answers s.book.register s.callers s.rows.items s.events.items (map arc_value s.works.items) s.stages.items s.book.items start.task (arc_value start.work) (map arc_value start.ins) c.args.value (vec_capacity s.events) c.self.invariant.0 running c.self.invariant.1, s.events.ok.0)

pub invariant_of-self : goal.invariant_of-self
invariant_of-self g c =
    let s = c.self.inside in
    let start = c.started.inside in
    let W = g.row.W.Denot in
    let V = g.row.W-V.Denot in
    let same_table : s.book.register ≡ c.issue-ticket.new.book.register = ap (λ (b : BookHistory W V). b.register) c.self.view_is ∙ c.requires.register ∙ sym (ap (λ (b : BookState (Outstanding W V)). b.register) c.issue-ticket.ensures.book) in (
      ended g.W.AsyncWork.answers c.issue-ticket.new.book.register s.callers s.rows.items s.events.items (map arc_value s.works.items) s.stages.items s.book.items
          c.push_reserved.new.self.items c.set_stage.new.stages.items c.issue-ticket.new.book.items start.task (arc_value start.work) (map arc_value start.ins) c.args.value start.ticket.number start.ticket.item c.len-place.result
          (keeps_at g.W.AsyncWork.answers s.book.register c.issue-ticket.new.book.register s.callers s.rows.items s.events.items (map arc_value s.works.items) s.stages.items s.book.items same_table c.self.invariant.0)
          c.redeem.ensures.outstanding c.started.invariant
          (subst (λ (o : OpenStart W V). g.W.AsyncWork.answers o.work o.ins (arc_value c.args.value)) (sym c.started.view_is) c.requires.answered)
          c.push_reserved.ensures.items c.set_stage.ensures
          (ap (λ (b : BookState (Outstanding W V)). b.items) c.issue-ticket.ensures.book ∙ ap (λ (b : BookState (Outstanding W V)). b.items ++ Some (Recorded start.task c.len-place.result) ∷ []) c.redeem.ensures.book)
          (omega (arith, c.len-place.ensures, s.events.ok.0)),
      subst (HasEventRoom (length s.rows.items)) (sym c.push_reserved.ensures.capacity) c.self.invariant.1,
    )

pub returns-clause-ended : goal.returns-clause-ended
returns-clause-ended g c =
    let s = c.self.inside in
    let start = c.started.inside in
    let W = g.row.W.Denot in
    let V = g.row.W-V.Denot in
    let same_table : s.book.register ≡ c.issue-ticket.new.book.register = ap (λ (b : BookHistory W V). b.register) c.self.view_is ∙ c.requires.register ∙ sym (ap (λ (b : BookState (Outstanding W V)). b.register) c.issue-ticket.ensures.book) in
    ends g.W.AsyncWork.answers s.book.register s.callers s.rows.items s.events.items (map arc_value s.works.items) s.stages.items s.book.items
    c.issue-ticket.new.book.register start.ticket.register c.push_reserved.new.self.items c.set_stage.new.stages.items c.issue-ticket.new.book.items start.task (arc_value start.work) (map arc_value start.ins) c.args.value
    c.self.invariant.0
    (is_open g.W.AsyncWork.answers s.book.register s.callers s.rows.items s.events.items (map arc_value s.works.items) s.stages.items s.book.items start.task (arc_value start.work) (map arc_value start.ins) start.ticket.number start.ticket.item c.self.invariant.0 c.redeem.ensures.outstanding c.started.invariant)
    (sym same_table) c.push_reserved.ensures.items c.set_stage.ensures c.args.self.now c.args.started c.self.view_is c.started.view_is

pub returns-clause-key : goal.returns-clause-key
returns-clause-key g c =
    let W = g.row.W.Denot in
    let V = g.row.W-V.Denot in
    let same : c.issue-ticket.new.book.register ≡ c.args.self.now.register = ap (λ (b : BookState (Outstanding W V)). b.register) c.issue-ticket.ensures.book ∙ sym c.requires.register in
    ap (λ r. book_key r c.self.inside.callers) same ∙ ap (λ (b : BookHistory W V). book_key c.args.self.now.register b.callers) c.self.view_is
