use Rattle.std.proofs.Common.{refl, subst, ◌≡◌, ◌∙◌, sym, ap, map, length, arith}
use Rattle.std.specs.Arc.{arc_value}
use Rattle.std.specs.Vec.{vec_capacity}
use Rattle.std.proofs.lemmas.Bool.{false≢true}
use Rattle.std.proofs.lemmas.List.{length-map}
use Rattle.tickets.specs.Books.{BookState, TicketState}
use Rattle.async_tasks.specs.declared.history.AddRow.{AddRow}
use Rattle.async_tasks.specs.declared.outstanding.Outstanding.{Outstanding}
use Rattle.async_tasks.specs.declared.outstanding.Outstanding.TheVariants.{Running}
use Rattle.async_tasks.specs.Books.{BookHistory, book_key, value_at}
use Rattle.async_tasks.specs.Histories.{found}
use Rattle.async_tasks.specs.Adds.{CanStart}
use Rattle.async_tasks.specs.inside.Keeps.{HasEventRoom}
use Rattle.async_tasks.proofs.Starting.{started, starts, not_ready, is_ready_of, ready_below, room_to_start, has_inputs, has_work_at, keeps_at}
use Rattle.async_tasks.proofs.state.BookState.start_in.Goals as goal

pub returns-then-not-is_ready-clause-none : goal.returns-then-not-is_ready-clause-none
returns-then-not-is_ready-clause-none g c = (
  refl,
  λ can.
      not_ready g.W.AsyncWork.answers _ _ _ _ _ _ _ c.deref.result.now c.deref-2.result.now c.args.task c.deref.ensures.value c.deref-2.ensures.value c.self.invariant.0
      (λ ready. false≢true (sym c.if-not-is_ready.true ∙ c.is_ready.ensures.1 ready))
      (subst (λ (b : BookHistory g.row.W.Denot g.row.W-V.Denot). CanStart b c.args.task) (sym c.self.view_is) can),
)

pub index-row-requires : goal.index-row-requires
index-row-requires g c =
    let s = c.self.inside in
    let ready = is_ready_of g.W.AsyncWork.answers s.book.register s.callers s.rows.items s.events.items (map arc_value s.works.items) s.stages.items s.book.items c.deref.result.now c.deref-2.result.now c.args.task c.deref.ensures.value c.deref-2.ensures.value (c.is_ready.ensures.0 c.if-not-is_ready.false) in
    let below = ready_below g.W.AsyncWork.answers s.book.register s.callers s.rows.items s.events.items (map arc_value s.works.items) s.stages.items s.book.items c.args.task c.self.invariant.0 ready in
    omega (arith, below.0, s.rows.ok.0)

pub index-requires : goal.index-requires
index-requires g c =
    let s = c.self.inside in
    let ready = is_ready_of g.W.AsyncWork.answers s.book.register s.callers s.rows.items s.events.items (map arc_value s.works.items) s.stages.items s.book.items c.deref.result.now c.deref-2.result.now c.args.task c.deref.ensures.value c.deref-2.ensures.value (c.is_ready.ensures.0 c.if-not-is_ready.false) in
    let below = ready_below g.W.AsyncWork.answers s.book.register s.callers s.rows.items s.events.items (map arc_value s.works.items) s.stages.items s.book.items c.args.task c.self.invariant.0 ready in
    omega (arith, below.1, s.works.ok.0, length-map s.works.items arc_value)

pub push_reserved-requires : goal.push_reserved-requires
push_reserved-requires g c =
    let s = c.self.inside in
    let ready = is_ready_of g.W.AsyncWork.answers s.book.register s.callers s.rows.items s.events.items (map arc_value s.works.items) s.stages.items s.book.items c.deref.result.now c.deref-2.result.now c.args.task c.deref.ensures.value c.deref-2.ensures.value (c.is_ready.ensures.0 c.if-not-is_ready.false) in
    omega (arith, room_to_start g.W.AsyncWork.answers s.book.register s.callers s.rows.items s.events.items (map arc_value s.works.items) s.stages.items s.book.items c.args.task (vec_capacity s.events) c.self.invariant.0 ready c.self.invariant.1, s.events.ok.0)

pub invariant_of-self : goal.invariant_of-self
invariant_of-self g c =
    let s = c.self.inside in
    let W = g.row.W.Denot in
    let V = g.row.W-V.Denot in
    let ready = is_ready_of g.W.AsyncWork.answers s.book.register s.callers s.rows.items s.events.items (map arc_value s.works.items) s.stages.items s.book.items c.deref.result.now c.deref-2.result.now c.args.task c.deref.ensures.value c.deref-2.ensures.value (c.is_ready.ensures.0 c.if-not-is_ready.false) in
    let below = ready_below g.W.AsyncWork.answers s.book.register s.callers s.rows.items s.events.items (map arc_value s.works.items) s.stages.items s.book.items c.args.task c.self.invariant.0 ready in
    let same_table : s.book.register ≡ c.issue-ticket.new.book.register = ap (λ (b : BookHistory W V). b.register) c.self.view_is ∙ c.requires.register ∙ sym (ap (λ (b : BookState (Outstanding W V)). b.register) c.issue-ticket.ensures.book) in
    let has_work = has_work_at s.works.items c.args.task c.index.result.now c.in_ok-work.work (omega (arith, below.1, length-map s.works.items arc_value)) (c.in_ok-work.ensures ∙ ap arc_value c.index.ensures) in
    let has_ins = has_inputs g.W.AsyncWork.answers s.book.register s.callers s.rows.items s.events.items (map arc_value s.works.items) s.stages.items s.book.items c.args.task c.index-row.result.now (map arc_value c.in_ok-ins.ins) below.0
    (c.in_ok-ins.ensures ∙ ap (λ ss. found (value_at ss) c.as_slice.result.now) c.deref-3.ensures.value ∙ ap (found (value_at s.stages.items)) (c.as_slice.ensures ∙ ap (λ (row : AddRow). row.after) c.index-row.ensures)) in (
      started g.W.AsyncWork.answers c.issue-ticket.new.book.register s.callers s.rows.items s.events.items (map arc_value s.works.items) s.stages.items s.book.items
          c.push_reserved.new.self.items c.set_stage.new.stages.items c.issue-ticket.new.book.items c.args.task (arc_value c.in_ok-work.work) (map arc_value c.in_ok-ins.ins) (Running c.args.task c.of.result c.of-2.result)
          (keeps_at g.W.AsyncWork.answers s.book.register c.issue-ticket.new.book.register s.callers s.rows.items s.events.items (map arc_value s.works.items) s.stages.items s.book.items same_table c.self.invariant.0)
          ready has_work has_ins (refl, ap arc_value c.of.ensures, ap (map arc_value) c.of-2.ensures)
          c.push_reserved.ensures.items c.set_stage.ensures (ap (λ (b : BookState (Outstanding W V)). b.items) c.issue-ticket.ensures.book),
      subst (HasEventRoom (length s.rows.items)) (sym c.push_reserved.ensures.capacity) c.self.invariant.1,
    )

pub returns-clause-started : goal.returns-clause-started
returns-clause-started g c =
    let s = c.self.inside in
    let W = g.row.W.Denot in
    let V = g.row.W-V.Denot in
    let ready = is_ready_of g.W.AsyncWork.answers s.book.register s.callers s.rows.items s.events.items (map arc_value s.works.items) s.stages.items s.book.items c.deref.result.now c.deref-2.result.now c.args.task c.deref.ensures.value c.deref-2.ensures.value (c.is_ready.ensures.0 c.if-not-is_ready.false) in
    let below = ready_below g.W.AsyncWork.answers s.book.register s.callers s.rows.items s.events.items (map arc_value s.works.items) s.stages.items s.book.items c.args.task c.self.invariant.0 ready in
    let same_table : s.book.register ≡ c.args.register.now = ap (λ (b : BookHistory W V). b.register) c.self.view_is ∙ c.requires.register in
    let has_work = has_work_at s.works.items c.args.task c.index.result.now c.in_ok-work.work (omega (arith, below.1, length-map s.works.items arc_value)) (c.in_ok-work.ensures ∙ ap arc_value c.index.ensures) in
    let has_ins = has_inputs g.W.AsyncWork.answers s.book.register s.callers s.rows.items s.events.items (map arc_value s.works.items) s.stages.items s.book.items c.args.task c.index-row.result.now (map arc_value c.in_ok-ins.ins) below.0
    (c.in_ok-ins.ensures ∙ ap (λ ss. found (value_at ss) c.as_slice.result.now) c.deref-3.ensures.value ∙ ap (found (value_at s.stages.items)) (c.as_slice.ensures ∙ ap (λ (row : AddRow). row.after) c.index-row.ensures)) in
    starts g.W.AsyncWork.answers s.book.register s.callers s.rows.items s.events.items (map arc_value s.works.items) s.stages.items s.book.items
    c.issue-ticket.new.book.register c.issue-ticket.result.register c.push_reserved.new.self.items c.set_stage.new.stages.items c.issue-ticket.new.book.items c.args.task (arc_value c.in_ok-work.work) (map arc_value c.in_ok-ins.ins)
    c.self.invariant.0 ready has_work has_ins
    (ap (λ (b : BookState (Outstanding W V)). b.register) c.issue-ticket.ensures.book ∙ sym same_table)
    (ap (λ (t : TicketState (Outstanding W V)). t.register) c.issue-ticket.ensures.ticket ∙ sym same_table)
    c.push_reserved.ensures.items c.set_stage.ensures c.args.self.now c.self.view_is

pub returns-clause-key : goal.returns-clause-key
returns-clause-key g c =
    let W = g.row.W.Denot in
    let V = g.row.W-V.Denot in
    let same : c.issue-ticket.new.book.register ≡ c.args.self.now.register = ap (λ (b : BookState (Outstanding W V)). b.register) c.issue-ticket.ensures.book ∙ sym c.requires.register in
    ap (λ r. book_key r c.self.inside.callers) same ∙ ap (λ (b : BookHistory W V). book_key c.args.self.now.register b.callers) c.self.view_is
