use Rattle.std.proofs.Common.{arith, ◌≡◌, ◌-◌, suc, sym, ap, ◌∙◌}
use Rattle.grain_tasks.specs.Rows.{RowState}
use Rattle.grain_tasks.proofs.RowSteps.{all_cut, cuts_fresh}
use Rattle.grain_tasks.proofs.row.ChunkRow.cut_seats.Goals as goal

pub split_seat-next-requires : goal.split_seat-next-requires
split_seat-next-requires c =
    let words = c.self.invariant.0 in
    let below = c.loop-cut-test.true in
    let id = ap (λ (r : RowState). r.id) c.self.view_is in
    let shape = ap (λ (r : RowState). r.shape) c.self.view_is in
    let seats = ap (λ (r : RowState). r.shape.seats) c.self.view_is in (
      c.loop-cut.invariant.0 ∙ sym id,
      omega arith,
      cuts_fresh c.self.inside.table.shared.key c.args.self.now.shape _ _ _ (omega (arith, below, seats)) (ap (λ m. m.0) c.loop-cut.invariant.1),
    )

pub invariant_of-push-2 : goal.invariant_of-push-2
invariant_of-push-2 c =
    let seats = ap (λ (r : RowState). r.shape.seats) c.self.view_is in
    let any = c.self.invariant.2.seats in
    let past = c.loop-cut-test.false in
    let within = c.loop-cut.auto._cut-end in
    let left : c.args.self.now.shape.seats - c.loop-cut._cut ≡ 1 = omega (arith, seats, any, past, within) in
    let me = c.loop-cut.invariant.1 in
    (ap (λ m. m.0.seats) me ∙ left, ap (λ m. m.0.late) me, ap (λ m. m.1) me)

pub returns : goal.returns
returns c =
    let seats = ap (λ (r : RowState). r.shape.seats) c.self.view_is in
    let any = c.self.invariant.2.seats in
    let past = c.loop-cut-test.false in
    let within = c.loop-cut.auto._cut-end in
    let last : suc c.loop-cut._cut ≡ c.args.self.now.shape.seats = omega (arith, seats, any, past, within) in
    all_cut c.args.self.now c.loop-cut.draws.items c.push-2.new.self.items c.loop-cut.seat.table_id c.loop-cut.seat.me.0 c.loop-cut._cut _
    c.in_ok-push-2.ensures.items c.loop-cut.invariant.2 c.loop-cut.invariant.0 (ap (λ m. m.0) c.loop-cut.invariant.1) last
