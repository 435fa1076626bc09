use Rattle.std.proofs.Common.{arith, sym, ap, ◌∙◌}
use Rattle.grain_tasks.specs.Rows.{DrainedState, RowState}
use Rattle.grain_tasks.proofs.RowSteps.{learns_all, puts_together}
use Rattle.grain_tasks.proofs.row.ChunkRow.gather.Goals as goal

pub join_seat-requires : goal.join_seat-requires
join_seat-requires c =
    let a = ap (λ (d : DrainedState). d.row) c.a.view_is ∙ c.requires.first ∙ sym c.self.view_is in
    let b = ap (λ (d : DrainedState). d.row) c.b.view_is ∙ c.requires.second ∙ sym c.self.view_is in
    let words = c.self.invariant.0 in
    (ap (λ (r : RowState). r.id) a, ap (λ (r : RowState). r.id) b, c.b.invariant.1, omega arith, puts_together c.self.inside.table.shared.key _ _ _ _)

pub load-requires : goal.load-requires
load-requires c =
    let a = ap (λ (d : DrainedState). d.row) c.a.view_is ∙ c.requires.first ∙ sym c.self.view_is in
    let words = c.self.invariant.0 in
    let e = c.join_seat.ensures in
    (e.0 ∙ ap (λ (r : RowState). r.id) a, omega arith, learns_all c.self.inside.table.shared.key _ _ _ (ap (λ m. m.0.shape) e.2 ∙ ap (λ (r : RowState). r.shape) a ∙ sym c.self.invariant.1) (ap (λ m. m.1) e.2 ∙ c.a.invariant.1))
