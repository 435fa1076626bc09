use Rattle.std.proofs.Common.{arith, sym, ap, ◌∙◌, subst, ◌+◌, ◌%◌, ◌^◌}
use mathlib.Core.Option.{none}
use Rattle.atomic_table.specs.Table.{Allows, step}
use Rattle.grain_tasks.specs.Rows.{DrawState, RowState}
use Rattle.grain_tasks.specs.declared.row_view.RowShape.{RowShape}
use Rattle.grain_tasks.specs.inside.Views.{Draws, IsRow}
use Rattle.grain_tasks.proofs.RowSteps.{draws_number, drawn_shape, learns_all}
use Rattle.grain_tasks.proofs.row.ChunkRow.draw.Goals as goal

pub fetch_add-from-requires : goal.fetch_add-from-requires
fetch_add-from-requires c =
    let a = ap (λ (d : DrawState). d.row) c.draw.view_is ∙ c.requires ∙ sym c.self.view_is in
    let words = c.self.invariant.0 in
    let me = c.draw.inside.seat.me in
    let shape = c.self.inside.shape in
    let slots = c.self.inside.table.shared.table_id.slots in (
      ap (λ (r : RowState). r.id) a,
      omega arith,
      subst (λ (k : RowShape). Allows (λ s. IsRow k s.words s.views) slots c.draw.inside.seat.id me 8 (λ n. (n + shape.grain) % 2 ^ 64) (Draws (step slots 8 shape.grain 0 none) me)) (sym c.self.invariant.1)
          (draws_number shape slots c.draw.inside.seat.id me c.self.invariant.2 (ap (λ (r : RowState). r.shape) a) c.draw.invariant.0 c.draw.invariant.1 c.draw.invariant.2),
    )

pub load-requires : goal.load-requires
load-requires c =
    let a = ap (λ (d : DrawState). d.row) c.draw.view_is ∙ c.requires ∙ sym c.self.view_is in
    let words = c.self.invariant.0 in
    let e = c.fetch_add-from.ensures in (
      e.0 ∙ ap (λ (r : RowState). r.id) a,
      omega arith,
      learns_all c.self.inside.table.shared.key _ _ _ (ap (λ m. m.0.shape) e.2.0 ∙ drawn_shape c.fetch_add-from.result c.draw.inside.seat.me.0 ∙ ap (λ (r : RowState). r.shape) a ∙ sym c.self.invariant.1) (ap (λ m. m.1) e.2.0 ∙ c.draw.invariant.2),
    )
