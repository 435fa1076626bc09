use Rattle.std.proofs.Common.{◌≡◌, ◌-◌, [], replicate}
use Rattle.grain_tasks.specs.Rows.{draw_state}
use Rattle.grain_tasks.specs.inside.Views.{fresh_view}
use Rattle.grain_tasks.proofs.row.ChunkRow.cut_seats.Given as goal

abbrev pub invariant-loop-cut : goal.invariant-loop-cut
invariant-loop-cut l =
    (l.seat.table_id ≡ l.fn.self.id) × (l.seat.me ≡ (fresh_view l.fn.self.shape (l.fn.self.shape.seats - l._cut), []))
    × (l.draws.items ≡ replicate l._cut (draw_state l.fn.self [] 0))
