use Rattle.std.proofs.Common.{rules, ◌≡◌, subst, ◌+◌, arith, ◌-◌, ◌%◌, ◌^◌}
use Rattle.std.specs.Prelude.{length}
use Rattle.std.specs.Arc.{arc_value}
use Rattle.task_graph.specs.NetRows.{NetRows}
use Rattle.table_steps.specs.inside.Accounts.{tokens_from}
use Rattle.table_steps.specs.inside.UnitKinds.{undone, MayUndo}
use Rattle.table_steps.proofs.UnitSeats.{undo_allowed}
use Rattle.table_steps.specs.inside.TableSeats.{TableSeatState}
use Rattle.table_steps.proofs.TableSeats.{at_seat}
use Rattle.table_steps.specs.inside.SeatViews.{me_of}
use Rattle.table_steps.proofs.ValueSteps.{steps_knowing}
use Rattle.table_steps.proofs.words.Words.undo_unit.Goals as goal

pub fetch_sub-requires : goal.fetch_sub-requires
fetch_sub-requires g c =
    let same : arc_value c.args.self.now.net ≡ arc_value c.args.self.now.table.shared.key.net = search rules in
    let sized : c.args.self.now.table.shared.table_id.words ≡ tokens_from (arc_value c.args.self.now.net) + length (arc_value c.args.self.now.net).edges + length (arc_value c.args.self.now.net).tasks = search rules in
    let net = arc_value c.args.self.now.table.shared.key.net in let limit = c.args.self.now.table.shared.key.limit in let me = c.seat.inside.seat.me in
    let slots = c.args.self.now.table.shared.table_id.slots in let id = c.seat.inside.seat.id in (
      search rules,
      omega (arith, c.requires.in_range, sized),
      steps_knowing net limit slots id me (40 + c.args.sem) (λ k. (k + (2 ^ 64 - 1)) % 2 ^ 64) (λ k m. (m.0 ≡ undone me.0.notes) × (m.1 ≡ me.1)) (λ z. omega arith) c.seat.invariant
          (undo_allowed net limit slots id (me_of me) c.args.sem (subst (λ (n : NetRows). MayUndo n c.args.sem me.0.notes) same (at_seat (λ (p : TableSeatState _). MayUndo (arc_value c.args.self.now.net) c.args.sem p.me.0) c.seat.view_is c.requires.ready))),
    )
