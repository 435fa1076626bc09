use Rattle.std.proofs.Common.{rules, ◌≡◌, ◌+◌, arith}
use Rattle.std.specs.Prelude.{length}
use Rattle.std.specs.Arc.{arc_value}
use Rattle.table_steps.specs.inside.Accounts.{tokens_from}
use Rattle.table_steps.proofs.HaltSteps.{drop_allowed}
use Rattle.table_steps.specs.inside.Halts.{dropped, MayDrop}
use Rattle.table_steps.specs.inside.TableSeats.{TableSeatState}
use Rattle.table_steps.proofs.TableSeats.{at_seat}
use Rattle.table_steps.specs.inside.SeatViews.{me_of}
use Rattle.table_steps.proofs.ValueSteps.{draws_knowing}
use Rattle.table_steps.proofs.words.Words.draw_drop.Goals as goal

pub fetch_add-requires : goal.fetch_add-requires
fetch_add-requires g c =
    let sized : c.args.self.now.table.shared.table_id.words ≡ tokens_from (arc_value c.args.self.now.net) + length (arc_value c.args.self.now.net).edges + length (arc_value c.args.self.now.net).tasks = search rules in
    let net = arc_value c.args.self.now.table.shared.key.net in let limit = c.args.self.now.table.shared.key.limit in let me = c.seat.inside.seat.me in
    let slots = c.args.self.now.table.shared.table_id.slots in let id = c.seat.inside.seat.id in (
      search rules,
      omega (arith, sized),
      draws_knowing net limit slots id me (λ k m. (m.0 ≡ dropped k me.0.notes) × (m.1 ≡ me.1)) c.seat.invariant
          (drop_allowed net limit slots id (me_of me) (at_seat (λ (p : TableSeatState _). MayDrop p.me.0) c.seat.view_is c.requires.ready)),
    )
