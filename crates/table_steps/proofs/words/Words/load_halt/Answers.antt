use Rattle.std.proofs.Common.{rules, ◌≡◌, ◌+◌, arith}
use Rattle.std.specs.Prelude.{length}
use Rattle.std.specs.Arc.{arc_value}
use Rattle.table_steps.specs.inside.Accounts.{tokens_from}
use Rattle.table_steps.proofs.HaltSteps.{halt_allowed}
use Rattle.table_steps.specs.inside.Halts.{halt_read, MayAsk}
use Rattle.table_steps.specs.inside.TableSeats.{TableSeatState}
use Rattle.table_steps.proofs.TableSeats.{at_seat}
use Rattle.table_steps.specs.inside.SeatViews.{me_of}
use Rattle.table_steps.proofs.ValueSteps.{steps_knowing}
use Rattle.table_steps.proofs.words.Words.load_halt.Goals as goal

pub load-found-requires : goal.load-found-requires
load-found-requires g c =
    let sized : c.args.self.now.table.shared.table_id.words ≡ tokens_from (arc_value c.args.self.now.net) + length (arc_value c.args.self.now.net).edges + length (arc_value c.args.self.now.net).tasks = search rules in
    let net = arc_value c.args.self.now.table.shared.key.net in let limit = c.args.self.now.table.shared.key.limit in let me = c.seat.inside.seat.me in
    let slots = c.args.self.now.table.shared.table_id.slots in let id = c.seat.inside.seat.id in (
      search rules,
      omega (arith, sized),
      steps_knowing net limit slots id me 32 (λ k. k) (λ k m. (m.0 ≡ halt_read k me.0.notes) × (m.1 ≡ me.1)) (λ z. omega arith) c.seat.invariant
          (halt_allowed net limit slots id (me_of me) (at_seat (λ (p : TableSeatState _). MayAsk p.me.0) c.seat.view_is c.requires.ready)),
    )
