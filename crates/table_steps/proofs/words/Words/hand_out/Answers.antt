use Rattle.std.proofs.Common.{rules, ◌≡◌, ◌+◌, arith}
use Rattle.std.specs.Prelude.{length}
use Rattle.std.specs.Arc.{arc_value}
use Rattle.table_steps.specs.inside.Accounts.{tokens_from}
use Rattle.table_steps.specs.inside.RestKinds.{MayHandOut, handed_out, left_behind}
use Rattle.table_steps.specs.inside.TableSeats.{TableSeatState}
use Rattle.table_steps.proofs.RestSeats.{hand_out_allowed}
use Rattle.table_steps.proofs.TableSeats.{at_seat}
use Rattle.table_steps.proofs.ValueSteps.{split_knowing}
use Rattle.table_steps.proofs.words.Words.hand_out.Goals as goal

pub split_seat-requires : goal.split_seat-requires
split_seat-requires g c =
    let sized : c.args.self.now.table.shared.table_id.words ≡ tokens_from (arc_value c.args.self.now.net) + length (arc_value c.args.self.now.net).edges + length (arc_value c.args.self.now.net).tasks = search rules in
    let net = arc_value c.args.self.now.table.shared.key.net in let limit = c.args.self.now.table.shared.key.limit in let seat = c.seat.inside.seat in
    (search rules, omega (arith, sized), split_knowing net limit seat.id seat.me.0 left_behind handed_out (hand_out_allowed net limit seat.id seat.me.0.notes (at_seat (λ (p : TableSeatState _). MayHandOut p.me.0) c.seat.view_is c.requires.ready)))
