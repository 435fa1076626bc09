use Rattle.std.proofs.Common.{rules, ◌≡◌, ◌+◌, ap, ◌∙◌, arith}
use Rattle.std.specs.Prelude.{length}
use Rattle.std.specs.Arc.{arc_value}
use Rattle.table_steps.specs.inside.Accounts.{tokens_from}
use Rattle.table_steps.specs.inside.Kinds.{views_joined}
use Rattle.table_steps.specs.inside.TableSeats.{TableSeatState}
use Rattle.table_steps.proofs.TurnSteps.{take_in_allowed}
use Rattle.table_steps.proofs.TableSeats.{at_seat}
use Rattle.table_steps.proofs.Values.{knows_joined, knows_two}
use Rattle.table_steps.proofs.ValueSteps.{join_knowing}
use Rattle.table_steps.proofs.words.Words.take_in.Goals as goal

pub join_seat-requires : goal.join_seat-requires
join_seat-requires g c =
    let sized : c.args.self.now.table.shared.table_id.words ≡ tokens_from (arc_value c.args.self.now.net) + length (arc_value c.args.self.now.net).edges + length (arc_value c.args.self.now.net).tasks = search rules in
    let net = arc_value c.args.self.now.table.shared.key.net in let limit = c.args.self.now.table.shared.key.limit in let seat = c.seat.inside.seat in
    let other = c.into_seat.result in
    (search rules, search rules, ap (λ m. m.1) c.into_seat.ensures.seat.2 ∙ c.requires.home, omega (arith, sized), join_knowing net limit seat.id seat.me.0 other.id other.me.0 views_joined (take_in_allowed net limit seat.id seat.me.0.notes other.id other.me.0.notes (at_seat (λ (p : TableSeatState _). p.id ≡ 0) c.seat.view_is c.requires.keeper)))

pub invariant_of-seat : goal.invariant_of-seat
invariant_of-seat g c = knows_joined c.seat.inside.seat.me c.join_seat.new.seat.me c.into_seat.result.me.0 views_joined c.join_seat.ensures.2 c.seat.invariant

pub returns-clause-known : goal.returns-clause-known
returns-clause-known g c =
    knows_two c.seat.inside.seat.me c.join_seat.new.seat.me c.into_seat.result.me.0 views_joined c.args.seat.now.values c.args.other.values c.join_seat.ensures.2
    (ap (λ (p : TableSeatState _). p.values) c.seat.view_is) c.into_seat.ensures.values
