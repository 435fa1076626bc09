use Rattle.std.proofs.Common.{rules}
use Rattle.table_steps.specs.Values.{values_in, Knows}
use Rattle.table_steps.specs.inside.SlotKinds.{HoldsSlot}
use Rattle.table_steps.specs.inside.TableSeats.{TableSeatState}
use Rattle.table_steps.proofs.Relotting.{in_slot}
use Rattle.table_steps.proofs.TableSeats.{at_seat, of_fields}
use Rattle.table_steps.proofs.Values.{knows_held, knows_exchanged}
use Rattle.table_steps.proofs.words.Words.exchange.Goals as goal

pub exchange-requires : goal.exchange-requires
exchange-requires g c = (search rules, in_slot c.args.edge c.seat.inside.seat.me.1 (at_seat (λ (p : TableSeatState _). HoldsSlot c.args.edge p.me.1) c.seat.view_is c.requires.holds))

pub invariant_of-seat : goal.invariant_of-seat
invariant_of-seat g c =
    knows_exchanged c.seat.inside.seat.me c.exchange.new.seat.me c.args.edge c.exchange.result c.args.parcels c.exchange.ensures.2 c.exchange.ensures.3 c.seat.invariant
    (at_seat (λ (p : TableSeatState _). Knows p.values (values_in c.args.parcels)) c.seat.view_is c.requires.knows)

pub returns-clause-knows_lay : goal.returns-clause-knows_lay
returns-clause-knows_lay g c = of_fields (λ (p : TableSeatState _). Knows p.values (values_in c.exchange.result)) c.seat.view_is (knows_held c.seat.inside.seat.me.0.values c.seat.inside.seat.me.1 c.args.edge c.exchange.result c.exchange.ensures.2 c.seat.invariant)
