use Rattle.std.proofs.Common.{◌≡◌, ◌∙◌, ap, arith, length, rules, sym}
use Rattle.std.proofs.lemmas.Grind.{common_steps}
use Rattle.std.proofs.lemmas.List.{length-map}
use Rattle.std.specs.Arc.{arc_value}
use Rattle.worker_seat.specs.Crews.{watcher_of}
use Rattle.worker_seat.specs.inside.SeatPlaces.{list_name}
use Rattle.worker_seat.proofs.SeatingLemmas.{at_none}
use Rattle.worker_seat.proofs.crew.Crew.new.Goals as goal

pub returns-clause-crew : goal.returns-clause-crew
returns-clause-crew g c =
    let each : length c.seat_all-seats.result.items ≡ length c.args.watchers.items = sym (length-map c.seat_all-seats.result.items watcher_of) ∙ ap length c.seat_all-seats.ensures.watchers in
    record {
      of_crew = search rules;
      count = grind (arith, common_steps);
      one_run = at_none _ (list_name (arc_value c.in-Ok-new.field-0.ready)).counts _ c.seat_all-seats.ensures.away;
    }
