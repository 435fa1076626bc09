use Rattle.std.proofs.Common.{◌≡◌, List, map, sym, ap, ◌∙◌, subst}
use Rattle.std.specs.Prelude.{IfOk}
use Rattle.std.specs.List.{list_any}
use Rattle.nested_runs.specs.Totals.{all_spans}
use Rattle.worker_seat.specs.Crews.{state_of, watcher_of}
use Rattle.worker_seat.specs.declared.seat.WorkerSeat.{WorkerSeat}
use Rattle.topology_runs.specs.Told.{AreTold}
use Rattle.topology_runs.proofs.ToldLemmas.{all_served, crew_told}
use Rattle.topology_runs.proofs.team.run_seated.Goals as goal

pub returns-clause-watchers : goal.returns-clause-watchers
returns-clause-watchers g c =
    let Seat = WorkerSeat g.row.J.Denot g.row.X.Denot g.row.J-V.Denot in
    let told = g.X.Watch.told in
    let old = c.args.seats.now.items in
    let ran = c.run_by_seats-run in
    let new = ran.new.seats.items in
    let refused : c.any_refused.result ≡ list_any (λ (s : Seat). (state_of s).refused) new =
    c.any_refused.ensures ∙ ap (λ (seats : List Seat). list_any (λ (s : Seat). (state_of s).refused) seats) c.as_slice.ensures.value in
    subst (λ o. IfOk o (λ run. AreTold told (all_spans run) (map watcher_of old) (map watcher_of new))) (sym c.ok_or.ensures.value)
    (crew_told told ran.result _ old new (ran.ensures.seats.count ∙ sym c.requires.seats.count) ran.ensures.watchers (all_served new c.any_refused.result refused c.if-any_refused.false) ran.ensures.spans)
