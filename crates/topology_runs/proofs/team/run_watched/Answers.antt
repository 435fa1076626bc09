use Rattle.std.proofs.Common.{subst}
use Rattle.std.specs.Prelude.{IfOk}
use Rattle.nested_runs.specs.Totals.{all_spans}
use Rattle.worker_seat.specs.Crews.{IsToldMore}
use Rattle.topology_runs.proofs.ToldLemmas.{alone_told}
use Rattle.topology_runs.proofs.team.run_watched.Goals as goal

pub returns-clause-watchers : goal.returns-clause-watchers
returns-clause-watchers g c =
    let told = g.X.Watch.told in
    let first = c.index_mut.result.now in
    let new = c.run_alone-2.new.watcher in
    alone_told told c.run_alone-2.result c.args.watchers.now.items first new c.requires
    (subst (λ (x : g.row.X.Denot). IfOk c.run_alone-2.result (λ run. IsToldMore told (all_spans run) x new)) c.index_mut.ensures.value c.run_alone-2.ensures.told)
