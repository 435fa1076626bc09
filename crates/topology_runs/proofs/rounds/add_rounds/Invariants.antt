use Rattle.std.proofs.Common.{◌≡◌, ◌≢◌, [], All, length}
use Rattle.std.specs.Arc.{arc_value}
use Rattle.run_frame.specs.NestedRule.{job_of}
use Rattle.nested_runs.specs.Rounds.{AreFirstRounds}
use Rattle.topology_runs.specs.Teams.{IsReady, watchers_of}
use Rattle.topology_runs.specs.Told.{AreToldRounds}
use Rattle.topology_runs.proofs.rounds.add_rounds.Given as goal

abbrev pub invariant-loop : goal.invariant-loop
invariant-loop g l = record {
  first : AreFirstRounds g.J.Job.meaning (arc_value l.first) (record { most = l.most; ends = g.U.Until.ends l.until }) l.runs.items;
  count : length l.runs.items ≡ l.counter;
  ready : IsReady l.team;
  watchers : watchers_of l.fn.team ≢ [] → AreToldRounds g.X.Watch.told l.runs.items (watchers_of l.fn.team) (watchers_of l.team);
  same : length (watchers_of l.team) ≡ length (watchers_of l.fn.team);
  recurs : All (λ run. g.J.Recurs.may_recur (job_of run)) l.runs.items;
}
