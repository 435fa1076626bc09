use Rattle.std.proofs.Common.{◌≡◌}
use Rattle.topology_runs.specs.Teams.{IsReady}
use Rattle.desk_book.specs.Desks.{IsPassOf}
use Rattle.desk_trials.proofs.trial.DeskTrial.serve_all.Given as goal

abbrev pub invariant-loop : goal.invariant-loop
invariant-loop g l = IsPassOf l.self.desk l.pass × (l.pass.caller ≡ l.initial.pass.caller) × IsReady l.team
