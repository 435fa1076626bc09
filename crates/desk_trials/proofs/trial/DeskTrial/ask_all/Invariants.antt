use Rattle.std.proofs.Common.{◌≡◌}
use Rattle.desk_book.specs.Desks.{IsPassOf}
use Rattle.desk_trials.proofs.trial.DeskTrial.ask_all.Given as goal

abbrev pub invariant-loop-number : goal.invariant-loop-number
invariant-loop-number g l = IsPassOf l.self.desk l.pass × (l.pass.caller ≡ l.initial.pass.caller)
