use Rattle.std.proofs.Common.{inl, refl, ◌∙◌, ap}
use Rattle.flow_run.specs.declared.call.Ended.{Ended}
use Rattle.flow_run.proofs.Ending.{read_stopped}
use Rattle.flow_run.proofs.RoundLemmas.{requested_rounds}
use Rattle.flow_run.proofs.WatchLemmas.{unseen_end}
use Rattle.flow_run.proofs.run_command.run_file.Goals as goal

pub returns-in-Err-clause-ends : goal.returns-in-Err-clause-ends
returns-in-Err-clause-ends g c =
    inl (record { why = c.in-Err.stop; stops = c.in-Err.ensures.stops; reported = ap (λ (e : Ended). e.status) c.stopped.ensures ∙ c.of.ensures; none = ap (λ (e : Ended). e.runs) c.stopped.ensures })

pub returns-in-Err-clause-read : goal.returns-in-Err-clause-read
returns-in-Err-clause-read g c =
    read_stopped g.F.Texts.held g.F.Texts.failed _ _ c.in-Err.stop _ (ap (λ (e : Ended). e.status) c.stopped.ensures ∙ c.of.ensures) c.prepare.ensures.stays c.in-Err.ensures.fails

pub returns-in-Ok-clause-ends : goal.returns-in-Ok-clause-ends
returns-in-Ok-clause-ends g c = requested_rounds _ _ _ c.in-Ok.job _ _ _ c.in-Ok.ensures.requested c.run_and_report.ensures.ends

pub returns-in-Err-clause-watchers : goal.returns-in-Err-clause-watchers
returns-in-Err-clause-watchers g c = unseen_end _ c.args.asked.options.workers _ c.stopped.result c.args.watchers.now.items c.args.watchers.now.items (ap (λ (e : Ended). e.runs) c.stopped.ensures) refl
