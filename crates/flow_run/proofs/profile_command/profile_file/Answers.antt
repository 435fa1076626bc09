use Rattle.std.proofs.Common.{inl, ◌∙◌, ap}
use Rattle.flow_run.specs.declared.call.Ended.{Ended}
use Rattle.flow_run.proofs.Ending.{read_stopped}
use Rattle.flow_run.proofs.RoundLemmas.{requested_profile}
use Rattle.flow_run.proofs.profile_command.profile_file.Goals as goal

pub returns-in-Err-clause-ends : goal.returns-in-Err-clause-ends
returns-in-Err-clause-ends g c =
    inl (record {
      why = c.in-Err.stop;
      stops = c.in-Err.ensures.stops;
      reported = ap (λ (e : Ended). e.status) c.stopped.ensures ∙ c.of.ensures;
      none = (ap (λ (e : Ended). e.runs) c.stopped.ensures, ap (λ (e : Ended). e.conclusion) c.stopped.ensures);
    })

pub returns-in-Err-clause-read : goal.returns-in-Err-clause-read
returns-in-Err-clause-read g c =
    read_stopped g.F.Texts.held g.F.Texts.failed _ _ c.in-Err.stop _ (ap (λ (e : Ended). e.status) c.stopped.ensures ∙ c.of.ensures) c.prepare.ensures.stays c.in-Err.ensures.fails

pub returns-in-Ok-clause-ends : goal.returns-in-Ok-clause-ends
returns-in-Ok-clause-ends g c = requested_profile _ _ _ c.in-Ok.job _ _ _ _ c.in-Ok.ensures.requested c.run_and_count.ensures.ends
