use Rattle.std.proofs.Common.{◌∙◌, ap}
use Rattle.flow_run.specs.declared.call.Ended.{Ended}
use Rattle.flow_run.proofs.Ending.{read_stopped}
use Rattle.flow_run.proofs.check_command.check_file.Goals as goal

pub returns-in-Err-clause-read : goal.returns-in-Err-clause-read
returns-in-Err-clause-read g c =
    read_stopped g.F.Texts.held g.F.Texts.failed _ _ c.in-Err.stop _ (ap (λ (e : Ended). e.status) c.stopped.ensures ∙ c.of.ensures) c.findings_in.ensures.stays c.in-Err.ensures.fails
