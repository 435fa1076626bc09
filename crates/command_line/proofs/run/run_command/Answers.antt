use Rattle.std.proofs.Common.{ap, ◌∙◌, codes}
use Rattle.std.proofs.lemmas.Result.{IfOk-weaker}
use Rattle.clap.specs.Words.{App, with_rule}
use Rattle.command_line.specs.Requests.{flag, run_app}
use Rattle.command_line.proofs.run.run_command.Goals as goal

pub returns : goal.returns
unfolding run_app
returns c = IfOk-weaker c.with_flag.result _ _ (λ r made. made ∙ ap (λ (app : App). with_rule app (flag (codes "journal"))) c.in_ok-command.ensures) c.with_flag.ensures
