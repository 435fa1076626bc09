use Rattle.std.proofs.Common.{ap, ◌≡◌, ◌∙◌, codes}
use Rattle.std.proofs.lemmas.Result.{IfOk-weaker}
use Rattle.clap.specs.Words.{App, app_of, with_rule}
use Rattle.command_line.specs.Requests.{command_named, required, option, generate_app}
use Rattle.command_line.proofs.generate.generate_command.Goals as goal

pub returns : goal.returns
unfolding generate_app
returns c =
    let one : app_of c.in_ok-command.command ≡ with_rule (command_named (codes "generate")) (required (codes "layers")) =
    c.in_ok-command.ensures ∙ ap (λ (app : App). with_rule app (required (codes "layers"))) c.bare_command.ensures in
    IfOk-weaker c.with_option.result _ _ (λ r made. made ∙ ap (λ (app : App). with_rule app (option (codes "workers"))) one) c.with_option.ensures
