use Rattle.std.proofs.Common.{ap, ◌≡◌, ◌∙◌, codes}
use Rattle.std.proofs.lemmas.Result.{IfOk-weaker}
use Rattle.clap.specs.Words.{App, app_of, with_rule}
use Rattle.command_line.specs.Requests.{command_named, required, option, runs_app}
use Rattle.command_line.proofs.options.runs_command.Goals as goal

pub returns : goal.returns
unfolding runs_app
returns c =
    let one : app_of c.in_ok-command.command ≡ with_rule (command_named c.args.name.now) (required (codes "file")) =
    c.in_ok-command.ensures ∙ ap (λ (app : App). with_rule app (required (codes "file"))) c.bare_command.ensures in
    let two = c.in_ok-command-2.ensures ∙ ap (λ (app : App). with_rule app (option (codes "limit"))) one in
    let three = c.in_ok-command-3.ensures ∙ ap (λ (app : App). with_rule app (option (codes "workers"))) two in
    let four = c.in_ok-command-4.ensures ∙ ap (λ (app : App). with_rule app (option (codes "times"))) three in
    IfOk-weaker c.with_option-4.result _ _ (λ r made. made ∙ ap (λ (app : App). with_rule app (option (codes "until"))) four) c.with_option-4.ensures
