use Rattle.std.proofs.Common.{ap, ◌≡◌, ◌∙◌, codes}
use Rattle.std.proofs.lemmas.Result.{IfOk-weaker}
use Rattle.clap.specs.Words.{App, app_of, with_rule}
use Rattle.command_line.specs.Requests.{command_named, required, option, count_app}
use Rattle.command_line.proofs.count.count_command.Goals as goal

pub returns : goal.returns
unfolding count_app
returns c =
    let one : app_of c.in_ok-command.command ≡ with_rule (command_named (codes "count")) (required (codes "word")) =
    c.in_ok-command.ensures ∙ ap (λ (app : App). with_rule app (required (codes "word"))) c.bare_command.ensures in
    let two = c.in_ok-command-2.ensures ∙ ap (λ (app : App). with_rule app (required (codes "file"))) one in
    let three = c.in_ok-command-3.ensures ∙ ap (λ (app : App). with_rule app (option (codes "grain"))) two in
    IfOk-weaker c.with_option-2.result _ _ (λ r made. made ∙ ap (λ (app : App). with_rule app (option (codes "workers"))) three) c.with_option-2.ensures
