use Rattle.std.proofs.Common.{◌++◌, ap, sym, ◌∙◌}
use Rattle.join_tables.specs.inside.FirstReleases.{duties_of, duty_if}
use Rattle.join_tables.proofs.Releasing.{duties_push}
use Rattle.join_tables.proofs.releases.add.Goals as goal

pub returns-in_ok-push : goal.returns-in_ok-push
returns-in_ok-push c =
    ap duties_of c.in_ok-push.ensures.items ∙ duties_push c.args.releases.now.items _
    ∙ ap (λ b. duties_of c.args.releases.now.items ++ duty_if b c.args.task c.args.cause) (sym c.if-is_there.true)
