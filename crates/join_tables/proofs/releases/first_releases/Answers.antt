use Rattle.std.proofs.Common.{rules, ◌≡◌, ◌++◌, length, ap, ◌∙◌}
use Rattle.journal_rules.specs.declared.entry.Cause.TheVariants.{Strong}
use Rattle.join_tables.specs.inside.FirstReleases.{duties_before, duty_if}
use Rattle.join_tables.proofs.Releasing.{duties_more, duties_all}
use Rattle.join_tables.proofs.releases.first_releases.Goals as goal

pub loop-task-preserved : goal.loop-task-preserved
loop-task-preserved c =
    c.in_ok-add-2.ensures ∙ ap (λ xs. xs ++ duty_if c.is_full.result c.loop-task.task Strong) c.in_ok-add.ensures
    ∙ duties_more c.args.net.now c.loop-task.task c.is_source.result c.is_full.result _ c.loop-task.invariant c.is_source.ensures c.is_full.ensures

pub returns : goal.returns
returns c =
    let all : c.loop-task.task ≡ length c.args.net.now.tasks = search rules in
    c.loop-task.invariant ∙ ap (duties_before c.args.net.now) all ∙ duties_all c.args.net.now (length c.args.net.now.tasks)
