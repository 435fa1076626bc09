use Rattle.std.proofs.Common.{[], ◌∙◌, ap}
use Rattle.task_graph.specs.NetBuilder.{settled, with_task}
use Rattle.task_graph.specs.declared.net.Shape.TheVariants.{Plain}
use Rattle.graph_file.proofs.CycleLemmas.{bare-task}
use Rattle.graph_file.proofs.cycles.add_module.Goals as goal

pub returns-in-Ok-clause-net : goal.returns-in-Ok-clause-net
returns-in-Ok-clause-net c =
    c.in-Ok.ensures.answer.rows ∙ ap (λ takes. with_task c.args.builder.now (settled c.args.builder.now (record { shape = Plain; takes = takes; puts = c.new-2.result }))) c.new.ensures
    ∙ ap (λ puts. with_task c.args.builder.now (settled c.args.builder.now (record { shape = Plain; takes = []; puts = puts }))) c.new-2.ensures ∙ ap (with_task c.args.builder.now) (bare-task c.args.builder.now)
