use Rattle.std.proofs.Common.{arith, ◌∙◌}
use Rattle.std.proofs.lemmas.List.{length_push}
use Rattle.task_graph.specs.Net.{strong_in}
use Rattle.journal_rules.specs.declared.rounds.Round.{Round}
use Rattle.journal_rules.specs.inside.Rounds.{IsRound}
use Rattle.journal_rules.proofs.Tallying.{strong_in_tallied, each_push}
use Rattle.journal_rules.proofs.rounds.first_rounds.Goals as goal

pub of-requires : goal.of-requires
of-requires c = strong_in_tallied c.args.net.now c.loop-task.task _ c.args.given.now c.strong_in.ensures c.requires

pub loop-task-preserved : goal.loop-task-preserved
loop-task-preserved c =
    let round = c.of.ensures in
    rw c.in_ok-push.ensures.items (
      length_push c.loop-task.rounds.items c.of.result ∙ omega (arith, c.loop-task.invariant.0),
      each_push (λ t (r : Round). IsRound c.args.given.now (strong_in c.args.net.now t) r) c.loop-task.rounds.items c.of.result c.loop-task.task c.loop-task.invariant.0 c.loop-task.invariant.1 (rw c.strong_in.ensures at round),
    )
