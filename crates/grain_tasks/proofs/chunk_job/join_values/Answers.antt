use Rattle.std.proofs.Common.{arith, ◌≡◌, ◌∙◌, ap, sym}
use Rattle.std.specs.Option.{option_copied}
use Rattle.grain_tasks.specs.Chunks.{chunk_count}
use Rattle.grain_tasks.specs.Folds.{joined}
use Rattle.grain_tasks.proofs.GatherLemmas.{folds_before, joined_all, joined_before_allowed, value_allowed}
use Rattle.grain_tasks.proofs.chunk_job.join_values.Goals as goal

pub join-requires-clause-left : goal.join-requires-clause-left
join-requires-clause-left g c =
    let below = c.loop-task-test.true in
    let end = c.div_ceil-task-end.ensures in
    Rattle.std.proofs.Common.subst (g.F.Fold.folding.allowed c.args.fold.now) (sym c.loop-task.invariant)
    (joined_before_allowed g.F.Fold.folding c.args.fold.now c.args.count c.args.grain c.loop-task.task (g.met.F.Fold.lawful c.args.fold.now) c.requires.some c.requires.within (omega (arith, below, end)))

pub join-requires-clause-right : goal.join-requires-clause-right
join-requires-clause-right g c =
    let below = c.loop-task-test.true in
    let end = c.div_ceil-task-end.ensures in
    value_allowed g.F.Fold.folding c.args.fold.now c.args.count c.args.grain c.loop-task.task c.in-Some.next.now (g.met.F.Fold.lawful c.args.fold.now) c.requires.some c.requires.within (omega (arith, below, end))
    (ap option_copied (sym c.in-Some.is) ∙ c.get.ensures ∙ c.requires.values c.loop-task.task (omega (arith, below, end)))

pub returns : goal.returns
returns g c =
    let end = c.div_ceil-task-end.ensures in
    let past = c.loop-task-test.false in
    let within = c.loop-task.auto.task-end in
    let all : c.loop-task.task ≡ chunk_count c.args.count c.args.grain = omega (arith, past, within, end) in
    c.loop-task.invariant
    ∙ ap (λ n. joined g.F.Fold.folding c.args.fold.now (folds_before g.F.Fold.folding c.args.fold.now c.args.count c.args.grain n)) all
    ∙ joined_all g.F.Fold.folding c.args.fold.now c.args.count c.args.grain (g.met.F.Fold.lawful c.args.fold.now) c.requires.some c.requires.within
