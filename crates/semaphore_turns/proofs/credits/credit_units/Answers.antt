use Rattle.std.proofs.Common.{◌≡◌, ◌+◌, length, refl, sym, ap, ◌∙◌, subst, arith}
use Rattle.std.specs.List.Sorted.{IsStrictlyIncreasing}
use Rattle.join_tables.specs.Claims.{credit_one, with_units}
use Rattle.join_tables.specs.States.{RunningState}
use Rattle.semaphore_turns.specs.Semaphores.{put_by, taken_by}
use Rattle.semaphore_turns.specs.inside.UnitCounts.{CreditsSoFar}
use Rattle.semaphore_turns.proofs.UnitCounts.{credit_due, credited_more, credited_same, credits_begin, credits_end, same_start}
use Rattle.semaphore_turns.proofs.credits.credit_units.Goals as goal
use Rattle.semaphore_turns.proofs.credits.credit_units.Goals.{then-not-is_listed, else-not-is_listed}

pub loop-sem-init : goal.loop-sem-init
loop-sem-init g c =
    let net = c.args.net.now in
    let t = c.args.running.task in
    record {
      same = refl;
      so_far = credits_begin net t (subst IsStrictlyIncreasing (c.takes_of-takes.ensures.list ∙ ap (taken_by c.args.net.now) c.task.ensures) c.takes_of-takes.ensures.sems.rising) c.args.running.units c.requires.begins;
    }

pub credit-running-requires-clause-to_credit : goal.credit-running-requires-clause-to_credit
credit-running-requires-clause-to_credit g c =
    credit_due c.args.net.now c.args.running.task c.loop-sem.sem-index c.takes_of-takes.result.now c.puts_of-puts.result.now (c.takes_of-takes.ensures.list ∙ ap (taken_by c.args.net.now) c.task.ensures) (c.puts_of-puts.ensures.list ∙ ap (put_by c.args.net.now) c.task-2.ensures) c.loop-sem.running.units c.loop-sem-test.true
    (sym c.is_listed.ensures ∙ c.if-not-is_listed.true) c.loop-sem.invariant.so_far

pub loop-sem-preserved : goal.loop-sem-preserved
loop-sem-preserved g c =
    let V = g.row.V.Denot in
    let i = c.loop-sem.invariant in
    let r = c.if-not-is_listed.running in
    let net = c.args.net.now in
    let t = c.args.running.task in
    let n = c.loop-sem.sem-index in
    let xs = c.takes_of-takes.result.now in
    let ys = c.puts_of-puts.result.now in
    elim c.if-not-is_listed.branch [
      | then-not-is_listed w ↦
          let units = credit_one _ c.loop-sem.running.units in
          let is : r ≡ with_units c.loop-sem.running units r = w.running-is ∙ w.credit-running.ensures.state ∙ ap (with_units c.loop-sem.running units) (sym w.running-is) in
          record {
            same = same_start c.args.running c.loop-sem.running r units i.same is;
            so_far = subst (CreditsSoFar net t (n + 1)) (sym (ap (λ (q : RunningState V). q.units) is))
                (credited_more net t n xs ys (c.takes_of-takes.ensures.list ∙ ap (taken_by c.args.net.now) c.task.ensures) (c.puts_of-puts.ensures.list ∙ ap (put_by c.args.net.now) c.task-2.ensures) c.loop-sem.running.units c.loop-sem-test.true (sym c.is_listed.ensures ∙ w.if-not-is_listed.true) i.so_far);
          }
      | else-not-is_listed w ↦
          record {
            same = w.running-is ∙ i.same ∙ ap (λ (q : RunningState V). with_units c.args.running q.units q) (sym w.running-is);
            so_far = subst (λ (q : RunningState V). CreditsSoFar net t (n + 1) q.units) (sym w.running-is)
                (credited_same net t n xs ys (c.takes_of-takes.ensures.list ∙ ap (taken_by c.args.net.now) c.task.ensures) (c.puts_of-puts.ensures.list ∙ ap (put_by c.args.net.now) c.task-2.ensures) c.loop-sem.running.units c.loop-sem-test.true (sym c.is_listed.ensures ∙ w.if-not-is_listed.false) i.so_far);
          }
    ]

pub returns-clause-claims : goal.returns-clause-claims
returns-clause-claims g c =
    let list = c.takes_of-takes.ensures.list ∙ ap (taken_by c.args.net.now) c.task.ensures in
    credits_end c.args.net.now c.args.running.task (subst IsStrictlyIncreasing list c.takes_of-takes.ensures.sems.rising) c.loop-sem.sem-index c.loop-sem.running.units
    (omega (arith, c.loop-sem-test.false, ap length list)) c.loop-sem.invariant.so_far
