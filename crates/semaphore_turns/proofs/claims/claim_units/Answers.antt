use Rattle.std.proofs.Common.{◌≡◌, ◌+◌, length, slice_index_or, refl, sym, ap, ◌∙◌, subst, arith}
use Rattle.std.specs.List.Sorted.{IsStrictlyIncreasing}
use Rattle.journal_rules.specs.SemaphoreRule.{puts}
use Rattle.join_tables.specs.Claims.{HasClaimed, HasCredited, grant_one, with_units}
use Rattle.join_tables.specs.States.{RunningState}
use Rattle.semaphore_turns.specs.Semaphores.{put_by, taken_by}
use Rattle.semaphore_turns.specs.inside.UnitCounts.{ClaimsSoFar}
use Rattle.semaphore_turns.proofs.UnitCounts.{claim_due, claim_put, claimed_more, claimed_same, claims_begin, claims_end, granted_as, same_start}
use Rattle.semaphore_turns.proofs.claims.claim_units.Goals as goal
use Rattle.semaphore_turns.proofs.claims.claim_units.Goals.{then-not-is_listed+in-Granted, else-not-is_listed}

pub loop-sem-init : goal.loop-sem-init
loop-sem-init g c = record {
  same = refl;
  so_far = claims_begin c.args.net.now c.args.running.task (subst IsStrictlyIncreasing (c.puts_of-puts.ensures.list ∙ ap (put_by c.args.net.now) c.task-2.ensures) c.puts_of-puts.ensures.sems.rising) c.args.running.units c.requires.claims;
}

pub claim-requires-clause-to_claim : goal.claim-requires-clause-to_claim
claim-requires-clause-to_claim g c =
    claim_due c.args.net.now c.args.running.task c.loop-sem.sem-index c.takes_of-takes.result.now c.puts_of-puts.result.now (c.takes_of-takes.ensures.list ∙ ap (taken_by c.args.net.now) c.task.ensures)
    (c.puts_of-puts.ensures.list ∙ ap (put_by c.args.net.now) c.task-2.ensures) c.loop-sem.running.units c.loop-sem-test.true (sym c.is_listed.ensures ∙ c.if-not-is_listed.true) c.loop-sem.invariant.so_far

pub claim-requires-clause-puts : goal.claim-requires-clause-puts
claim-requires-clause-puts g c =
    let here = claim_put c.args.net.now c.args.running.task c.loop-sem.sem-index c.takes_of-takes.result.now c.puts_of-puts.result.now (c.takes_of-takes.ensures.list ∙ ap (taken_by c.args.net.now) c.task.ensures)
    (c.puts_of-puts.ensures.list ∙ ap (put_by c.args.net.now) c.task-2.ensures) c.loop-sem-test.true in
    (λ k. puts (sym c.requires.net k) (slice_index_or c.puts_of-puts.result.now c.loop-sem.sem-index 0) (ap (λ (q : RunningState g.row.V.Denot). q.task) c.loop-sem.invariant.same k)) ∙ here

pub loop-sem-preserved : goal.loop-sem-preserved
loop-sem-preserved g c =
    let V = g.row.V.Denot in
    let i = c.loop-sem.invariant in
    let r = c.if-not-is_listed.running in
    let net = c.args.net.now in
    let t = c.args.running.task in
    let n = c.loop-sem.sem-index in
    let xs = c.takes_of-takes.result.now in
    let ys = c.puts_of-puts.result.now in
    let takes_list = c.takes_of-takes.ensures.list ∙ ap (taken_by net) c.task.ensures in
    let puts_list = c.puts_of-puts.ensures.list ∙ ap (put_by net) c.task-2.ensures in
    elim c.if-not-is_listed.branch [
      | then-not-is_listed+in-Granted w ↦
          let units = grant_one (slice_index_or ys n 0) c.loop-sem.running.units in
          let granted = granted_as c.args.table.now.net c.args.table.now.limit c.loop-sem.running (slice_index_or ys n 0) w.claim.result w.in-Granted.more w.in-Granted.is w.claim.ensures in
          let is : r ≡ with_units c.loop-sem.running units r = w.running-is ∙ granted ∙ ap (with_units c.loop-sem.running units) (sym w.running-is) in
          record {
            same = same_start c.args.running c.loop-sem.running r units i.same is;
            so_far = subst (ClaimsSoFar net t (n + 1)) (sym (ap (λ (q : RunningState V). q.units) is)) (claimed_more net t n xs ys takes_list puts_list c.loop-sem.running.units c.loop-sem-test.true (sym c.is_listed.ensures ∙ w.if-not-is_listed.true) i.so_far);
          }
      | else-not-is_listed w ↦
          record {
            same = w.running-is ∙ i.same ∙ ap (λ (q : RunningState V). with_units c.args.running q.units q) (sym w.running-is);
            so_far = subst (λ (q : RunningState V). ClaimsSoFar net t (n + 1) q.units) (sym w.running-is) (claimed_same net t n xs ys takes_list puts_list c.loop-sem.running.units c.loop-sem-test.true (sym c.is_listed.ensures ∙ w.if-not-is_listed.false) i.so_far);
          }
    ]

pub returns : goal.returns
returns g c =
    let i = c.loop-sem.invariant in
    let list = c.puts_of-puts.ensures.list ∙ ap (put_by c.args.net.now) c.task-2.ensures in
    let r = c.loop-sem.running in
    let same = ap (λ (q : RunningState g.row.V.Denot). q.task) i.same in
    let claimed = claims_end c.args.net.now c.args.running.task (subst IsStrictlyIncreasing list c.puts_of-puts.ensures.sems.rising) c.loop-sem.sem-index r.units (omega (arith, c.loop-sem-test.false, ap length list)) i.so_far in (
      i.same,
      subst (λ t. HasCredited c.args.table.now.net t r.units) (sym same) (subst (λ n. HasCredited n c.args.running.task r.units) c.requires.net i.so_far.credited),
      subst (λ t. HasClaimed c.args.table.now.net t r.units) (sym same) (subst (λ n. HasClaimed n c.args.running.task r.units) c.requires.net claimed),
    )
