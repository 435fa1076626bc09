use Rattle.std.proofs.Common.{Some, refl, sym, ap, ◌∙◌, subst, arith}
use Rattle.join_tables.specs.Rests.{MayDropOf}
use Rattle.semaphore_turns.proofs.RestLists.{dropped_last, may_drop, none_left}
use Rattle.semaphore_turns.proofs.YardReleases.{drops_more, last_drops}
use Rattle.semaphore_turns.proofs.settlement.drop_all.Goals as goal
use Rattle.semaphore_turns.proofs.settlement.drop_all.Goals.{then-faulted, else-faulted}

pub unreachable-requires : goal.unreachable-requires
unreachable-requires g c =
    let i = c.loop-sem.invariant in
    none_left c.args.table.now c.loop-sem.rest c.loop-sem.sems.items i.rests i.may.2 (omega (arith, c.loop-sem.sems.ok.0, c.in_default.ensures.cases))

pub rest_drop-requires-clause-why : goal.rest_drop-requires-clause-why
rest_drop-requires-clause-why g c =
    let i = c.loop-sem.invariant in
    let net = c.args.table.now.net in
    elim c.if-faulted.branch [
      | then-faulted w ↦ subst (MayDropOf net c.loop-sem.rest) (sym w.why-is) (i.may.0 ∙ ap Some w.if-faulted.true)
      | else-faulted w ↦
          let may = may_drop c.args.table.now c.loop-sem.rest c.loop-sem.sems.items c.pop.new.self.items c.in-Some.sem i.rests c.in-Some.ensures.items (i.may.1 w.if-faulted.false) in
          subst (MayDropOf net c.loop-sem.rest) (sym w.why-is) (i.may.0 ∙ ap Some w.if-faulted.false, may.full, may.takes_it)
    ]

pub loop-sem-preserved : goal.loop-sem-preserved
loop-sem-preserved g c =
    let i = c.loop-sem.invariant in
    let left = dropped_last g.row.V.Denot c.args.table.now c.loop-sem.rest c.in-More.left c.if-faulted.why c.loop-sem.sems.items c.pop.new.self.items c.in-Some.sem c.args.faulted i.rests i.may c.in-More.ensures c.in-Some.ensures.items in
    let last = c.in-More.ensures.1 in
    let n = c.args.table.now.table in
    record {
      rests = left.rests;
      may = left.may;
      drops = drops_more n c.loop-sem.rest.turns c.in-More.left.turns last.last c.loop-sem.rest.dropped c.in-More.left.dropped _ _ last.turns_are last.dropped_are refl i.drops;
    }

pub returns-in-Last-clause-turns : goal.returns-in-Last-clause-turns
returns-in-Last-clause-turns g c =
    let i = c.loop-sem.invariant in
    last_drops c.args.table.now.table c.loop-sem.rest c.if-faulted.why c.in-Last.spent.fate _ i.drops c.in-Last.ensures.1
