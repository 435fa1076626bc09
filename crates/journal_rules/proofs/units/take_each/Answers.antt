use Rattle.std.proofs.Common.{refl, ap, ◌<◌, length}
use Rattle.std.specs.Prelude.{slice_index, slice_set}
use Rattle.journal_rules.specs.declared.units.UnitCount.{UnitCount}
use Rattle.journal_rules.specs.inside.Units.{with_taken, always}
use Rattle.journal_rules.proofs.Changing.{changed_more}
use Rattle.journal_rules.proofs.units.take_each.Goals as goal

pub loop-sem-preserved : goal.loop-sem-preserved
loop-sem-preserved c =
    let sem = slice_index c.args.sems.now c.loop-sem.sem-index in
    let below : sem < length c.args.counts.now.items = c.requires.in_range c.loop-sem.sem-index 0 c.loop-sem-test.true in
    changed_more with_taken always _ _ _ _ _ sem c.index_mut.result.now c.requires.rising c.loop-sem-test.true refl below c.loop-sem.invariant
    (ap (λ (u : UnitCount). slice_set c.loop-sem.counts.items sem (with_taken u)) c.index_mut.ensures.value)
