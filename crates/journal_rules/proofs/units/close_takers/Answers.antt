use Rattle.std.proofs.Common.{arith, refl, ap, sym, ◌∙◌, ◌<◌, length, cond, not, Vec, Global}
use Rattle.std.specs.Prelude.{slice_index, slice_index_or, slice_set}
use Rattle.journal_rules.specs.declared.units.UnitCount.{UnitCount}
use Rattle.journal_rules.specs.inside.Units.{with_closed, is_other}
use Rattle.journal_rules.proofs.Changing.{changed_more, next_same}
use Rattle.journal_rules.proofs.units.close_takers.Goals as goal
use Rattle.journal_rules.proofs.units.close_takers.Goals.{then-not-is_listed, else-not-is_listed}

pub loop-sem-preserved : goal.loop-sem-preserved
loop-sem-preserved c =
    let sem = slice_index c.args.takes.now c.loop-sem.sem-index in
    let below : sem < length c.args.counts.now.items = c.requires.in_range c.loop-sem.sem-index 0 c.loop-sem-test.true in
    elim c.if-not-is_listed.branch [
      | then-not-is_listed w ↦
          (changed_more (with_closed c.args.place) (is_other c.args.puts.now) _ _ _ _ _ sem w.index_mut.result.now c.requires.rising c.loop-sem-test.true refl below c.loop-sem.invariant
          (ap (λ (v : Vec UnitCount Global). v.items) w.counts-is ∙ ap (λ (u : UnitCount). slice_set c.loop-sem.counts.items sem u) (w.close_taker.ensures ∙ ap (with_closed c.args.place) w.index_mut.ensures.value)
          ∙ ap (λ b. cond (not b) (slice_set c.loop-sem.counts.items sem ((with_closed c.args.place) (slice_index_or c.loop-sem.counts.items sem w.index_mut.result.now))) c.loop-sem.counts.items) (sym w.if-not-is_listed.true ∙ c.is_listed.ensures)))
      | else-not-is_listed w ↦
          (changed_more (with_closed c.args.place) (is_other c.args.puts.now) _ _ _ _ _ sem no_units c.requires.rising c.loop-sem-test.true refl below c.loop-sem.invariant
          (ap (λ (v : Vec UnitCount Global). v.items) w.counts-is
          ∙ ap (λ b. cond (not b) (slice_set c.loop-sem.counts.items sem ((with_closed c.args.place) (slice_index_or c.loop-sem.counts.items sem no_units))) c.loop-sem.counts.items) (sym w.if-not-is_listed.false ∙ c.is_listed.ensures)))
    ]
  where
    no_units : UnitCount
    no_units = record { taken = 0; back = 0; putters = 0; closed_takers = 0; last_over = 0 }

pub close_taker-requires : goal.close_taker-requires
close_taker-requires c =
    let sem = slice_index c.args.takes.now c.loop-sem.sem-index in
    let below : sem < length c.args.counts.now.items = c.requires.in_range c.loop-sem.sem-index 0 c.loop-sem-test.true in
    let same = next_same (with_closed c.args.place) (is_other c.args.puts.now) _ _ _ _ sem c.index_mut.result.now c.requires.rising c.loop-sem-test.true refl below c.loop-sem.invariant in
    let room = c.requires.room sem c.index_mut.result.now below in
    omega (arith, room, ap (λ (u : UnitCount). u.closed_takers) (c.index_mut.ensures.value ∙ same))
