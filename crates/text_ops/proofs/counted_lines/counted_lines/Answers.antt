use Rattle.std.proofs.Common.{refl, subst}
use Rattle.text_ops.specs.inside.Counting.{AreRisingLines}
use Rattle.text_ops.proofs.CountedSteps.{CountsSoFar-end}
use Rattle.text_ops.proofs.counted_lines.counted_lines.Goals as goal

pub returns : goal.returns
returns c =
    record {
      rising = subst AreRisingLines c.as_slice.ensures.value (c.if-not-are_rising.ensures refl);
      counts = CountsSoFar-end c.args.text.now c.loop-line.rows.items c.sort_unstable_by.new.self.items c.loop-line.line-iterator c.loop-line.invariant c.in-None.ensures.steps.0 c.sort_unstable_by.ensures.permutation;
    }
