use Rattle.std.proofs.Common.{◌^◌, ◌-◌, refl, arith, drop, length-drop}
use Rattle.text_ops.proofs.LineLemmas.{IsNormal-drop}
use Rattle.text_ops.proofs.FittingKeys.{AreUpTo-text, AreUpTo-further, AreUpTo-behind, AreUpTo-never, end_within}
use Rattle.text_ops.proofs.short_keys.are_short_lines.Goals as goal

pub returns-in_default : goal.returns-in_default
returns-in_default c = (
  λ no. cc,
  λ short. absurd (AreUpTo-never (2 ^ 16 - 1) c.loop-at.at c.args.text.now c.requires (omega (arith, c.loop-at-test.true)) c.in_default.ensures (c.loop-at.invariant.1.1 short)),
)

pub loop-at-preserved : goal.loop-at-preserved
loop-at-preserved c =
    let text = c.args.text.now in
    let at = c.loop-at.at in (
      end_within (2 ^ 16 - 1) at c.in-Some.end text c.in-Some.ensures c.loop-at.invariant.0,
      (
        λ later. c.loop-at.invariant.1.0 (AreUpTo-further (2 ^ 16 - 1) at c.in-Some.end text c.in-Some.ensures later),
        λ short. AreUpTo-behind (2 ^ 16 - 1) at c.in-Some.end text c.in-Some.ensures (c.loop-at.invariant.1.1 short),
      ),
    )

pub returns : goal.returns
returns c =
    let text = c.args.text.now in
    let at = c.loop-at.at in (
      λ _. c.loop-at.invariant.1.0 (AreUpTo-text (2 ^ 16 - 1) (drop at text) (IsNormal-drop text at c.requires) (omega (arith, length-drop at text, c.loop-at-test.false))),
      λ _. refl,
    )
