use Rattle.std.proofs.Common.{refl, arith}
use Rattle.journal_rules.proofs.Rounding.{round_same, round_fewer, round_next}
use Rattle.journal_rules.proofs.rounds.Round.add_token.Goals as goal

pub returns-then-self-eq0 : goal.returns-then-self-eq0
returns-then-self-eq0 c = λ old e is g. round_next old _ _ e _ _ _ is g c.if-before-self.true refl (omega (arith, c.if-self-eq0.true, c.requires.reached)) c.count_at-self.ensures

pub returns-else-self-eq0 : goal.returns-else-self-eq0
returns-else-self-eq0 c = λ old e is g. round_fewer old _ _ e _ _ _ is g c.if-before-self.true refl (omega (arith, c.requires.reached)) c.if-self-eq0.false

pub returns-else-before-self : goal.returns-else-before-self
returns-else-before-self c = λ old e is g. round_same old _ _ e _ _ is g c.if-before-self.false
