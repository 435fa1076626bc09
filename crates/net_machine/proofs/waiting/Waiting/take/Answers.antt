use Rattle.std.proofs.Common.{refl, subst}
use Rattle.journal_rules.specs.declared.entry.Cause.{Cause}
use Rattle.journal_rules.specs.inside.Releases.{IsUseOf}
use Rattle.journal_rules.proofs.Tallying.{strong_in_tallied}
use Rattle.net_machine.proofs.WaitingLemmas.{tells_use}
use Rattle.net_machine.proofs.waiting.Waiting.take.Goals as goal

pub put_each-requires : goal.put_each-requires
put_each-requires c = strong_in_tallied c.args.net.now c.args.task _ c.args.self.now.parts.items c.strong_in.ensures c.requires.len

pub returns-in-Strong : goal.returns-in-Strong
returns-in-Strong c = λ journal entry using tells.
    tells_use c.args.net.now journal entry c.args.task _ _ _ (subst (λ (cause : Cause). IsUseOf c.args.task cause entry) c.in-Strong.is using) tells c.put_each.ensures.len (rw c.strong_in.ensures at c.put_each.ensures.each)

pub returns-in-Source : goal.returns-in-Source
returns-in-Source c = λ journal entry using tells.
    tells_use c.args.net.now journal entry c.args.task _ _ _ (subst (λ (cause : Cause). IsUseOf c.args.task cause entry) c.in-Source.is using) tells refl (λ k d below. refl)

pub returns-in-Weak : goal.returns-in-Weak
returns-in-Weak c = λ journal entry using tells.
    tells_use c.args.net.now journal entry c.args.task _ _ _ (subst (λ (cause : Cause). IsUseOf c.args.task cause entry) c.in-Weak.is using) tells c.put_each-in-Weak.ensures.len c.put_each-in-Weak.ensures.each
