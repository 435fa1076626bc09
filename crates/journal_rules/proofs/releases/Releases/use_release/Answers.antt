use Rattle.std.proofs.Common.{refl, subst}
use Rattle.journal_rules.specs.declared.entry.Cause.{Cause}
use Rattle.journal_rules.specs.inside.Releases.{IsUseOf}
use Rattle.journal_rules.proofs.ReleaseLaws.{source_counts, strong_counts, weak_counts}
use Rattle.journal_rules.proofs.releases.Releases.use_release.Goals as goal

pub returns-in-Source : goal.returns-in-Source
returns-in-Source c = λ journal entry using counts.
    source_counts c.args.net.now journal entry c.args.task c.args.self.now _ (subst (λ (cause : Cause). IsUseOf c.args.task cause entry) c.in-Source.is using) counts c.requires.task refl refl refl c.add_one.ensures

pub returns-in-Strong : goal.returns-in-Strong
returns-in-Strong c = λ journal entry using counts.
    strong_counts c.args.net.now journal entry c.args.task c.args.self.now _ (subst (λ (cause : Cause). IsUseOf c.args.task cause entry) c.in-Strong.is using) counts c.requires.task refl refl refl c.add_one-in-Strong.ensures

pub returns-in-Weak : goal.returns-in-Weak
returns-in-Weak c = λ journal entry using counts.
    weak_counts c.args.net.now journal entry c.args.task c.in-Weak.edge c.args.self.now _ (subst (λ (cause : Cause). IsUseOf c.args.task cause entry) c.in-Weak.is using) counts (rw c.in-Weak.is at c.requires.cause) refl refl refl c.add_one-in-Weak.ensures
