use Rattle.std.proofs.lemmas.Bool.{ltb-true, lt-ltb}
use Rattle.journal_rules.proofs.ReleaseLaws.{released_strong}
use Rattle.journal_rules.proofs.releases.Releases.is_released.Goals as goal

pub returns-in-Strong : goal.returns-in-Strong
returns-in-Strong c = λ journal counts.
    let law = released_strong c.args.net.now journal c.args.self.now c.args.task c.index-in-Strong.result.now c.index-in-Strong-2.result.now counts c.requires.task c.index-in-Strong.ensures c.index-in-Strong-2.ensures in
    rw c.in-Strong.is (λ less. law.0 (ltb-true _ _ less), λ rule. lt-ltb _ _ (law.1 rule))

pub returns-in-Weak : goal.returns-in-Weak
returns-in-Weak c = λ journal counts. rw c.in-Weak.is (c.is_weakly_released.ensures journal counts)
