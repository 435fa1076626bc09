use Rattle.std.proofs.Common.{refl}
use Rattle.journal_rules.proofs.CountLaws.{counted_fault}
use Rattle.journal_rules.proofs.counts.Counts.fault.Goals as goal

pub returns-clause-counted : goal.returns-clause-counted
returns-clause-counted c = λ limit journal why reached here room closed counted.
    counted_fault c.args.net.now limit journal c.args.start c.args.task why c.args.self.now _ reached counted room closed refl
    (c.fault.ensures limit journal c.args.start why reached closed here counted.units)
    c.close.ensures refl refl refl refl
