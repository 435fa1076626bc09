use Rattle.std.proofs.Common.{refl}
use Rattle.journal_rules.proofs.CountLaws.{counted_end}
use Rattle.journal_rules.proofs.counts.Counts.end.Goals as goal

pub returns-clause-counted : goal.returns-clause-counted
returns-clause-counted c = λ limit journal inner reached here room closed counted.
    counted_end c.args.net.now limit journal c.args.start c.args.task c.args.gives.now inner c.args.self.now _ reached counted room closed
    (c.give.ensures journal c.args.start inner counted.releases)
    (c.end.ensures limit journal c.args.start c.args.gives.now inner reached closed here counted.units)
    c.close.ensures refl refl refl refl
