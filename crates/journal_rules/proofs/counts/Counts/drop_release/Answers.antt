use Rattle.std.proofs.Common.{refl, ap, sym, true, cond}
use Rattle.journal_rules.specs.declared.entry.DropWhy.{DropWhy}
use Rattle.journal_rules.specs.declared.entry.Entry.TheVariants.{Drop}
use Rattle.journal_rules.specs.HaltLimitStuckRule.{is_stuck_why}
use Rattle.journal_rules.specs.Complete.{is_limit_why}
use Rattle.journal_rules.proofs.ReleaseLaws.{drop_use}
use Rattle.journal_rules.proofs.CountLaws.{counted_drop}
use Rattle.journal_rules.proofs.counts.Counts.drop_release.Goals as goal

pub returns-in-Halted-clause-counted : goal.returns-in-Halted-clause-counted
returns-in-Halted-clause-counted c = λ limit journal reached room counted.
    counted_drop c.args.net.now limit journal c.args.task c.args.cause c.args.why c.args.self.now _ reached counted room
    (c.use_release.ensures journal (Drop c.args.task c.args.cause c.args.why) (drop_use c.args.task c.args.cause c.args.why) counted.releases) refl refl refl refl
    (ap (λ (w : DropWhy). cond (is_stuck_why w) true c.args.self.now.is_stuck) (sym c.in-Halted.is)) (ap (λ (w : DropWhy). cond (is_limit_why w) true c.args.self.now.is_limited) (sym c.in-Halted.is))

pub returns-in-Limit-clause-counted : goal.returns-in-Limit-clause-counted
returns-in-Limit-clause-counted c = λ limit journal reached room counted.
    counted_drop c.args.net.now limit journal c.args.task c.args.cause c.args.why c.args.self.now _ reached counted room
    (c.use_release.ensures journal (Drop c.args.task c.args.cause c.args.why) (drop_use c.args.task c.args.cause c.args.why) counted.releases) refl refl refl refl
    (ap (λ (w : DropWhy). cond (is_stuck_why w) true c.args.self.now.is_stuck) (sym c.in-Limit.is)) (ap (λ (w : DropWhy). cond (is_limit_why w) true c.args.self.now.is_limited) (sym c.in-Limit.is))

pub returns-in-Stuck-clause-counted : goal.returns-in-Stuck-clause-counted
returns-in-Stuck-clause-counted c = λ limit journal reached room counted.
    counted_drop c.args.net.now limit journal c.args.task c.args.cause c.args.why c.args.self.now _ reached counted room
    (c.use_release.ensures journal (Drop c.args.task c.args.cause c.args.why) (drop_use c.args.task c.args.cause c.args.why) counted.releases) refl refl refl refl
    (ap (λ (w : DropWhy). cond (is_stuck_why w) true c.args.self.now.is_stuck) (sym c.in-Stuck.is)) (ap (λ (w : DropWhy). cond (is_limit_why w) true c.args.self.now.is_limited) (sym c.in-Stuck.is))
