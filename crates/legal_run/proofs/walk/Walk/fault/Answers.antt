use Rattle.std.proofs.Common.{refl}
use Rattle.journal_rules.proofs.Reaching.{reached_push}
use Rattle.legal_run.proofs.Walking.{walk_position}
use Rattle.journal_rules.proofs.CountLaws.{can_grow, open_flag}
use Rattle.legal_run.proofs.walk.Walk.fault.Goals as goal

pub new-position-requires : goal.new-position-requires
new-position-requires c = walk_position _ _ _ _ c.requires.at.reached c.requires.at.counted c.requires.size

pub fault-requires-clause-grow : goal.fault-requires-clause-grow
fault-requires-clause-grow c = can_grow _ _ _ c.requires.at.counted c.requires.size

pub fault-requires-clause-opened : goal.fault-requires-clause-opened
fault-requires-clause-opened c = let found = rw c.new-position.ensures at c.in-Ok.ensures.checked in open_flag c.args.before.now _ c.args.start c.requires.at.counted.opened found.0.closing

pub returns-clause-walks : goal.returns-clause-walks
returns-clause-walks c =
    let found = rw c.new-position.ensures at c.in-Ok.ensures.checked in
    record {
      reached = reached_push _ _ _ _ c.requires.at.reached found.0;
      counted = c.fault.ensures.counted c.args.limit c.args.before.now c.args.why c.requires.at.reached refl c.requires.room found.1 c.requires.at.counted;
      marks_are = c.requires.at.marks_are;
    }
