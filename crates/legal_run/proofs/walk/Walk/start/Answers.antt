use Rattle.std.proofs.Common.{refl, []}
use Rattle.journal_rules.proofs.Reaching.{reached_push}
use Rattle.legal_run.proofs.Walking.{walk_position}
use Rattle.journal_rules.proofs.CountLaws.{can_grow, next_closed}
use Rattle.legal_run.proofs.walk.Walk.start.Goals as goal

pub new-position-requires : goal.new-position-requires
new-position-requires c = walk_position _ _ _ _ c.requires.at.reached c.requires.at.counted c.requires.size

pub returns-in-Err-clause-walks : goal.returns-in-Err-clause-walks
returns-in-Err-clause-walks c = λ ins. rw c.new-position.ensures at (c.in-Err.ensures ins)

pub start-requires-clause-task : goal.start-requires-clause-task
start-requires-clause-task c = let may = rw c.new-position.ensures at (c.in-Ok.ensures []) in may.in_range.0

pub start-requires-clause-cause : goal.start-requires-clause-cause
start-requires-clause-cause c = let may = rw c.new-position.ensures at (c.in-Ok.ensures []) in may.in_range.1

pub start-requires-clause-grow : goal.start-requires-clause-grow
start-requires-clause-grow c = can_grow _ _ _ c.requires.at.counted c.requires.size

pub start-requires-clause-room : goal.start-requires-clause-room
start-requires-clause-room c = next_closed c.args.before.now _ _ c.requires.at.counted.opened c.requires.room refl

pub returns-clause-walks : goal.returns-clause-walks
returns-clause-walks c = λ ins.
    let may = rw c.new-position.ensures at (c.in-Ok.ensures ins) in
    record {
      reached = reached_push _ _ _ _ c.requires.at.reached may;
      counted = c.start.ensures.counted c.args.limit c.args.before.now ins c.requires.at.reached refl c.requires.at.counted;
      marks_are = c.requires.at.marks_are;
    }
