use Rattle.journal_rules.proofs.Reaching.{reached_push}
use Rattle.legal_run.proofs.Walking.{walk_position}
use Rattle.journal_rules.proofs.CountLaws.{can_grow}
use Rattle.legal_run.proofs.walk.Walk.drop_release.Goals as goal

pub new-position-requires : goal.new-position-requires
new-position-requires c = walk_position _ _ _ _ c.requires.at.reached c.requires.at.counted c.requires.size

pub drop_release-requires-clause-grow : goal.drop_release-requires-clause-grow
drop_release-requires-clause-grow c = can_grow _ _ _ c.requires.at.counted c.requires.size

pub returns-clause-walks : goal.returns-clause-walks
returns-clause-walks c =
    let may = rw c.new-position.ensures at c.in-Ok.ensures in
    record {
      reached = reached_push _ _ _ _ c.requires.at.reached may;
      counted = c.drop_release.ensures.counted c.args.limit c.args.before.now c.requires.at.reached c.requires.room c.requires.at.counted;
      marks_are = c.requires.at.marks_are;
    }
