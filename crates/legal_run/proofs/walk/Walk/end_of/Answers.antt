use Rattle.legal_run.proofs.Walking.{walk_position}
use Rattle.legal_run.proofs.walk.Walk.end_of.Goals as goal

pub new-requires : goal.new-requires
new-requires c = walk_position _ _ _ _ c.requires.at.reached c.requires.at.counted c.requires.size
