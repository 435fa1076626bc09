use Rattle.std.proofs.Common.{length}
use Rattle.call_status.proofs.paths.+add_path_from.Given as goal

abbrev pub decreases-add_path_from : goal.decreases-add_path_from
decreases-add_path_from l = length l.path.now
