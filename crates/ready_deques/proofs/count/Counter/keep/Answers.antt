use Rattle.std.proofs.Common.{rules, ap}
use Rattle.ready_deques.proofs.Counting.{keeps_count}
use Rattle.ready_deques.proofs.count.Counter.keep.Goals as goal

pub fetch_add-requires : goal.fetch_add-requires
fetch_add-requires c = (search rules, search rules, keeps_count _ _ _ _ (search rules) (ap (λ m. m.0.count) c.requires.view))
