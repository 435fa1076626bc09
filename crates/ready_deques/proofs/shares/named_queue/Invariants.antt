use Rattle.ready_deques.specs.inside.ListNames.{about}
use Rattle.ready_deques.proofs.shares.named_queue.Given as goal

abbrev pub ghosts-name_worker : goal.ghosts-name_worker
ghosts-name_worker g a = record { name = about a.tag.now.numbers a.counter.now.table.shared.table_id }
