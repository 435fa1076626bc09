use Rattle.std.proofs.Common.{◌≡◌, All, Some}
use Rattle.crossbeam_deque.specs.Handles.{view}
use Rattle.ready_deques.specs.inside.ListParts.{list_name_of}
use Rattle.ready_deques.proofs.stealer.steal_any.Given as goal

abbrev pub invariant-loop-i : goal.invariant-loop-i
invariant-loop-i g l = All (λ stealer. view stealer.pass ≡ Some (list_name_of l.ready)) l.stealers.items
