use Rattle.std.proofs.Common.{◌≡◌, Some}
use Rattle.std.proofs.lemmas.List.Elements.{All-pop}
use Rattle.crossbeam_deque.specs.Handles.{view}
use Rattle.ready_deques.specs.inside.ListParts.{list_name_of}
use Rattle.ready_deques.proofs.shares.next_outside.Goals as goal

pub returns-clause-named : goal.returns-clause-named
returns-clause-named g c = (All-pop (λ stealer. view stealer.pass ≡ Some (list_name_of c.args.ready.now)) c.args.stealers.now.items c.pop.new.self.items (Some c.in-Some.stealer) c.in-Some.ensures.items c.requires.named).0

pub returns-clause-next : goal.returns-clause-next
returns-clause-next g c = (All-pop (λ stealer. view stealer.pass ≡ Some (list_name_of c.args.ready.now)) c.args.stealers.now.items c.pop.new.self.items (Some c.in-Some.stealer) c.in-Some.ensures.items c.requires.named).1
