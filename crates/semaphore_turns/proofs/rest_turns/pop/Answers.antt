use Rattle.semaphore_turns.proofs.RestLists.{IsPopped, popped}
use Rattle.semaphore_turns.proofs.rest_turns.pop.Goals as goal

taken_out : (g : _) (c : goal.After-rest_pop-rest g) → IsPopped c.args.table.now c.rest_pop-rest.result.0 c.pop.new.self.items c.rest_pop-rest.result.1 c.in-Some.sem
taken_out g c = popped c.args.table.now c.args.turns.rest c.rest_pop-rest.result.0 c.rest_pop-rest.result.1 c.args.turns.sems.items c.pop.new.self.items c.in-Some.sem c.requires.rests c.rest_pop-rest.ensures c.in-Some.ensures.items

pub returns-clause-rests : goal.returns-clause-rests
returns-clause-rests g c = (taken_out g c).rests

pub returns-clause-sem : goal.returns-clause-sem
returns-clause-sem g c = (taken_out g c).in_range

pub returns-clause-waits : goal.returns-clause-waits
returns-clause-waits g c = (taken_out g c).waits
