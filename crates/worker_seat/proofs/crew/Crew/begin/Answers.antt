use Rattle.std.proofs.Common.{◌∙◌, ap, length, subst, sym}
use Rattle.std.specs.Arc.{arc_value}
use Rattle.worker_seat.specs.inside.NewRuns.{HasTellers}
use Rattle.worker_seat.proofs.EnteredLemmas.{sent_to}
use Rattle.worker_seat.proofs.SeatingLemmas.{all_on}
use Rattle.worker_seat.proofs.crew.Crew.begin.Goals as goal

pub send_all-requires-clause-list : goal.send_all-requires-clause-list
send_all-requires-clause-list g c κs within = all_on c.args.self.now (arc_value c.in-Ok.new.run) _ _ c.requires.seats.of_crew c.in-Ok.ensures.list c.as_mut_slice.ensures.value

pub send_all-requires-clause-tellers : goal.send_all-requires-clause-tellers
send_all-requires-clause-tellers g c κs within =
    subst (λ count. HasTellers count c.in-Ok.new) (sym (ap length c.as_mut_slice.ensures.value ∙ c.requires.seats.count)) c.in-Ok.ensures.tellers

pub returns-in-Ok-clause-ok : goal.returns-in-Ok-clause-ok
returns-in-Ok-clause-ok g c =
    sent_to _ c.args.self.now (arc_value c.in-Ok.new.run) (arc_value c.args.job) _ _ _ _ c.in-Ok.ensures.tellers.made c.in-Ok.ensures.job c.as_mut_slice.ensures.value c.as_mut_slice.ensures.len c.send_all.ensures.ok
