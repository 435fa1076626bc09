use Rattle.async_journal.proofs.Tables.{event_next}
use Rattle.async_journal.proofs.places.event_places.Goals as goal

pub loop-place-preserved : goal.loop-place-preserved
loop-place-preserved c = event_next c.args.kind c.args.tasks c.loop-place.place c.args.events.now c.loop-place.places.items c.note_event.new.places.items c.loop-place.invariant c.loop-place-test.true c.note_event.ensures
