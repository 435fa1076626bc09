use Rattle.std.proofs.Common.{◌≡◌, map, take}
use Rattle.async_journal.specs.inside.Tables.{entry_by}
use Rattle.async_journal.proofs.journal.entries_of.Given as goal

abbrev pub invariant-loop-event : goal.invariant-loop-event
invariant-loop-event l = l.journal ≡ map (entry_by l.net l.adds l.starts l.ends) (take l.event-index l.events)
