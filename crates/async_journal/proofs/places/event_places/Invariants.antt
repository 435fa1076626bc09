use Rattle.std.proofs.Common.{take}
use Rattle.async_journal.specs.inside.Tables.{IsTableOf, is_of_kind}
use Rattle.async_journal.proofs.places.event_places.Given as goal

abbrev pub invariant-loop-place : goal.invariant-loop-place
invariant-loop-place l = IsTableOf (is_of_kind l.kind) l.tasks (take l.place l.events) l.places.items
