use Rattle.std.proofs.Common.{◌≡◌, true, take}
use Rattle.graph_file.specs.inside.Lookups.{AreNew, HasPlaces}
use Rattle.graph_drafts.specs.inside.Reading.{strings}
use Rattle.graph_file.proofs.lookups.places_and_once.Given as goal

abbrev pub invariant-loop-place : goal.invariant-loop-place
invariant-loop-place l = record {
  places : HasPlaces l.places (take l.place (strings l.names));
  once : l.once ≡ true → AreNew (strings l.names) l.place;
}
