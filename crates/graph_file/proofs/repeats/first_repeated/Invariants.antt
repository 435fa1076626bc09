use Rattle.std.proofs.Common.{take}
use Rattle.graph_file.specs.inside.Lookups.{HasPlaces}
use Rattle.graph_drafts.specs.inside.Reading.{strings}
use Rattle.graph_file.proofs.NameLemmas.{HasWalked}
use Rattle.graph_file.proofs.repeats.first_repeated.Given as goal

abbrev pub invariant-loop-place : goal.invariant-loop-place
invariant-loop-place l = record {
  places : HasPlaces l.places (take l.place (strings l.names));
  walked : HasWalked (strings l.names) l.place;
}
