use Rattle.std.proofs.Common.{◌≡◌, ℕ, List, [], take, get_or, Bor, ap, ◌∙◌}
use Rattle.std.proofs.lemmas.List.{get_or_default}
use Rattle.std.specs.List.{position}
use Rattle.std.specs.Str.{bytes_eq}
use Rattle.graph_drafts.specs.inside.Reading.{strings}
use Rattle.graph_file.proofs.NameLemmas.{AreNew-all, AreNew-more, HasPlaces-string, all-strings, new-name}
use Rattle.graph_file.proofs.lookups.places_and_once.Goals as goal

abbrev none : Bor (List ℕ)
none = record { ref_ptr = (0, 0); now = [] }

pub loop-place-preserved : goal.loop-place-preserved
loop-place-preserved c =
    let i = c.loop-place.place in
    let names = c.args.names.now in
    let name : Bor (List ℕ) = get_or names i none in
    let within = c.loop-place-test.true in
    let is : name ≡ get_or names i name = get_or_default names i none name within in
    let noted = new-name c.loop-place.places (take i (strings names)) name.now c.in_ok-new.new c.loop-place.invariant.places (rw c.as_bytes.ensures.value at c.in_ok-new.ensures.new) in
    record {
      places = HasPlaces-string c.loop-place.places c.keep_place.new.places names i name within is c.loop-place.invariant.places (rw c.as_bytes.ensures.value at c.in_ok-new.ensures.kept);
      once = AreNew-more names i name c.loop-place.once c.in_ok-new.new within is noted c.loop-place.invariant.once;
    }

pub returns-clause-places : goal.returns-clause-places
returns-clause-places c q = c.loop-place.invariant.places q ∙ ap (position (bytes_eq q)) (all-strings c.args.names.now c.loop-place.place c.loop-place-test.false)

pub returns-clause-once : goal.returns-clause-once
returns-clause-once c on = AreNew-all c.args.names.now c.loop-place.place c.loop-place-test.false (c.loop-place.invariant.once on)
