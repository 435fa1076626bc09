use Rattle.std.proofs.Common.{◌≡◌, ℕ, true, false, List, [], get_or, take, Bor, rules}
use Rattle.std.proofs.lemmas.List.{get_or_default}
use Rattle.graph_drafts.specs.inside.Reading.{strings}
use Rattle.graph_file.proofs.NameLemmas.{HasPlaces-string, HasWalked-more, HasWalked-refused, new-name, string-at, string-within}
use Rattle.graph_file.proofs.repeats.first_repeated.Goals as goal

abbrev none : Bor (List ℕ)
none = record { ref_ptr = (0, 0); now = [] }

pub returns-then-not-branch : goal.returns-then-not-branch
returns-then-not-branch c =
    let i = c.loop-place.place in
    let names = c.args.names.now in
    let name : Bor (List ℕ) = get_or names i none in
    let new = c.in_ok-keep_place.field-0 in
    let within = c.loop-place-test.true in
    let is : name ≡ get_or names i name = get_or_default names i none name within in
    let so : new ≡ false = search rules in
    HasWalked-refused (strings names) i name.now new (string-within names i within) (string-at names i name within is)
    (new-name c.loop-place.places (take i (strings names)) name.now new c.loop-place.invariant.places (rw c.as_bytes.ensures.value at c.in_ok-keep_place.ensures.new)) c.loop-place.invariant.walked so

pub loop-place-preserved : goal.loop-place-preserved
loop-place-preserved c =
    let i = c.loop-place.place in
    let names = c.args.names.now in
    let name : Bor (List ℕ) = get_or names i none in
    let new = c.in_ok-keep_place.field-0 in
    let within = c.loop-place-test.true in
    let is : name ≡ get_or names i name = get_or_default names i none name within in
    let so : new ≡ true = search rules in
    record {
      places = HasPlaces-string c.loop-place.places c.keep_place.new.places names i name within is c.loop-place.invariant.places (rw c.as_bytes.ensures.value at c.in_ok-keep_place.ensures.kept);
      walked = HasWalked-more (strings names) i name.now new (string-within names i within) (string-at names i name within is)
          (new-name c.loop-place.places (take i (strings names)) name.now new c.loop-place.invariant.places (rw c.as_bytes.ensures.value at c.in_ok-keep_place.ensures.new)) c.loop-place.invariant.walked so;
    }
