use Rattle.std.proofs.Common.{take}
use Rattle.graph_file.proofs.NameLemmas.{new-name}
use Rattle.graph_file.proofs.PlaceLemmas.{HasPlaces-more}
use Rattle.graph_file.proofs.RepeatLemmas.{graph-is, graph-within, graph_names_now, graphs-more, graphs-refused}
use Rattle.graph_file.proofs.repeats.check_modules.Goals as goal

pub returns-in-Err : goal.returns-in-Err
returns-in-Err c =
    let i = c.loop-place.place in
    let drafts = c.args.modules.now in
    let draft = c.index-modules-place.result in
    let noted = new-name c.loop-place.places (take i (graph_names_now drafts)) draft.name.now c.in_ok-new.new c.loop-place.invariant.places (rw c.as_bytes.ensures.value at c.in_ok-new.ensures.new) in
    graphs-refused drafts i draft c.in_ok-new.new c.loop-place-test.true c.index-modules-place.is noted c.in-Err.refusal c.in-Err.ensures c.loop-place.invariant.walked

pub loop-place-preserved : goal.loop-place-preserved
loop-place-preserved c =
    let i = c.loop-place.place in
    let drafts = c.args.modules.now in
    let draft = c.index-modules-place.result in
    let new = c.in_ok-new.new in
    let within = c.loop-place-test.true in
    let is = c.index-modules-place.is in
    let noted = new-name c.loop-place.places (take i (graph_names_now drafts)) draft.name.now new c.loop-place.invariant.places (rw c.as_bytes.ensures.value at c.in_ok-new.ensures.new) in
    record {
      places = HasPlaces-more c.loop-place.places c.keep_place.new.places (graph_names_now drafts) i draft.name.now (graph-within drafts i draft new within is noted) (graph-is drafts i draft new within is noted)
          c.loop-place.invariant.places (rw c.as_bytes.ensures.value at c.in_ok-new.ensures.kept);
      walked = graphs-more drafts i draft new within is noted c.in_default.ensures c.loop-place.invariant.walked;
    }
