use Rattle.graph_file.proofs.NameLemmas.{new-or_once}
use Rattle.graph_file.proofs.PlaceLemmas.{HasPlaces-more}
use Rattle.graph_file.proofs.RepeatLemmas.{names_now, task-is, task-within, tasks-more, tasks-refused}
use Rattle.graph_file.proofs.repeats.check_tasks.Goals as goal

pub returns-in-Err : goal.returns-in-Err
returns-in-Err c =
    let i = c.loop-place.place in
    let tasks = c.args.tasks.now in
    let task = c.index-tasks-place.result in
    let new = c.in_ok-new.new in
    let within = c.loop-place-test.true in
    let is = c.index-tasks-place.is in
    let noted = new-or_once c.loop-place.places (names_now tasks) i task.names.name.now c.args.once new (task-within tasks i within) (task-is tasks i task within is) c.requires c.loop-place.invariant.places
    (rw c.as_bytes.ensures.value at c.in_ok-new.ensures.new) in
    tasks-refused c.args.scope c.args.version tasks i task new within is noted c.in-Err.refusal c.in-Err.ensures c.loop-place.invariant.walked

pub loop-place-preserved : goal.loop-place-preserved
loop-place-preserved c =
    let i = c.loop-place.place in
    let tasks = c.args.tasks.now in
    let task = c.index-tasks-place.result in
    let new = c.in_ok-new.new in
    let within = c.loop-place-test.true in
    let is = c.index-tasks-place.is in
    let noted = new-or_once c.loop-place.places (names_now tasks) i task.names.name.now c.args.once new (task-within tasks i within) (task-is tasks i task within is) c.requires c.loop-place.invariant.places
    (rw c.as_bytes.ensures.value at c.in_ok-new.ensures.new) in
    record {
      places = λ unknown. HasPlaces-more c.loop-place.places c.is_new.new.places (names_now tasks) i task.names.name.now (task-within tasks i within) (task-is tasks i task within is) (c.loop-place.invariant.places unknown)
          ((rw c.as_bytes.ensures.value at c.in_ok-new.ensures.kept) unknown);
      walked = tasks-more c.args.scope c.args.version tasks i task new within is noted c.in_default.ensures c.loop-place.invariant.walked;
    }
