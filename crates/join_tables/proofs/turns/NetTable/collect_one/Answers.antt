use Rattle.std.proofs.Common.{rules, ◌≡◌, ◌<◌, ◌+◌, ◌++◌, ◌∷◌, length, Some, None, is_some, not, sym, ap, ◌∙◌, subst, arith}
use Rattle.std.specs.Prelude.{slice_get}
use Rattle.std.specs.Arc.{arc_value}
use Rattle.std.proofs.lemmas.List.{length-map}
use Rattle.table_steps.specs.Values.{Knows, given_part, values_in}
use Rattle.table_steps.proofs.Values.{knows_again, knows_more}
use Rattle.task_graph.specs.NetRows.{NetRows}
use Rattle.journal_rules.specs.DataRule.{edges_of}
use Rattle.table_steps.specs.inside.Accounts.{AllFitNotes}
use Rattle.table_steps.specs.inside.Kinds.{IsTurn, TakesNextToken, took, CountsNext, AreNoneLeft, without_count}
use Rattle.journal_rules.specs.declared.entry.Cause.TheVariants.{Strong}
use Rattle.join_tables.specs.Inputs.{given_in, parts_found}
use Rattle.join_tables.specs.inside.Seated.{collecting_view, taken_in, left_in}
use Rattle.journal_rules.specs.declared.entry.Part.TheVariants.{Nothing}
use Rattle.table_steps.specs.declared.view.Lot.TheVariants.{Awaited, Taking, Fetched}
use Rattle.table_steps.specs.inside.Slots.{lot, slot_weigh, relot}
use Rattle.table_steps.specs.inside.SlotKinds.{MayTryTake}
use Rattle.join_tables.proofs.Lones.{collecting_turn}
use Rattle.join_tables.proofs.CollectNext.{fetching_view, next_edge, none_next, last_next, place_few, may_fetch, fetched_view, takes_next, counts_again, settled_view, weak_settled, few_settled, collects_none, push_part, collects_edge}
use Rattle.join_tables.proofs.turns.NetTable.collect_one.Goals as goal

pub returns-in_default-clause-few : goal.returns-in_default-clause-few
returns-in_default-clause-few g c =
    let net_is : arc_value c.self.inside.words.net ≡ c.args.self.now.net = search rules in
    let net = c.args.self.now.net in let t = c.args.task in let cause = c.args.cause in
    let taken = taken_in c.args.seat.now.me.0 in let left = left_in c.args.seat.now.me.0 in let parts = parts_found c.args.inputs.now in
    let view : c.args.seat.now.me.0 ≡ collecting_view t cause taken parts left = ap (λ m. m.0) c.requires.view in
    let fits = subst (λ v. AllFitNotes net v) view (subst (λ (n : NetRows). AllFitNotes n c.args.seat.now.me.0) net_is c.learn.ensures.fits) in
    let few = subst (λ (n : NetRows). length n.edges < 4294967296) net_is c.learn.ensures.few in
    place_few net t cause taken left c.args.next fits.0.0 fits.0.1 c.requires.next few

pub returns-in_default-clause-step : goal.returns-in_default-clause-step
returns-in_default-clause-step g c =
    let net_is : arc_value c.self.inside.words.net ≡ c.args.self.now.net = search rules in
    let net = c.args.self.now.net in let t = c.args.task in let cause = c.args.cause in
    let taken = taken_in c.args.seat.now.me.0 in let left = left_in c.args.seat.now.me.0 in let parts = parts_found c.args.inputs.now in
    let view : c.args.seat.now.me.0 ≡ collecting_view t cause taken parts left = ap (λ m. m.0) c.requires.view in
    let fits = subst (λ v. AllFitNotes net v) view (subst (λ (n : NetRows). AllFitNotes n c.args.seat.now.me.0) net_is c.learn.ensures.fits) in
    let none : slice_get (edges_of net t cause) c.args.next ≡ None = search rules in
    collects_none _ _ _ _ _ c.args.inputs.now _ _ _ (none_next net t cause taken left c.args.next fits.0.1 c.requires.next none) (c.learn.ensures.view.0 ∙ view) c.learn.ensures.found

pub overflow_add-next : goal.overflow_add-next
overflow_add-next g c =
    let net_is : arc_value c.self.inside.words.net ≡ c.args.self.now.net = search rules in
    let net = c.args.self.now.net in let t = c.args.task in let cause = c.args.cause in
    let taken = taken_in c.args.seat.now.me.0 in let left = left_in c.args.seat.now.me.0 in let parts = parts_found c.args.inputs.now in
    let view : c.args.seat.now.me.0 ≡ collecting_view t cause taken parts left = ap (λ m. m.0) c.requires.view in
    let fits = subst (λ v. AllFitNotes net v) view (subst (λ (n : NetRows). AllFitNotes n c.args.seat.now.me.0) net_is c.learn.ensures.fits) in
    let few = subst (λ (n : NetRows). length n.edges < 4294967296) net_is c.learn.ensures.few in
    let small = place_few net t cause taken left c.args.next fits.0.0 fits.0.1 c.requires.next few in
    omega (arith, small)

pub fetch-requires-clause-ready : goal.fetch-requires-clause-ready
fetch-requires-clause-ready g c =
    let net_is : arc_value c.self.inside.words.net ≡ c.args.self.now.net = search rules in
    let net = c.args.self.now.net in let t = c.args.task in let cause = c.args.cause in
    let taken = taken_in c.args.seat.now.me.0 in let left = left_in c.args.seat.now.me.0 in let parts = parts_found c.args.inputs.now in
    let view : c.args.seat.now.me.0 ≡ collecting_view t cause taken parts left = ap (λ m. m.0) c.requires.view in
    let fits = subst (λ v. AllFitNotes net v) view (subst (λ (n : NetRows). AllFitNotes n c.args.seat.now.me.0) net_is c.learn.ensures.fits) in
    let f = c.in-Some.edge in
    let some : slice_get (edges_of net t cause) c.args.next ≡ Some f = search rules in
    let next = next_edge net t cause taken left c.args.next f fits.0.0 fits.0.1 c.requires.next some in
    let here : c.learn.new.seat.me.0 ≡ fetching_view t cause taken parts f next.tail Awaited Nothing = c.learn.ensures.view.0 ∙ view ∙ ap (collecting_view t cause taken parts) next.is in
    subst (λ v. MayTryTake f v) (sym here) (may_fetch t cause taken parts f next.tail).0

pub fetch-requires-clause-free : goal.fetch-requires-clause-free
fetch-requires-clause-free g c =
    let net_is : arc_value c.self.inside.words.net ≡ c.args.self.now.net = search rules in
    let net = c.args.self.now.net in let t = c.args.task in let cause = c.args.cause in
    let taken = taken_in c.args.seat.now.me.0 in let left = left_in c.args.seat.now.me.0 in let parts = parts_found c.args.inputs.now in
    let view : c.args.seat.now.me.0 ≡ collecting_view t cause taken parts left = ap (λ m. m.0) c.requires.view in
    let fits = subst (λ v. AllFitNotes net v) view (subst (λ (n : NetRows). AllFitNotes n c.args.seat.now.me.0) net_is c.learn.ensures.fits) in
    let f = c.in-Some.edge in
    let some : slice_get (edges_of net t cause) c.args.next ≡ Some f = search rules in
    let next = next_edge net t cause taken left c.args.next f fits.0.0 fits.0.1 c.requires.next some in
    let here : c.learn.new.seat.me.0 ≡ fetching_view t cause taken parts f next.tail Awaited Nothing = c.learn.ensures.view.0 ∙ view ∙ ap (collecting_view t cause taken parts) next.is in
    ap (slot_weigh (lot Taking f)) here ∙ (may_fetch t cause taken parts f next.tail).1

pub fetch-requires-clause-in_range : goal.fetch-requires-clause-in_range
fetch-requires-clause-in_range g c =
    let net_is : arc_value c.self.inside.words.net ≡ c.args.self.now.net = search rules in
    let net = c.args.self.now.net in let t = c.args.task in let cause = c.args.cause in
    let taken = taken_in c.args.seat.now.me.0 in let left = left_in c.args.seat.now.me.0 in let parts = parts_found c.args.inputs.now in
    let view : c.args.seat.now.me.0 ≡ collecting_view t cause taken parts left = ap (λ m. m.0) c.requires.view in
    let fits = subst (λ v. AllFitNotes net v) view (subst (λ (n : NetRows). AllFitNotes n c.args.seat.now.me.0) net_is c.learn.ensures.fits) in
    let f = c.in-Some.edge in
    let some : slice_get (edges_of net t cause) c.args.next ≡ Some f = search rules in
    let next = next_edge net t cause taken left c.args.next f fits.0.0 fits.0.1 c.requires.next some in
    let here : c.learn.new.seat.me.0 ≡ fetching_view t cause taken parts f next.tail Awaited Nothing = c.learn.ensures.view.0 ∙ view ∙ ap (collecting_view t cause taken parts) next.is in
    subst (λ (n : NetRows). f < length n.edges) (sym net_is) next.below

pub add-requires : goal.add-requires
add-requires g c =
    let net_is : arc_value c.self.inside.words.net ≡ c.args.self.now.net = search rules in
    let net = c.args.self.now.net in let t = c.args.task in let cause = c.args.cause in
    let taken = taken_in c.args.seat.now.me.0 in let left = left_in c.args.seat.now.me.0 in let parts = parts_found c.args.inputs.now in
    let view : c.args.seat.now.me.0 ≡ collecting_view t cause taken parts left = ap (λ m. m.0) c.requires.view in
    let fits = subst (λ v. AllFitNotes net v) view (subst (λ (n : NetRows). AllFitNotes n c.args.seat.now.me.0) net_is c.learn.ensures.fits) in
    let f = c.in-Some.edge in
    let some : slice_get (edges_of net t cause) c.args.next ≡ Some f = search rules in
    let next = next_edge net t cause taken left c.args.next f fits.0.0 fits.0.1 c.requires.next some in
    let here : c.learn.new.seat.me.0 ≡ fetching_view t cause taken parts f next.tail Awaited Nothing = c.learn.ensures.view.0 ∙ view ∙ ap (collecting_view t cause taken parts) next.is in
    omega (arith, c.requires.room, ap length next.is, length-map (given_in c.args.inputs.now) given_part)

pub take_token-found-requires-clause-ready : goal.take_token-found-requires-clause-ready
take_token-found-requires-clause-ready g c =
    let net_is : arc_value c.self.inside.words.net ≡ c.args.self.now.net = search rules in
    let net = c.args.self.now.net in let t = c.args.task in let cause = c.args.cause in
    let taken = taken_in c.args.seat.now.me.0 in let left = left_in c.args.seat.now.me.0 in let parts = parts_found c.args.inputs.now in
    let view : c.args.seat.now.me.0 ≡ collecting_view t cause taken parts left = ap (λ m. m.0) c.requires.view in
    let fits = subst (λ v. AllFitNotes net v) view (subst (λ (n : NetRows). AllFitNotes n c.args.seat.now.me.0) net_is c.learn.ensures.fits) in
    let f = c.in-Some.edge in
    let some : slice_get (edges_of net t cause) c.args.next ≡ Some f = search rules in
    let next = next_edge net t cause taken left c.args.next f fits.0.0 fits.0.1 c.requires.next some in
    let here : c.learn.new.seat.me.0 ≡ fetching_view t cause taken parts f next.tail Awaited Nothing = c.learn.ensures.view.0 ∙ view ∙ ap (collecting_view t cause taken parts) next.is in
    let q = given_part c.fetch.result in
    let fetched : c.fetch.new.seat.me.0 ≡ fetching_view t cause taken parts f next.tail Fetched q = ap (λ m. m.0) c.fetch.ensures.view ∙ ap (relot Awaited Fetched (λ p. q) f) here ∙ fetched_view t cause taken parts f next.tail q in
    subst (λ (n : NetRows). TakesNextToken n f c.fetch.new.seat.me.0) (sym net_is) (subst (λ v. TakesNextToken net f v) (sym fetched) (takes_next net t cause taken parts f next.tail q next.below))

pub take_token-found-requires-clause-in_range : goal.take_token-found-requires-clause-in_range
take_token-found-requires-clause-in_range g c =
    let net_is : arc_value c.self.inside.words.net ≡ c.args.self.now.net = search rules in
    let net = c.args.self.now.net in let t = c.args.task in let cause = c.args.cause in
    let taken = taken_in c.args.seat.now.me.0 in let left = left_in c.args.seat.now.me.0 in let parts = parts_found c.args.inputs.now in
    let view : c.args.seat.now.me.0 ≡ collecting_view t cause taken parts left = ap (λ m. m.0) c.requires.view in
    let fits = subst (λ v. AllFitNotes net v) view (subst (λ (n : NetRows). AllFitNotes n c.args.seat.now.me.0) net_is c.learn.ensures.fits) in
    let f = c.in-Some.edge in
    let some : slice_get (edges_of net t cause) c.args.next ≡ Some f = search rules in
    let next = next_edge net t cause taken left c.args.next f fits.0.0 fits.0.1 c.requires.next some in
    let here : c.learn.new.seat.me.0 ≡ fetching_view t cause taken parts f next.tail Awaited Nothing = c.learn.ensures.view.0 ∙ view ∙ ap (collecting_view t cause taken parts) next.is in
    subst (λ (n : NetRows). f < length n.edges) (sym net_is) next.below

pub count_again-made-requires-clause-ready : goal.count_again-made-requires-clause-ready
count_again-made-requires-clause-ready g c =
    let net_is : arc_value c.self.inside.words.net ≡ c.args.self.now.net = search rules in
    let net = c.args.self.now.net in let t = c.args.task in let cause = c.args.cause in
    let taken = taken_in c.args.seat.now.me.0 in let left = left_in c.args.seat.now.me.0 in let parts = parts_found c.args.inputs.now in
    let view : c.args.seat.now.me.0 ≡ collecting_view t cause taken parts left = ap (λ m. m.0) c.requires.view in
    let fits = subst (λ v. AllFitNotes net v) view (subst (λ (n : NetRows). AllFitNotes n c.args.seat.now.me.0) net_is c.learn.ensures.fits) in
    let f = c.in-Some.edge in
    let some : slice_get (edges_of net t cause) c.args.next ≡ Some f = search rules in
    let next = next_edge net t cause taken left c.args.next f fits.0.0 fits.0.1 c.requires.next some in
    let here : c.learn.new.seat.me.0 ≡ fetching_view t cause taken parts f next.tail Awaited Nothing = c.learn.ensures.view.0 ∙ view ∙ ap (collecting_view t cause taken parts) next.is in
    let q = given_part c.fetch.result in
    let fetched : c.fetch.new.seat.me.0 ≡ fetching_view t cause taken parts f next.tail Fetched q = ap (λ m. m.0) c.fetch.ensures.view ∙ ap (relot Awaited Fetched (λ p. q) f) here ∙ fetched_view t cause taken parts f next.tail q in
    let found = c.take_token-found.result in
    let now : c.take_token-found.new.seat.me.0 ≡ took found (fetching_view t cause taken parts f next.tail Fetched q) = c.take_token-found.ensures.view.0 ∙ ap (took found) fetched in
    λ strong more. subst (λ v. CountsNext net t f v) (sym now) (counts_again net t cause taken parts f next.tail q found fits.0.0 (ap (λ es. taken ++ es) (sym next.is) ∙ fits.0.1) c.requires.parts strong more)

pub returns-clause-few : goal.returns-clause-few
returns-clause-few g c =
    let net_is : arc_value c.self.inside.words.net ≡ c.args.self.now.net = search rules in
    let net = c.args.self.now.net in let t = c.args.task in let cause = c.args.cause in
    let taken = taken_in c.args.seat.now.me.0 in let left = left_in c.args.seat.now.me.0 in let parts = parts_found c.args.inputs.now in
    let view : c.args.seat.now.me.0 ≡ collecting_view t cause taken parts left = ap (λ m. m.0) c.requires.view in
    let fits = subst (λ v. AllFitNotes net v) view (subst (λ (n : NetRows). AllFitNotes n c.args.seat.now.me.0) net_is c.learn.ensures.fits) in
    let few = subst (λ (n : NetRows). length n.edges < 4294967296) net_is c.learn.ensures.few in
    place_few net t cause taken left c.args.next fits.0.0 fits.0.1 c.requires.next few

pub returns-clause-step : goal.returns-clause-step
returns-clause-step g c =
    let net_is : arc_value c.self.inside.words.net ≡ c.args.self.now.net = search rules in
    let net = c.args.self.now.net in let t = c.args.task in let cause = c.args.cause in
    let taken = taken_in c.args.seat.now.me.0 in let left = left_in c.args.seat.now.me.0 in let parts = parts_found c.args.inputs.now in
    let view : c.args.seat.now.me.0 ≡ collecting_view t cause taken parts left = ap (λ m. m.0) c.requires.view in
    let fits = subst (λ v. AllFitNotes net v) view (subst (λ (n : NetRows). AllFitNotes n c.args.seat.now.me.0) net_is c.learn.ensures.fits) in
    let f = c.in-Some.edge in
    let some : slice_get (edges_of net t cause) c.args.next ≡ Some f = search rules in
    let next = next_edge net t cause taken left c.args.next f fits.0.0 fits.0.1 c.requires.next some in
    let here : c.learn.new.seat.me.0 ≡ fetching_view t cause taken parts f next.tail Awaited Nothing = c.learn.ensures.view.0 ∙ view ∙ ap (collecting_view t cause taken parts) next.is in
    let q = given_part c.fetch.result in
    let fetched : c.fetch.new.seat.me.0 ≡ fetching_view t cause taken parts f next.tail Fetched q = ap (λ m. m.0) c.fetch.ensures.view ∙ ap (relot Awaited Fetched (λ p. q) f) here ∙ fetched_view t cause taken parts f next.tail q in
    let found = c.take_token-found.result in
    let now : c.take_token-found.new.seat.me.0 ≡ took found (fetching_view t cause taken parts f next.tail Fetched q) = c.take_token-found.ensures.view.0 ∙ ap (took found) fetched in
    let then : c.count_again-made.new.seat.me.0 ≡ without_count c.take_token-found.new.seat.me.0 = ap (λ m. m.0) c.count_again-made.ensures.view in
    let last : is_some (slice_get (edges_of net t cause) (c.args.next + 1)) ≡ not c.is_none-is_last.result = search rules in
    collects_edge c.args.self.now.table net t cause taken left c.args.inputs.now c.add.new.self q f next c.count_again-made.result c.is_none-is_last.result c.count_again-made.new.seat.me.0 c.args.seat.now.found c.count_again-made.new.seat.found
    (push_part c.args.inputs.now c.add.new.self c.fetch.result c.add.ensures.given) c.add.ensures.room (then ∙ ap without_count now ∙ settled_view t cause taken parts f next.tail q found c.requires.parts) c.count_again-made.ensures.fresh
    (λ some_made. subst (λ v. AreNoneLeft t v × (cause ≡ Strong)) (sym then) (c.count_again-made.ensures.last some_made)) (c.count_again-made.ensures.found c.args.seat.now.found (c.take_token-found.ensures.found ∙ ap (λ ns. found ∷ ns) (c.fetch.ensures.found ∙ c.learn.ensures.found)))
    (last_next net t cause taken next.tail c.args.next f c.is_none-is_last.result (ap (λ es. taken ++ es) (sym next.is) ∙ fits.0.1) c.requires.next last)

pub count_again-made-requires-clause-weak : goal.count_again-made-requires-clause-weak
count_again-made-requires-clause-weak g c =
    let net_is : arc_value c.self.inside.words.net ≡ c.args.self.now.net = search rules in
    let net = c.args.self.now.net in let t = c.args.task in let cause = c.args.cause in
    let taken = taken_in c.args.seat.now.me.0 in let left = left_in c.args.seat.now.me.0 in let parts = parts_found c.args.inputs.now in
    let view : c.args.seat.now.me.0 ≡ collecting_view t cause taken parts left = ap (λ m. m.0) c.requires.view in
    let fits = subst (λ v. AllFitNotes net v) view (subst (λ (n : NetRows). AllFitNotes n c.args.seat.now.me.0) net_is c.learn.ensures.fits) in
    let f = c.in-Some.edge in
    let some : slice_get (edges_of net t cause) c.args.next ≡ Some f = search rules in
    let next = next_edge net t cause taken left c.args.next f fits.0.0 fits.0.1 c.requires.next some in
    let here : c.learn.new.seat.me.0 ≡ fetching_view t cause taken parts f next.tail Awaited Nothing = c.learn.ensures.view.0 ∙ view ∙ ap (collecting_view t cause taken parts) next.is in
    let q = given_part c.fetch.result in
    let fetched : c.fetch.new.seat.me.0 ≡ fetching_view t cause taken parts f next.tail Fetched q = ap (λ m. m.0) c.fetch.ensures.view ∙ ap (relot Awaited Fetched (λ p. q) f) here ∙ fetched_view t cause taken parts f next.tail q in
    let found = c.take_token-found.result in
    let now : c.take_token-found.new.seat.me.0 ≡ took found (fetching_view t cause taken parts f next.tail Fetched q) = c.take_token-found.ensures.view.0 ∙ ap (took found) fetched in
    λ other. subst (λ v. without_count v ≡ v) (sym now) (weak_settled t cause taken parts f next.tail q found other)

pub count_again-made-requires-clause-few : goal.count_again-made-requires-clause-few
count_again-made-requires-clause-few g c =
    let net_is : arc_value c.self.inside.words.net ≡ c.args.self.now.net = search rules in
    let net = c.args.self.now.net in let t = c.args.task in let cause = c.args.cause in
    let taken = taken_in c.args.seat.now.me.0 in let left = left_in c.args.seat.now.me.0 in let parts = parts_found c.args.inputs.now in
    let view : c.args.seat.now.me.0 ≡ collecting_view t cause taken parts left = ap (λ m. m.0) c.requires.view in
    let fits = subst (λ v. AllFitNotes net v) view (subst (λ (n : NetRows). AllFitNotes n c.args.seat.now.me.0) net_is c.learn.ensures.fits) in
    let f = c.in-Some.edge in
    let some : slice_get (edges_of net t cause) c.args.next ≡ Some f = search rules in
    let next = next_edge net t cause taken left c.args.next f fits.0.0 fits.0.1 c.requires.next some in
    let here : c.learn.new.seat.me.0 ≡ fetching_view t cause taken parts f next.tail Awaited Nothing = c.learn.ensures.view.0 ∙ view ∙ ap (collecting_view t cause taken parts) next.is in
    let q = given_part c.fetch.result in
    let fetched : c.fetch.new.seat.me.0 ≡ fetching_view t cause taken parts f next.tail Fetched q = ap (λ m. m.0) c.fetch.ensures.view ∙ ap (relot Awaited Fetched (λ p. q) f) here ∙ fetched_view t cause taken parts f next.tail q in
    let found = c.take_token-found.result in
    let now : c.take_token-found.new.seat.me.0 ≡ took found (fetching_view t cause taken parts f next.tail Fetched q) = c.take_token-found.ensures.view.0 ∙ ap (took found) fetched in
    λ few. subst (λ v. without_count v ≡ v) (sym now) (few_settled t cause taken parts f next.tail q found few)

pub returns-clause-known : goal.returns-clause-known
returns-clause-known g c =
    let after = knows_again _ _ _ c.count_again-made.ensures.known c.take_token-found.ensures.known in
    let before = knows_again _ _ _ after (knows_again _ _ _ c.fetch.ensures.known (knows_again _ _ _ c.learn.ensures.known c.requires.known)) in
    subst (λ ps. Knows c.count_again-made.new.seat.values (values_in ps)) (sym c.add.ensures.given) (knows_more _ (given_in c.args.inputs.now) c.fetch.result before (knows_again _ _ _ after c.fetch.ensures.learnt))
