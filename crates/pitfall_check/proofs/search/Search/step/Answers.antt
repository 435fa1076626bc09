use Rattle.std.proofs.Common.{rules, ℕ, ◌<◌, ◌^◌, nat_eq, ◌∷◌, [], ◌++◌, List, length, get_or, slice_set, sym, ◌∙◌, ap, subst, refl, length-append, arith}
use Rattle.std.specs.List.{count_by}
use Rattle.task_graph.specs.declared.net.EdgeRow.{EdgeRow}
use Rattle.task_graph.specs.Net.{out_edges}
use Rattle.pitfall_check.specs.declared.progress.Progress.{Progress}
use Rattle.pitfall_check.specs.declared.progress.Progress.TheVariants.{Open, Done}
use Rattle.pitfall_check.specs.inside.SearchRules.{IsSearch, FindsNext, NoneLeadsToUnseen, OnlySeesMore, is_unseen}
use Rattle.pitfall_check.proofs.PlaceLemmas.{listed_length}
use Rattle.pitfall_check.specs.declared.way.Way.TheVariants.{Ahead}
use Rattle.pitfall_check.proofs.EndLemmas.{ends_listed, end_of_edge}
use Rattle.pitfall_check.proofs.SearchLemmas.{path_task_in_range, finish_sees_more, finish_as_many, IsSearch-finish, IsSearch-go_on, found_step, fewer_unseen, seen_after, IsSearch-same}
use Rattle.pitfall_check.proofs.search.Search.step.Goals as goal

pub overflow_cast-place : goal.overflow_cast-place
overflow_cast-place c =
    let found = c.in-Some.ensures.some in
    let few = listed_length (λ (row : EdgeRow). nat_eq row.from c.args.task) c.args.net.now.edges in
    let fits : c.in-Some.place < 2 ^ 32 = omega (arith, found.below, few, c.requires.search.well_formed.edge_count) in
    search rules

pub index_mut-requires : goal.index_mut-requires
index_mut-requires c =
    let in_range = path_task_in_range c.args.net.now c.args.self.now.states.items c.args.self.now.cursors.items c.args.self.now.path.items c.args.self.now.order.items c.args.task c.requires.search in
    omega (arith, in_range, c.requires.search.cursors_size)

pub of-ends-requires : goal.of-ends-requires
of-ends-requires c =
    c.requires.heads.there c.args.task (path_task_in_range c.args.net.now c.args.self.now.states.items c.args.self.now.cursors.items c.args.self.now.path.items c.args.self.now.order.items c.args.task c.requires.search)

pub next_unseen-requires-clause-heads : goal.next_unseen-requires-clause-heads
next_unseen-requires-clause-heads c =
    let below = path_task_in_range c.args.net.now c.args.self.now.states.items c.args.self.now.cursors.items c.args.self.now.path.items c.args.self.now.order.items c.args.task c.requires.search in
    ends_listed Ahead c.args.net.now c.args.heads.now c.args.task c.of-ends.result.now c.requires.heads below c.of-ends.ensures

pub bounds-ends-place : goal.bounds-ends-place
bounds-ends-place c =
    let below = path_task_in_range c.args.net.now c.args.self.now.states.items c.args.self.now.cursors.items c.args.self.now.path.items c.args.self.now.order.items c.args.task c.requires.search in
    let are = ends_listed Ahead c.args.net.now c.args.heads.now c.args.task c.of-ends.result.now c.requires.heads below c.of-ends.ensures in
    (end_of_edge Ahead c.args.net.now c.args.task c.of-ends.result.now c.in-Some.place are c.in-Some.ensures.some.below).listed

pub returns-in_ok-open-in-Some-clause-search : goal.returns-in_ok-open-in-Some-clause-search
returns-in_ok-open-in-Some-clause-search c =
    let net = c.args.net.now in
    let state = c.args.self.now in
    let opens = c.in_ok-open-in-Some.ensures in
    let found = subst (λ (states : List Progress). FindsNext net states c.args.task c.in-Some.place) c.as_slice.ensures.value c.in-Some.ensures.some in
    let head : ℕ = get_or c.of-ends.result.now c.in-Some.place 0 in
    let below = path_task_in_range c.args.net.now c.args.self.now.states.items c.args.self.now.cursors.items c.args.self.now.path.items c.args.self.now.order.items c.args.task c.requires.search in
    let are = ends_listed Ahead c.args.net.now c.args.heads.now c.args.task c.of-ends.result.now c.requires.heads below c.of-ends.ensures in
    let at = end_of_edge Ahead net c.args.task c.of-ends.result.now c.in-Some.place are found.below in
    IsSearch-same net c.open.new.self.states.items (slice_set state.states.items head Open) c.open.new.self.cursors.items (slice_set state.cursors.items c.args.task c.in-Some.place)
    c.open.new.self.path.items ((state.path.items ++ c.args.task ∷ []) ++ head ∷ []) c.open.new.self.order.items state.order.items
    opens.states opens.cursors (opens.path ∙ ap (λ p. p ++ head ∷ []) c.in_ok-push-in-Some.ensures.items) opens.order
    (IsSearch-go_on net state.states.items state.cursors.items state.path.items state.order.items c.args.task c.in-Some.place head c.requires.search found at.named at.in_range)

pub returns-in_ok-open-in-Some-clause-more : goal.returns-in_ok-open-in-Some-clause-more
returns-in_ok-open-in-Some-clause-more c =
    let states = c.args.self.now.states.items in
    let head : ℕ = get_or c.of-ends.result.now c.in-Some.place 0 in
    let below = path_task_in_range c.args.net.now c.args.self.now.states.items c.args.self.now.cursors.items c.args.self.now.path.items c.args.self.now.order.items c.args.task c.requires.search in
    let are = ends_listed Ahead c.args.net.now c.args.heads.now c.args.task c.of-ends.result.now c.requires.heads below c.of-ends.ensures in
    let at = end_of_edge Ahead c.args.net.now c.args.task c.of-ends.result.now c.in-Some.place are c.in-Some.ensures.some.below in
    subst (OnlySeesMore states) (sym c.in_ok-open-in-Some.ensures.states)
    (seen_after states head Open (subst (λ n. head < n) (sym c.requires.search.states_size) at.in_range) refl)

pub returns-in_ok-open-in-Some-clause-less : goal.returns-in_ok-open-in-Some-clause-less
returns-in_ok-open-in-Some-clause-less c =
    let net = c.args.net.now in
    let state = c.args.self.now in
    let opens = c.in_ok-open-in-Some.ensures in
    let found = subst (λ (states : List Progress). FindsNext net states c.args.task c.in-Some.place) c.as_slice.ensures.value c.in-Some.ensures.some in
    let head : ℕ = get_or c.of-ends.result.now c.in-Some.place 0 in
    let below = path_task_in_range c.args.net.now c.args.self.now.states.items c.args.self.now.cursors.items c.args.self.now.path.items c.args.self.now.order.items c.args.task c.requires.search in
    let are = ends_listed Ahead c.args.net.now c.args.heads.now c.args.task c.of-ends.result.now c.requires.heads below c.of-ends.ensures in
    let at = end_of_edge Ahead net c.args.task c.of-ends.result.now c.in-Some.place are found.below in
    let on = found_step net state.states.items c.args.task c.in-Some.place head found at.named in
    let fewer = fewer_unseen state.states.items head (subst (λ n. head < n) (sym c.requires.search.states_size) at.in_range) on.unseen in
    let counted = ap (count_by is_unseen) opens.states in
    let longer = ap length (opens.path ∙ ap (λ p. p ++ head ∷ []) c.in_ok-push-in-Some.ensures.items) in
    omega (arith, fewer, counted, longer, length-append (state.path.items ++ c.args.task ∷ []) (head ∷ []), length-append state.path.items (c.args.task ∷ []))

pub returns-in_ok-push-in-None-clause-search : goal.returns-in_ok-push-in-None-clause-search
returns-in_ok-push-in-None-clause-search c =
    let net = c.args.net.now in
    let state = c.args.self.now in
    let none = subst (λ (states : List Progress). NoneLeadsToUnseen net states c.args.task (length (out_edges net c.args.task))) c.as_slice.ensures.value c.in-None.ensures.none in
    subst (IsSearch net (slice_set state.states.items c.args.task Done) state.cursors.items state.path.items) (sym c.in_ok-push-in-None.ensures.items)
    (IsSearch-finish net state.states.items state.cursors.items state.path.items state.order.items c.args.task c.requires.search none)

pub returns-in_ok-push-in-None-clause-more : goal.returns-in_ok-push-in-None-clause-more
returns-in_ok-push-in-None-clause-more c =
    let state = c.args.self.now in
    finish_sees_more c.args.net.now state.states.items state.cursors.items state.path.items state.order.items c.args.task c.requires.search

pub returns-in_ok-push-in-None-clause-less : goal.returns-in_ok-push-in-None-clause-less
returns-in_ok-push-in-None-clause-less c =
    let state = c.args.self.now in
    let as_many = finish_as_many c.args.net.now state.states.items state.cursors.items state.path.items state.order.items c.args.task c.requires.search in
    omega (arith, as_many)
