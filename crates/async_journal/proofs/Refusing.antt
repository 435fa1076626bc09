-- Why a builder refuses the tasks and edges of adds.
use Rattle.std.proofs.Common.{◌≡◌, ◌∙◌, ℕ, zero, suc, ◌+◌, ◌<◌, ◌≤◌, false, List, [], ◌∷◌, ◌++◌, length, take, get_or, length-append, Some, None, refl, sym, ap, subst, arith}
use Rattle.std.specs.Prelude.{replicate, IsTrue, Result, Ok, Err, IfErr, IsErrAnd}
use Rattle.std.specs.Option.{option_or}
use Rattle.std.specs.List.{flat_map, AllByRecursion}
use Rattle.std.proofs.lemmas.Bool.{false≢true}
use Rattle.std.proofs.lemmas.List.{length-replicate}
use Rattle.task_graph.specs.NetRows.{NetRows}
use Rattle.task_graph.specs.NetBuilder.{edge_limit, task_limit, empty_net, least_repeated, RefusesEdge, RefusesTask}
use Rattle.task_graph.specs.declared.net.EdgeRow.{EdgeRow}
use Rattle.task_graph.specs.declared.net.Shape.TheVariants.{Plain}
use Rattle.task_graph.specs.declared.builder.BuildError.{BuildError}
use Rattle.task_graph.specs.declared.builder.BuildError.TheVariants.{NoSuchTask, NoSuchSemaphore, ZeroCount, Repeated, WeakStart, TooMany, NoMemory}
use Rattle.async_tasks.specs.declared.history.AddRow.{AddRow}
use Rattle.async_journal.specs.RunNets.{plain_task, edges_into, edges_of_add, with_edge_rows, with_plain_tasks, FitsBuilder, JoinsTasks}

-- an error is handed on
handed_on : {T : Type 0} (P : BuildError → Type 0) (result : Result T BuildError) (error : BuildError) → IsErrAnd result (λ e. e ≡ error) → P error → IfErr result P
handed_on P (Ok value) error never is = absurd never
handed_on P (Err e) error same is = subst P (sym same) is

-- a plain task without semaphores
task_error : (net : NetRows) (error : BuildError) → net.sems ≡ [] → length net.tasks < task_limit → RefusesTask net plain_task error → error ≡ NoMemory
task_error net (NoSuchTask id) none room why = absurd why
task_error net (NoSuchSemaphore id) none room why = absurd (cc)
task_error net ZeroCount none room why = absurd why
task_error net (Repeated id) none room why =
    let e : option_or (least_repeated 0 []) (least_repeated 0 []) ≡ Some id = subst (λ n. option_or (least_repeated n []) (least_repeated n []) ≡ Some id) (ap length none) why.1 in
    absurd (never e)
  where
    never : None ≡ Some id → ⊥
    never e = cc
task_error net WeakStart none room why = absurd why
task_error net (TooMany count) none room why = let full = why.2 in absurd (omega (arith, full, room))
task_error net NoMemory none room why = refl

-- an edge from a task to a task
edge_error : (net : NetRows) (row : EdgeRow) (error : BuildError) → length net.edges < edge_limit → JoinsTasks (length net.tasks) row → row.start ≡ false → RefusesEdge net row error → error ≡ NoMemory
edge_error net row (NoSuchTask id) room known plain why =
    let same = why.then_to known.0 in
    let unknown = why.unknown in
    let to = known.1 in
    absurd (omega (arith, same, unknown, to))
edge_error net row (NoSuchSemaphore id) room known plain why = absurd why
edge_error net row ZeroCount room known plain why = absurd why
edge_error net row (Repeated id) room known plain why = absurd why
edge_error net row WeakStart room known plain why = absurd (false≢true (subst IsTrue plain why.start))
edge_error net row (TooMany count) room known plain why = let full = why.2 in absurd (omega (arith, full, room))
edge_error net row NoMemory room known plain why = refl

-- the next one of so many tasks
pub tasks_refused : {T : Type 0} (old now : NetRows) (n count : ℕ) (takes puts : List ℕ) (error : BuildError) (result : Result T BuildError) → old.sems ≡ [] → now ≡ with_plain_tasks old n → n < count → takes ≡ [] → puts ≡ [] →
    RefusesTask now (record { shape = Plain; takes = takes; puts = puts }) error → IsErrAnd result (λ e. e ≡ error) → IfErr result (λ e. length old.tasks + count ≤ task_limit → e ≡ NoMemory)
tasks_refused old now n count takes puts error result none is below no_takes no_puts why same =
    handed_on (λ e. length old.tasks + count ≤ task_limit → e ≡ NoMemory) result error same by_room
  where
    tasks : length now.tasks ≡ length old.tasks + n
    tasks = ap (λ (net : NetRows). length net.tasks) is ∙ length-append old.tasks (replicate n plain_task) ∙ ap (λ k. length old.tasks + k) (length-replicate n plain_task)

    plain : RefusesTask now plain_task error
    plain = subst (λ ids. RefusesTask now (record { shape = Plain; takes = []; puts = ids }) error) no_puts (subst (λ ids. RefusesTask now (record { shape = Plain; takes = ids; puts = puts }) error) no_takes why)

    by_room : length old.tasks + count ≤ task_limit → error ≡ NoMemory
    by_room room = task_error now error (ap (λ (net : NetRows). net.sems) is ∙ none) (omega (arith, tasks, below, room)) plain

-- of the edges into a task: those before one are fewer than all, and its ends are known
edges_before : (to : ℕ) (before : List ℕ) (i : ℕ) → i < length before → length (edges_into to (take i before)) < length (edges_into to before)
edges_before to [] i less = absurd (omega arith)
edges_before to (x ∷ xs) zero less = let some : 0 < suc (length (edges_into to xs)) = omega arith in some
edges_before to (x ∷ xs) (suc i) less =
    let rest = edges_before to xs i (omega arith) in
    let more : suc (length (edges_into to (take i xs))) < suc (length (edges_into to xs)) = omega (arith, rest) in
    more

known_at : (tasks to : ℕ) (before : List ℕ) (i d : ℕ) → i < length before → AllByRecursion (JoinsTasks tasks) (edges_into to before) → JoinsTasks tasks (record { from = get_or before i d; to = to; start = false })
known_at tasks to [] i d less all = absurd (omega arith)
known_at tasks to (x ∷ xs) zero d less all = all.0
known_at tasks to (x ∷ xs) (suc i) d less all = known_at tasks to xs i d (omega arith) all.1

-- the next one of the edges into a task
pub edge_refused : {T : Type 0} (old now : NetRows) (to i d : ℕ) (before : List ℕ) (error : BuildError) (result : Result T BuildError) → now ≡ with_edge_rows old (edges_into to (take i before)) → i < length before →
    RefusesEdge now (record { from = get_or before i d; to = to; start = false }) error → IsErrAnd result (λ e. e ≡ error) →
    IfErr result (λ e. length old.edges + length (edges_into to before) ≤ edge_limit → AllByRecursion (JoinsTasks (length old.tasks)) (edges_into to before) → e ≡ NoMemory)
edge_refused old now to i d before error result is below why same =
    handed_on (λ e. length old.edges + length (edges_into to before) ≤ edge_limit → AllByRecursion (JoinsTasks (length old.tasks)) (edges_into to before) → e ≡ NoMemory) result error same by_room
  where
    edges : length now.edges ≡ length old.edges + length (edges_into to (take i before))
    edges = ap (λ (net : NetRows). length net.edges) is ∙ length-append old.edges (edges_into to (take i before))

    tasks : length now.tasks ≡ length old.tasks
    tasks = ap (λ (net : NetRows). length net.tasks) is

    fewer : length (edges_into to (take i before)) < length (edges_into to before)
    fewer = edges_before to before i below

    by_room : length old.edges + length (edges_into to before) ≤ edge_limit → AllByRecursion (JoinsTasks (length old.tasks)) (edges_into to before) → error ≡ NoMemory
    by_room room known =
        edge_error now (record { from = get_or before i d; to = to; start = false }) error (omega (arith, edges, fewer, room))
        (subst (λ n. JoinsTasks n (record { from = get_or before i d; to = to; start = false })) (sym tasks) (known_at (length old.tasks) to before i d below known)) refl why

module _ {X : Type 0} (P : X → Type 0) where
  all_front : (xs ys : List X) → AllByRecursion P (xs ++ ys) → AllByRecursion P xs
  all_front [] ys all = tt
  all_front (x ∷ xs) ys all = (all.0, all_front xs ys all.1)

  all_behind : (xs ys : List X) → AllByRecursion P (xs ++ ys) → AllByRecursion P ys
  all_behind [] ys all = all
  all_behind (x ∷ xs) ys all = all_behind xs ys all.1

-- of the edges of adds: those of the adds before one, with its own, are no more than all, and its ends are known
rows_before : (rows : List AddRow) (i : ℕ) (d : AddRow) → i < length rows → length (flat_map edges_of_add (take i rows)) + length (edges_of_add (get_or rows i d)) ≤ length (flat_map edges_of_add rows)
rows_before [] i d less = absurd (omega arith)
rows_before (r ∷ rs) zero d less =
    let all = length-append (edges_of_add r) (flat_map edges_of_add rs) in
    let first : 0 + length (edges_of_add r) ≤ length (edges_of_add r ++ flat_map edges_of_add rs) = omega (arith, all) in
    first
rows_before (r ∷ rs) (suc i) d less =
    let rest = rows_before rs i d (omega arith) in
    let all = length-append (edges_of_add r) (flat_map edges_of_add rs) in
    let front = length-append (edges_of_add r) (flat_map edges_of_add (take i rs)) in
    let more : length (edges_of_add r ++ flat_map edges_of_add (take i rs)) + length (edges_of_add (get_or rs i d)) ≤ length (edges_of_add r ++ flat_map edges_of_add rs) = omega (arith, rest, all, front) in
    more

rows_known : (tasks : ℕ) (rows : List AddRow) (i : ℕ) (d : AddRow) → i < length rows → AllByRecursion (JoinsTasks tasks) (flat_map edges_of_add rows) → AllByRecursion (JoinsTasks tasks) (edges_of_add (get_or rows i d))
rows_known tasks [] i d less all = absurd (omega arith)
rows_known tasks (r ∷ rs) zero d less all = all_front (JoinsTasks tasks) (edges_of_add r) (flat_map edges_of_add rs) all
rows_known tasks (r ∷ rs) (suc i) d less all = rows_known tasks rs i d (omega arith) (all_behind (JoinsTasks tasks) (edges_of_add r) (flat_map edges_of_add rs) all)

-- the edges of the next add
pub rows_refused : {T : Type 0} (old now : NetRows) (i : ℕ) (row d : AddRow) (rows : List AddRow) (after : List ℕ) (error : BuildError) (result : Result T BuildError) → now ≡ with_edge_rows old (flat_map edges_of_add (take i rows)) → i < length rows → row ≡ get_or rows i d → after ≡ row.after →
    (length now.edges + length (edges_into row.id after) ≤ edge_limit → AllByRecursion (JoinsTasks (length now.tasks)) (edges_into row.id after) → error ≡ NoMemory) → IsErrAnd result (λ e. e ≡ error) →
    IfErr result (λ e. length old.edges + length (flat_map edges_of_add rows) ≤ edge_limit → AllByRecursion (JoinsTasks (length old.tasks)) (flat_map edges_of_add rows) → e ≡ NoMemory)
rows_refused old now i row d rows after error result is below its_row its_after refused same =
    handed_on (λ e. length old.edges + length (flat_map edges_of_add rows) ≤ edge_limit → AllByRecursion (JoinsTasks (length old.tasks)) (flat_map edges_of_add rows) → e ≡ NoMemory) result error same by_room
  where
    edges : length now.edges ≡ length old.edges + length (flat_map edges_of_add (take i rows))
    edges = ap (λ (net : NetRows). length net.edges) is ∙ length-append old.edges (flat_map edges_of_add (take i rows))

    tasks : length now.tasks ≡ length old.tasks
    tasks = ap (λ (net : NetRows). length net.tasks) is

    more : length (flat_map edges_of_add (take i rows)) + length (edges_of_add row) ≤ length (flat_map edges_of_add rows)
    more = subst (λ r. length (flat_map edges_of_add (take i rows)) + length (edges_of_add r) ≤ length (flat_map edges_of_add rows)) (sym its_row) (rows_before rows i d below)

    its_edges : edges_into row.id after ≡ edges_of_add row
    its_edges = ap (edges_into row.id) its_after

    by_room : length old.edges + length (flat_map edges_of_add rows) ≤ edge_limit → AllByRecursion (JoinsTasks (length old.tasks)) (flat_map edges_of_add rows) → error ≡ NoMemory
    by_room room known =
        let enough : length now.edges + length (edges_of_add row) ≤ edge_limit = omega (arith, edges, more, room) in
        refused (subst (λ es. length now.edges + length es ≤ edge_limit) (sym its_edges) enough)
        (subst (λ es. AllByRecursion (JoinsTasks (length now.tasks)) es) (sym its_edges)
        (subst (λ r. AllByRecursion (JoinsTasks (length now.tasks)) (edges_of_add r)) (sym its_row)
        (subst (λ n. AllByRecursion (JoinsTasks n) (edges_of_add (get_or rows i d))) (sym tasks) (rows_known (length old.tasks) rows i d below known))))

-- the tasks of all adds, and their edges
pub adds_refused : {T : Type 0} (adds : List AddRow) (start : NetRows) (count : ℕ) (error : BuildError) (result : Result T BuildError) → start ≡ empty_net → count ≡ length adds →
    (length start.tasks + count ≤ task_limit → error ≡ NoMemory) → IsErrAnd result (λ e. e ≡ error) → IfErr result (λ e. FitsBuilder adds → e ≡ NoMemory)
adds_refused adds start count error result empty all refused same = handed_on (λ e. FitsBuilder adds → e ≡ NoMemory) result error same by_fit
  where
    by_fit : FitsBuilder adds → error ≡ NoMemory
    by_fit fits =
        let none : length start.tasks ≡ 0 = ap (λ (net : NetRows). length net.tasks) empty in
        let few = fits.tasks in
        refused (omega (arith, none, all, few))

pub joins_refused : {T : Type 0} (adds : List AddRow) (start made : NetRows) (count : ℕ) (error : BuildError) (result : Result T BuildError) → start ≡ empty_net → count ≡ length adds → made ≡ with_plain_tasks start count →
    (length made.edges + length (flat_map edges_of_add adds) ≤ edge_limit → AllByRecursion (JoinsTasks (length made.tasks)) (flat_map edges_of_add adds) → error ≡ NoMemory) → IsErrAnd result (λ e. e ≡ error) →
    IfErr result (λ e. FitsBuilder adds → e ≡ NoMemory)
joins_refused adds start made count error result empty all is refused same = handed_on (λ e. FitsBuilder adds → e ≡ NoMemory) result error same by_fit
  where
    tasks : length made.tasks ≡ length adds
    tasks =
        ap (λ (net : NetRows). length net.tasks) is ∙ ap (λ (net : NetRows). length (net.tasks ++ replicate count plain_task)) empty
        ∙ length-replicate count plain_task ∙ all

    edges : length made.edges ≡ 0
    edges = ap (λ (net : NetRows). length net.edges) is ∙ ap (λ (net : NetRows). length net.edges) empty

    by_fit : FitsBuilder adds → error ≡ NoMemory
    by_fit fits =
        let few = fits.edges in
        refused (omega (arith, edges, few)) (subst (λ n. AllByRecursion (JoinsTasks n) (flat_map edges_of_add adds)) (sym tasks) fits.known)
