-- Tasks whose names are new, and their lists of semaphores.
use Rattle.std.proofs.Common.{◌≡◌, ◌≢◌, ℕ, ◌+◌, ◌<◌, List, [], ◌∷◌, ◌++◌, map, length, take, get_or, Bool, true, false, not, Result, Ok, Err, codes, refl, ap, sym, subst, ◌∙◌, bytes_eq, arith}
use Rattle.std.proofs.lemmas.List.{get_or-map, length-map, length-take-le, take_more}
use Rattle.std.specs.Bool.{⊤}
use Rattle.std.specs.List.{list_any}
use Rattle.graph_drafts.specs.declared.draft.Draft.{Draft}
use Rattle.graph_drafts.specs.declared.draft.FileDraft.{FileDraft}
use Rattle.graph_drafts.specs.declared.draft.FileTask.{FileTask}
use Rattle.graph_drafts.specs.declared.scopes.Scope.{Scope}
use Rattle.graph_drafts.specs.declared.scopes.Scope.TheVariants.{Module as OfModule}
use Rattle.graph_drafts.specs.declared.refusals.GraphError.{GraphError}
use Rattle.graph_drafts.specs.declared.refusals.GraphError.TheVariants.{NoMemory, Repeated}
use Rattle.graph_drafts.specs.Fields.{graph_spot, sem_spot, task_spot}
use Rattle.graph_plans.specs.declared.spots.Spot.{Spot}
use Rattle.graph_drafts.specs.FileText.{TaskNames, puts_field, takes_field}
use Rattle.graph_file.specs.PlanText.{add_module_name, add_name, add_task_name, file_names, graph_names, names_of_modules, names_of_tasks, task_names}
use Rattle.graph_drafts.specs.Steps.{◌>>=◌, passed, walk}
use Rattle.graph_drafts.specs.inside.Reading.{Leads, draft_rows, file_rows, named_task, strings, task_text}
use Rattle.graph_file.specs.inside.Reader.{once_module, once_or}
use Rattle.graph_file.proofs.NumberLemmas.{names-drafted, names-filed}
use Rattle.graph_drafts.proofs.WalkLemmas.{GoesOn, GoesOn-more, GoesOn-refused}

-- the names of tasks, as the code has them
abbrev pub names_now : List FileTask → List (List ℕ)
names_now tasks = map (λ (task : FileTask). task.names.name.now) tasks

-- what a task names, as the code has it
abbrev pub file_names_of : FileTask → TaskNames
file_names_of task = named_task task.names

once_step : (new : Bool) (e : GraphError) (takes puts : Result (List (List ℕ)) GraphError) (names : List (List ℕ)) (number : ℕ)
    → ((passed new e >>= λ done. Ok names) >>= λ ns. takes >>= λ t. puts >>= λ p. Ok ns) ≡ ((passed new e >>= λ done. takes >>= λ t. puts >>= λ p. Ok number) >>= λ k. Ok names)
once_step true e (Ok t) (Ok p) names number = refl
once_step true e (Ok t) (Err f) names number = refl
once_step true e (Err f) puts names number = refl
once_step false e takes puts names number = refl

-- a task more, where it is known whether its name is new
add_task_name-once : (scope : Scope) (version : ℕ) (before : List (List ℕ)) (new : Bool) (number : ℕ) (task : TaskNames) → new ≡ not (list_any (bytes_eq task.name) before) → length before ≡ number
    → add_task_name scope version before task ≡ (once_or scope version number new task >>= λ k. Ok (before ++ task.name ∷ []))
add_task_name-once scope version before new number task is count =
    rw (← is, count) (once_step new (Repeated (task_spot scope number) (codes "name")) (walk (add_name (λ k. Repeated (task_spot scope number) (takes_field version))) [] task.takes)
    (walk (add_name (λ k. Repeated (task_spot scope number) (puts_field version))) [] task.puts) (before ++ task.name ∷ []) number)

-- a semaphore that is taken twice, or else what is found of those that are put
module _ (scope : Scope) (version number : ℕ) (new : Bool) (task : TaskNames) (spot : Spot) (takes puts : List ℕ) (so : new ≡ true) (at : spot ≡ task_spot scope number) (takes_are : takes ≡ takes_field version) (puts_are : puts ≡ puts_field version) where
  pub once-took : (e : GraphError) → (e ≢ NoMemory → walk (add_name (λ k. Repeated spot takes)) [] task.takes ≡ Err e) → e ≢ NoMemory → once_or scope version number new task ≡ Err e
  once-took e refused sure = rw (so, ← at, ← takes_are) (rw (refused sure) refl)

  pub once-put : (r : Result ⊤ GraphError) → walk (add_name (λ k. Repeated spot takes)) [] task.takes ≡ Ok task.takes → Leads r task.puts (walk (add_name (λ k. Repeated spot puts)) [] task.puts) → Leads r number (once_or scope version number new task)
  once-put (Ok done) took put = rw (so, ← at, ← takes_are, ← puts_are) (rw (took, put) refl)
  once-put (Err e) took put = λ sure. rw (so, ← at, ← takes_are, ← puts_are) (rw (took, put sure) refl)

pub task-within : (tasks : List FileTask) (i : ℕ) → i < length tasks → i < length (names_now tasks)
task-within tasks i within = rw (length-map tasks (λ (t : FileTask). t.names.name.now)) within

pub task-is : (tasks : List FileTask) (i : ℕ) (task : FileTask) → i < length tasks → task ≡ get_or tasks i task → task.names.name.now ≡ get_or (names_now tasks) i task.names.name.now
task-is tasks i task within is = ap (λ (t : FileTask). t.names.name.now) is ∙ sym (get_or-map (λ (t : FileTask). t.names.name.now) tasks i task task.names.name.now within)

module _ (scope : Scope) (version : ℕ) (tasks : List FileTask) (i : ℕ) (task : FileTask) (new : Bool) (within : i < length tasks) (is : task ≡ get_or tasks i task)
    (noted : new ≡ not (list_any (bytes_eq task.names.name.now) (take i (names_now tasks)))) where
  step-is : add_task_name scope version (take i (names_now tasks)) (file_names_of task) ≡ (once_or scope version i new (file_names_of task) >>= λ k. Ok (take i (names_now tasks) ++ task.names.name.now ∷ []))
  step-is = add_task_name-once scope version (take i (names_now tasks)) new i (file_names_of task) noted (length-take-le i (names_now tasks) (omega (arith, task-within tasks i within)))

  pub tasks-more : once_or scope version i new (file_names_of task) ≡ Ok i → GoesOn file_names_of (add_task_name scope version) [] tasks i (take i (names_now tasks)) → GoesOn file_names_of (add_task_name scope version) [] tasks (i + 1) (take (i + 1) (names_now tasks))
  tasks-more once so_far =
      let longer : take (i + 1) (names_now tasks) ≡ take i (names_now tasks) ++ task.names.name.now ∷ [] = take_more (names_now tasks) i task.names.name.now (task-within tasks i within) ∙ rw (← task-is tasks i task within is) refl in
      let step : add_task_name scope version (take i (names_now tasks)) (file_names_of task) ≡ Ok (take (i + 1) (names_now tasks)) = step-is ∙ rw (once, longer) refl in
      GoesOn-more file_names_of (add_task_name scope version) [] tasks i task (take i (names_now tasks)) (take (i + 1) (names_now tasks)) within is step so_far

  pub tasks-refused : (e : GraphError) → (e ≢ NoMemory → once_or scope version i new (file_names_of task) ≡ Err e) → GoesOn file_names_of (add_task_name scope version) [] tasks i (take i (names_now tasks)) → e ≢ NoMemory
      → walk (add_task_name scope version) [] (map file_names_of tasks) ≡ Err e
  tasks-refused e refused = GoesOn-refused file_names_of (add_task_name scope version) [] tasks i task (take i (names_now tasks)) e within is (λ sure. step-is ∙ rw (refused sure) refl)

-- ---- modules

-- the names of modules, as the code has them
abbrev pub graph_names_now : List Draft → List (List ℕ)
graph_names_now drafts = map (λ (draft : Draft). draft.name.now) drafts

module_step : (new : Bool) (e : GraphError) (inner : Result (List (List ℕ)) GraphError) (names : List (List ℕ)) (number : ℕ)
    → ((passed new e >>= λ done. Ok names) >>= λ ns. inner >>= λ t. Ok ns) ≡ ((passed new e >>= λ done. inner >>= λ t. Ok number) >>= λ k. Ok names)
module_step true e (Ok t) names number = refl
module_step true e (Err f) names number = refl
module_step false e inner names number = refl

module _ (drafts : List Draft) (i : ℕ) (draft : Draft) (new : Bool) (within : i < length drafts) (is : draft ≡ get_or drafts i draft)
    (noted : new ≡ not (list_any (bytes_eq draft.name.now) (take i (graph_names_now drafts)))) where
  pub graph-within : i < length (graph_names_now drafts)
  graph-within = rw (length-map drafts (λ (d : Draft). d.name.now)) within

  pub graph-is : draft.name.now ≡ get_or (graph_names_now drafts) i draft.name.now
  graph-is = ap (λ (d : Draft). d.name.now) is ∙ sym (get_or-map (λ (d : Draft). d.name.now) drafts i draft draft.name.now within)

  graph-step : add_module_name (take i (graph_names_now drafts)) (draft_rows draft) ≡ (once_module i new (draft_rows draft) >>= λ k. Ok (take i (graph_names_now drafts) ++ draft.name.now ∷ []))
  graph-step =
      let count : length (take i (graph_names_now drafts)) ≡ i = length-take-le i (graph_names_now drafts) (omega (arith, graph-within)) in
      rw (← noted, count) (module_step new (Repeated (graph_spot (OfModule i)) (codes "name")) (graph_names (draft_rows draft)) (take i (graph_names_now drafts) ++ draft.name.now ∷ []) i)

  pub graphs-more : once_module i new (draft_rows draft) ≡ Ok i → GoesOn draft_rows add_module_name [] drafts i (take i (graph_names_now drafts)) → GoesOn draft_rows add_module_name [] drafts (i + 1) (take (i + 1) (graph_names_now drafts))
  graphs-more once so_far =
      let longer : take (i + 1) (graph_names_now drafts) ≡ take i (graph_names_now drafts) ++ draft.name.now ∷ [] = take_more (graph_names_now drafts) i draft.name.now graph-within ∙ rw (← graph-is) refl in
      let step : add_module_name (take i (graph_names_now drafts)) (draft_rows draft) ≡ Ok (take (i + 1) (graph_names_now drafts)) = graph-step ∙ rw (once, longer) refl in
      GoesOn-more draft_rows add_module_name [] drafts i draft (take i (graph_names_now drafts)) (take (i + 1) (graph_names_now drafts)) within is step so_far

  pub graphs-refused : (e : GraphError) → (e ≢ NoMemory → once_module i new (draft_rows draft) ≡ Err e) → GoesOn draft_rows add_module_name [] drafts i (take i (graph_names_now drafts)) → e ≢ NoMemory
      → walk add_module_name [] (map draft_rows drafts) ≡ Err e
  graphs-refused e refused = GoesOn-refused draft_rows add_module_name [] drafts i draft (take i (graph_names_now drafts)) e within is (λ sure. graph-step ∙ rw (refused sure) refl)

-- ---- whole graphs

file-names-same : (tasks : List FileTask) → map file_names_of tasks ≡ names_of_tasks (map task_text tasks)
file-names-same [] = refl
file-names-same (task ∷ tasks) = ap (λ names. file_names_of task ∷ names) (file-names-same tasks)

-- the names of a graph's semaphores differ, and this is found of those of its tasks
pub graph-checked : (draft : Draft) (tasks : List FileTask) (sems : List (List ℕ)) (r : Result ⊤ GraphError) → tasks ≡ draft.tasks.items → sems ≡ strings draft.sem_names
    → walk (add_name (λ s. Repeated (sem_spot draft.scope s) (codes "name"))) [] sems ≡ Ok sems
    → Leads r (names_now tasks) (walk (add_task_name draft.scope draft.version) [] (map file_names_of tasks)) → Leads r (task_names (draft_rows draft)) (graph_names (draft_rows draft))
graph-checked draft tasks sems r same sems_same walked leads =
    let refusal : ℕ → GraphError = λ s. Repeated (sem_spot draft.scope s) (codes "name") in
    let step = add_task_name draft.scope draft.version in
    let known : walk (add_name refusal) [] (strings draft.sem_names) ≡ Ok sems = subst (λ ns. walk (add_name refusal) [] ns ≡ Ok sems) sems_same walked in
    let names : map file_names_of tasks ≡ names_of_tasks (map task_text draft.tasks.items) = ap (map file_names_of) same ∙ file-names-same draft.tasks.items in
    let all : graph_names (draft_rows draft) ≡ walk step [] (map file_names_of tasks) = ap (λ res. res >>= λ done. walk step [] (names_of_tasks (map task_text draft.tasks.items))) known ∙ ap (walk step []) (sym names) in
    subst (λ res. Leads r (task_names (draft_rows draft)) res) (sym all) (subst (λ ns. Leads r ns (walk step [] (map file_names_of tasks))) (names-drafted draft tasks same) leads)

-- the names of the top graph differ, and this is found of the modules
pub file-checked : (file : FileDraft) (drafts : List Draft) (r : Result ⊤ GraphError) → drafts ≡ file.modules.items → graph_names (draft_rows file.top) ≡ Ok (task_names (draft_rows file.top))
    → Leads r (graph_names_now drafts) (walk add_module_name [] (map draft_rows drafts)) → Leads r (names_of_modules (file_rows file)) (file_names (file_rows file))
file-checked file drafts r same top leads =
    let all : file_names (file_rows file) ≡ walk add_module_name [] (map draft_rows drafts) = ap (λ res. res >>= λ done. walk add_module_name [] (map draft_rows file.modules.items)) top ∙ ap (λ ds. walk add_module_name [] (map draft_rows ds)) (sym same) in
    subst (λ res. Leads r (names_of_modules (file_rows file)) res) (sym all) (subst (λ ns. Leads r ns (walk add_module_name [] (map draft_rows drafts))) (names-filed file drafts same) leads)
