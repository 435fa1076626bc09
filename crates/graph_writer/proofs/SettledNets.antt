-- A file of version 2 with each list of semaphores in order has the same plan.
use Rattle.std.proofs.Common.{◌≡◌, ℕ, suc, ◌+◌, ◌<◌, List, [], ◌∷◌, ◌++◌, map, length, get_or, sum_by, true, false, Result, Ok, Err, Some, All, codes, refl, sym, ap, subst, ◌∙◌, append_assoc, bytes_eq, arith}
use Rattle.std.proofs.lemmas.List.{append-nil, get_or_append_left, length-append}
use Rattle.std.proofs.Math.Seq.{get_or-append_seam}
use Rattle.std.proofs.lemmas.List.Folds.{list_any_none}
use Rattle.std.proofs.lemmas.List.Sums.{sum_by-cons}
use Rattle.std.specs.Bool.{⊤}
use Rattle.std.specs.List.{list_all, list_any}
use Rattle.task_graph.specs.NetBuilder.{rising}
use Rattle.graph_plans.specs.declared.ops.Op.{Op}
use Rattle.graph_plans.specs.PlanRows.{AllDiffer}
use Rattle.graph_file.specs.declared.numbers.TaskNumbers.{TaskNumbers}
use Rattle.graph_drafts.specs.declared.refusals.GraphError.{GraphError}
use Rattle.graph_drafts.specs.declared.refusals.GraphError.TheVariants.{Repeated}
use Rattle.graph_drafts.specs.declared.scopes.Scope.{Scope}
use Rattle.graph_drafts.specs.declared.scopes.Scope.TheVariants.{Top, Module as OfModule}
use Rattle.graph_drafts.specs.Contents.{each, is_name}
use Rattle.graph_drafts.specs.Fields.{sem_spot, task_spot}
use Rattle.graph_drafts.specs.FileText.{DraftRows, FileRows, TaskNames, TaskText}
use Rattle.graph_file.specs.PlanText.{FileNumbers, add_graph_numbers, add_module_name, add_name, add_numbers, add_task_name, edge_to, edge_total, edges_from, add_graph_pipelines, add_pipeline, file_names, file_numbers, file_pipelines, file_texts, file_uses, graph_names, graph_pipelines, graph_numbers, graph_with, graphs_with, mentioned, mentioned_by_graphs, mentioned_by_tasks, names_of_modules, names_of_tasks, ops_of, numbered, plan_of, plan_with, task_names, task_rows, used_before, used_by_tasks, within_counts, within_limits}
use Rattle.graph_drafts.specs.Steps.{◌>>=◌, walk}
use Rattle.graph_file.specs.inside.Drafts.{AreIds}
use Rattle.graph_drafts.specs.inside.Fine.{AreFine, AreMade, AreValidSems, IsMade, IsMadeFile, SemText, names_of_sems}
use Rattle.graph_file.proofs.DraftLemmas.{All-true, IsDraft-of}
use Rattle.graph_file.proofs.NumberLemmas.{called, called-differ, numbers-called, place}
use Rattle.graph_drafts.proofs.OpLemmas.{differs}
use Rattle.graph_file.proofs.PlanLemmas.{AreGraphNumbers, AreNamed, AreNumbered, HasNames, HasNames-of, IsNamedFile, IsNumberedFile, numbered-draft}
use Rattle.graph_file.proofs.SettledLemmas.{rising-again, rising-ids}

-- the semaphores of a list in order
abbrev pub settled_list : DraftRows → List ℕ → List (List ℕ)
settled_list draft ids = map (called draft.sem_names) (rising (length draft.sems) ids)

-- a task with its lists in order
abbrev pub settled_names : DraftRows → TaskNames → TaskNumbers → TaskNames
settled_names draft task numbers = record { name = task.name; to = task.to; takes = settled_list draft numbers.takes; puts = settled_list draft numbers.puts }

abbrev pub settled_tasks : DraftRows → List TaskText → List TaskNumbers → List TaskText
settled_tasks draft [] numbers = []
settled_tasks draft (task ∷ tasks) [] = []
settled_tasks draft (task ∷ tasks) (n ∷ numbers) = record { names = settled_names draft task.names n; op = task.op } ∷ settled_tasks draft tasks numbers

abbrev pub settled : DraftRows → List TaskNumbers → DraftRows
settled draft numbers = record draft { version = 2; tasks = settled_tasks draft draft.tasks numbers }

abbrev pub settled_graphs : List DraftRows → List (List TaskNumbers) → List DraftRows
settled_graphs [] numbers = []
settled_graphs (draft ∷ drafts) [] = []
settled_graphs (draft ∷ drafts) (n ∷ numbers) = settled draft n ∷ settled_graphs drafts numbers

abbrev pub settled_file : FileRows → FileNumbers → FileRows
settled_file file numbers = record { top = settled file.top numbers.top; modules = settled_graphs file.modules numbers.modules }

abbrev settled_task_numbers : ℕ → TaskNumbers → TaskNumbers
settled_task_numbers sems numbers = record { to = numbers.to; takes = rising sems numbers.takes; puts = rising sems numbers.puts }

abbrev settled_numbers : DraftRows → List TaskNumbers → List TaskNumbers
settled_numbers draft numbers = map (settled_task_numbers (length draft.sems)) numbers

abbrev settled_graph_numbers : List DraftRows → List (List TaskNumbers) → List (List TaskNumbers)
settled_graph_numbers [] numbers = []
settled_graph_numbers (draft ∷ drafts) [] = []
settled_graph_numbers (draft ∷ drafts) (n ∷ numbers) = settled_numbers draft n ∷ settled_graph_numbers drafts numbers

-- ---- they may stand in a file

sems-named : (sems : List SemText) → AreValidSems sems → list_all is_name (names_of_sems sems) ≡ true
sems-named [] fine = refl
sems-named (sem ∷ sems) fine = rw (fine.0.name) (sems-named sems fine.1)

called-named : (all : List (List ℕ)) (ids : List ℕ) → list_all is_name all ≡ true → All (λ k. k < length all) ids → list_all is_name (map (called all) ids) ≡ true
called-named all [] fine within = refl
called-named all (k ∷ ids) fine within =
    let here : is_name (called all k) ≡ true = All-true is_name all fine k [] (within 0 0 (omega arith)) in
    rw here (called-named all ids fine (λ i d less. within (suc i) d (omega (arith, less))))

settled-ids : (draft : DraftRows) (ids : List ℕ) → length draft.sems ≡ length draft.sem_names → AreIds (length draft.sem_names) (rising (length draft.sems) ids)
settled-ids draft ids count = subst (λ n. AreIds n (rising (length draft.sems) ids)) count (rising-ids draft.sems ids)

settled-named : (draft : DraftRows) (ids : List ℕ) → length draft.sems ≡ length draft.sem_names → list_all is_name draft.sem_names ≡ true → list_all is_name (settled_list draft ids) ≡ true
settled-named draft ids count fine = called-named draft.sem_names (rising (length draft.sems) ids) fine (settled-ids draft ids count).in_range

module _ (modules : List (List ℕ)) (draft : DraftRows) where
  settled-all-fine : (tasks : List TaskText) (numbers : List TaskNumbers) → length draft.sems ≡ length draft.sem_names → list_all is_name draft.sem_names ≡ true
      → AreNumbered modules draft tasks numbers → AreFine tasks → AreFine (settled_tasks draft tasks numbers)
  settled-all-fine [] numbers count named all fine = tt
  settled-all-fine (task ∷ tasks) [] count named all fine = absurd all
  settled-all-fine (task ∷ tasks) (n ∷ numbers) count named all fine = (
    record {
      name = fine.0.name;
      op = fine.0.op;
      to = fine.0.to;
      takes = settled-named draft n.takes count named;
      puts = settled-named draft n.puts count named;
    },
    settled-all-fine tasks numbers count named all.1 fine.1,
  )

  pub settled-fine : (scope : Scope) (numbers : List TaskNumbers) → IsMade scope draft → AreNumbered modules draft draft.tasks numbers → AreFine (settled_tasks draft draft.tasks numbers)
  settled-fine scope numbers made all = settled-all-fine draft.tasks numbers (IsDraft-of scope draft made).sem_count (subst (λ ns. list_all is_name ns ≡ true) made.sem_names (sems-named made.sems made.fine_sems)) all made.tasks

  -- ---- what stays the same

  texts-same : (texts : List (List ℕ)) (tasks : List TaskText) (numbers : List TaskNumbers) → AreNumbered modules draft tasks numbers → mentioned_by_tasks texts (settled_tasks draft tasks numbers) ≡ mentioned_by_tasks texts tasks
  texts-same texts [] numbers all = refl
  texts-same texts (task ∷ tasks) [] all = absurd all
  texts-same texts (task ∷ tasks) (n ∷ numbers) all = texts-same (mentioned texts task.op) tasks numbers all.1

  used-same : (tasks : List TaskText) (numbers : List TaskNumbers) → AreNumbered modules draft tasks numbers → used_by_tasks modules (settled_tasks draft tasks numbers) ≡ used_by_tasks modules tasks
  used-same [] numbers all = refl
  used-same (task ∷ tasks) [] all = absurd all
  used-same (task ∷ tasks) (n ∷ numbers) all = ap (λ ms. used_before modules ms task.op) (used-same tasks numbers all.1)

  ops-same : (texts : List (List ℕ)) (tasks : List TaskText) (numbers : List TaskNumbers) → AreNumbered modules draft tasks numbers → ops_of modules texts (settled_tasks draft tasks numbers) ≡ ops_of modules texts tasks
  ops-same texts [] numbers all = refl
  ops-same texts (task ∷ tasks) [] all = absurd all
  ops-same texts (task ∷ tasks) (n ∷ numbers) all = ap (λ ops. numbered modules texts task.op ∷ ops) (ops-same texts tasks numbers all.1)

  names-same : (tasks : List TaskText) (numbers : List TaskNumbers) → AreNumbered modules draft tasks numbers → map (λ (task : TaskText). task.names.name) (settled_tasks draft tasks numbers) ≡ map (λ (task : TaskText). task.names.name) tasks
  names-same [] numbers all = refl
  names-same (task ∷ tasks) [] all = absurd all
  names-same (task ∷ tasks) (n ∷ numbers) all = ap (λ names. task.names.name ∷ names) (names-same tasks numbers all.1)

  count-same : (tasks : List TaskText) (numbers : List TaskNumbers) → AreNumbered modules draft tasks numbers → length (settled_tasks draft tasks numbers) ≡ length tasks
  count-same [] numbers all = refl
  count-same (task ∷ tasks) [] all = absurd all
  count-same (task ∷ tasks) (n ∷ numbers) all = ap suc (count-same tasks numbers all.1)

edges-same : (sems t : ℕ) (numbers : List TaskNumbers) → edges_from t (map (settled_task_numbers sems) numbers) ≡ edges_from t numbers
edges-same sems t [] = refl
edges-same sems t (n ∷ numbers) = ap (λ edges. map (edge_to t) n.to ++ edges) (edges-same sems (suc t) numbers)

total-same : (sems : ℕ) (numbers : List TaskNumbers) → edge_total (map (settled_task_numbers sems) numbers) ≡ edge_total numbers
total-same sems [] = refl
total-same sems (n ∷ numbers) =
    sum_by-cons (λ (task : TaskNumbers). length task.to) (settled_task_numbers sems n) (map (settled_task_numbers sems) numbers) ∙ ap (λ k. length n.to + k) (total-same sems numbers)
    ∙ sym (sum_by-cons (λ (task : TaskNumbers). length task.to) n numbers)

rows-same : (sems : ℕ) (ops : List Op) (numbers : List TaskNumbers) → task_rows sems ops (map (settled_task_numbers sems) numbers) ≡ task_rows sems ops numbers
rows-same sems [] numbers = refl
rows-same sems (op ∷ ops) [] = refl
rows-same sems (op ∷ ops) (n ∷ numbers) = rw (rising-again sems n.takes, rising-again sems n.puts, rows-same sems ops numbers) refl

-- ---- the classes of refusals

-- names that differ pass
not-among : (before names : List (List ℕ)) (name : List ℕ) → AllDiffer (before ++ name ∷ names) → list_any (bytes_eq name) before ≡ false
not-among before names name differ =
    list_any_none (bytes_eq name) before (λ k d within. let there = get_or before k d in
    sym_differs there name (λ same. differ k (length before) d within (omega (arith, length-append before (name ∷ names)))
    (get_or_append_left before (name ∷ names) d k within ∙ same ∙ sym (get_or-append_seam before name names d))))
  where
    sym_differs : (there name : List ℕ) → (there ≡ name → ⊥) → bytes_eq name there ≡ false
    sym_differs there name other = differs name there other

once-passes : (refusal : ℕ → GraphError) (before names : List (List ℕ)) → AllDiffer (before ++ names) → walk (add_name refusal) before names ≡ Ok (before ++ names)
once-passes refusal before [] differ = ap Ok (sym (append-nil before))
once-passes refusal before (name ∷ names) differ =
    let longer : (before ++ name ∷ []) ++ names ≡ before ++ name ∷ names = append_assoc before (name ∷ []) names in
    rw (not-among before names name differ) (once-passes refusal (before ++ name ∷ []) names (subst AllDiffer (sym longer) differ) ∙ ap Ok longer)

list-passes : (draft : DraftRows) (ids : List ℕ) (refusal : ℕ → GraphError) → length draft.sems ≡ length draft.sem_names → AllDiffer draft.sem_names
    → walk (add_name refusal) [] (settled_list draft ids) ≡ Ok (settled_list draft ids)
list-passes draft ids refusal count differ = once-passes refusal [] (settled_list draft ids) (called-differ draft.sem_names (rising (length draft.sems) ids) differ (settled-ids draft ids count))

abbrev name_all : List TaskText → List (List ℕ)
name_all tasks = map (λ (task : TaskText). task.names.name) tasks

module _ (modules : List (List ℕ)) (draft : DraftRows) (count : length draft.sems ≡ length draft.sem_names) (differ : AllDiffer draft.sem_names) where
  -- the numbers of the names in order
  numbers-kept : (now : DraftRows) (before : List TaskNumbers) (tasks : List TaskText) (numbers : List TaskNumbers) → task_names now ≡ task_names draft → now.sem_names ≡ draft.sem_names → AreNumbered modules draft tasks numbers
      → walk (add_numbers modules now) before (settled_tasks draft tasks numbers) ≡ Ok (before ++ settled_numbers draft numbers)
  numbers-kept now before [] [] names sems all = ap Ok (sym (append-nil before))
  numbers-kept now before [] (n ∷ numbers) names sems all = absurd all
  numbers-kept now before (task ∷ tasks) [] names sems all = absurd all
  numbers-kept now before (task ∷ tasks) (n ∷ numbers) names sems all =
      let m = settled_task_numbers (length draft.sems) n in
      let to : each (place (task_names now)) task.names.to ≡ Some n.to = rw names all.0.to in
      let takes : each (place now.sem_names) (settled_list draft n.takes) ≡ Some m.takes = rw sems (numbers-called draft.sem_names m.takes differ (settled-ids draft n.takes count).in_range) in
      let puts : each (place now.sem_names) (settled_list draft n.puts) ≡ Some m.puts = rw sems (numbers-called draft.sem_names m.puts differ (settled-ids draft n.puts count).in_range) in
      let others = numbers-kept now (before ++ m ∷ []) tasks numbers names sems all.1 in
      rw (all.0.runs_one, to, takes, puts) (others ∙ ap Ok (append_assoc before (m ∷ []) (settled_numbers draft numbers)))

  pub graph-numbers-kept : (numbers : List TaskNumbers) → AreNumbered modules draft draft.tasks numbers → graph_numbers modules (settled draft numbers) ≡ Ok (settled_numbers draft numbers)
  graph-numbers-kept numbers all = numbers-kept (settled draft numbers) [] draft.tasks numbers (names-same modules draft draft.tasks numbers all) refl all

  tasks-pass : (before : List (List ℕ)) (tasks : List TaskText) (numbers : List TaskNumbers) → AreNumbered modules draft tasks numbers → AllDiffer (before ++ name_all tasks)
      → walk (add_task_name draft.scope 2) before (names_of_tasks (settled_tasks draft tasks numbers)) ≡ Ok (before ++ name_all tasks)
  tasks-pass before [] numbers all names = ap Ok (sym (append-nil before))
  tasks-pass before (task ∷ tasks) [] all names = absurd all
  tasks-pass before (task ∷ tasks) (n ∷ numbers) all names =
      let name = task.names.name in
      let spot = task_spot draft.scope (length before) in
      let longer : (before ++ name ∷ []) ++ name_all tasks ≡ before ++ name ∷ name_all tasks = append_assoc before (name ∷ []) (name_all tasks) in
      rw (
        not-among before (name_all tasks) name names,
        list-passes draft n.takes (λ k. Repeated spot (codes "acquire")) count differ,
        list-passes draft n.puts (λ k. Repeated spot (codes "release")) count differ,
      ) (tasks-pass (before ++ name ∷ []) tasks numbers all.1 (subst AllDiffer (sym longer) names) ∙ ap Ok longer)

  pub graph-names-kept : (numbers : List TaskNumbers) → AreNumbered modules draft draft.tasks numbers → AllDiffer (task_names draft) → graph_names (settled draft numbers) ≡ Ok (task_names draft)
  graph-names-kept numbers all names =
      rw (once-passes (λ s. Repeated (sem_spot draft.scope s) (codes "name")) [] draft.sem_names differ) (tasks-pass [] draft.tasks numbers all names)

-- ---- the graphs of the plan

graph-same : (modules texts : List (List ℕ)) (draft : DraftRows) (numbers : List TaskNumbers) → AreNumbered modules draft draft.tasks numbers → graph_with modules texts (settled draft numbers) (settled_numbers draft numbers) ≡ graph_with modules texts draft numbers
graph-same modules texts draft numbers all =
    rw (
      ops-same modules draft texts draft.tasks numbers all,
      names-same modules draft draft.tasks numbers all,
      edges-same (length draft.sems) 0 numbers,
      rows-same (length draft.sems) (ops_of modules texts draft.tasks) numbers,
    ) refl

module _ (modules : List (List ℕ)) where
  graphs-same : (texts : List (List ℕ)) (drafts : List DraftRows) (numbers : List (List TaskNumbers)) → AreGraphNumbers modules drafts numbers
      → graphs_with modules texts (settled_graphs drafts numbers) (settled_graph_numbers drafts numbers) ≡ graphs_with modules texts drafts numbers
  graphs-same texts [] numbers all = refl
  graphs-same texts (draft ∷ drafts) [] all = absurd all
  graphs-same texts (draft ∷ drafts) (n ∷ numbers) all = rw (graph-same modules texts draft n (numbered-draft modules draft n all.0), graphs-same texts drafts numbers all.1) refl

  modules-same : (drafts : List DraftRows) (numbers : List (List TaskNumbers)) → AreGraphNumbers modules drafts numbers → map (λ (draft : DraftRows). draft.name) (settled_graphs drafts numbers) ≡ map (λ (draft : DraftRows). draft.name) drafts
  modules-same [] numbers all = refl
  modules-same (draft ∷ drafts) [] all = absurd all
  modules-same (draft ∷ drafts) (n ∷ numbers) all = ap (λ names. draft.name ∷ names) (modules-same drafts numbers all.1)

  uses-same : (drafts : List DraftRows) (numbers : List (List TaskNumbers)) → AreGraphNumbers modules drafts numbers
      → map (λ (draft : DraftRows). used_by_tasks modules draft.tasks) (settled_graphs drafts numbers) ≡ map (λ (draft : DraftRows). used_by_tasks modules draft.tasks) drafts
  uses-same [] numbers all = refl
  uses-same (draft ∷ drafts) [] all = absurd all
  uses-same (draft ∷ drafts) (n ∷ numbers) all = rw (used-same modules draft draft.tasks n (numbered-draft modules draft n all.0), uses-same drafts numbers all.1) refl

  mentions-same : (texts : List (List ℕ)) (drafts : List DraftRows) (numbers : List (List TaskNumbers)) → AreGraphNumbers modules drafts numbers → mentioned_by_graphs texts (settled_graphs drafts numbers) ≡ mentioned_by_graphs texts drafts
  mentions-same texts [] numbers all = refl
  mentions-same texts (draft ∷ drafts) [] all = absurd all
  mentions-same texts (draft ∷ drafts) (n ∷ numbers) all =
      ap (λ ts. mentioned_by_graphs ts (settled_graphs drafts numbers)) (texts-same modules draft texts draft.tasks n (numbered-draft modules draft n all.0)) ∙ mentions-same (mentioned_by_tasks texts draft.tasks) drafts numbers all.1

  graphs-length : (drafts : List DraftRows) (numbers : List (List TaskNumbers)) → AreGraphNumbers modules drafts numbers → length (settled_graphs drafts numbers) ≡ length drafts
  graphs-length [] numbers all = refl
  graphs-length (draft ∷ drafts) [] all = absurd all
  graphs-length (draft ∷ drafts) (n ∷ numbers) all = ap suc (graphs-length drafts numbers all.1)

  tasks-total : (drafts : List DraftRows) (numbers : List (List TaskNumbers)) → AreGraphNumbers modules drafts numbers → sum_by (λ (draft : DraftRows). length draft.tasks) (settled_graphs drafts numbers) ≡ sum_by (λ (draft : DraftRows). length draft.tasks) drafts
  tasks-total [] numbers all = refl
  tasks-total (draft ∷ drafts) [] all = absurd all
  tasks-total (draft ∷ drafts) (n ∷ numbers) all =
      omega (
        arith,
        sum_by-cons (λ (d : DraftRows). length d.tasks) (settled draft n) (settled_graphs drafts numbers),
        sum_by-cons (λ (d : DraftRows). length d.tasks) draft drafts,
        count-same modules draft draft.tasks n (numbered-draft modules draft n all.0),
        tasks-total drafts numbers all.1,
      )

  edges-total : (drafts : List DraftRows) (numbers : List (List TaskNumbers)) → AreGraphNumbers modules drafts numbers → sum_by edge_total (settled_graph_numbers drafts numbers) ≡ sum_by edge_total numbers
  edges-total [] [] all = refl
  edges-total [] (n ∷ numbers) all = absurd all
  edges-total (draft ∷ drafts) [] all = absurd all
  edges-total (draft ∷ drafts) (n ∷ numbers) all =
      omega (
        arith,
        sum_by-cons edge_total (settled_numbers draft n) (settled_graph_numbers drafts numbers),
        sum_by-cons edge_total n numbers,
        total-same (length draft.sems) n,
        edges-total drafts numbers all.1,
      )

  sems-total : (drafts : List DraftRows) (numbers : List (List TaskNumbers)) → AreGraphNumbers modules drafts numbers → sum_by (λ (draft : DraftRows). length draft.sems) (settled_graphs drafts numbers) ≡ sum_by (λ (draft : DraftRows). length draft.sems) drafts
  sems-total [] numbers all = refl
  sems-total (draft ∷ drafts) [] all = absurd all
  sems-total (draft ∷ drafts) (n ∷ numbers) all =
      omega (arith, sum_by-cons (λ (d : DraftRows). length d.sems) (settled draft n) (settled_graphs drafts numbers), sum_by-cons (λ (d : DraftRows). length d.sems) draft drafts, sems-total drafts numbers all.1)

  graphs-numbers-kept : (m : ℕ) (before : List (List TaskNumbers)) (drafts : List DraftRows) (numbers : List (List TaskNumbers)) → AreMade m drafts → AreGraphNumbers modules drafts numbers → AreNamed drafts
      → walk (add_graph_numbers modules) before (settled_graphs drafts numbers) ≡ Ok (before ++ settled_graph_numbers drafts numbers)
  graphs-numbers-kept m before [] numbers made all named = ap Ok (sym (append-nil before))
  graphs-numbers-kept m before (draft ∷ drafts) [] made all named = absurd all
  graphs-numbers-kept m before (draft ∷ drafts) (n ∷ numbers) made all named =
      let kept = (HasNames-of draft (task_names draft) named.0).0 in
      let count = (IsDraft-of (OfModule m) draft made.1).sem_count in
      let first = graph-numbers-kept modules draft count kept.sems n (numbered-draft modules draft n all.0) in
      rw first (graphs-numbers-kept (suc m) (before ++ settled_numbers draft n ∷ []) drafts numbers made.2 all.1 named.1 ∙ ap Ok (append_assoc before (settled_numbers draft n ∷ []) (settled_graph_numbers drafts numbers)))

  graphs-names-kept : (m : ℕ) (before : List (List ℕ)) (drafts : List DraftRows) (numbers : List (List TaskNumbers)) → AreMade m drafts → AreGraphNumbers modules drafts numbers → AreNamed drafts
      → AllDiffer (before ++ map (λ (draft : DraftRows). draft.name) drafts) → walk add_module_name before (settled_graphs drafts numbers) ≡ Ok (before ++ map (λ (draft : DraftRows). draft.name) drafts)
  graphs-names-kept m before [] numbers made all named differ = ap Ok (sym (append-nil before))
  graphs-names-kept m before (draft ∷ drafts) [] made all named differ = absurd all
  graphs-names-kept m before (draft ∷ drafts) (n ∷ numbers) made all named differ =
      let names = map (λ (d : DraftRows). d.name) drafts in
      let kept = (HasNames-of draft (task_names draft) named.0).0 in
      let count = (IsDraft-of (OfModule m) draft made.1).sem_count in
      let longer : (before ++ draft.name ∷ []) ++ names ≡ before ++ draft.name ∷ names = append_assoc before (draft.name ∷ []) names in
      let inner = graph-names-kept modules draft count kept.sems n (numbered-draft modules draft n all.0) kept.tasks in
      rw (not-among before names draft.name differ) (rw inner (graphs-names-kept (suc m) (before ++ draft.name ∷ []) drafts numbers made.2 all.1 named.1 (subst AllDiffer (sym longer) differ) ∙ ap Ok longer))

-- ---- pipelines

tasks-piped : (modules : List (List ℕ)) (draft : DraftRows) (scope : Scope) (t : ℕ) (tasks : List TaskText) (numbers : List TaskNumbers) → AreNumbered modules draft tasks numbers → walk (add_pipeline scope) t (settled_tasks draft tasks numbers) ≡ walk (add_pipeline scope) t tasks
tasks-piped modules draft scope t [] numbers all = refl
tasks-piped modules draft scope t (task ∷ tasks) [] all = absurd all
tasks-piped modules draft scope t (task ∷ tasks) (n ∷ numbers) all = goes_on (add_pipeline scope t task) (λ next. tasks-piped modules draft scope next tasks numbers all.1)
  where
    goes_on : (r : Result ℕ GraphError) → ((next : ℕ) → walk (add_pipeline scope) next (settled_tasks draft tasks numbers) ≡ walk (add_pipeline scope) next tasks)
        → (r >>= λ next. walk (add_pipeline scope) next (settled_tasks draft tasks numbers)) ≡ (r >>= λ next. walk (add_pipeline scope) next tasks)
    goes_on (Ok next) more = more next
    goes_on (Err e) more = refl

graphs-piped : (modules : List (List ℕ)) (drafts : List DraftRows) (numbers : List (List TaskNumbers)) (done : ⊤) → AreGraphNumbers modules drafts numbers → walk add_graph_pipelines done (settled_graphs drafts numbers) ≡ walk add_graph_pipelines done drafts
graphs-piped modules [] numbers done all = refl
graphs-piped modules (draft ∷ drafts) [] done all = absurd all
graphs-piped modules (draft ∷ drafts) (n ∷ numbers) done all =
    rw (tasks-piped modules draft draft.scope 0 draft.tasks n (numbered-draft modules draft n all.0)) (goes_on (graph_pipelines draft) (λ next. graphs-piped modules drafts numbers next all.1))
  where
    goes_on : (r : Result ℕ GraphError) → ((next : ⊤) → walk add_graph_pipelines next (settled_graphs drafts numbers) ≡ walk add_graph_pipelines next drafts)
        → ((r >>= λ tasks. Ok tt) >>= λ next. walk add_graph_pipelines next (settled_graphs drafts numbers)) ≡ ((r >>= λ tasks. Ok tt) >>= λ next. walk add_graph_pipelines next drafts)
    goes_on (Ok tasks) more = more tt
    goes_on (Err e) more = refl

-- ---- the file

module _ (file : FileRows) (numbers : FileNumbers) (made : IsMadeFile file) (all : IsNumberedFile file numbers) (named : IsNamedFile file) (passes : within_limits file numbers ≡ Ok tt) (piped : file_pipelines file ≡ Ok tt) where
  abbrev now : FileRows
  now = settled_file file numbers

  abbrev numbers_now : FileNumbers
  numbers_now = record { top = settled_numbers file.top numbers.top; modules = settled_graph_numbers file.modules numbers.modules }

  modules_now : names_of_modules now ≡ names_of_modules file
  modules_now = modules-same (names_of_modules file) file.modules numbers.modules all.modules

  top_numbered : AreNumbered (names_of_modules file) file.top file.top.tasks numbers.top
  top_numbered = numbered-draft (names_of_modules file) file.top numbers.top all.top

  top_kept : HasNames file.top
  top_kept = (HasNames-of file.top (task_names file.top) named.top).0

  top_count : length file.top.sems ≡ length file.top.sem_names
  top_count = (IsDraft-of Top file.top made.top).sem_count

  numbers-again : file_numbers now ≡ Ok numbers_now
  numbers-again =
      rw (modules_now, graph-numbers-kept (names_of_modules file) file.top top_count top_kept.sems numbers.top top_numbered)
      (rw (graphs-numbers-kept (names_of_modules file) 0 [] file.modules numbers.modules made.modules all.modules named.modules) refl)

  names-again : file_names now ≡ Ok (names_of_modules file)
  names-again =
      rw (graph-names-kept (names_of_modules file) file.top top_count top_kept.sems numbers.top top_numbered top_kept.tasks)
      (graphs-names-kept (names_of_modules file) 0 [] file.modules numbers.modules made.modules all.modules named.modules named.differ)

  texts-again : file_texts now ≡ file_texts file
  texts-again = mentions-same (names_of_modules file) [] (file.top ∷ file.modules) (numbers.top ∷ numbers.modules) (all.top, all.modules)

  uses-again : file_uses now ≡ file_uses file
  uses-again = rw (modules_now) (uses-same (names_of_modules file) file.modules numbers.modules all.modules)

  counts-again : within_counts now numbers_now ≡ within_counts file numbers
  counts-again =
      rw (
        tasks-total (names_of_modules file) (file.top ∷ file.modules) (numbers.top ∷ numbers.modules) (all.top, all.modules),
        edges-total (names_of_modules file) (file.top ∷ file.modules) (numbers.top ∷ numbers.modules) (all.top, all.modules),
        sems-total (names_of_modules file) (file.top ∷ file.modules) (numbers.top ∷ numbers.modules) (all.top, all.modules),
        graphs-length (names_of_modules file) file.modules numbers.modules all.modules,
      ) refl

  limits-again : within_limits now numbers_now ≡ Ok tt
  limits-again = rw (uses-again, counts-again, modules_now, used-same (names_of_modules file) file.top file.top.tasks numbers.top top_numbered, texts-again) passes

  pipelines-again : file_pipelines now ≡ Ok tt
  pipelines-again = graphs-piped (names_of_modules file) (file.top ∷ file.modules) (numbers.top ∷ numbers.modules) tt (all.top, all.modules) ∙ piped

  plan-again : plan_with now numbers_now ≡ plan_with file numbers
  plan-again =
      rw (
        modules_now,
        texts-again,
        graph-same (names_of_modules file) (file_texts file) file.top numbers.top top_numbered,
        graphs-same (names_of_modules file) (file_texts file) file.modules numbers.modules all.modules,
      ) refl

  -- the file with each list in order has the same plan
  pub settled-planned : plan_of now ≡ Ok (plan_with file numbers)
  settled-planned = rw (numbers-again, names-again, limits-again, pipelines-again) (ap Ok plan-again)
