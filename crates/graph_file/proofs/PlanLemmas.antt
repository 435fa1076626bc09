-- The plan of a file keeps its rules.
use Rattle.std.proofs.Common.{◌≡◌, ℕ, suc, ◌+◌, ◌<◌, ◌≤◌, List, [], ◌∷◌, ◌++◌, map, length, sum_by, Bool, true, false, not, leb, Option, None, Some, Ok, Err, All, refl, sym, ap, subst, ◌∙◌, codes, bytes_eq, arith, append_assoc}
use Rattle.std.proofs.lemmas.Bool.{false≢true, leb-true}
use Rattle.std.proofs.lemmas.List.{append-nil, length-append, length-map}
use Rattle.std.proofs.lemmas.List.Elements.{All-append, All-cons, All-head, All-map, All-nil, All-tail}
use Rattle.std.proofs.lemmas.List.Sums.{sum_by-cons}
use Rattle.std.specs.Bool.{⊤}
use Rattle.std.specs.Prelude.{slice_index_or}
use Rattle.std.specs.List.{list_any}
use Rattle.serde_json.specs.Data.{Data}
use Rattle.task_graph.specs.NetRows.{NetRows}
use Rattle.task_graph.specs.Net.{IsNet, IsTaskOf}
use Rattle.task_graph.specs.declared.net.EdgeRow.{EdgeRow}
use Rattle.task_graph.specs.declared.net.TaskRow.{TaskRow}
use Rattle.task_graph.proofs.SemaphoreLemmas.{settled-fits}
use Rattle.graph_plans.specs.declared.ops.Op.{Op}
use Rattle.graph_plans.specs.declared.ops.Op.TheVariants.{Input, Read, Text, Match, Back, IfMore, IfHas, Route, Spread, Module, Pipe}
use Rattle.graph_plans.specs.ModuleUses.{first_on_cycle, modules_run, run_before}
use Rattle.graph_plans.specs.Operations.{IsOp, shape_of}
use Rattle.graph_plans.specs.PlanEdges.{IsAmong}
use Rattle.graph_plans.specs.PlanRows.{AllDiffer, GraphRows, IsGraph, IsPlan, PlanRows, file_edge_limit, file_semaphore_limit, file_task_limit, graphs_of, module_limit, module_uses, text_count_limit}
use Rattle.graph_drafts.specs.declared.refusals.GraphError.{GraphError}
use Rattle.graph_drafts.specs.declared.refusals.GraphError.TheVariants.{ModuleCycle, NoSuchName, Repeated, TooMany}
use Rattle.graph_drafts.specs.declared.refusals.Kind.TheVariants.{Tasks, Edges, Semaphores, Modules, Depth, Texts}
use Rattle.graph_file.specs.declared.numbers.TaskNumbers.{TaskNumbers}
use Rattle.graph_drafts.specs.declared.scopes.Scope.{Scope}
use Rattle.graph_drafts.specs.declared.scopes.Scope.TheVariants.{Module as OfModule}
use Rattle.graph_drafts.specs.Contents.{each}
use Rattle.graph_drafts.specs.Fields.{graph_spot, sem_spot, task_spot}
use Rattle.graph_drafts.specs.OpRows.{FileOpRow, reads, runs, does}
use Rattle.graph_drafts.specs.FileText.{DraftRows, FileRows, TaskNames, TaskText, file_in, puts_field, takes_field}
use Rattle.graph_file.specs.PlanText.{FileNumbers, PlanText, add_graph_numbers, add_module_name, add_name, add_numbers, add_task_name, edge_to, edge_total, edges_from, file_counts, file_names, file_numbers, file_pipelines, file_texts, file_uses, graph_names, graph_numbers, graph_with, graphs_with, json_in, names_of_modules, names_of_tasks, nests_too_deep, numbered, numbers_in, ops_of, plan_in, plan_of, plan_with, runs_one_of, task_names, task_row, task_rows, used_before, used_by_tasks, within_counts, within_limits}
use Rattle.graph_drafts.specs.Steps.{passed, unless, walk}
use Rattle.graph_file.specs.inside.Drafts.{AreReady, IsDraft, IsFile, IsFileOp, IsMaximum, IsReady, IsReadyFile, NamesOnce, net_with}
use Rattle.graph_drafts.proofs.BindLemmas.{bind_ok, ok_or_ok, passed-ok}
use Rattle.graph_file.proofs.DraftLemmas.{AllDiffer-push, IsFile-of, IsOp-any, texts-of-file}
use Rattle.graph_drafts.proofs.FineLemmas.{file_in-made}
use Rattle.graph_file.proofs.NetLemmas.{task_rows-length}
use Rattle.graph_file.proofs.NumberLemmas.{AreIds-of, numbers-within, place}
use Rattle.graph_file.proofs.PipeLemmas.{pipelines-of}
use Rattle.graph_file.proofs.TextLemmas.{AllKnow, AllKnowIn, Knows, graphs-know, number-known}

-- ---- numbers

-- these are the numbers of what a task names
pub record IsNumbered (modules : List (List ℕ)) (draft : DraftRows) (task : TaskText) (numbers : TaskNumbers) : Type 0 where
  pub runs_one : runs_one_of modules task.op ≡ true
  pub to : each (place (task_names draft)) task.names.to ≡ Some numbers.to
  pub takes : each (place draft.sem_names) task.names.takes ≡ Some numbers.takes
  pub puts : each (place draft.sem_names) task.names.puts ≡ Some numbers.puts

-- so it is of each task
abbrev pub AreNumbered : List (List ℕ) → DraftRows → List TaskText → List TaskNumbers → Type 0
AreNumbered modules draft [] [] = ⊤
AreNumbered modules draft [] (n ∷ numbers) = ⊥
AreNumbered modules draft (task ∷ tasks) [] = ⊥
AreNumbered modules draft (task ∷ tasks) (n ∷ numbers) = IsNumbered modules draft task n × AreNumbered modules draft tasks numbers

numbered-walk : (modules : List (List ℕ)) (draft : DraftRows) (before : List TaskNumbers) (tasks : List TaskText) (r : List TaskNumbers) → walk (add_numbers modules draft) before tasks ≡ Ok r
    → (numbers : List TaskNumbers) × AreNumbered modules draft tasks numbers × (before ++ numbers ≡ r)
numbered-walk modules draft before [] r is = let same : before ≡ r = cc in ([], tt, append-nil before ∙ same)
numbered-walk modules draft before (task ∷ tasks) r is =
    let spot = task_spot draft.scope (length before) in
    bind_ok (add_numbers modules draft before task) (λ next. walk (add_numbers modules draft) next tasks) r is (λ next here rest.
    let known = passed-ok (runs_one_of modules task.op) (NoSuchName spot (codes "module")) _ next here in
    bind_ok (numbers_in (task_names draft) (NoSuchName spot (codes "to")) task.names.to) _ next known.1 (λ to at_to after_to.
    bind_ok (numbers_in draft.sem_names (NoSuchName spot (takes_field draft.version)) task.names.takes) _ next after_to (λ takes at_takes after_takes.
    bind_ok (numbers_in draft.sem_names (NoSuchName spot (puts_field draft.version)) task.names.puts) _ next after_takes (λ puts at_puts last.
    let n : TaskNumbers = record { to = to; takes = takes; puts = puts } in
    let same : before ++ n ∷ [] ≡ next = cc in
    let others = numbered-walk modules draft next tasks r rest in
    let first : IsNumbered modules draft task n = record { runs_one = known.0; to = ok_or_ok _ _ to at_to; takes = ok_or_ok _ _ takes at_takes; puts = ok_or_ok _ _ puts at_puts } in
    (n ∷ others.0, (first, others.1), sym (append_assoc before (n ∷ []) others.0) ∙ ap (λ ns. ns ++ others.0) same ∙ others.2)))))

pub numbered-draft : (modules : List (List ℕ)) (draft : DraftRows) (r : List TaskNumbers) → graph_numbers modules draft ≡ Ok r → AreNumbered modules draft draft.tasks r
numbered-draft modules draft r walked = let all = numbered-walk modules draft [] draft.tasks r walked in subst (AreNumbered modules draft draft.tasks) all.2 all.1

pub numbered-count : (modules : List (List ℕ)) (draft : DraftRows) (tasks : List TaskText) (numbers : List TaskNumbers) → AreNumbered modules draft tasks numbers → length numbers ≡ length tasks
numbered-count modules draft [] [] all = refl
numbered-count modules draft [] (n ∷ numbers) all = absurd all
numbered-count modules draft (task ∷ tasks) [] all = absurd all
numbered-count modules draft (task ∷ tasks) (n ∷ numbers) all = ap suc (numbered-count modules draft tasks numbers all.1)

-- ---- edges

-- the ends of each task's edges are tasks
abbrev HasEnds : ℕ → TaskNumbers → Type 0
HasEnds count n = All (λ k. k < count) n.to

ends-numbered : (modules : List (List ℕ)) (draft : DraftRows) (tasks : List TaskText) (numbers : List TaskNumbers) → AreNumbered modules draft tasks numbers → All (HasEnds (length (task_names draft))) numbers
ends-numbered modules draft [] [] all = All-nil (HasEnds (length (task_names draft)))
ends-numbered modules draft [] (n ∷ numbers) all = absurd all
ends-numbered modules draft (task ∷ tasks) [] all = absurd all
ends-numbered modules draft (task ∷ tasks) (n ∷ numbers) all =
    All-cons (HasEnds (length (task_names draft))) n numbers (numbers-within (task_names draft) task.names.to n.to all.0.to) (ends-numbered modules draft tasks numbers all.1)

pub edges-among : (count t : ℕ) (numbers : List TaskNumbers) → t + length numbers ≤ count → All (HasEnds count) numbers → All (IsAmong count) (edges_from t numbers)
edges-among count t [] within ends = All-nil (IsAmong count)
edges-among count t (n ∷ numbers) within ends =
    let here : All (HasEnds count) (n ∷ []) = λ k d less. let at : k ≡ 0 = omega (arith, less) in rw at (ends 0 d (omega arith)) in
    All-append (IsAmong count) (map (edge_to t) n.to) (edges_from (suc t) numbers)
    (All-map (IsAmong count) (edge_to t) n.to (λ k d less. record { from = omega (arith, within); to = ends 0 n (omega arith) k d less }))
    (edges-among count (suc t) numbers (omega (arith, within)) (λ k d less. ends (suc k) d (omega (arith, less))))

pub edges-plain : (t : ℕ) (numbers : List TaskNumbers) → All (λ (edge : EdgeRow). edge.start ≡ false) (edges_from t numbers)
edges-plain t [] = All-nil (λ (edge : EdgeRow). edge.start ≡ false)
edges-plain t (n ∷ numbers) =
    All-append (λ (edge : EdgeRow). edge.start ≡ false) (map (edge_to t) n.to) (edges_from (suc t) numbers)
    (All-map (λ (edge : EdgeRow). edge.start ≡ false) (edge_to t) n.to (λ k d less. refl)) (edges-plain (suc t) numbers)

pub edges-numbered : (modules : List (List ℕ)) (draft : DraftRows) (numbers : List TaskNumbers) → AreNumbered modules draft draft.tasks numbers → All (IsAmong (length draft.tasks)) (edges_from 0 numbers)
edges-numbered modules draft numbers all =
    let count = numbered-count modules draft draft.tasks numbers all in
    let names : length (task_names draft) ≡ length draft.tasks = length-map draft.tasks (λ (task : TaskText). task.names.name) in
    edges-among (length draft.tasks) 0 numbers (omega (arith, count)) (rw (← names) (ends-numbered modules draft draft.tasks numbers all))

-- there are as many edges as names of their ends
pub edges-count : (t : ℕ) (numbers : List TaskNumbers) → length (edges_from t numbers) ≡ edge_total numbers
edges-count t [] = refl
edges-count t (n ∷ numbers) =
    let others = edges-count (suc t) numbers in
    let more : edge_total (n ∷ numbers) ≡ length n.to + edge_total numbers = sum_by-cons (λ (task : TaskNumbers). length task.to) n numbers in
    omega (arith, length-append (map (edge_to t) n.to) (edges_from (suc t) numbers), length-map n.to (edge_to t), others, more)

-- ---- names

not_step : (test : Bool) → not test ≡ true → test ≡ false
not_step true is = cc
not_step false is = refl

pub AllDiffer-walk : (refusal : ℕ → GraphError) (before names r : List (List ℕ)) → AllDiffer before → walk (add_name refusal) before names ≡ Ok r → AllDiffer (before ++ names)
AllDiffer-walk refusal before [] r differ is = rw append-nil differ
AllDiffer-walk refusal before (name ∷ names) r differ is =
    bind_ok (add_name refusal before name) (λ next. walk (add_name refusal) next names) r is (λ next here rest.
    let new = passed-ok (not (list_any (bytes_eq name) before)) _ _ next here in
    let same : before ++ name ∷ [] ≡ next = cc (new.1) in
    let longer : AllDiffer (before ++ name ∷ []) = AllDiffer-push before name differ (not_step _ new.0) in
    let all = AllDiffer-walk refusal next names r (subst AllDiffer same longer) rest in
    subst AllDiffer (ap (λ ns. ns ++ names) (sym same) ∙ append_assoc before (name ∷ []) names) all)

none-differ : AllDiffer []
none-differ i j d less within = absurd (omega (arith, within))

pub AllDiffer-names : (refusal : ℕ → GraphError) (names r : List (List ℕ)) → walk (add_name refusal) [] names ≡ Ok r → AllDiffer names
AllDiffer-names refusal names r walked = AllDiffer-walk refusal [] names r none-differ walked

-- a task has no semaphore twice in a list
pub record HasOnce (task : TaskNames) : Type 0 where
  pub takes : AllDiffer task.takes
  pub puts : AllDiffer task.puts

abbrev pub HaveOnce : List TaskNames → Type 0
HaveOnce [] = ⊤
HaveOnce (task ∷ tasks) = HasOnce task × HaveOnce tasks

abbrev own_names : List TaskNames → List (List ℕ)
own_names tasks = map (λ (task : TaskNames). task.name) tasks

pub tasks-differ : (scope : Scope) (version : ℕ) (before : List (List ℕ)) (tasks : List TaskNames) (r : List (List ℕ)) → AllDiffer before → walk (add_task_name scope version) before tasks ≡ Ok r
    → AllDiffer (before ++ own_names tasks) × HaveOnce tasks × (before ++ own_names tasks ≡ r)
tasks-differ scope version before [] r differ is = let same : before ≡ r = cc in (rw append-nil differ, tt, append-nil before ∙ same)
tasks-differ scope version before (task ∷ tasks) r differ is =
    let spot = task_spot scope (length before) in
    bind_ok (add_task_name scope version before task) (λ next. walk (add_task_name scope version) next tasks) r is (λ next here rest.
    bind_ok (add_name (λ t. Repeated (task_spot scope t) (codes "name")) before task.name) _ next here (λ names named after_name.
    bind_ok (walk (add_name (λ k. Repeated spot (takes_field version))) [] task.takes) _ next after_name (λ takes taken after_takes.
    bind_ok (walk (add_name (λ k. Repeated spot (puts_field version))) [] task.puts) _ next after_takes (λ puts put last.
    let new = passed-ok (not (list_any (bytes_eq task.name) before)) _ _ names named in
    let same : before ++ task.name ∷ [] ≡ next = cc (new.1, last) in
    let longer : AllDiffer (before ++ task.name ∷ []) = AllDiffer-push before task.name differ (not_step _ new.0) in
    let others = tasks-differ scope version next tasks r (subst AllDiffer same longer) rest in
    let joined : next ++ own_names tasks ≡ before ++ task.name ∷ own_names tasks = ap (λ ns. ns ++ own_names tasks) (sym same) ∙ append_assoc before (task.name ∷ []) (own_names tasks) in
    let once : HasOnce task = record { takes = AllDiffer-names (λ k. Repeated spot (takes_field version)) task.takes takes taken; puts = AllDiffer-names (λ k. Repeated spot (puts_field version)) task.puts puts put } in
    (subst AllDiffer joined others.0, (once, others.1), sym joined ∙ others.2)))))

own-same : (tasks : List TaskText) → own_names (names_of_tasks tasks) ≡ map (λ (task : TaskText). task.names.name) tasks
own-same [] = refl
own-same (task ∷ tasks) = ap (λ ns. task.names.name ∷ ns) (own-same tasks)

-- what the names of a graph keep
pub record HasNames (draft : DraftRows) : Type 0 where
  pub sems : AllDiffer draft.sem_names
  pub tasks : AllDiffer (task_names draft)
  pub once : HaveOnce (names_of_tasks draft.tasks)

pub HasNames-of : (draft : DraftRows) (r : List (List ℕ)) → graph_names draft ≡ Ok r → HasNames draft × (task_names draft ≡ r)
HasNames-of draft r is =
    bind_ok (walk (add_name (λ s. Repeated (sem_spot draft.scope s) (codes "name"))) [] draft.sem_names) _ r is (λ sems at_sems rest.
    let all = tasks-differ draft.scope draft.version [] (names_of_tasks draft.tasks) r none-differ rest in (
      record { sems = AllDiffer-names (λ s. Repeated (sem_spot draft.scope s) (codes "name")) draft.sem_names sems at_sems; tasks = subst AllDiffer (own-same draft.tasks) all.0; once = all.1 },
      sym (own-same draft.tasks) ∙ all.2,
    ))

pub names-once : (modules : List (List ℕ)) (draft : DraftRows) (tasks : List TaskText) (numbers : List TaskNumbers) → AreNumbered modules draft tasks numbers → HaveOnce (names_of_tasks tasks) → All (NamesOnce (length draft.sem_names)) numbers
names-once modules draft [] [] all once = All-nil (NamesOnce (length draft.sem_names))
names-once modules draft [] (n ∷ numbers) all once = absurd all
names-once modules draft (task ∷ tasks) [] all once = absurd all
names-once modules draft (task ∷ tasks) (n ∷ numbers) all once =
    All-cons (NamesOnce (length draft.sem_names)) n numbers
    (record { takes = AreIds-of draft.sem_names task.names.takes n.takes all.0.takes once.0.takes; puts = AreIds-of draft.sem_names task.names.puts n.puts all.0.puts once.0.puts })
    (names-once modules draft tasks numbers all.1 once.1)

-- ---- the graphs of a file, one after another

-- these are the numbers of what each graph names
abbrev pub AreGraphNumbers : List (List ℕ) → List DraftRows → List (List TaskNumbers) → Type 0
AreGraphNumbers modules [] [] = ⊤
AreGraphNumbers modules [] (n ∷ numbers) = ⊥
AreGraphNumbers modules (draft ∷ drafts) [] = ⊥
AreGraphNumbers modules (draft ∷ drafts) (n ∷ numbers) = (graph_numbers modules draft ≡ Ok n) × AreGraphNumbers modules drafts numbers

graphs-walk : (modules : List (List ℕ)) (before : List (List TaskNumbers)) (drafts : List DraftRows) (r : List (List TaskNumbers)) → walk (add_graph_numbers modules) before drafts ≡ Ok r
    → (numbers : List (List TaskNumbers)) × AreGraphNumbers modules drafts numbers × (before ++ numbers ≡ r)
graphs-walk modules before [] r is = let same : before ≡ r = cc in ([], tt, append-nil before ∙ same)
graphs-walk modules before (draft ∷ drafts) r is =
    bind_ok (add_graph_numbers modules before draft) (λ next. walk (add_graph_numbers modules) next drafts) r is (λ next here rest.
    bind_ok (graph_numbers modules draft) _ next here (λ n first last.
    let same : before ++ n ∷ [] ≡ next = cc in
    let others = graphs-walk modules next drafts r rest in
    (n ∷ others.0, (first, others.1), sym (append_assoc before (n ∷ []) others.0) ∙ ap (λ ns. ns ++ others.0) same ∙ others.2)))

pub record IsNumberedFile (file : FileRows) (numbers : FileNumbers) : Type 0 where
  pub top : graph_numbers (names_of_modules file) file.top ≡ Ok numbers.top
  pub modules : AreGraphNumbers (names_of_modules file) file.modules numbers.modules

pub IsNumberedFile-of : (file : FileRows) (numbers : FileNumbers) → file_numbers file ≡ Ok numbers → IsNumberedFile file numbers
IsNumberedFile-of file numbers is =
    bind_ok (graph_numbers (names_of_modules file) file.top) _ numbers is (λ top first after.
    bind_ok (walk (add_graph_numbers (names_of_modules file)) [] file.modules) _ numbers after (λ graphs walked last.
    let all = graphs-walk (names_of_modules file) [] file.modules graphs walked in
    let same : record { top = top; modules = graphs } ≡ numbers = cc in
    subst (IsNumberedFile file) same (record { top = first; modules = subst (AreGraphNumbers (names_of_modules file) file.modules) all.2 all.1 })))

pub graphs-count : (modules : List (List ℕ)) (drafts : List DraftRows) (numbers : List (List TaskNumbers)) → AreGraphNumbers modules drafts numbers → length numbers ≡ length drafts
graphs-count modules [] [] all = refl
graphs-count modules [] (n ∷ numbers) all = absurd all
graphs-count modules (draft ∷ drafts) [] all = absurd all
graphs-count modules (draft ∷ drafts) (n ∷ numbers) all = ap suc (graphs-count modules drafts numbers all.1)

-- the names of each graph differ
abbrev pub AreNamed : List DraftRows → Type 0
AreNamed [] = ⊤
AreNamed (draft ∷ drafts) = (graph_names draft ≡ Ok (task_names draft)) × AreNamed drafts

names-settled : (draft : DraftRows) (r : List (List ℕ)) → graph_names draft ≡ Ok r → graph_names draft ≡ Ok (task_names draft)
names-settled draft r is = is ∙ ap Ok (sym (HasNames-of draft r is).1)

modules-differ : (before : List (List ℕ)) (drafts : List DraftRows) (r : List (List ℕ)) → AllDiffer before → walk add_module_name before drafts ≡ Ok r
    → AllDiffer (before ++ map (λ (draft : DraftRows). draft.name) drafts) × AreNamed drafts
modules-differ before [] r differ is = (rw append-nil differ, tt)
modules-differ before (draft ∷ drafts) r differ is =
    bind_ok (add_module_name before draft) (λ next. walk add_module_name next drafts) r is (λ next here rest.
    bind_ok (add_name (λ m. Repeated (graph_spot (OfModule m)) (codes "name")) before draft.name) _ next here (λ names named after_name.
    bind_ok (graph_names draft) _ next after_name (λ tasks inner last.
    let new = passed-ok (not (list_any (bytes_eq draft.name) before)) _ _ names named in
    let same : before ++ draft.name ∷ [] ≡ next = cc (new.1, last) in
    let longer : AllDiffer (before ++ draft.name ∷ []) = AllDiffer-push before draft.name differ (not_step _ new.0) in
    let others = modules-differ next drafts r (subst AllDiffer same longer) rest in
    let joined : next ++ map (λ (d : DraftRows). d.name) drafts ≡ before ++ draft.name ∷ map (λ (d : DraftRows). d.name) drafts = ap (λ ns. ns ++ map (λ (d : DraftRows). d.name) drafts) (sym same) ∙ append_assoc before (draft.name ∷ []) (map (λ (d : DraftRows). d.name) drafts) in
    (subst AllDiffer joined others.0, (names-settled draft tasks inner, others.1)))))

pub record IsNamedFile (file : FileRows) : Type 0 where
  pub top : graph_names file.top ≡ Ok (task_names file.top)
  pub modules : AreNamed file.modules
  pub differ : AllDiffer (names_of_modules file)

pub IsNamedFile-of : (file : FileRows) (r : List (List ℕ)) → file_names file ≡ Ok r → IsNamedFile file
IsNamedFile-of file r is =
    bind_ok (graph_names file.top) _ r is (λ tasks first rest.
    let all = modules-differ [] file.modules r none-differ rest in
    record { top = names-settled file.top tasks first; modules = all.1; differ = all.0 })

-- ---- limits

pub record IsWithinLimits (file : FileRows) (numbers : FileNumbers) : Type 0 where
  pub no_cycle : first_on_cycle (file_uses file) ≡ None
  pub tasks : (file_counts file numbers).tasks ≤ file_task_limit
  pub edges : (file_counts file numbers).edges ≤ file_edge_limit
  pub sems : (file_counts file numbers).sems ≤ file_semaphore_limit
  pub modules : length file.modules ≤ module_limit
  pub shallow : nests_too_deep file ≡ false
  pub texts : length (file_texts file) ≤ text_count_limit

last-passed : (test : Bool) (e : GraphError) → passed test e ≡ Ok tt → test ≡ true
last-passed true e is = refl
last-passed false e is = cc

unless-none : (found : Option ℕ) (refusal : ℕ → GraphError) (done : ⊤) → unless found refusal ≡ Ok done → found ≡ None
unless-none None refusal done is = refl
unless-none (Some m) refusal done is = cc

pub IsWithinLimits-of : (file : FileRows) (numbers : FileNumbers) → within_limits file numbers ≡ Ok tt → IsWithinLimits file numbers
IsWithinLimits-of file numbers is =
    let counts = file_counts file numbers in
    bind_ok (unless (first_on_cycle (file_uses file)) (λ m. ModuleCycle (slice_index_or (names_of_modules file) m []))) _ tt is (λ nested none after_cycle.
    bind_ok (within_counts file numbers) _ tt after_cycle (λ few counted after_counts.
    let deep = passed-ok (not (nests_too_deep file)) (TooMany Depth) _ tt after_counts in
    let first = passed-ok (leb counts.tasks file_task_limit) (TooMany Tasks) _ few counted in
    let second = passed-ok (leb counts.edges file_edge_limit) (TooMany Edges) _ few first.1 in
    let third = passed-ok (leb counts.sems file_semaphore_limit) (TooMany Semaphores) _ few second.1 in
    record {
      no_cycle = unless-none (first_on_cycle (file_uses file)) (λ m. ModuleCycle (slice_index_or (names_of_modules file) m [])) nested none;
      tasks = leb-true counts.tasks file_task_limit first.0;
      edges = leb-true counts.edges file_edge_limit second.0;
      sems = leb-true counts.sems file_semaphore_limit third.0;
      modules = leb-true (length file.modules) module_limit (last-passed (leb (length file.modules) module_limit) (TooMany Modules) third.1);
      shallow = not_step (nests_too_deep file) deep.0;
      texts = leb-true (length (file_texts file)) text_count_limit (last-passed (leb (length (file_texts file)) text_count_limit) (TooMany Texts) deep.1);
    }))

-- ---- each graph is within the limits

ready-graphs : (modules : List (List ℕ)) (drafts : List DraftRows) (numbers : List (List TaskNumbers)) → All IsDraft drafts → AreGraphNumbers modules drafts numbers → AreNamed drafts
    → sum_by (λ (draft : DraftRows). length draft.tasks) drafts ≤ file_task_limit → sum_by edge_total numbers ≤ file_edge_limit → sum_by (λ (draft : DraftRows). length draft.sems) drafts ≤ file_semaphore_limit
    → AreReady modules drafts numbers
ready-graphs modules [] [] fine all named tasks edges sems = tt
ready-graphs modules [] (n ∷ numbers) fine all named tasks edges sems = absurd all
ready-graphs modules (draft ∷ drafts) [] fine all named tasks edges sems = absurd all
ready-graphs modules (draft ∷ drafts) (n ∷ numbers) fine all named tasks edges sems =
    let more_tasks = sum_by-cons (λ (d : DraftRows). length d.tasks) draft drafts in
    let more_edges = sum_by-cons edge_total n numbers in
    let more_sems = sum_by-cons (λ (d : DraftRows). length d.sems) draft drafts in (
      record {
        is_draft = All-head IsDraft draft drafts fine;
        numbered = all.0;
        named = named.0;
        tasks = omega (arith, tasks, more_tasks);
        edges = omega (arith, edges, more_edges);
        sems = omega (arith, sems, more_sems);
      },
      ready-graphs modules drafts numbers (All-tail IsDraft draft drafts fine) all.1 named.1 (omega (arith, tasks, more_tasks)) (omega (arith, edges, more_edges)) (omega (arith, sems, more_sems)),
    )

pub IsReadyFile-of : (file : FileRows) (numbers : FileNumbers) → IsFile file → IsNumberedFile file numbers → IsNamedFile file → IsWithinLimits file numbers → IsReadyFile file numbers
IsReadyFile-of file numbers is numbered named within =
    let all = ready-graphs (names_of_modules file) (file.top ∷ file.modules) (numbers.top ∷ numbers.modules) (All-cons IsDraft file.top file.modules is.top is.modules) (numbered.top, numbered.modules) (named.top, named.modules) within.tasks within.edges within.sems in
    record { top = all.0; modules = all.1 }

-- ---- a graph of the plan

task_rows-fit : (net : NetRows) (ops : List Op) (numbers : List TaskNumbers) → All (IsTaskOf net) (task_rows (length net.sems) ops numbers)
task_rows-fit net [] numbers = All-nil (IsTaskOf net)
task_rows-fit net (op ∷ ops) [] = All-nil (IsTaskOf net)
task_rows-fit net (op ∷ ops) (n ∷ numbers) =
    All-cons (IsTaskOf net) (task_row (length net.sems) op n) (task_rows (length net.sems) ops numbers)
    (settled-fits net (record { shape = shape_of op; takes = n.takes; puts = n.puts })) (task_rows-fit net ops numbers)

IsNet-with : (sems : List ℕ) (ops : List Op) (numbers : List TaskNumbers) (edges : List EdgeRow) → length numbers ≡ length ops → All IsMaximum sems → length sems ≤ file_semaphore_limit → All (IsAmong (length ops)) edges
    → All (λ (edge : EdgeRow). edge.start ≡ false) edges → length ops ≤ file_task_limit → length edges ≤ file_edge_limit → IsNet (net_with sems ops numbers edges)
IsNet-with sems ops numbers edges each_ maxima few_sems among starts few_tasks few_edges =
    let net = net_with sems ops numbers edges in
    let count : length net.tasks ≡ length ops = task_rows-length (length sems) ops numbers each_ in
    record {
      tasks = task_rows-fit net ops numbers;
      edges = λ k d within. let at_edge = among k d within in record {
        from_in_range = rw count at_edge.from;
        to_in_range = rw count at_edge.to;
        starts_strong = λ starts_. absurd (false≢true (sym (starts k d within) ∙ starts_));
      };
      sems = λ k d within. (maxima k d within).least;
      task_count = omega (arith, count, few_tasks);
      edge_count = omega (arith, few_edges);
      sem_count = omega (arith, few_sems);
    }

pub shapes-of : (sems : ℕ) (ops : List Op) (numbers : List TaskNumbers) → length numbers ≡ length ops → map (λ (row : TaskRow). row.shape) (task_rows sems ops numbers) ≡ map shape_of ops
shapes-of sems [] numbers count = refl
shapes-of sems (op ∷ ops) [] count = absurd (omega (arith, count))
shapes-of sems (op ∷ ops) (n ∷ numbers) count = ap (λ shapes. shape_of op ∷ shapes) (shapes-of sems ops numbers (omega (arith, count)))

-- the operation of a plan is within its limits
op-fits : (modules texts : List (List ℕ)) (op : FileOpRow) → IsFileOp op → runs_one_of modules op ≡ true → Knows texts op → length modules ≤ module_limit → length texts ≤ text_count_limit
    → IsOp (length texts) (length modules) (numbered modules texts op)
op-fits modules texts (reads text) fine runs_one known few_modules few_texts = (number-known texts text known few_texts).0
op-fits modules texts (runs name) fine runs_one known few_modules few_texts = (number-known modules name runs_one (omega (arith, few_modules))).0
op-fits modules texts (does op) fine runs_one known few_modules few_texts = IsOp-any (length texts) (length modules) op fine

ops-fit : (modules texts : List (List ℕ)) (draft : DraftRows) (tasks : List TaskText) (numbers : List TaskNumbers) → All (λ (task : TaskText). IsFileOp task.op) tasks → AreNumbered modules draft tasks numbers → AllKnow texts tasks
    → length modules ≤ module_limit → length texts ≤ text_count_limit → All (IsOp (length texts) (length modules)) (ops_of modules texts tasks)
ops-fit modules texts draft [] numbers fine all known few_modules few_texts = All-nil (IsOp (length texts) (length modules))
ops-fit modules texts draft (task ∷ tasks) [] fine all known few_modules few_texts = absurd all
ops-fit modules texts draft (task ∷ tasks) (n ∷ numbers) fine all known few_modules few_texts =
    All-cons (IsOp (length texts) (length modules)) (numbered modules texts task.op) (ops_of modules texts tasks)
    (op-fits modules texts task.op (All-head (λ (t : TaskText). IsFileOp t.op) task tasks fine) all.0.runs_one known.0 few_modules few_texts)
    (ops-fit modules texts draft tasks numbers (All-tail (λ (t : TaskText). IsFileOp t.op) task tasks fine) all.1 known.1 few_modules few_texts)

pub IsGraph-with : (modules texts : List (List ℕ)) (draft : DraftRows) (numbers : List TaskNumbers) → IsReady modules draft numbers → AllKnow texts draft.tasks → length modules ≤ module_limit → length texts ≤ text_count_limit
    → IsGraph (length texts) (length modules) (graph_with modules texts draft numbers)
IsGraph-with modules texts draft numbers ready known few_modules few_texts =
    let ops = ops_of modules texts draft.tasks in
    let all = numbered-draft modules draft numbers ready.numbered in
    let ops_count : length ops ≡ length draft.tasks = length-map draft.tasks (λ (task : TaskText). numbered modules texts task.op) in
    let numbers_count : length numbers ≡ length draft.tasks = numbered-count modules draft draft.tasks numbers all in
    let each_ : length numbers ≡ length ops = omega (arith, numbers_count, ops_count) in
    let rows : length (task_rows (length draft.sems) ops numbers) ≡ length ops = task_rows-length (length draft.sems) ops numbers each_ in
    let names : length (task_names draft) ≡ length draft.tasks = length-map draft.tasks (λ (task : TaskText). task.names.name) in
    let kept = (HasNames-of draft (task_names draft) ready.named).0 in
    record {
      net = IsNet-with draft.sems ops numbers (edges_from 0 numbers) each_ ready.is_draft.sems ready.sems (rw ops_count (edges-numbered modules draft numbers all)) (edges-plain 0 numbers) (omega (arith, ops_count, ready.tasks))
          (omega (arith, edges-count 0 numbers, ready.edges));
      no_first_tokens = edges-plain 0 numbers;
      names = omega (arith, names, rows, ops_count);
      shapes = shapes-of (length draft.sems) ops numbers each_;
      ops = ops-fit modules texts draft draft.tasks numbers ready.is_draft.ops all known few_modules few_texts;
      names_differ = kept.tasks;
      sem_names = sym ready.is_draft.sem_count;
      sem_names_differ = kept.sems;
      maxima = λ k d within. (ready.is_draft.sems k d within).most;
    }

-- ---- the plan

graphs-kept : (modules texts : List (List ℕ)) (drafts : List DraftRows) (numbers : List (List TaskNumbers)) → AreReady modules drafts numbers → AllKnowIn texts drafts → length modules ≤ module_limit → length texts ≤ text_count_limit
    → All (IsGraph (length texts) (length modules)) (graphs_with modules texts drafts numbers)
graphs-kept modules texts [] numbers ready known few_modules few_texts = All-nil (IsGraph (length texts) (length modules))
graphs-kept modules texts (draft ∷ drafts) [] ready known few_modules few_texts = absurd ready
graphs-kept modules texts (draft ∷ drafts) (n ∷ numbers) ready known few_modules few_texts =
    All-cons (IsGraph (length texts) (length modules)) (graph_with modules texts draft n) (graphs_with modules texts drafts numbers)
    (IsGraph-with modules texts draft n ready.0 known.0 few_modules few_texts) (graphs-kept modules texts drafts numbers ready.1 known.1 few_modules few_texts)

pub graphs-length : (modules texts : List (List ℕ)) (drafts : List DraftRows) (numbers : List (List TaskNumbers)) → AreReady modules drafts numbers → length (graphs_with modules texts drafts numbers) ≡ length drafts
graphs-length modules texts [] numbers ready = refl
graphs-length modules texts (draft ∷ drafts) [] ready = absurd ready
graphs-length modules texts (draft ∷ drafts) (n ∷ numbers) ready = ap suc (graphs-length modules texts drafts numbers ready.1)

pub graphs-named : (modules texts : List (List ℕ)) (drafts : List DraftRows) (numbers : List (List TaskNumbers)) → AreReady modules drafts numbers
    → map (λ (graph : GraphRows). graph.name) (graphs_with modules texts drafts numbers) ≡ map (λ (draft : DraftRows). draft.name) drafts
graphs-named modules texts [] numbers ready = refl
graphs-named modules texts (draft ∷ drafts) [] ready = absurd ready
graphs-named modules texts (draft ∷ drafts) (n ∷ numbers) ready = ap (λ ns. draft.name ∷ ns) (graphs-named modules texts drafts numbers ready.1)

-- an operation of a file that runs no module by its number
op-runs : (op : Op) (ms : List ℕ) → IsOp 0 0 op → run_before ms op ≡ ms
op-runs Input ms is = refl
op-runs (Read text) ms is = refl
op-runs (Text op) ms is = refl
op-runs Match ms is = refl
op-runs Back ms is = refl
op-runs (IfMore n) ms is = refl
op-runs (IfHas word) ms is = refl
op-runs (Route words) ms is = refl
op-runs (Spread n op) ms is = refl
op-runs (Pipe plan) ms is = refl
op-runs (Module m) ms is = absurd (omega (arith, is))

op-used : (modules texts : List (List ℕ)) (op : FileOpRow) (ms : List ℕ) → IsFileOp op → runs_one_of modules op ≡ true → length modules ≤ module_limit → run_before ms (numbered modules texts op) ≡ used_before modules ms op
op-used modules texts (reads text) ms fine runs_one few = refl
op-used modules texts (runs name) ms fine runs_one few = ap (λ m. m ∷ ms) (number-known modules name runs_one (omega (arith, few))).2
op-used modules texts (does op) ms fine runs_one few = op-runs op ms fine

-- the modules that the tasks of a plan run are those that the file's tasks name
pub tasks-used : (modules texts : List (List ℕ)) (draft : DraftRows) (tasks : List TaskText) (numbers : List TaskNumbers) → All (λ (task : TaskText). IsFileOp task.op) tasks → AreNumbered modules draft tasks numbers → length modules ≤ module_limit
    → modules_run (ops_of modules texts tasks) ≡ used_by_tasks modules tasks
tasks-used modules texts draft [] numbers fine all few = refl
tasks-used modules texts draft (task ∷ tasks) [] fine all few = absurd all
tasks-used modules texts draft (task ∷ tasks) (n ∷ numbers) fine all few =
    op-used modules texts task.op (modules_run (ops_of modules texts tasks)) (All-head (λ (t : TaskText). IsFileOp t.op) task tasks fine) all.0.runs_one few
    ∙ ap (λ ms. used_before modules ms task.op) (tasks-used modules texts draft tasks numbers (All-tail (λ (t : TaskText). IsFileOp t.op) task tasks fine) all.1 few)

graphs-used : (modules texts : List (List ℕ)) (drafts : List DraftRows) (numbers : List (List TaskNumbers)) → AreReady modules drafts numbers → length modules ≤ module_limit
    → map (λ (graph : GraphRows). modules_run graph.ops) (graphs_with modules texts drafts numbers) ≡ map (λ (draft : DraftRows). used_by_tasks modules draft.tasks) drafts
graphs-used modules texts [] numbers ready few = refl
graphs-used modules texts (draft ∷ drafts) [] ready few = absurd ready
graphs-used modules texts (draft ∷ drafts) (n ∷ numbers) ready few =
    rw (tasks-used modules texts draft draft.tasks n ready.0.is_draft.ops (numbered-draft modules draft n ready.0.numbered) few) (ap (λ us. used_by_tasks modules draft.tasks ∷ us) (graphs-used modules texts drafts numbers ready.1 few))

-- ---- how much there is

graph-tasks : (modules texts : List (List ℕ)) (draft : DraftRows) (numbers : List TaskNumbers) → IsReady modules draft numbers → length (graph_with modules texts draft numbers).net.tasks ≡ length draft.tasks
graph-tasks modules texts draft numbers ready =
    let ops = ops_of modules texts draft.tasks in
    let ops_count : length ops ≡ length draft.tasks = length-map draft.tasks (λ (task : TaskText). numbered modules texts task.op) in
    let count = numbered-count modules draft draft.tasks numbers (numbered-draft modules draft numbers ready.numbered) in
    task_rows-length (length draft.sems) ops numbers (omega (arith, ops_count, count)) ∙ ops_count

-- three sums, one graph more
pub record AreAsMany (graphs : List GraphRows) (drafts : List DraftRows) (numbers : List (List TaskNumbers)) : Type 0 where
  pub tasks : sum_by (λ (graph : GraphRows). length graph.net.tasks) graphs ≡ sum_by (λ (draft : DraftRows). length draft.tasks) drafts
  pub edges : sum_by (λ (graph : GraphRows). length graph.net.edges) graphs ≡ sum_by edge_total numbers
  pub sems : sum_by (λ (graph : GraphRows). length graph.net.sems) graphs ≡ sum_by (λ (draft : DraftRows). length draft.sems) drafts

graphs-many : (modules texts : List (List ℕ)) (drafts : List DraftRows) (numbers : List (List TaskNumbers)) → AreReady modules drafts numbers → AreAsMany (graphs_with modules texts drafts numbers) drafts numbers
graphs-many modules texts [] [] ready = record { tasks = refl; edges = refl; sems = refl }
graphs-many modules texts [] (n ∷ numbers) ready = absurd ready
graphs-many modules texts (draft ∷ drafts) [] ready = absurd ready
graphs-many modules texts (draft ∷ drafts) (n ∷ numbers) ready =
    let graph = graph_with modules texts draft n in
    let graphs = graphs_with modules texts drafts numbers in
    let others = graphs-many modules texts drafts numbers ready.1 in
    record {
      tasks = omega (arith, others.tasks, graph-tasks modules texts draft n ready.0, sum_by-cons (λ (g : GraphRows). length g.net.tasks) graph graphs, sum_by-cons (λ (d : DraftRows). length d.tasks) draft drafts);
      edges = omega (arith, others.edges, edges-count 0 n, sum_by-cons (λ (g : GraphRows). length g.net.edges) graph graphs, sum_by-cons edge_total n numbers);
      sems = omega (arith, others.sems, sum_by-cons (λ (g : GraphRows). length g.net.sems) graph graphs, sum_by-cons (λ (d : DraftRows). length d.sems) draft drafts);
    }

-- ---- a file that has a plan

-- what the classes of refusals leave
pub record IsPlanned (file : FileRows) (plan : PlanRows) : Type 0 where
  pub numbers : FileNumbers
  pub numbers_are : file_numbers file ≡ Ok numbers
  pub numbered : IsNumberedFile file numbers
  pub named : IsNamedFile file
  pub limits : IsWithinLimits file numbers
  pub passes : within_limits file numbers ≡ Ok tt
  pub pipelines : file_pipelines file ≡ Ok tt
  pub is : plan_with file numbers ≡ plan

pub IsPlanned-of : (file : FileRows) (plan : PlanRows) → plan_of file ≡ Ok plan → IsPlanned file plan
IsPlanned-of file plan planned =
    bind_ok (file_numbers file) _ plan planned (λ numbers walked after_numbers.
    bind_ok (file_names file) _ plan after_numbers (λ names named after_names.
    bind_ok (within_limits file numbers) _ plan after_names (λ done limits after_limits.
    bind_ok (file_pipelines file) _ plan after_limits (λ piped pipelines last.
    let same : plan_with file numbers ≡ plan = cc in
    record {
      numbers = numbers;
      numbers_are = walked;
      numbered = IsNumberedFile-of file numbers walked;
      named = IsNamedFile-of file names named;
      limits = IsWithinLimits-of file numbers limits;
      passes = limits;
      pipelines = pipelines;
      is = same;
    }))))

IsPlan-with : (file : FileRows) (plan : PlanRows) → IsFile file → (planned : IsPlanned file plan) → IsPlan (plan_with file planned.numbers)
IsPlan-with file plan is planned =
    let numbers = planned.numbers in
    let names = names_of_modules file in
    let texts = file_texts file in
    let ready = IsReadyFile-of file numbers is planned.numbered planned.named planned.limits in
    let graphs = graphs_with names texts file.modules numbers.modules in
    let count : length names ≡ length file.modules = length-map file.modules (λ (draft : DraftRows). draft.name) in
    let few_names : length names ≤ module_limit = omega (arith, count, planned.limits.modules) in
    let graphs_count : length graphs ≡ length names = graphs-length names texts file.modules numbers.modules ready.modules ∙ sym count in
    let known = graphs-know file in
    let many = graphs-many names texts (file.top ∷ file.modules) (numbers.top ∷ numbers.modules) (ready.top, ready.modules) in
    let uses : module_uses (plan_with file numbers) ≡ file_uses file = graphs-used names texts file.modules numbers.modules ready.modules few_names in
    let used : modules_run (ops_of names texts file.top.tasks) ≡ used_by_tasks names file.top.tasks = tasks-used names texts file.top file.top.tasks numbers.top is.top.ops (numbered-draft names file.top numbers.top planned.numbered.top) few_names in
    let fine = texts-of-file file is in
    record {
      name = is.no_name;
      graphs = subst (λ (n : ℕ). All (IsGraph (length texts) n) (graphs_of (plan_with file numbers))) (sym graphs_count) (graphs-kept names texts (file.top ∷ file.modules) (numbers.top ∷ numbers.modules) (ready.top, ready.modules) known few_names planned.limits.texts);
      module_names_differ = rw (graphs-named names texts file.modules numbers.modules ready.modules) planned.named.differ;
      no_cycle = rw uses planned.limits.no_cycle;
      depth = rw (uses, used) planned.limits.shallow;
      tasks = omega (arith, many.tasks, planned.limits.tasks);
      edges = omega (arith, many.edges, planned.limits.edges);
      sems = omega (arith, many.sems, planned.limits.sems);
      module_count = omega (arith, graphs_count, few_names);
      texts = fine.0;
      texts_differ = fine.1;
      text_count = planned.limits.texts;
      pipelines = pipelines-of file numbers tt planned.pipelines;
    }

pub IsFile-read : (d : Data) (file : FileRows) → file_in d ≡ Ok file → IsFile file
IsFile-read d file is = IsFile-of file (file_in-made d file is)

-- the plan that the bytes stand for keeps its rules
pub IsPlan-read : (bytes : List ℕ) (plan : PlanRows) → PlanText bytes plan → IsPlan plan
IsPlan-read bytes plan is =
    bind_ok (json_in bytes) plan_in plan is (λ d json after.
    bind_ok (file_in d) plan_of plan after (λ file read_ planned.
    let all = IsPlanned-of file plan planned in
    subst IsPlan all.is (IsPlan-with file plan (IsFile-read d file read_) all)))

-- ---- the code's way to the plan

-- each class of refusals was passed
pub plan-found : (file : FileRows) (numbers : FileNumbers) (names : List (List ℕ)) → file_numbers file ≡ Ok numbers → file_names file ≡ Ok names → within_limits file numbers ≡ Ok tt → file_pipelines file ≡ Ok tt → plan_of file ≡ Ok (plan_with file numbers)
plan-found file numbers names numbered named few pipelines = rw (numbered, named, few, pipelines) refl

pub ready-file : (file : FileRows) (numbers : FileNumbers) (names : List (List ℕ)) → IsFile file → file_numbers file ≡ Ok numbers → file_names file ≡ Ok names → within_limits file numbers ≡ Ok tt → IsReadyFile file numbers
ready-file file numbers names is numbered named few = IsReadyFile-of file numbers is (IsNumberedFile-of file numbers numbered) (IsNamedFile-of file names named) (IsWithinLimits-of file numbers few)

-- one was not
pub numbers-refused : (file : FileRows) (e : GraphError) → file_numbers file ≡ Err e → plan_of file ≡ Err e
numbers-refused file e refused = rw refused refl

pub names-refused : (file : FileRows) (numbers : FileNumbers) (e : GraphError) → file_numbers file ≡ Ok numbers → file_names file ≡ Err e → plan_of file ≡ Err e
names-refused file numbers e numbered refused = rw (numbered, refused) refl

pub limits-refused : (file : FileRows) (numbers : FileNumbers) (names : List (List ℕ)) (e : GraphError) → file_numbers file ≡ Ok numbers → file_names file ≡ Ok names → within_limits file numbers ≡ Err e → plan_of file ≡ Err e
limits-refused file numbers names e numbered named refused = rw (numbered, named, refused) refl

pub pipelines-refused : (file : FileRows) (numbers : FileNumbers) (names : List (List ℕ)) (e : GraphError) → file_numbers file ≡ Ok numbers → file_names file ≡ Ok names → within_limits file numbers ≡ Ok tt → file_pipelines file ≡ Err e → plan_of file ≡ Err e
pipelines-refused file numbers names e numbered named few refused = rw (numbered, named, few, refused) refl
