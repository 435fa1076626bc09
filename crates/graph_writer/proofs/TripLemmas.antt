-- A plan that was written is read again.
use Rattle.std.proofs.Common.{◌≡◌, ◌==◌, ℕ, suc, ◌<◌, ◌≤◌, List, [], ◌∷◌, ◌++◌, map, filter, length, get_or, true, Ok, refl, ap, subst, ◌∙◌, arith}
use Rattle.std.proofs.lemmas.Bool.{eq-eqb, ne_eqb}
use Rattle.std.proofs.lemmas.List.{append-nil, length-map}
use Rattle.task_graph.specs.declared.net.EdgeRow.{EdgeRow}
use Rattle.graph_plans.specs.declared.ops.Op.TheVariants.{Input, Read, Text, Match, Back, IfMore, IfHas, Route, Spread, Module, Pipe}
use Rattle.graph_plans.specs.PlanRows.{GraphRows, PlanRows, module_limit, module_names, text_count_limit}
use Rattle.graph_file.specs.declared.numbers.TaskNumbers.{TaskNumbers}
use Rattle.graph_drafts.specs.declared.scopes.Scope.{Scope}
use Rattle.graph_drafts.specs.declared.scopes.Scope.TheVariants.{Top, Module as OfModule}
use Rattle.graph_drafts.specs.OpRows.{FileOpRow, reads, runs, does}
use Rattle.graph_drafts.specs.FileText.{DraftRows, FileRows, TaskText, file_in}
use Rattle.graph_file.specs.PlanText.{FileNumbers, PlanText, edge_to, edges_from, file_texts, graph_with, graphs_with, json_in, names_of_modules, numbered, ops_of, plan_in, plan_of, plan_with, runs_one_of, task_names, task_rows}
use Rattle.graph_drafts.specs.Steps.{◌>>=◌}
use Rattle.graph_writer.specs.WrittenPlan.{file_data, module_data, module_with, op_text, plan_data, sems_from, tasks_from, to_of}
use Rattle.graph_drafts.specs.inside.Fine.{AreFine, AreMade, IsMade, IsMadeFile, SemText, fits, maxima_of, names_of_sems}
use Rattle.graph_drafts.proofs.BindLemmas.{bind_ok}
use Rattle.graph_file.proofs.DraftLemmas.{IsFile-of}
use Rattle.graph_drafts.proofs.FineLemmas.{file_in-made}
use Rattle.graph_file.proofs.NumberLemmas.{called, called-numbers}
use Rattle.graph_file.proofs.PlanLemmas.{AreGraphNumbers, AreNumbered, IsPlanned, IsPlanned-of, IsReadyFile-of, graphs-named, numbered-draft}
use Rattle.graph_writer.proofs.SettledNets.{settled, settled_file, settled_graphs, settled_names, settled_tasks, settled-fine, settled-planned}
use Rattle.graph_file.proofs.TextLemmas.{AllKnow, AllKnowIn, Knows, graphs-know, number-known}
use Rattle.graph_writer.proofs.WrittenLemmas.{AreSecond, file_op_text, file-written, made_data, sem_text_data, task_text_data}

-- ---- the edges of each task

from_own : (t : ℕ) (to : List ℕ) (rest : List EdgeRow) → filter (λ (e : EdgeRow). e.from == t) (map (edge_to t) to ++ rest) ≡ map (edge_to t) to ++ filter (λ (e : EdgeRow). e.from == t) rest
from_own t [] rest = refl
from_own t (k ∷ to) rest = rw (eq-eqb t t refl) (ap (λ es. edge_to t k ∷ es) (from_own t to rest))

from_other : (t n : ℕ) (to : List ℕ) (rest : List EdgeRow) → (n ≡ t → ⊥) → filter (λ (e : EdgeRow). e.from == t) (map (edge_to n) to ++ rest) ≡ filter (λ (e : EdgeRow). e.from == t) rest
from_other t n [] rest other = refl
from_other t n (k ∷ to) rest other = rw (ne_eqb n t other) (from_other t n to rest other)

from_later : (t n : ℕ) (tasks : List TaskNumbers) → t < n → filter (λ (e : EdgeRow). e.from == t) (edges_from n tasks) ≡ []
from_later t n [] less = refl
from_later t n (task ∷ tasks) less = from_other t n task.to (edges_from (suc n) tasks) (λ same. absurd (omega (arith, less, same))) ∙ from_later t (suc n) tasks (omega (arith, less))

from_here : (n : ℕ) (task : TaskNumbers) (tasks : List TaskNumbers) → filter (λ (e : EdgeRow). e.from == n) (edges_from n (task ∷ tasks)) ≡ map (edge_to n) task.to
from_here n task tasks = from_own n task.to (edges_from (suc n) tasks) ∙ rw (from_later n (suc n) tasks (omega arith)) (append-nil (map (edge_to n) task.to))

ends-called : (names : List (List ℕ)) (n : ℕ) (to : List ℕ) → map (λ (e : EdgeRow). get_or names e.to []) (map (edge_to n) to) ≡ map (called names) to
ends-called names n [] = refl
ends-called names n (k ∷ to) = ap (λ ns. called names k ∷ ns) (ends-called names n to)

-- ---- operations

-- what is written for an operation is what the file had
op-kept : (modules texts : List (List ℕ)) (op : FileOpRow) → fits op ≡ true → runs_one_of modules op ≡ true → Knows texts op → length modules ≤ module_limit → length texts ≤ text_count_limit
    → op_text texts modules (numbered modules texts op) ≡ file_op_text op
op-kept modules texts (reads text) fine runs_one known few_modules few_texts = rw ((number-known texts text known few_texts).1) refl
op-kept modules texts (runs name) fine runs_one known few_modules few_texts = rw ((number-known modules name runs_one (omega (arith, few_modules))).1) refl
op-kept modules texts (does Input) fine runs_one known few_modules few_texts = refl
op-kept modules texts (does (Read text)) fine runs_one known few_modules few_texts = cc
op-kept modules texts (does (Text op)) fine runs_one known few_modules few_texts = refl
op-kept modules texts (does Match) fine runs_one known few_modules few_texts = refl
op-kept modules texts (does Back) fine runs_one known few_modules few_texts = refl
op-kept modules texts (does (IfMore n)) fine runs_one known few_modules few_texts = refl
op-kept modules texts (does (IfHas word)) fine runs_one known few_modules few_texts = refl
op-kept modules texts (does (Route words)) fine runs_one known few_modules few_texts = refl
op-kept modules texts (does (Spread n op)) fine runs_one known few_modules few_texts = refl
op-kept modules texts (does (Module m)) fine runs_one known few_modules few_texts = cc
op-kept modules texts (does (Pipe plan)) fine runs_one known few_modules few_texts = refl

-- ---- what is written are the tasks that were read, each list in order

-- the graph's edges lead where those of these tasks do, of which the first has this number
abbrev LeadsAs : GraphRows → ℕ → List TaskNumbers → Type 0
LeadsAs graph n numbers = (t : ℕ) → n ≤ t → filter (λ (e : EdgeRow). e.from == t) graph.net.edges ≡ filter (λ (e : EdgeRow). e.from == t) (edges_from n numbers)

module _ (modules texts : List (List ℕ)) (few_modules : length modules ≤ module_limit) (few_texts : length texts ≤ text_count_limit) where
  tasks-kept : (draft : DraftRows) (graph : GraphRows) (n : ℕ) (tasks : List TaskText) (numbers : List TaskNumbers) → AreFine tasks → AreNumbered modules draft tasks numbers → AllKnow texts tasks
      → graph.names ≡ task_names draft → graph.sem_names ≡ draft.sem_names → LeadsAs graph n numbers
      → tasks_from texts modules graph n (map (λ (task : TaskText). task.names.name) tasks) (ops_of modules texts tasks) (task_rows (length draft.sems) (ops_of modules texts tasks) numbers)
      ≡ map task_text_data (settled_tasks draft tasks numbers)
  tasks-kept draft graph n [] numbers fine all known named sem_named leads = refl
  tasks-kept draft graph n (task ∷ tasks) [] fine all known named sem_named leads = absurd all
  tasks-kept draft graph n (task ∷ tasks) (m ∷ numbers) fine all known named sem_named leads =
      let others = tasks-kept draft graph (suc n) tasks numbers fine.1 all.1 known.1 named sem_named
      (λ t more. leads t (omega (arith, more)) ∙ from_other t n m.to (edges_from (suc n) numbers) (λ same. absurd (omega (arith, more, same)))) in
      let to : to_of graph n ≡ task.names.to =
      ap (map (λ (e : EdgeRow). get_or graph.names e.to [])) (leads n (omega arith) ∙ from_here n m numbers) ∙ ends-called graph.names n m.to
      ∙ ap (λ names. map (called names) m.to) named ∙ called-numbers (task_names draft) task.names.to m.to all.0.to in
      rw (op-kept modules texts task.op fine.0.op all.0.runs_one known.0 few_modules few_texts, to, sem_named) (ap (λ ds. task_text_data (record { names = settled_names draft task.names m; op = task.op }) ∷ ds) others)

  graph-kept : (draft : DraftRows) (numbers : List TaskNumbers) → AreFine draft.tasks → AreNumbered modules draft draft.tasks numbers → AllKnow texts draft.tasks
      → (let graph = graph_with modules texts draft numbers in tasks_from texts modules graph 0 graph.names graph.ops graph.net.tasks ≡ map task_text_data (settled_tasks draft draft.tasks numbers))
  graph-kept draft numbers fine all known = tasks-kept draft (graph_with modules texts draft numbers) 0 draft.tasks numbers fine all known refl refl (λ t more. refl)

sems-kept : (sems : List SemText) → sems_from (names_of_sems sems) (maxima_of sems) ≡ map sem_text_data sems
sems-kept [] = refl
sems-kept (sem ∷ sems) = ap (λ ds. sem_text_data sem ∷ ds) (sems-kept sems)

made-sems : (scope : Scope) (draft : DraftRows) (made : IsMade scope draft) → sems_from draft.sem_names draft.sems ≡ map sem_text_data made.sems
made-sems scope draft made = rw (← made.sem_names, ← made.maxima) (sems-kept made.sems)

-- ---- the graphs with each list in order

settled-made : (modules : List (List ℕ)) (scope : Scope) (draft : DraftRows) (numbers : List TaskNumbers) → IsMade scope draft → AreNumbered modules draft draft.tasks numbers → IsMade scope (settled draft numbers)
settled-made modules scope draft numbers made all =
    record { scope_is = made.scope_is; sems = made.sems; fine_sems = made.fine_sems; sem_names = made.sem_names; maxima = made.maxima; tasks = settled-fine modules draft scope numbers made all }

settled-all : (modules : List (List ℕ)) (m : ℕ) (drafts : List DraftRows) (numbers : List (List TaskNumbers)) → AreMade m drafts → AreGraphNumbers modules drafts numbers → AreMade m (settled_graphs drafts numbers)
settled-all modules m [] numbers made all = tt
settled-all modules m (draft ∷ drafts) [] made all = absurd all
settled-all modules m (draft ∷ drafts) (n ∷ numbers) made all = (made.0, settled-made modules (OfModule m) draft n made.1 (numbered-draft modules draft n all.0), settled-all modules (suc m) drafts numbers made.2 all.1)

settled-second : (modules : List (List ℕ)) (drafts : List DraftRows) (numbers : List (List TaskNumbers)) → AreGraphNumbers modules drafts numbers → AreSecond (settled_graphs drafts numbers)
settled-second modules [] numbers all = tt
settled-second modules (draft ∷ drafts) [] all = absurd all
settled-second modules (draft ∷ drafts) (n ∷ numbers) all = (refl, settled-second modules drafts numbers all.1)

module _ (modules texts : List (List ℕ)) (few_modules : length modules ≤ module_limit) (few_texts : length texts ≤ text_count_limit) (plan : PlanRows) (texts_are : plan.texts ≡ texts) (modules_are : module_names plan ≡ modules) where
  modules-kept : (m : ℕ) (drafts : List DraftRows) (numbers : List (List TaskNumbers)) (made : AreMade m drafts) (all : AreGraphNumbers modules drafts numbers) → AllKnowIn texts drafts
      → map (module_data plan) (graphs_with modules texts drafts numbers) ≡ made_data m (settled_graphs drafts numbers) (settled-all modules m drafts numbers made all)
  unfolding settled-all settled-made
  modules-kept m [] numbers made all known = refl
  modules-kept m (draft ∷ drafts) [] made all known = absurd all
  modules-kept m (draft ∷ drafts) (n ∷ numbers) made all known =
      rw (
        texts_are,
        modules_are,
        made-sems (OfModule m) draft made.1,
        graph-kept modules texts few_modules few_texts draft n made.1.tasks (numbered-draft modules draft n all.0) known.0,
      ) (ap (λ ds. module_with draft.name (map sem_text_data made.1.sems) (map task_text_data (settled_tasks draft draft.tasks n)) ∷ ds) (modules-kept (suc m) drafts numbers made.2 all.1 known.1))

-- ---- the file

-- a plan that some file stands for, with what the file has
pub record IsFiled (plan : PlanRows) : Type 0 where
  pub file : FileRows
  pub made : IsMadeFile file
  pub planned : IsPlanned file plan

pub IsFiled-of : (bytes : List ℕ) (plan : PlanRows) → PlanText bytes plan → IsFiled plan
IsFiled-of bytes plan is =
    bind_ok (json_in bytes) plan_in plan is (λ d json after.
    bind_ok (file_in d) plan_of plan after (λ file read_ planned.
    record { file = file; made = file_in-made d file read_; planned = IsPlanned-of file plan planned }))

module _ (file : FileRows) (plan : PlanRows) (made : IsMadeFile file) (planned : IsPlanned file plan) where
  abbrev numbers : FileNumbers
  numbers = planned.numbers

  abbrev names : List (List ℕ)
  names = names_of_modules file

  abbrev texts : List (List ℕ)
  texts = file_texts file

  abbrev written : PlanRows
  written = plan_with file numbers

  names_few : length names ≤ module_limit
  names_few = let count : length names ≡ length file.modules = length-map file.modules (λ (draft : DraftRows). draft.name) in omega (arith, count, planned.limits.modules)

  top_numbered : AreNumbered names file.top file.top.tasks numbers.top
  top_numbered = numbered-draft names file.top numbers.top planned.numbered.top

  again : IsMadeFile (settled_file file numbers)
  again = record { no_name = made.no_name; top = settled-made names Top file.top numbers.top made.top top_numbered; modules = settled-all names 0 file.modules numbers.modules made.modules planned.numbered.modules }

  names-written : module_names written ≡ names
  names-written = graphs-named names texts file.modules numbers.modules (IsReadyFile-of file numbers (IsFile-of file made) planned.numbered planned.named planned.limits).modules

  data-kept : plan_data written ≡ file_data (made_data 0 (settled_graphs file.modules numbers.modules) again.modules) (map sem_text_data made.top.sems) (map task_text_data (settled_tasks file.top file.top.tasks numbers.top))
  unfolding again settled-all
  data-kept =
      rw (
        modules-kept names texts names_few planned.limits.texts written refl names-written 0 file.modules numbers.modules made.modules planned.numbered.modules (graphs-know file).1,
        made-sems Top file.top made.top,
        names-written,
        graph-kept names texts names_few planned.limits.texts file.top numbers.top made.top.tasks top_numbered (graphs-know file).0,
      ) refl

  read-again : file_in (plan_data written) ≡ Ok (settled_file file numbers)
  unfolding again settled-made
  read-again = ap file_in data-kept ∙ file-written (settled_file file numbers) again refl (settled-second names file.modules numbers.modules planned.numbered.modules)

  pub written-again : plan_in (plan_data plan) ≡ Ok plan
  written-again =
      subst (λ p. plan_in (plan_data p) ≡ Ok p) planned.is
      (ap (λ r. r >>= plan_of) read-again ∙ settled-planned file numbers made planned.numbered planned.named planned.passes planned.pipelines)

-- What is written for a plan that some file stands for is read as that plan.
pub plan-written : (bytes : List ℕ) (plan : PlanRows) → PlanText bytes plan → plan_in (plan_data plan) ≡ Ok plan
plan-written bytes plan is = let filed = IsFiled-of bytes plan is in written-again filed.file plan filed.made filed.planned
