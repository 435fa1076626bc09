-- The pipes of a file's tasks are pipelines.
use Rattle.std.proofs.Common.{◌≡◌, ℕ, suc, List, [], ◌∷◌, Option, Some, None, Ok, All, refl}
use Rattle.std.specs.Bool.{⊤}
use Rattle.std.proofs.lemmas.List.Elements.{All-cons, All-nil}
use Rattle.pipe_lines.proofs.FaultLemmas.{spec_sound}
use Rattle.graph_plans.specs.declared.ops.Op.{Op}
use Rattle.graph_plans.specs.declared.ops.Op.TheVariants.{Input, Read, Text, Match, Back, IfMore, IfHas, Route, Spread, Module, Pipe}
use Rattle.graph_plans.specs.Operations.{HasPipeline}
use Rattle.graph_plans.specs.PlanRows.{HasPipelines, graphs_of}
use Rattle.graph_file.specs.declared.numbers.TaskNumbers.{TaskNumbers}
use Rattle.graph_drafts.specs.declared.refusals.GraphError.{GraphError}
use Rattle.graph_drafts.specs.declared.refusals.GraphError.TheVariants.{BadPipe}
use Rattle.graph_drafts.specs.declared.scopes.Scope.{Scope}
use Rattle.graph_drafts.specs.Fields.{task_spot}
use Rattle.graph_drafts.specs.OpRows.{FileOpRow, reads, runs, does}
use Rattle.graph_drafts.specs.FileText.{DraftRows, FileRows, TaskText}
use Rattle.graph_file.specs.PlanText.{FileNumbers, add_graph_pipelines, add_pipeline, file_op_fault, file_pipelines, file_texts, graph_pipelines, graph_with, graphs_with, names_of_modules, numbered, ops_of, pipe_fault, plan_with}
use Rattle.graph_drafts.specs.Steps.{unless, walk}
use Rattle.graph_drafts.proofs.BindLemmas.{bind_ok}

-- ---- operations

op-sound : (op : Op) → pipe_fault op ≡ None → HasPipeline op
op-sound Input is = tt
op-sound (Read text) is = tt
op-sound (Text op) is = tt
op-sound Match is = tt
op-sound Back is = tt
op-sound (IfMore n) is = tt
op-sound (IfHas word) is = tt
op-sound (Route words) is = tt
op-sound (Spread n each) is = tt
op-sound (Module m) is = tt
op-sound (Pipe plan) is = spec_sound plan.spec is

numbered-sound : (modules texts : List (List ℕ)) (op : FileOpRow) → file_op_fault op ≡ None → HasPipeline (numbered modules texts op)
numbered-sound modules texts (reads text) is = tt
numbered-sound modules texts (runs name) is = tt
numbered-sound modules texts (does op) is = op-sound op is

-- ---- graphs

unless-none : {A : Type 0} (found : Option A) (refusal : A → GraphError) (done : ⊤) → unless found refusal ≡ Ok done → found ≡ None
unless-none None refusal done is = refl
unless-none (Some x) refusal done is = cc

module _ (modules texts : List (List ℕ)) where
  tasks-sound : (scope : Scope) (t : ℕ) (tasks : List TaskText) (r : ℕ) → walk (add_pipeline scope) t tasks ≡ Ok r → All HasPipeline (ops_of modules texts tasks)
  tasks-sound scope t [] r is = All-nil HasPipeline
  tasks-sound scope t (task ∷ tasks) r is =
      bind_ok (add_pipeline scope t task) (λ next. walk (add_pipeline scope) next tasks) r is (λ next here rest.
      bind_ok (unless (file_op_fault task.op) (λ error. BadPipe (task_spot scope t) error)) (λ done. Ok (suc t)) next here (λ done none last.
      All-cons HasPipeline (numbered modules texts task.op) (ops_of modules texts tasks) (numbered-sound modules texts task.op (unless-none (file_op_fault task.op) (λ error. BadPipe (task_spot scope t) error) done none)) (tasks-sound scope next tasks r rest)))

  graph-sound : (draft : DraftRows) (numbers : List TaskNumbers) (done : ⊤) → add_graph_pipelines tt draft ≡ Ok done → HasPipelines (graph_with modules texts draft numbers)
  graph-sound draft numbers done is = bind_ok (graph_pipelines draft) (λ tasks. Ok tt) done is (λ tasks walked last. tasks-sound draft.scope 0 draft.tasks tasks walked)

  graphs-sound : (drafts : List DraftRows) (numbers : List (List TaskNumbers)) (done : ⊤) → walk add_graph_pipelines tt drafts ≡ Ok done → All HasPipelines (graphs_with modules texts drafts numbers)
  graphs-sound [] numbers done is = All-nil HasPipelines
  graphs-sound (draft ∷ drafts) [] done is = All-nil HasPipelines
  graphs-sound (draft ∷ drafts) (n ∷ numbers) done is =
      bind_ok (add_graph_pipelines tt draft) (λ next. walk add_graph_pipelines next drafts) done is (λ next here rest.
      All-cons HasPipelines (graph_with modules texts draft n) (graphs_with modules texts drafts numbers) (graph-sound draft n next here) (graphs-sound drafts numbers done rest))

-- the pipes of each task of the plan are a pipeline
pub pipelines-of : (file : FileRows) (numbers : FileNumbers) (done : ⊤) → file_pipelines file ≡ Ok done → All HasPipelines (graphs_of (plan_with file numbers))
pipelines-of file numbers done is = graphs-sound (names_of_modules file) (file_texts file) (file.top ∷ file.modules) (numbers.top ∷ numbers.modules) done is
