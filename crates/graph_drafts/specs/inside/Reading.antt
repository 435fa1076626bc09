-- What the steps of the reader answer, which may also find no memory, and what the code has of a draft.
use Rattle.std.specs.Prelude.{◌≡◌, ◌≢◌, ℕ, List, [], ◌∷◌, ◌++◌, map, Option, Result, Ok, Err, ok_or, ⊤}
use Rattle.std.specs.Borrow.{Bor}
use Rattle.graph_drafts.specs.declared.draft.Draft.{Draft}
use Rattle.graph_drafts.specs.declared.draft.FileDraft.{FileDraft}
use Rattle.graph_drafts.specs.declared.draft.FileTask.{FileTask}
use Rattle.graph_drafts.specs.declared.draft.NamedTask.{NamedTask}
use Rattle.graph_drafts.specs.declared.file_op.FileOp.{FileOp}
use Rattle.graph_drafts.specs.declared.file_op.FileOp.TheVariants.{Reads as ReadsOf, Runs as RunsOf, Does}
use Rattle.graph_drafts.specs.declared.refusals.GraphError.{GraphError}
use Rattle.graph_drafts.specs.declared.refusals.GraphError.TheVariants.{NoMemory}
use Rattle.graph_drafts.specs.OpRows.{FileOpRow, reads, runs, does}
use Rattle.graph_drafts.specs.FileText.{DraftRows, FileRows, TaskNames, TaskText}
use Rattle.graph_drafts.specs.Steps.{◌>>=◌}

-- what a reader answers, where this is to be found
abbrev pub Reads : {A : Type 0} → Result A GraphError → Result A GraphError → Type 0
Reads (Ok x) found = found ≡ Ok x
Reads (Err e) found = e ≢ NoMemory → found ≡ Err e

-- the same, as f sees it
abbrev pub ReadsAs : {A B : Type 0} → (A → B) → Result A GraphError → Result B GraphError → Type 0
ReadsAs f (Ok x) found = found ≡ Ok (f x)
ReadsAs f (Err e) found = e ≢ NoMemory → found ≡ Err e

-- the same of a reader that changes a state
abbrev pub Leads : {S : Type 0} → Result ⊤ GraphError → S → Result S GraphError → Type 0
Leads (Ok done) new found = found ≡ Ok new
Leads (Err e) new found = e ≢ NoMemory → found ≡ Err e

-- ---- what the code has of a draft

abbrev pub strings : List (Bor (List ℕ)) → List (List ℕ)
strings names = map (λ s. s.now) names

abbrev pub named_task : NamedTask → TaskNames
named_task task = record { name = task.name.now; to = strings task.to; takes = strings task.takes; puts = strings task.puts }

abbrev pub file_op_row : FileOp → FileOpRow
file_op_row (ReadsOf text) = reads text.now
file_op_row (RunsOf name) = runs name.now
file_op_row (Does op) = does op

abbrev pub task_text : FileTask → TaskText
task_text task = record { names = named_task task.names; op = file_op_row task.op }

abbrev pub draft_rows : Draft → DraftRows
draft_rows draft = record { scope = draft.scope; version = draft.version; name = draft.name.now; sem_names = strings draft.sem_names; sems = draft.sems; tasks = map task_text draft.tasks.items }

abbrev pub file_rows : FileDraft → FileRows
file_rows file = record { top = draft_rows file.top; modules = map draft_rows file.modules.items }

-- ---- lists that are read item by item

-- what an item holds is put at the end, as f sees it
abbrev pub put_each : {D X Y : Type 0} → (D → Option X) → (X → Y) → GraphError → List Y → D → Result (List Y) GraphError
put_each content f refusal ys d = ok_or (content d) refusal >>= λ x. Ok (ys ++ f x ∷ [])
