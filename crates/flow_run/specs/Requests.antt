-- What a call of the program asks for, and why it stops before a run.
use Rattle.std.specs.Prelude.{◌≡◌, ◌⊎◌, ℕ, ◌<◌, ◌≤◌, List, [], ◌∷◌, ◌++◌, length, All, Option, Some, None, IfSome, IsSomeAnd}
use Rattle.graph_plans.specs.PlanRows.{PlanRows}
use Rattle.graph_file.specs.PlanText.{PlanText, IsRefused}
use Rattle.graph_plans.specs.Sources.{NoSourceAnswer}
use Rattle.text_ops.specs.Lines.{normal}
use Rattle.text_tasks.specs.declared.job.TextJob.{TextJob}
use Rattle.text_tasks.specs.declared.job.TextJob.TheVariants.{Graph, Parts, Pipe}
use Rattle.text_tasks.specs.GraphWork.{GraphWork}
use Rattle.call_status.specs.declared.stop.Stop.{Stop}
use Rattle.call_status.specs.declared.stop.Stop.TheVariants.{BadGraph, NoSource, NoText, LongText, ReadFault, NoMemory}
pub use Rattle.outside_io.specs.Texts.{SourceTexts, IsHeld}

-- the most bytes of a graph file
abbrev pub file_limit : ℕ
file_limit = 4194304

-- the most bytes of a text that is read
abbrev pub text_limit : ℕ
text_limit = 16777215

-- why the read of a name stops the call
abbrev pub StopsAtName : SourceTexts → List ℕ → ℕ → Stop → Type 0
StopsAtName held name max (NoText n) = (n ≡ name) × IfSome held (λ text. text name ≡ None)
StopsAtName held name max (LongText n) = (n ≡ name) × IfSome held (λ text. IsSomeAnd (text name) (λ bytes. max < length bytes))
StopsAtName held name max (ReadFault n) = n ≡ name
StopsAtName held name max NoMemory = Unit {0}
StopsAtName held name max stop = ⊥

-- the text of a name: what is held under it, with an end to its last line
pub record IsTextOf (held : SourceTexts) (name text : List ℕ) : Type 0 where
  pub bytes : List ℕ
  pub read : IsHeld held name text_limit bytes
  pub is : text ≡ normal bytes

-- the texts of these names, in their order
abbrev pub TextsAre : SourceTexts → List (List ℕ) → List (List ℕ) → Type 0
TextsAre held [] [] = Unit {0}
TextsAre held [] (text ∷ texts) = ⊥
TextsAre held (name ∷ names) [] = ⊥
TextsAre held (name ∷ names) (text ∷ texts) = IsTextOf held name text × TextsAre held names texts

-- the text of a name was read and stands behind the others
pub record IsAdded (held : SourceTexts) (name : List ℕ) (old new : List (List ℕ)) : Type 0 where
  pub text : List ℕ
  pub row : new ≡ old ++ text ∷ []
  pub read : IsTextOf held name text

-- why reading the texts of these names stops the call: at the first that can't be read
pub record StopsAtText (held : SourceTexts) (names : List (List ℕ)) (stop : Stop) : Type 0 where
  pub before : List (List ℕ)
  pub name : List ℕ
  pub after : List (List ℕ)
  pub texts : List (List ℕ)
  pub parts : names ≡ before ++ name ∷ after
  pub read : TextsAre held before texts
  pub stops : StopsAtName held name text_limit stop

-- each graph of the plan that has tasks, the top graph and the modules, has one to begin with
abbrev pub HasStart : PlanRows → Type 0
HasStart plan = NoSourceAnswer plan None

-- why bytes that were read as a graph file stand for no plan
abbrev pub StopsAtPlan : List ℕ → Stop → Type 0
StopsAtPlan bytes (BadGraph error) = IsRefused bytes error
StopsAtPlan bytes NoMemory = Unit {0}
StopsAtPlan bytes stop = ⊥

-- why bytes that were read as a graph file stop the call
abbrev pub StopsAtBytes : List ℕ → Stop → Type 0
StopsAtBytes bytes (NoSource spot) = (plan : PlanRows) × PlanText bytes plan × NoSourceAnswer plan (Some spot)
StopsAtBytes bytes stop = StopsAtPlan bytes stop

-- the bytes held under the file's name stand for the plan, each of whose graphs has a task to begin with or none at all
pub record HasPlan (held : SourceTexts) (file : List ℕ) (plan : PlanRows) : Type 0 where
  pub bytes : List ℕ
  pub read : IsHeld held file file_limit bytes
  pub stands : PlanText bytes plan
  pub source : HasStart plan

-- why the graph stops the call
pub record StopsAtGraph (held : SourceTexts) (file : List ℕ) (stop : Stop) : Type 0 where
  pub bytes : List ℕ
  pub read : IsHeld held file file_limit bytes
  pub stops : StopsAtBytes bytes stop

-- why one of the plan's texts stops the call
pub record StopsAtPlanText (held : SourceTexts) (file : List ℕ) (stop : Stop) : Type 0 where
  pub plan : PlanRows
  pub has : HasPlan held file plan
  pub stops : StopsAtText held plan.texts stop

-- Why a call stops before its run: at the graph file, at the graph that it holds, or at a text.
abbrev pub StopsBefore : SourceTexts → List ℕ → Stop → Type 0
StopsBefore held file stop = StopsAtName held file file_limit stop ⊎ StopsAtGraph held file stop ⊎ StopsAtPlanText held file stop

-- the job that a file asks for, over the texts as they are held, with at most so many starts
pub record IsRequested (held : SourceTexts) (file : List ℕ) (limit : ℕ) (work : GraphWork) : Type 0 where
  pub plan : HasPlan held file work.plan
  pub texts : TextsAre held work.plan.texts work.texts
  pub top : work.«module» ≡ None
  pub input : work.input ≡ []
  pub starts : work.limit ≡ limit

abbrev pub IsRequestedJob : SourceTexts → List ℕ → ℕ → TextJob → Type 0
IsRequestedJob held file limit (Graph work) = IsRequested held file limit work
IsRequestedJob held file limit (Parts work) = ⊥
IsRequestedJob held file limit (Pipe work) = ⊥

-- What the run of a file needs is held: the file has no more bytes than may be read, and stands for a plan each of
-- whose graphs has a task to begin with or none at all; and each text that the plan names is held, with no more bytes
-- than may be read.
pub record CanBeRun (text : List ℕ → Option (List ℕ)) (file : List ℕ) : Type 0 where
  pub plan : PlanRows
  pub graph : IsSomeAnd (text file) (λ bytes. (length bytes ≤ file_limit) × PlanText bytes plan)
  pub source : HasStart plan
  pub named : All (λ name. IsSomeAnd (text name) (λ bytes. length bytes ≤ text_limit)) plan.texts
