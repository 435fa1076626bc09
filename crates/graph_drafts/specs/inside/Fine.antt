-- Graphs that may stand in a file.
use Rattle.std.specs.Prelude.{◌≡◌, ℕ, suc, ◌&&◌, List, [], ◌∷◌, ◌++◌, length, map, Bool, true, false, not, nat_le, ⊤}
use Rattle.std.specs.List.{list_all}
use Rattle.graph_plans.specs.declared.ops.Op.{Op}
use Rattle.graph_plans.specs.declared.ops.Op.TheVariants.{Input, Read, Text, Match, Back, IfMore, IfHas, Route, Spread, Module, Pipe}
use Rattle.graph_plans.specs.declared.ops.TextOp.{TextOp}
use Rattle.graph_plans.specs.declared.ops.TextOp.TheVariants.{Pass, Keep, Without, Head, Tail, Skip, Sort, Uniq, Count, Tally}
use Rattle.graph_plans.specs.declared.pipes.LineOp.{LineOp}
use Rattle.graph_plans.specs.declared.pipes.LineOp.TheVariants.{Text as LineText, Number, Stamp}
use Rattle.graph_plans.specs.declared.pipes.PipePlan.{PipePlan}
use Rattle.pipe_lines.specs.declared.deferral.DeferRow.{DeferRow}
use Rattle.pipe_lines.specs.DeferRows.{is_deferred}
use Rattle.graph_plans.specs.Operations.{line_limit, route_limit, word_limit}
use Rattle.graph_plans.specs.PlanRows.{maximum_limit}
use Rattle.graph_drafts.specs.declared.scopes.Scope.{Scope}
use Rattle.graph_drafts.specs.declared.scopes.Scope.TheVariants.{Top, Module as OfModule}
use Rattle.graph_drafts.specs.Contents.{is_name, is_text}
use Rattle.graph_drafts.specs.OpRows.{FileOpRow, reads, runs, does, may_have}
use Rattle.graph_drafts.specs.FileText.{DraftRows, FileRows, TaskText}

abbrev pub fits_lines : ℕ → Bool
fits_lines n = nat_le 0 n && nat_le n line_limit

abbrev pub fits_part : ℕ → Bool
fits_part n = nat_le 1 n && nat_le n line_limit

abbrev pub fits_words : List (List ℕ) → Bool
fits_words words = nat_le (length words) route_limit && list_all (is_text 0 word_limit) words

-- what the own fields of an operation hold may stand in a file
abbrev pub fits_text_op : TextOp → Bool
fits_text_op Pass = true
fits_text_op (Keep word) = is_text 0 word_limit word
fits_text_op (Without word) = is_text 0 word_limit word
fits_text_op (Head n) = fits_lines n
fits_text_op (Tail n) = fits_lines n
fits_text_op (Skip n) = fits_lines n
fits_text_op Sort = true
fits_text_op Uniq = true
fits_text_op Count = true
fits_text_op Tally = true

abbrev pub fits_line_op : LineOp → Bool
fits_line_op (LineText op) = fits_text_op op
fits_line_op Number = true
fits_line_op Stamp = true

-- pipes with these operations
abbrev pub fits_pipes : List Bool → List LineOp → Bool
fits_pipes [] [] = true
fits_pipes [] (op ∷ ops) = false
fits_pipes (serial ∷ rest) [] = false
fits_pipes (serial ∷ rest) (op ∷ ops) = may_have serial op && (fits_line_op op && fits_pipes rest ops)

abbrev pub fits_pipe_lines : ℕ → Bool
fits_pipe_lines n = nat_le 0 n && nat_le n 4294967295

abbrev pub fits_token : ℕ → Bool
fits_token n = nat_le 0 n && nat_le n 65535

abbrev pub fits_target : ℕ → Bool
fits_target n = nat_le 0 n && nat_le n 1000000

abbrev pub fits_targets : List ℕ → Bool
fits_targets to = (nat_le 1 (length to) && nat_le (length to) 8) && list_all fits_target to

-- rows that defer tokens, behind these
abbrev pub fits_defers : List DeferRow → List DeferRow → Bool
fits_defers before [] = true
fits_defers before (row ∷ rows) = fits_token row.token && (fits_targets row.to && (not (is_deferred before row.token) && fits_defers (before ++ row ∷ []) rows))

abbrev pub fits_pipe : PipePlan → Bool
fits_pipe plan = fits_pipe_lines plan.spec.lines && (fits_part plan.chunk && (fits_pipes plan.spec.serial plan.ops && (nat_le (length plan.defers) 256 && fits_defers [] plan.defers)))

-- a file has the names of a text that is read and of a module that is run, and not their numbers
abbrev pub fits_op : Op → Bool
fits_op Input = true
fits_op (Read text) = false
fits_op (Text op) = fits_text_op op
fits_op Match = true
fits_op Back = true
fits_op (IfMore n) = fits_lines n
fits_op (IfHas word) = is_text 0 word_limit word
fits_op (Route words) = fits_words words
fits_op (Spread n op) = fits_part n && fits_text_op op
fits_op (Module m) = false
fits_op (Pipe plan) = fits_pipe plan

abbrev pub fits : FileOpRow → Bool
fits (reads text) = is_text 1 4096 text
fits (runs name) = true
fits (does op) = fits_op op

pub record IsValidTask (task : TaskText) : Type 0 where
  pub name : is_name task.names.name ≡ true
  pub op : fits task.op ≡ true
  pub to : list_all is_name task.names.to ≡ true
  pub takes : list_all is_name task.names.takes ≡ true
  pub puts : list_all is_name task.names.puts ≡ true

abbrev pub AreFine : List TaskText → Type 0
AreFine [] = ⊤
AreFine (task ∷ tasks) = IsValidTask task × AreFine tasks

-- a semaphore as a file has it
pub record SemText : Type 0 where
  pub name : List ℕ
  pub max : ℕ

abbrev pub names_of_sems : List SemText → List (List ℕ)
names_of_sems sems = map (λ (sem : SemText). sem.name) sems

abbrev pub maxima_of : List SemText → List ℕ
maxima_of sems = map (λ (sem : SemText). sem.max) sems

abbrev pub fits_max : ℕ → Bool
fits_max max = nat_le 1 max && nat_le max maximum_limit

pub record IsValidSem (sem : SemText) : Type 0 where
  pub name : is_name sem.name ≡ true
  pub max : fits_max sem.max ≡ true

abbrev pub AreValidSems : List SemText → Type 0
AreValidSems [] = ⊤
AreValidSems (sem ∷ sems) = IsValidSem sem × AreValidSems sems

-- a graph that a file has
pub record IsMade (scope : Scope) (draft : DraftRows) : Type 0 where
  pub scope_is : draft.scope ≡ scope
  pub sems : List SemText
  pub fine_sems : AreValidSems sems
  pub sem_names : names_of_sems sems ≡ draft.sem_names
  pub maxima : maxima_of sems ≡ draft.sems
  pub tasks : AreFine draft.tasks

-- modules that a file has, of which the first has this number
abbrev pub AreMade : ℕ → List DraftRows → Type 0
AreMade m [] = ⊤
AreMade m (draft ∷ drafts) = (is_name draft.name ≡ true) × IsMade (OfModule m) draft × AreMade (suc m) drafts

-- the graphs of some file
pub record IsMadeFile (file : FileRows) : Type 0 where
  pub no_name : file.top.name ≡ []
  pub top : IsMade Top file.top
  pub modules : AreMade 0 file.modules
