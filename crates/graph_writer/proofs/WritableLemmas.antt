-- A plan that some file stands for can be written.
use Rattle.std.proofs.Common.{◌≡◌, ℕ, suc, ◌<◌, ◌≤◌, List, [], ◌∷◌, map, length, get_or, Bool, true, false, ◌&&◌, leb, Ok, All, refl, sym, ap, subst, ◌∙◌, arith}
use Rattle.std.proofs.lemmas.Bool.{and_parts}
use Rattle.std.proofs.lemmas.Bool.Decides.{nat_tests}
use Rattle.std.proofs.lemmas.List.{length-map}
use Rattle.std.proofs.lemmas.List.Elements.{All-append, All-cons, All-nil, All-push}
use Rattle.std.proofs.lemmas.Str.{is_utf8-from_IsUtf8, IsUtf8-from_ascii}
use Rattle.std.proofs.lemmas.Str.Ascii.{IsAscii-from_all}
use Rattle.std.proofs.Math.Nat.{max-le}
use Rattle.std.specs.List.{list_all}
use Rattle.std.specs.Str.{is_utf8}
use Rattle.serde_json.specs.Data.{Data, string, depth, items_depth}
use Rattle.serde_json.specs.View.{items_of}
use Rattle.serde_json.specs.Written.{has_float, items_have_float}
use Rattle.graph_plans.specs.declared.ops.Op.{Op}
use Rattle.graph_plans.specs.declared.ops.Op.TheVariants.{Input, Read, Text, Match, Back, IfMore, IfHas, Route, Spread, Module, Pipe}
use Rattle.graph_plans.specs.declared.pipes.LineOp.{LineOp}
use Rattle.graph_plans.specs.declared.pipes.LineOp.TheVariants.{Text as LineText, Number, Stamp}
use Rattle.graph_plans.specs.declared.pipes.PipePlan.{PipePlan}
use Rattle.pipe_lines.specs.declared.deferral.DeferRow.{DeferRow}
use Rattle.graph_plans.specs.declared.ops.TextOp.{TextOp}
use Rattle.graph_plans.specs.declared.ops.TextOp.TheVariants.{Pass, Keep, Without, Head, Tail, Skip, Sort, Uniq, Count, Tally}
use Rattle.graph_plans.specs.PlanRows.{GraphRows, PlanRows, module_limit, module_names, text_count_limit}
use Rattle.task_graph.specs.NetRows.{NetRows}
use Rattle.task_graph.specs.Net.{IsTaskOf}
use Rattle.task_graph.specs.declared.net.TaskRow.{TaskRow}
use Rattle.graph_file.specs.declared.numbers.TaskNumbers.{TaskNumbers}
use Rattle.graph_drafts.specs.declared.scopes.Scope.{Scope}
use Rattle.graph_drafts.specs.declared.scopes.Scope.TheVariants.{Top, Module as OfModule}
use Rattle.graph_drafts.specs.Contents.{is_name, is_name_byte, is_text}
use Rattle.graph_drafts.specs.OpRows.{FileOpRow, reads, runs, does, may_have}
use Rattle.graph_drafts.specs.FileText.{DraftRows, TaskNames, TaskText}
use Rattle.graph_file.specs.PlanText.{PlanText, file_texts, graph_with, graphs_with, json_in, names_of_modules, numbered, ops_of, plan_in, plan_with, runs_one_of, task_names}
use Rattle.graph_drafts.specs.Steps.{◌>>=◌}
use Rattle.graph_writer.specs.WrittenPlan.{OpText, defer_data, each_data, lines_data, pipe_data, pipes_from, module_data, op_text, plan_data, sems_from, sems_named, task_data, tasks_from, text_op_text, to_of}
use Rattle.graph_file.specs.inside.Drafts.{AreReady, IsReady}
use Rattle.graph_drafts.specs.inside.Fine.{AreFine, AreMade, AreValidSems, IsMade, SemText, fits, fits_defers, fits_line_op, fits_part, fits_pipe, fits_pipe_lines, fits_pipes, fits_text_op, fits_words, names_of_sems}
use Rattle.graph_writer.specs.inside.Writer.{HasSems, HasUtf8, HasUtf8Line, HasUtf8Pipes, HasUtf8Word, IsString, IsWritable, IsWritableGraph}
use Rattle.graph_file.proofs.DraftLemmas.{All-true, IsFile-of}
use Rattle.graph_file.proofs.PlanLemmas.{AreNumbered, IsGraph-with, IsReadyFile-of, edges-numbered, graphs-named, numbered-draft}
use Rattle.graph_file.proofs.TextLemmas.{AllKnow, AllKnowIn, Knows, graphs-know, number-known}
use Rattle.graph_writer.proofs.TripLemmas.{IsFiled, IsFiled-of, plan-written}

-- ---- strings

name_byte-small : (b : ℕ) → is_name_byte b ≡ true → b < 128
unfolding is_name_byte
name_byte-small b is = grind (arith, nat_tests)

small-bytes : (s : List ℕ) → list_all is_name_byte s ≡ true → All (λ b. b < 128) s
small-bytes s all k d within = name_byte-small (get_or s k d) (All-true is_name_byte s all k d within)

name-string : (name : List ℕ) → is_name name ≡ true → IsString name
name-string name is = is_utf8-from_IsUtf8 name (IsUtf8-from_ascii name (IsAscii-from_all name (small-bytes name (and_parts _ (list_all is_name_byte name) is).1)))

text-string : (least most : ℕ) (s : List ℕ) → is_text least most s ≡ true → IsString s
text-string least most s is = (and_parts _ (is_utf8 s) is).1

word-of : (op : TextOp) → fits_text_op op ≡ true → HasUtf8Word op
word-of Pass fine = tt
word-of (Keep word) fine = text-string 0 4096 word fine
word-of (Without word) fine = text-string 0 4096 word fine
word-of (Head n) fine = tt
word-of (Tail n) fine = tt
word-of (Skip n) fine = tt
word-of Sort fine = tt
word-of Uniq fine = tt
word-of Count fine = tt
word-of Tally fine = tt

words-of : (words : List (List ℕ)) → fits_words words ≡ true → All IsString words
words-of words fine k d within = text-string 0 4096 (get_or words k d) (All-true (is_text 0 4096) words (and_parts _ (list_all (is_text 0 4096) words) fine).1 k d within)

line-word : (op : LineOp) → fits_line_op op ≡ true → HasUtf8Line op
line-word (LineText op) fine = word-of op fine
line-word Number fine = tt
line-word Stamp fine = tt

line-words : (serial : List Bool) (ops : List LineOp) → fits_pipes serial ops ≡ true → (length ops ≡ length serial) × All HasUtf8Line ops
line-words [] [] fine = (refl, All-nil HasUtf8Line)
line-words [] (op ∷ ops) fine = cc
line-words (s ∷ rest) [] fine = cc
line-words (s ∷ rest) (op ∷ ops) fine =
    let first = and_parts (may_have s op) (fits_line_op op && fits_pipes rest ops) fine in
    let second = and_parts (fits_line_op op) (fits_pipes rest ops) first.1 in
    let others = line-words rest ops second.1 in
    (ap suc others.0, All-cons HasUtf8Line op ops (line-word op second.0) others.1)

pipe-words : (plan : PipePlan) → fits_pipe plan ≡ true → HasUtf8Pipes plan
pipe-words plan fine =
    let lines = and_parts (fits_pipe_lines plan.spec.lines) (fits_part plan.chunk && (fits_pipes plan.spec.serial plan.ops && (leb (length plan.defers) 256 && fits_defers [] plan.defers))) fine in
    let chunk = and_parts (fits_part plan.chunk) (fits_pipes plan.spec.serial plan.ops && (leb (length plan.defers) 256 && fits_defers [] plan.defers)) lines.1 in
    let pipes = and_parts (fits_pipes plan.spec.serial plan.ops) (leb (length plan.defers) 256 && fits_defers [] plan.defers) chunk.1 in
    let words = line-words plan.spec.serial plan.ops pipes.0 in
    record { count = words.0; ops = words.1 }

one-more : {A : Type 0} (P : A → Type 0) (x : A) (xs : List A) → P x → All P xs → All P (x ∷ xs)
one-more P x xs first rest = All-append P (x ∷ []) xs (All-push P [] x (All-nil P) first) rest

-- the names of modules are names
abbrev AreModuleNames : List (List ℕ) → Type 0
AreModuleNames modules = All IsString modules

op-strings : (modules texts : List (List ℕ)) (op : FileOpRow) → fits op ≡ true → runs_one_of modules op ≡ true → Knows texts op → AreModuleNames modules → length modules ≤ module_limit → length texts ≤ text_count_limit
    → HasUtf8 texts modules (numbered modules texts op)
op-strings modules texts (reads text) fine runs_one known named few_modules few_texts =
    let at = number-known texts text known few_texts in
    (at.0, subst IsString (sym at.1) (text-string 1 4096 text fine))
op-strings modules texts (runs name) fine runs_one known named few_modules few_texts =
    let at = number-known modules name runs_one (omega (arith, few_modules)) in
    (at.0, named _ [] at.0)
op-strings modules texts (does Input) fine runs_one known named few_modules few_texts = tt
op-strings modules texts (does (Read text)) fine runs_one known named few_modules few_texts = cc
op-strings modules texts (does (Text op)) fine runs_one known named few_modules few_texts = word-of op fine
op-strings modules texts (does Match) fine runs_one known named few_modules few_texts = tt
op-strings modules texts (does Back) fine runs_one known named few_modules few_texts = tt
op-strings modules texts (does (IfMore n)) fine runs_one known named few_modules few_texts = tt
op-strings modules texts (does (IfHas word)) fine runs_one known named few_modules few_texts = text-string 0 4096 word fine
op-strings modules texts (does (Route words)) fine runs_one known named few_modules few_texts = words-of words fine
op-strings modules texts (does (Spread n op)) fine runs_one known named few_modules few_texts = word-of op (and_parts _ (fits_text_op op) fine).1
op-strings modules texts (does (Module m)) fine runs_one known named few_modules few_texts = cc
op-strings modules texts (does (Pipe plan)) fine runs_one known named few_modules few_texts = pipe-words plan fine

names-strings : (names : List (List ℕ)) → list_all is_name names ≡ true → All IsString names
names-strings [] fine = All-nil IsString
names-strings (name ∷ names) fine =
    let parts = and_parts (is_name name) (list_all is_name names) fine in
    one-more IsString name names (name-string name parts.0) (names-strings names parts.1)

module _ (modules texts : List (List ℕ)) (named : AreModuleNames modules) (few_modules : length modules ≤ module_limit) (few_texts : length texts ≤ text_count_limit) where
  ops-strings : (draft : DraftRows) (tasks : List TaskText) (numbers : List TaskNumbers) → AreFine tasks → AreNumbered modules draft tasks numbers → AllKnow texts tasks → All (HasUtf8 texts modules) (ops_of modules texts tasks)
  ops-strings draft [] numbers fine all known = All-nil (HasUtf8 texts modules)
  ops-strings draft (task ∷ tasks) [] fine all known = absurd all
  ops-strings draft (task ∷ tasks) (n ∷ numbers) fine all known =
      one-more (HasUtf8 texts modules) (numbered modules texts task.op) (ops_of modules texts tasks) (op-strings modules texts task.op fine.0.op all.0.runs_one known.0 named few_modules few_texts) (ops-strings draft tasks numbers fine.1 all.1 known.1)

tasks-strings : (tasks : List TaskText) → AreFine tasks → All IsString (map (λ (task : TaskText). task.names.name) tasks)
tasks-strings [] fine = All-nil IsString
tasks-strings (task ∷ tasks) fine = one-more IsString task.names.name (map (λ (t : TaskText). t.names.name) tasks) (name-string task.names.name fine.0.name) (tasks-strings tasks fine.1)

sems-strings : (sems : List SemText) → AreValidSems sems → All IsString (names_of_sems sems)
sems-strings [] fine = All-nil IsString
sems-strings (sem ∷ sems) fine = one-more IsString sem.name (names_of_sems sems) (name-string sem.name fine.0.name) (sems-strings sems fine.1)

modules-strings : (m : ℕ) (drafts : List DraftRows) → AreMade m drafts → All IsString (map (λ (draft : DraftRows). draft.name) drafts)
modules-strings m [] made = All-nil IsString
modules-strings m (draft ∷ drafts) made = one-more IsString draft.name (map (λ (d : DraftRows). d.name) drafts) (name-string draft.name made.0) (modules-strings (suc m) drafts made.2)

-- ---- plans

rows-within : (count : ℕ) (net : NetRows) → length net.sems ≡ count → All (IsTaskOf net) net.tasks → All (HasSems count) net.tasks
rows-within count net is all k d within = let at = all k d within in rw (← is) (at.takes.in_range, at.puts.in_range)

module _ (modules texts : List (List ℕ)) (named : AreModuleNames modules) (few_modules : length modules ≤ module_limit) (few_texts : length texts ≤ text_count_limit) where
  graph-writable : (scope : Scope) (draft : DraftRows) (numbers : List TaskNumbers) → IsMade scope draft → IsReady modules draft numbers → AllKnow texts draft.tasks → IsWritableGraph texts modules (graph_with modules texts draft numbers)
  graph-writable scope draft numbers made ready known =
      let graph = graph_with modules texts draft numbers in
      let is = IsGraph-with modules texts draft numbers ready known few_modules few_texts in
      let all = numbered-draft modules draft numbers ready.numbered in
      let names_count : length (task_names draft) ≡ length draft.tasks = length-map draft.tasks (λ (task : TaskText). task.names.name) in
      let ops : length (ops_of modules texts draft.tasks) ≡ length draft.tasks = length-map draft.tasks (λ (task : TaskText). numbered modules texts task.op) in
      record {
        names = record {
          names = tasks-strings draft.tasks made.tasks;
          task_count = sym is.names;
          few_tasks = omega (arith, names_count, ready.tasks);
          edges = rw names_count (edges-numbered modules draft numbers all);
          sem_names = subst (All IsString) made.sem_names (sems-strings made.sems made.fine_sems);
          sem_count = sym is.sem_names;
          sems = rows-within (length draft.sem_names) graph.net (sym is.sem_names) is.net.tasks;
        };
        ops = ops-strings modules texts named few_modules few_texts draft draft.tasks numbers made.tasks all known;
        op_count = omega (arith, ops, names_count);
      }

  graphs-writable : (m : ℕ) (drafts : List DraftRows) (numbers : List (List TaskNumbers)) → AreMade m drafts → AreReady modules drafts numbers → AllKnowIn texts drafts → All (IsWritableGraph texts modules) (graphs_with modules texts drafts numbers)
  graphs-writable m [] numbers made ready known = All-nil (IsWritableGraph texts modules)
  graphs-writable m (draft ∷ drafts) [] made ready known = absurd ready
  graphs-writable m (draft ∷ drafts) (n ∷ numbers) made ready known =
      All-cons (IsWritableGraph texts modules) (graph_with modules texts draft n) (graphs_with modules texts drafts numbers) (graph-writable (OfModule m) draft n made.1 ready.0 known.0) (graphs-writable (suc m) drafts numbers made.2 ready.1 known.1)

writable-filed : (plan : PlanRows) → IsFiled plan → IsWritable plan
writable-filed plan filed =
    let file = filed.file in
    let planned = filed.planned in
    let numbers = planned.numbers in
    let names = names_of_modules file in
    let texts = file_texts file in
    let ready = IsReadyFile-of file numbers (IsFile-of file filed.made) planned.numbered planned.named planned.limits in
    let strings : All IsString names = modules-strings 0 file.modules filed.made.modules in
    let count : length names ≡ length file.modules = length-map file.modules (λ (draft : DraftRows). draft.name) in
    let few : length names ≤ module_limit = omega (arith, count, planned.limits.modules) in
    let known = graphs-know file in
    let is : module_names (plan_with file numbers) ≡ names = graphs-named names texts file.modules numbers.modules ready.modules in
    subst IsWritable planned.is (record {
      top = rw is (graph-writable names texts strings few planned.limits.texts Top file.top numbers.top filed.made.top ready.top known.0);
      modules = rw is (graphs-writable names texts strings few planned.limits.texts 0 file.modules numbers.modules filed.made.modules ready.modules known.1);
      names = rw is strings;
    })

pub writable : (bytes : List ℕ) (plan : PlanRows) → PlanText bytes plan → IsWritable plan
writable bytes plan is = writable-filed plan (IsFiled-of bytes plan is)

-- ---- the file has no float, and nests no deeper than 8

strings-shallow : (strings : List (List ℕ)) → (items_depth (items_of (map string strings)) ≡ 0) × (items_have_float (items_of (map string strings)) ≡ false)
strings-shallow [] = (refl, refl)
strings-shallow (s ∷ strings) = let rest = strings-shallow strings in (rw (rest.0) refl, rw (rest.1) refl)

abbrev IsShallow : OpText → TaskNames → Type 0
IsShallow op task = (depth (task_data op task) ≤ 4) × (has_float (task_data op task) ≡ false)

text_op-shallow : (op : TextOp) (task : TaskNames) → IsShallow (text_op_text op) task
text_op-shallow Pass task = let to = strings-shallow task.to in let takes = strings-shallow task.takes in let puts = strings-shallow task.puts in (rw (to.0, takes.0, puts.0) (omega arith), rw (to.1, takes.1, puts.1) refl)
text_op-shallow (Keep word) task = let to = strings-shallow task.to in let takes = strings-shallow task.takes in let puts = strings-shallow task.puts in (rw (to.0, takes.0, puts.0) (omega arith), rw (to.1, takes.1, puts.1) refl)
text_op-shallow (Without word) task = let to = strings-shallow task.to in let takes = strings-shallow task.takes in let puts = strings-shallow task.puts in (rw (to.0, takes.0, puts.0) (omega arith), rw (to.1, takes.1, puts.1) refl)
text_op-shallow (Head n) task = let to = strings-shallow task.to in let takes = strings-shallow task.takes in let puts = strings-shallow task.puts in (rw (to.0, takes.0, puts.0) (omega arith), rw (to.1, takes.1, puts.1) refl)
text_op-shallow (Tail n) task = let to = strings-shallow task.to in let takes = strings-shallow task.takes in let puts = strings-shallow task.puts in (rw (to.0, takes.0, puts.0) (omega arith), rw (to.1, takes.1, puts.1) refl)
text_op-shallow (Skip n) task = let to = strings-shallow task.to in let takes = strings-shallow task.takes in let puts = strings-shallow task.puts in (rw (to.0, takes.0, puts.0) (omega arith), rw (to.1, takes.1, puts.1) refl)
text_op-shallow Sort task = let to = strings-shallow task.to in let takes = strings-shallow task.takes in let puts = strings-shallow task.puts in (rw (to.0, takes.0, puts.0) (omega arith), rw (to.1, takes.1, puts.1) refl)
text_op-shallow Uniq task = let to = strings-shallow task.to in let takes = strings-shallow task.takes in let puts = strings-shallow task.puts in (rw (to.0, takes.0, puts.0) (omega arith), rw (to.1, takes.1, puts.1) refl)
text_op-shallow Count task = let to = strings-shallow task.to in let takes = strings-shallow task.takes in let puts = strings-shallow task.puts in (rw (to.0, takes.0, puts.0) (omega arith), rw (to.1, takes.1, puts.1) refl)
text_op-shallow Tally task = let to = strings-shallow task.to in let takes = strings-shallow task.takes in let puts = strings-shallow task.puts in (rw (to.0, takes.0, puts.0) (omega arith), rw (to.1, takes.1, puts.1) refl)

each-shallow : (op : TextOp) → (depth (each_data op) ≡ 1) × (has_float (each_data op) ≡ false)
each-shallow Pass = (refl, refl)
each-shallow (Keep word) = (refl, refl)
each-shallow (Without word) = (refl, refl)
each-shallow (Head n) = (refl, refl)
each-shallow (Tail n) = (refl, refl)
each-shallow (Skip n) = (refl, refl)
each-shallow Sort = (refl, refl)
each-shallow Uniq = (refl, refl)
each-shallow Count = (refl, refl)
each-shallow Tally = (refl, refl)

pipe-shallow : (serial : Bool) (op : LineOp) → (depth (pipe_data serial op) ≡ 1) × (has_float (pipe_data serial op) ≡ false)
pipe-shallow serial Number = (refl, refl)
pipe-shallow serial Stamp = (refl, refl)
pipe-shallow serial (LineText Pass) = (refl, refl)
pipe-shallow serial (LineText (Keep word)) = (refl, refl)
pipe-shallow serial (LineText (Without word)) = (refl, refl)
pipe-shallow serial (LineText (Head n)) = (refl, refl)
pipe-shallow serial (LineText (Tail n)) = (refl, refl)
pipe-shallow serial (LineText (Skip n)) = (refl, refl)
pipe-shallow serial (LineText Sort) = (refl, refl)
pipe-shallow serial (LineText Uniq) = (refl, refl)
pipe-shallow serial (LineText Count) = (refl, refl)
pipe-shallow serial (LineText Tally) = (refl, refl)

pipes-shallow : (serial : List Bool) (ops : List LineOp) → (items_depth (items_of (pipes_from serial ops)) ≤ 1) × (items_have_float (items_of (pipes_from serial ops)) ≡ false)
pipes-shallow [] ops = (omega arith, refl)
pipes-shallow (s ∷ rest) [] = (omega arith, refl)
pipes-shallow (s ∷ rest) (op ∷ ops) =
    let here = pipe-shallow s op in
    let others = pipes-shallow rest ops in
    (rw (here.0) (max-le (omega arith) others.0), rw (here.1) others.1)

numbers-shallow : (numbers : List ℕ) → (items_depth (items_of (map lines_data numbers)) ≡ 0) × (items_have_float (items_of (map lines_data numbers)) ≡ false)
numbers-shallow [] = (refl, refl)
numbers-shallow (n ∷ numbers) = let rest = numbers-shallow numbers in (rw (rest.0) refl, rw (rest.1) refl)

defers-shallow : (rows : List DeferRow) → (items_depth (items_of (map defer_data rows)) ≤ 2) × (items_have_float (items_of (map defer_data rows)) ≡ false)
defers-shallow [] = (omega arith, refl)
defers-shallow (row ∷ rows) =
    let own = numbers-shallow row.to in
    let rest = defers-shallow rows in
    (rw (own.0) (max-le (omega arith) rest.0), rw (own.1) rest.1)

op-shallow : (texts modules : List (List ℕ)) (op : Op) (task : TaskNames) → IsShallow (op_text texts modules op) task
op-shallow texts modules Input task = let to = strings-shallow task.to in let takes = strings-shallow task.takes in let puts = strings-shallow task.puts in (rw (to.0, takes.0, puts.0) (omega arith), rw (to.1, takes.1, puts.1) refl)
op-shallow texts modules (Read text) task = let to = strings-shallow task.to in let takes = strings-shallow task.takes in let puts = strings-shallow task.puts in (rw (to.0, takes.0, puts.0) (omega arith), rw (to.1, takes.1, puts.1) refl)
op-shallow texts modules (Text op) task = text_op-shallow op task
op-shallow texts modules Match task = let to = strings-shallow task.to in let takes = strings-shallow task.takes in let puts = strings-shallow task.puts in (rw (to.0, takes.0, puts.0) (omega arith), rw (to.1, takes.1, puts.1) refl)
op-shallow texts modules Back task = let to = strings-shallow task.to in let takes = strings-shallow task.takes in let puts = strings-shallow task.puts in (rw (to.0, takes.0, puts.0) (omega arith), rw (to.1, takes.1, puts.1) refl)
op-shallow texts modules (IfMore n) task = let to = strings-shallow task.to in let takes = strings-shallow task.takes in let puts = strings-shallow task.puts in (rw (to.0, takes.0, puts.0) (omega arith), rw (to.1, takes.1, puts.1) refl)
op-shallow texts modules (IfHas word) task = let to = strings-shallow task.to in let takes = strings-shallow task.takes in let puts = strings-shallow task.puts in (rw (to.0, takes.0, puts.0) (omega arith), rw (to.1, takes.1, puts.1) refl)
op-shallow texts modules (Route words) task =
    let to = strings-shallow task.to in let takes = strings-shallow task.takes in let puts = strings-shallow task.puts in let own = strings-shallow words in
    (rw (to.0, takes.0, puts.0, own.0) (omega arith), rw (to.1, takes.1, puts.1, own.1) refl)
op-shallow texts modules (Spread n op) task =
    let to = strings-shallow task.to in let takes = strings-shallow task.takes in let puts = strings-shallow task.puts in let own = each-shallow op in
    (rw (to.0, takes.0, puts.0, own.0) (omega arith), rw (to.1, takes.1, puts.1, own.1) refl)
op-shallow texts modules (Module m) task = let to = strings-shallow task.to in let takes = strings-shallow task.takes in let puts = strings-shallow task.puts in (rw (to.0, takes.0, puts.0) (omega arith), rw (to.1, takes.1, puts.1) refl)
op-shallow texts modules (Pipe plan) task =
    let to = strings-shallow task.to in let takes = strings-shallow task.takes in let puts = strings-shallow task.puts in
    let pipes = pipes-shallow plan.spec.serial plan.ops in let defers = defers-shallow plan.defers in
    (rw (to.0, takes.0, puts.0) (omega (arith, pipes.0, defers.0)), rw (to.1, takes.1, puts.1, pipes.1, defers.1) refl)

tasks-shallow : (texts modules : List (List ℕ)) (graph : GraphRows) (t : ℕ) (names : List (List ℕ)) (ops : List Op) (rows : List TaskRow)
    → (items_depth (items_of (tasks_from texts modules graph t names ops rows)) ≤ 4) × (items_have_float (items_of (tasks_from texts modules graph t names ops rows)) ≡ false)
tasks-shallow texts modules graph t [] ops rows = (omega arith, refl)
tasks-shallow texts modules graph t (name ∷ names) [] rows = (omega arith, refl)
tasks-shallow texts modules graph t (name ∷ names) (op ∷ ops) [] = (omega arith, refl)
tasks-shallow texts modules graph t (name ∷ names) (op ∷ ops) (row ∷ rows) =
    let here = op-shallow texts modules op (record { name = name; to = to_of graph t; takes = sems_named graph row.takes; puts = sems_named graph row.puts }) in
    let rest = tasks-shallow texts modules graph (suc t) names ops rows in
    (max-le here.0 rest.0, rw (here.1) rest.1)

sems-shallow : (names : List (List ℕ)) (maxima : List ℕ) → (items_depth (items_of (sems_from names maxima)) ≤ 1) × (items_have_float (items_of (sems_from names maxima)) ≡ false)
sems-shallow [] maxima = (omega arith, refl)
sems-shallow (name ∷ names) [] = (omega arith, refl)
sems-shallow (name ∷ names) (max ∷ maxima) = let rest = sems-shallow names maxima in (max-le (omega arith) rest.0, rest.1)

module-shallow : (plan : PlanRows) (graph : GraphRows) → (depth (module_data plan graph) ≤ 6) × (has_float (module_data plan graph) ≡ false)
module-shallow plan graph =
    let tasks = tasks-shallow plan.texts (module_names plan) graph 0 graph.names graph.ops graph.net.tasks in
    let sems = sems-shallow graph.sem_names graph.net.sems in
    (omega (arith, tasks.0, sems.0), rw (sems.1, tasks.1) refl)

modules-shallow : (plan : PlanRows) (graphs : List GraphRows) → (items_depth (items_of (map (module_data plan) graphs)) ≤ 6) × (items_have_float (items_of (map (module_data plan) graphs)) ≡ false)
modules-shallow plan [] = (omega arith, refl)
modules-shallow plan (graph ∷ graphs) =
    let here = module-shallow plan graph in
    let rest = modules-shallow plan graphs in
    (max-le here.0 rest.0, rw (here.1) rest.1)

pub plan-shallow : (plan : PlanRows) → depth (plan_data plan) ≤ 127
plan-shallow plan =
    let tasks = (tasks-shallow plan.texts (module_names plan) plan.top 0 plan.top.names plan.top.ops plan.top.net.tasks).0 in
    let sems = (sems-shallow plan.top.sem_names plan.top.net.sems).0 in
    let modules = (modules-shallow plan plan.modules).0 in
    omega (arith, tasks, sems, modules)

pub plan-whole : (plan : PlanRows) → has_float (plan_data plan) ≡ false
plan-whole plan =
    rw (
      (modules-shallow plan plan.modules).1,
      (sems-shallow plan.top.sem_names plan.top.net.sems).1,
      (tasks-shallow plan.texts (module_names plan) plan.top 0 plan.top.names plan.top.ops plan.top.net.tasks).1,
    ) refl

-- ---- the bytes

-- bytes that read as what is written for a plan stand for it
pub stands-for : (bytes out : List ℕ) (plan : PlanRows) (d : Data) → PlanText bytes plan → d ≡ plan_data plan → json_in out ≡ Ok d → PlanText out plan
stands-for bytes out plan d is same json = ap (λ r. r >>= plan_in) json ∙ ap plan_in same ∙ plan-written bytes plan is
