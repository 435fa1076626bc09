-- What holds of the graphs of each file.
use Rattle.std.proofs.Common.{◌≡◌, ◌≢◌, ◌==◌, ℕ, zero, suc, ◌<◌, ◌≤◌, List, [], ◌∷◌, ◌++◌, length, get_or, Bool, true, false, not, ◌&&◌, ◌||◌, leb, cond, Some, slice_get, is_some, position, All, AllPairs, refl, sym, ap, subst, ◌∙◌, append_assoc, bytes_eq, arith}
use Rattle.std.proofs.lemmas.Bool.{and_parts, eq-eqb, leb-true, true≢false}
use Rattle.std.proofs.lemmas.Cmp.{nat_list_eq_equiv}
use Rattle.std.proofs.lemmas.List.{append-nil, get_or_default, length-map}
use Rattle.std.proofs.lemmas.List.Elements.{All-append, All-cons, All-head, All-nil, All-push, All-tail}
use Rattle.std.proofs.lemmas.List.Quantifiers.{all_pairs_push, position-Some}
use Rattle.std.proofs.lemmas.Map.Views.{list_any-from_Contains}
use Rattle.std.specs.List.{list_all, list_any}
use Rattle.graph_plans.specs.declared.ops.Op.{Op}
use Rattle.graph_plans.specs.declared.ops.Op.TheVariants.{Input, Read, Text, Match, Back, IfMore, IfHas, Route, Spread, Module, Pipe}
use Rattle.graph_plans.specs.declared.ops.TextOp.{TextOp}
use Rattle.graph_plans.specs.declared.ops.TextOp.TheVariants.{Pass, Keep, Without, Head, Tail, Skip, Sort, Uniq, Count, Tally}
use Rattle.graph_plans.specs.declared.pipes.LineOp.{LineOp}
use Rattle.graph_plans.specs.declared.pipes.LineOp.TheVariants.{Text as LineText, Number, Stamp}
use Rattle.graph_plans.specs.declared.pipes.PipePlan.{PipePlan}
use Rattle.pipe_lines.specs.declared.deferral.DeferRow.{DeferRow}
use Rattle.pipe_lines.specs.DeferRows.{IsDeferRow, is_deferred}
use Rattle.graph_plans.specs.Operations.{IsLineOp, IsOp, IsPartSize, IsPipePlan, IsTextOp, IsWord, line_limit, route_limit, word_limit}
use Rattle.graph_plans.specs.PlanRows.{AllDiffer, IsTextName, maximum_limit}
use Rattle.graph_drafts.specs.declared.scopes.Scope.{Scope}
use Rattle.graph_drafts.specs.declared.scopes.Scope.TheVariants.{Top, Module as OfModule}
use Rattle.graph_drafts.specs.Contents.{is_text}
use Rattle.graph_drafts.specs.OpRows.{FileOpRow, reads, runs, does, may_have}
use Rattle.graph_drafts.specs.FileText.{DraftRows, FileRows, TaskText}
use Rattle.graph_file.specs.PlanText.{file_texts, mentioned, mentioned_by_graphs, mentioned_by_tasks}
use Rattle.graph_file.specs.inside.Drafts.{IsDraft, IsFile, IsFileOp, IsMaximum}
use Rattle.graph_drafts.specs.inside.Fine.{AreFine, AreMade, AreValidSems, IsMade, IsMadeFile, SemText, fits, fits_defers, fits_line_op, fits_lines, fits_max, fits_op, fits_part, fits_pipe, fits_pipe_lines, fits_pipes, fits_target, fits_targets, fits_text_op, fits_token, fits_words, maxima_of}
use Rattle.graph_file.proofs.NameLemmas.{some_place}

-- ---- operations

word-from : (word : List ℕ) → is_text 0 word_limit word ≡ true → IsWord word
word-from word fine = leb-true (length word) word_limit (and_parts (leb 0 (length word)) (leb (length word) word_limit) (and_parts _ _ fine).0).1

lines-from : (n : ℕ) → fits_lines n ≡ true → n ≤ line_limit
lines-from n fine = leb-true n line_limit (and_parts (leb 0 n) (leb n line_limit) fine).1

pub All-true : {A : Type 0} (test : A → Bool) (xs : List A) → list_all test xs ≡ true → All (λ x. test x ≡ true) xs
All-true test [] all = λ k d within. absurd (omega arith)
All-true test (x ∷ xs) all = let parts = and_parts (test x) (list_all test xs) all in All-append (λ y. test y ≡ true) (x ∷ []) xs (All-push (λ y. test y ≡ true) [] x (λ k d within. absurd (omega arith)) parts.0) (All-true test xs parts.1)

words-from : (words : List (List ℕ)) → fits_words words ≡ true → (length words ≤ route_limit) × All IsWord words
words-from words fine =
    let parts = and_parts (leb (length words) route_limit) (list_all (is_text 0 word_limit) words) fine in
    (leb-true (length words) route_limit parts.0, λ k d within. word-from (get_or words k d) (All-true (is_text 0 word_limit) words parts.1 k d within))

IsTextOp-fits : (op : TextOp) → fits_text_op op ≡ true → IsTextOp op
IsTextOp-fits Pass fine = tt
IsTextOp-fits (Keep word) fine = word-from word fine
IsTextOp-fits (Without word) fine = word-from word fine
IsTextOp-fits (Head n) fine = lines-from n fine
IsTextOp-fits (Tail n) fine = lines-from n fine
IsTextOp-fits (Skip n) fine = lines-from n fine
IsTextOp-fits Sort fine = tt
IsTextOp-fits Uniq fine = tt
IsTextOp-fits Count fine = tt
IsTextOp-fits Tally fine = tt

part-from : (n : ℕ) → fits_part n ≡ true → IsPartSize n
part-from n fine =
    let parts = and_parts (leb 1 n) (leb n line_limit) fine in
    record { least = leb-true 1 n parts.0; most = leb-true n line_limit parts.1 }

spread-from : (n : ℕ) (op : TextOp) → fits_op (Spread n op) ≡ true → IsPartSize n × IsTextOp op
spread-from n op fine = let parts = and_parts (fits_part n) (fits_text_op op) fine in (part-from n parts.0, IsTextOp-fits op parts.1)

-- ---- pipelines

line_op-from : (op : LineOp) → fits_line_op op ≡ true → IsLineOp op
line_op-from (LineText op) fine = IsTextOp-fits op fine
line_op-from Number fine = tt
line_op-from Stamp fine = tt

-- what each pipe's fitting says
record FitPipes (serial : List Bool) (ops : List LineOp) : Type 0 where
  count : length ops ≡ length serial
  each : All IsLineOp ops
  stamps : (p : ℕ) → slice_get ops p ≡ Some Stamp → slice_get serial p ≡ Some true

pipes-from : (serial : List Bool) (ops : List LineOp) → fits_pipes serial ops ≡ true → FitPipes serial ops
pipes-from [] [] fine = record { count = refl; each = All-nil IsLineOp; stamps = λ p at. cc }
pipes-from [] (op ∷ ops) fine = cc
pipes-from (s ∷ rest) [] fine = cc
pipes-from (s ∷ rest) (op ∷ ops) fine =
    let first = and_parts (may_have s op) (fits_line_op op && fits_pipes rest ops) fine in
    let second = and_parts (fits_line_op op) (fits_pipes rest ops) first.1 in
    let others : FitPipes rest ops = pipes-from rest ops second.1 in
    record { count = ap suc others.count; each = All-cons IsLineOp op ops (line_op-from op second.0) others.each; stamps = λ p at. by_place p at first.0 others.stamps }
  where
    by_place : (p : ℕ) → slice_get (op ∷ ops) p ≡ Some Stamp → may_have s op ≡ true → ((q : ℕ) → slice_get ops q ≡ Some Stamp → slice_get rest q ≡ Some true) → slice_get (s ∷ rest) p ≡ Some true
    by_place zero at may more = let is : op ≡ Stamp = cc in let serial : may_have s Stamp ≡ true = ap (may_have s) (sym is) ∙ may in ap Some serial
    by_place (suc q) at may more = more q at

targets-from : (to : List ℕ) → fits_targets to ≡ true → (1 ≤ length to) × (length to ≤ 8) × All (λ target. target ≤ 1000000) to
targets-from to fine =
    let parts = and_parts (leb 1 (length to) && leb (length to) 8) (list_all fits_target to) fine in
    let counts = and_parts (leb 1 (length to)) (leb (length to) 8) parts.0 in
    (leb-true 1 (length to) counts.0, leb-true (length to) 8 counts.1, λ k d within. leb-true (get_or to k d) 1000000 (and_parts (leb 0 (get_or to k d)) (leb (get_or to k d) 1000000) (All-true fits_target to parts.1 k d within)).1)

row-from : (row : DeferRow) → fits_token row.token ≡ true → fits_targets row.to ≡ true → IsDeferRow row
row-from row token to =
    let targets = targets-from row.to to in
    record { may_come = omega (arith, leb-true row.token 65535 (and_parts (leb 0 row.token) (leb row.token 65535) token).1); some = targets.0; few = targets.1; in_range = targets.2 }

-- a token without a row differs from those that have one
none_deferred : (rows : List DeferRow) (token : ℕ) → is_deferred rows token ≡ false → All (λ (row : DeferRow). row.token ≢ token) rows
none_deferred [] token absent = All-nil (λ (row : DeferRow). row.token ≢ token)
none_deferred (row ∷ rows) token absent = All-cons (λ (r : DeferRow). r.token ≢ token) row rows (by_test (row.token == token) refl absent) (none_deferred rows token (later (row.token == token) absent))
  where
    later : (b : Bool) → b || is_deferred rows token ≡ false → is_deferred rows token ≡ false
    later true h = absurd (true≢false h)
    later false h = h

    by_test : (b : Bool) → (row.token == token) ≡ b → b || is_deferred rows token ≡ false → row.token ≢ token
    by_test true is h same = true≢false h
    by_test false is h same = true≢false (sym (eq-eqb row.token token same) ∙ is)

abbrev ApartRows : DeferRow → DeferRow → Type 0
ApartRows a b = a.token ≢ b.token

rows-from : (before rows : List DeferRow) → All IsDeferRow before → AllPairs ApartRows before → fits_defers before rows ≡ true → All IsDeferRow (before ++ rows) × AllPairs ApartRows (before ++ rows)
rows-from before [] all apart_ fine = (rw append-nil all, rw append-nil apart_)
rows-from before (row ∷ rows) all apart_ fine =
    let first = and_parts (fits_token row.token) (fits_targets row.to && (not (is_deferred before row.token) && fits_defers (before ++ row ∷ []) rows)) fine in
    let second = and_parts (fits_targets row.to) (not (is_deferred before row.token) && fits_defers (before ++ row ∷ []) rows) first.1 in
    let third = and_parts (not (is_deferred before row.token)) (fits_defers (before ++ row ∷ []) rows) second.1 in
    let more = rows-from (before ++ row ∷ []) rows (All-push IsDeferRow before row all (row-from row first.0 second.0)) (all_pairs_push ApartRows before row apart_ (none_deferred before row.token (not_true (is_deferred before row.token) third.0))) third.1 in
    let joined : (before ++ row ∷ []) ++ rows ≡ before ++ row ∷ rows = append_assoc before (row ∷ []) rows in
    (subst (All IsDeferRow) joined more.0, subst (AllPairs ApartRows) joined more.1)
  where
    not_true : (b : Bool) → not b ≡ true → b ≡ false
    not_true true h = absurd (true≢false (sym h))
    not_true false h = refl

pipe-from : (plan : PipePlan) → fits_pipe plan ≡ true → IsPipePlan plan
pipe-from plan fine =
    let lines = and_parts (fits_pipe_lines plan.spec.lines) (fits_part plan.chunk && (fits_pipes plan.spec.serial plan.ops && (leb (length plan.defers) 256 && fits_defers [] plan.defers))) fine in
    let chunk = and_parts (fits_part plan.chunk) (fits_pipes plan.spec.serial plan.ops && (leb (length plan.defers) 256 && fits_defers [] plan.defers)) lines.1 in
    let pipes = and_parts (fits_pipes plan.spec.serial plan.ops) (leb (length plan.defers) 256 && fits_defers [] plan.defers) chunk.1 in
    let defers = and_parts (leb (length plan.defers) 256) (fits_defers [] plan.defers) pipes.1 in
    let fit : FitPipes plan.spec.serial plan.ops = pipes-from plan.spec.serial plan.ops pipes.0 in
    let rows = rows-from [] plan.defers (All-nil IsDeferRow) (λ i j d less within. absurd (omega (arith, within))) defers.1 in
    record {
      op_count = fit.count;
      ops = fit.each;
      stamps = fit.stamps;
      chunk = part-from plan.chunk chunk.0;
      defers = record { few = leb-true (length plan.defers) 256 defers.0; each = rows.0; apart = rows.1 };
    }

IsOp-fits : (op : Op) → fits_op op ≡ true → IsOp 0 0 op
IsOp-fits Input fine = tt
IsOp-fits (Read text) fine = cc
IsOp-fits (Text op) fine = IsTextOp-fits op fine
IsOp-fits Match fine = tt
IsOp-fits Back fine = tt
IsOp-fits (IfMore n) fine = lines-from n fine
IsOp-fits (IfHas word) fine = word-from word fine
IsOp-fits (Route words) fine = words-from words fine
IsOp-fits (Spread n op) fine = spread-from n op fine
IsOp-fits (Pipe plan) fine = pipe-from plan fine
IsOp-fits (Module m) fine = cc

-- an operation that names no text and no module may do so among any
pub IsOp-any : (texts modules : ℕ) (op : Op) → IsOp 0 0 op → IsOp texts modules op
IsOp-any texts modules Input is = is
IsOp-any texts modules (Read text) is = absurd (omega (arith, is))
IsOp-any texts modules (Text op) is = is
IsOp-any texts modules Match is = is
IsOp-any texts modules Back is = is
IsOp-any texts modules (IfMore n) is = is
IsOp-any texts modules (IfHas word) is = is
IsOp-any texts modules (Route words) is = is
IsOp-any texts modules (Spread n op) is = is
IsOp-any texts modules (Pipe plan) is = is
IsOp-any texts modules (Module m) is = absurd (omega (arith, is))

-- ---- texts

pub place_within : (names : List (List ℕ)) (name : List ℕ) (k : ℕ) → position (bytes_eq name) names ≡ Some k → k < length names
place_within names name k is = (position-Some (bytes_eq name) names k name is).0

text_name-from : (text : List ℕ) → is_text 1 4096 text ≡ true → IsTextName text
text_name-from text fine =
    let parts = and_parts (leb 1 (length text)) (leb (length text) 4096) (and_parts _ _ fine).0 in
    record { least = leb-true 1 (length text) parts.0; most = leb-true (length text) 4096 parts.1 }

-- a name that is none of these differs from each
pub apart : (names : List (List ℕ)) (name : List ℕ) → list_any (bytes_eq name) names ≡ false → All (λ other. other ≢ name) names
apart names name absent k d within same =
    let at : get_or names k name ≡ name = get_or_default names k name d within ∙ same in
    true≢false (sym (list_any-from_Contains nat_list_eq_equiv name names (k, within, at)) ∙ absent)

pub AllDiffer-push : (names : List (List ℕ)) (name : List ℕ) → AllDiffer names → list_any (bytes_eq name) names ≡ false → AllDiffer (names ++ name ∷ [])
AllDiffer-push names name differ absent = all_pairs_push (λ a b. a ≢ b) names name differ (λ k d within. apart names name absent k d within)

texts_step : (known : Bool) (texts : List (List ℕ)) (text : List ℕ) → is_some (position (bytes_eq text) texts) ≡ known → All IsTextName texts → AllDiffer texts → IsTextName text
    → All IsTextName (cond known texts (texts ++ text ∷ [])) × AllDiffer (cond known texts (texts ++ text ∷ []))
texts_step true texts text is all differ named = (all, differ)
texts_step false texts text is all differ named = (All-push IsTextName texts text all named, AllDiffer-push texts text differ (sym (some_place (bytes_eq text) texts) ∙ is))

mentioned-texts : (texts : List (List ℕ)) (op : FileOpRow) → IsFileOp op → All IsTextName texts → AllDiffer texts → All IsTextName (mentioned texts op) × AllDiffer (mentioned texts op)
mentioned-texts texts (reads text) fine all differ = texts_step (is_some (position (bytes_eq text) texts)) texts text refl all differ fine
mentioned-texts texts (runs name) fine all differ = (all, differ)
mentioned-texts texts (does op) fine all differ = (all, differ)

abbrev AreFileOps : List TaskText → Type 0
AreFileOps tasks = All (λ (task : TaskText). IsFileOp task.op) tasks

pub texts-of-tasks : (texts : List (List ℕ)) (tasks : List TaskText) → AreFileOps tasks → All IsTextName texts → AllDiffer texts → All IsTextName (mentioned_by_tasks texts tasks) × AllDiffer (mentioned_by_tasks texts tasks)
texts-of-tasks texts [] fine all differ = (all, differ)
texts-of-tasks texts (task ∷ tasks) fine all differ =
    let both = mentioned-texts texts task.op (All-head (λ (t : TaskText). IsFileOp t.op) task tasks fine) all differ in
    texts-of-tasks (mentioned texts task.op) tasks (All-tail (λ (t : TaskText). IsFileOp t.op) task tasks fine) both.0 both.1

pub texts-of-graphs : (texts : List (List ℕ)) (drafts : List DraftRows) → All IsDraft drafts → All IsTextName texts → AllDiffer texts → All IsTextName (mentioned_by_graphs texts drafts) × AllDiffer (mentioned_by_graphs texts drafts)
texts-of-graphs texts [] fine all differ = (all, differ)
texts-of-graphs texts (draft ∷ drafts) fine all differ =
    let both = texts-of-tasks texts draft.tasks (All-head IsDraft draft drafts fine).ops all differ in
    texts-of-graphs (mentioned_by_tasks texts draft.tasks) drafts (All-tail IsDraft draft drafts fine) both.0 both.1

none-yet : {A : Type 0} (P : A → Type 0) → All P []
none-yet P k d within = absurd (omega arith)

pub texts-of-file : (file : FileRows) → IsFile file → All IsTextName (file_texts file) × AllDiffer (file_texts file)
texts-of-file file is = texts-of-graphs [] (file.top ∷ file.modules) (All-cons IsDraft file.top file.modules is.top is.modules) (none-yet IsTextName) (λ i j d less within. absurd (omega arith))

-- ---- the graphs of a file

IsFileOp-fits : (op : FileOpRow) → fits op ≡ true → IsFileOp op
IsFileOp-fits (reads text) fine = text_name-from text fine
IsFileOp-fits (runs name) fine = tt
IsFileOp-fits (does op) fine = IsOp-fits op fine

tasks-fit : (tasks : List TaskText) → AreFine tasks → AreFileOps tasks
tasks-fit [] fine = none-yet (λ (task : TaskText). IsFileOp task.op)
tasks-fit (task ∷ tasks) fine = All-cons (λ (t : TaskText). IsFileOp t.op) task tasks (IsFileOp-fits task.op fine.0.op) (tasks-fit tasks fine.1)

IsMaximum-from : (max : ℕ) → fits_max max ≡ true → IsMaximum max
IsMaximum-from max fine =
    let parts = and_parts (leb 1 max) (leb max maximum_limit) fine in
    record { least = leb-true 1 max parts.0; most = leb-true max maximum_limit parts.1 }

maxima-fit : (sems : List SemText) → AreValidSems sems → All IsMaximum (maxima_of sems)
maxima-fit [] fine = none-yet IsMaximum
maxima-fit (sem ∷ sems) fine = All-cons IsMaximum sem.max (maxima_of sems) (IsMaximum-from sem.max fine.0.max) (maxima-fit sems fine.1)

pub IsDraft-of : (scope : Scope) (draft : DraftRows) → IsMade scope draft → IsDraft draft
IsDraft-of scope draft made = record {
  sem_count = ap length (sym made.maxima) ∙ length-map made.sems (λ (sem : SemText). sem.max) ∙ sym (length-map made.sems (λ (sem : SemText). sem.name)) ∙ ap length made.sem_names;
  sems = subst (All IsMaximum) made.maxima (maxima-fit made.sems made.fine_sems);
  ops = tasks-fit draft.tasks made.tasks;
}

drafts-made : (m : ℕ) (drafts : List DraftRows) → AreMade m drafts → All IsDraft drafts
drafts-made m [] made = none-yet IsDraft
drafts-made m (draft ∷ drafts) made = All-cons IsDraft draft drafts (IsDraft-of (OfModule m) draft made.1) (drafts-made (suc m) drafts made.2)

pub IsFile-of : (file : FileRows) → IsMadeFile file → IsFile file
IsFile-of file made = record { no_name = made.no_name; top = IsDraft-of Top file.top made.top; modules = drafts-made 0 file.modules made.modules }
