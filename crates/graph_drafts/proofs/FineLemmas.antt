-- The graphs that were read may stand in a file.
use Rattle.std.proofs.Common.{◌≡◌, ℕ, suc, ◌+◌, List, [], ◌∷◌, ◌++◌, map, length, Bool, true, false, not, ◌&&◌, leb, cond, Option, Some, None, Result, Ok, Err, ok_or, option_and_then, codes, bytes_eq, refl, sym, ap, subst, ◌∙◌, append_assoc, arith}
use Rattle.std.proofs.lemmas.List.{append-nil}
use Rattle.std.proofs.lemmas.Option.{option_and_then_some}
use Rattle.std.specs.Bool.{⊤}
use Rattle.std.specs.Option.{option_map_or}
use Rattle.std.specs.List.{list_all}
use Rattle.serde_json.specs.Data.{Data}
use Rattle.serde_json.specs.Find.{as_bool, as_number, as_str, as_u64, get}
use Rattle.graph_plans.specs.declared.ops.Op.{Op}
use Rattle.graph_plans.specs.declared.ops.Op.TheVariants.{Input, Text, Match, Back, IfMore, IfHas, Route, Spread, Pipe}
use Rattle.graph_plans.specs.declared.pipes.LineOp.{LineOp}
use Rattle.graph_plans.specs.declared.pipes.LineOp.TheVariants.{Text as LineText, Number, Stamp}
use Rattle.pipe_lines.specs.declared.deferral.DeferRow.{DeferRow}
use Rattle.pipe_lines.specs.DeferRows.{is_deferred}
use Rattle.graph_plans.specs.declared.ops.TextOp.{TextOp}
use Rattle.graph_plans.specs.declared.ops.TextOp.TheVariants.{Pass, Keep, Without, Head, Tail, Skip, Sort, Uniq, Count, Tally}
use Rattle.graph_plans.specs.declared.spots.Spot.{Spot}
use Rattle.graph_plans.specs.declared.spots.Spot.TheVariants.{File}
use Rattle.graph_plans.specs.Operations.{route_limit, word_limit}
use Rattle.graph_plans.specs.PlanRows.{maximum_limit}
use Rattle.graph_drafts.specs.declared.refusals.GraphError.{GraphError}
use Rattle.graph_drafts.specs.declared.refusals.GraphError.TheVariants.{BadField}
use Rattle.graph_drafts.specs.declared.scopes.Scope.{Scope}
use Rattle.graph_drafts.specs.declared.scopes.Scope.TheVariants.{Top, Module as OfModule}
use Rattle.graph_drafts.specs.Contents.{defer_objects_of, each, is_name, is_text, line_count_of, list_of, name_of, name_list_of, objects_of, part_size_of, passing, pipe_lines_of, targets_of, text_name_of, token_number_of, whole_of, word_of, words_of}
use Rattle.graph_drafts.specs.Fields.{allowed, graph_spot, needed, only, sem_spot, task_spot}
use Rattle.graph_drafts.specs.OpRows.{FileOpRow, reads, runs, does, OpRow, WithFields, bare, single, used_by, text_rows, op_rows, row_called, op_called, op_in, each_in, spread_in, spread_row, text_op_in, PipeRows, add_defer, add_pipe, defers_in, line_rows, may_have, pipe_in, pipe_row, pipes_in}
use Rattle.graph_drafts.specs.FileText.{DraftRows, FileRows, TaskText, add_module, add_semaphore, add_task, empty_draft, file_fields, file_in, graph_in, module_in, puts_field, takes_field, task_fields, with_semaphore, with_task_text}
use Rattle.graph_drafts.specs.Steps.{otherwise, walk}
use Rattle.graph_drafts.specs.inside.Fine.{AreFine, AreMade, AreValidSems, IsMade, IsMadeFile, IsValidSem, IsValidTask, SemText, fits, fits_defers, fits_line_op, fits_lines, fits_max, fits_op, fits_part, fits_pipe_lines, fits_pipes, fits_target, fits_targets, fits_text_op, fits_token, fits_words, maxima_of, names_of_sems}
use Rattle.graph_drafts.proofs.BindLemmas.{bind_ok, each-all, each-length, ok_or_ok, passed-ok, passing-ok}

-- ---- contents

-- what a content finds passes a test
abbrev Finds : {X : Type 0} → (Data → Option X) → (X → Bool) → Type 0
Finds {X} content test = (d : Data) (x : X) → content d ≡ Some x → test x ≡ true

finds-word : Finds word_of (is_text 0 word_limit)
finds-word d word is = passing-ok (is_text 0 word_limit) (as_str d) word is

finds-text : Finds text_name_of (is_text 1 4096)
finds-text d text is = passing-ok (is_text 1 4096) (as_str d) text is

finds-lines : Finds line_count_of fits_lines
finds-lines d n is = passing-ok fits_lines (option_and_then as_u64 (as_number d)) n is

finds-part : Finds part_size_of fits_part
finds-part d n is = passing-ok fits_part (option_and_then as_u64 (as_number d)) n is

finds-pipe_lines : Finds pipe_lines_of fits_pipe_lines
finds-pipe_lines d n is = passing-ok fits_pipe_lines (option_and_then as_u64 (as_number d)) n is

finds-token : Finds token_number_of fits_token
finds-token d n is = passing-ok fits_token (option_and_then as_u64 (as_number d)) n is

finds-target : Finds (whole_of 0 1000000) fits_target
finds-target d n is = passing-ok fits_target (option_and_then as_u64 (as_number d)) n is

finds-string : Finds as_str (λ name. fits (runs name))
finds-string d name is = refl

finds-name : Finds name_of is_name
finds-name d name is = passing-ok is_name (as_str d) name is

finds-words : Finds words_of fits_words
finds-words d words is =
    option_and_then_some (each word_of) (option_and_then (passing (λ items. leb (length items) route_limit)) (list_of d)) words is (λ items here each_.
    let few : leb (length items) route_limit ≡ true = passing-ok (λ items. leb (length items) route_limit) (list_of d) items here in
    let all : list_all (is_text 0 word_limit) words ≡ true = each-all word_of (is_text 0 word_limit) items words finds-word each_ in
    rw (each-length word_of items words each_, few) all)

finds-targets : Finds targets_of fits_targets
finds-targets d to is =
    option_and_then_some (each (whole_of 0 1000000)) (option_and_then (passing (λ items. leb 1 (length items) && leb (length items) 8)) (list_of d)) to is (λ items here each_.
    let count : leb 1 (length items) && leb (length items) 8 ≡ true = passing-ok (λ items. leb 1 (length items) && leb (length items) 8) (list_of d) items here in
    let all : list_all fits_target to ≡ true = each-all (whole_of 0 1000000) fits_target items to finds-target each_ in
    rw (each-length (whole_of 0 1000000) items to each_, count) all)

finds-names : Finds name_list_of (list_all is_name)
finds-names d names is = option_and_then_some (each name_of) (list_of d) names is (λ items here each_. each-all name_of is_name items names finds-name each_)

-- ---- rows

-- a row makes only what passes a test
abbrev Makes : {A : Type 0} → (A → Bool) → OpRow A → Type 0
Makes {A} test row = (spot : Spot) (d : Data) (op : A) → row.made spot d ≡ Ok op → test op ≡ true

abbrev AllMake : {A : Type 0} → (A → Bool) → List (OpRow A) → Type 0
AllMake test [] = ⊤
AllMake test (row ∷ rows) = Makes test row × AllMake test rows

infixr 20 ◌&◌
◌&◌ : {P Q : Type 0} → P → Q → P × Q
first & rest = (first, rest)

makes-bare : {A : Type 0} (test : A → Bool) (name : List ℕ) (op : A) → test op ≡ true → Makes test (bare name op)
makes-bare test name op passes spot d made is = let same : op ≡ made = cc in subst (λ o. test o ≡ true) same passes

found-passes : {X : Type 0} (content : Data → Option X) (test : X → Bool) (found : Option Data) (e : GraphError) (x : X) → Finds content test → ok_or (option_and_then content found) e ≡ Ok x → test x ≡ true
found-passes content test found e x finds is = option_and_then_some content found x (ok_or_ok _ e x is) (λ d here there. finds d x there)

makes-single : {A X : Type 0} (test : A → Bool) (name field : List ℕ) (content : Data → Option X) (op : X → A) → Finds content (λ x. test (op x)) → Makes test (single name field content op)
makes-single test name field content op finds spot d made is =
    bind_ok (needed content spot field d) (λ x. Ok (op x)) made is (λ x here rest.
    let same : op x ≡ made = cc in
    subst (λ o. test o ≡ true) same (found-passes content (λ x. test (op x)) (get field d) (BadField spot field) x finds here))

all-used : {A B : Type 0} (test : B → Bool) (f : A → B) (rows : List (OpRow A)) → AllMake (λ op. test (f op)) rows → AllMake test (map (used_by f) rows)
all-used test f [] all = tt
all-used test f (row ∷ rows) all =
    let first : Makes test (used_by f row) = λ spot d made is. bind_ok (row.made spot d) (λ op. Ok (f op)) made is (λ op here rest.
    let same : f op ≡ made = cc in subst (λ o. test o ≡ true) same (all.0 spot d op here)) in
    (first, all-used test f rows all.1)

all-text_rows : AllMake fits_text_op text_rows
unfolding text_rows
all-text_rows =
    makes-bare fits_text_op (codes "pass") Pass refl
    & makes-single fits_text_op (codes "keep") (codes "word") word_of Keep finds-word
    & makes-single fits_text_op (codes "without") (codes "word") word_of Without finds-word
    & makes-single fits_text_op (codes "head") (codes "n") line_count_of Head finds-lines
    & makes-single fits_text_op (codes "tail") (codes "n") line_count_of Tail finds-lines
    & makes-single fits_text_op (codes "skip") (codes "n") line_count_of Skip finds-lines
    & makes-bare fits_text_op (codes "sort") Sort refl
    & makes-bare fits_text_op (codes "uniq") Uniq refl
    & makes-bare fits_text_op (codes "count") Count refl
    & makes-bare fits_text_op (codes "tally") Tally refl
    & tt

called-makes_step : {A : Type 0} (test : A → Bool) (row found : OpRow A) (here : Bool) (rest : Option (OpRow A)) → Makes test row → (rest ≡ Some found → Makes test found) → cond here (Some row) rest ≡ Some found → Makes test found
called-makes_step test row found true rest makes later is = let same : row ≡ found = cc in subst (Makes test) same makes
called-makes_step test row found false rest makes later is = later is

called-makes : {A : Type 0} (test : A → Bool) (rows : List (OpRow A)) (name : List ℕ) (row : OpRow A) → AllMake test rows → row_called rows name ≡ Some row → Makes test row
called-makes test [] name row all is = cc
called-makes test (first ∷ rows) name row all is =
    called-makes_step test first row (bytes_eq first.name name) (row_called rows name) all.0 (called-makes test rows name row all.1) is

-- the operation on one text that an object is
otherwise_ok : {A : Type 0} (r : Result A GraphError) (e : GraphError) (x : A) → otherwise r e ≡ Ok x → r ≡ Ok x
otherwise_ok (Ok y) e x is = is
otherwise_ok (Err f) e x is = cc

called-fits : (name : List ℕ) (spot : Spot) (d : Data) (found : WithFields TextOp) → op_called text_rows name spot d ≡ Ok found → fits_text_op found.op ≡ true
called-fits name spot d found called =
    bind_ok (ok_or (row_called text_rows name) (BadField spot (codes "op"))) _ found called (λ row at_row rest.
    bind_ok (row.made spot d) _ found rest (λ op made last.
    let same : record { op = op; fields = row.fields } ≡ found = cc in
    let fine : fits_text_op op ≡ true = called-makes fits_text_op text_rows name row all-text_rows (ok_or_ok _ _ row at_row) spot d op made in
    subst (λ (f : WithFields TextOp). fits_text_op f.op ≡ true) same fine))

each-fits : (spot : Spot) (d : Data) (op : TextOp) → each_in spot d ≡ Ok op → fits_text_op op ≡ true
each-fits spot d op is =
    bind_ok (ok_or (get (codes "each") d) (BadField spot (codes "each"))) _ op is (λ each here after.
    bind_ok (op_in text_rows spot each) _ op (otherwise_ok (text_op_in spot each) _ op after) (λ found in_ rest.
    bind_ok (needed as_str spot (codes "op") each) (λ name. op_called text_rows name spot each) found in_ (λ name named called.
    bind_ok (only (codes "op" ∷ found.fields) spot each) _ op rest (λ done none last.
    let same : found.op ≡ op = cc in
    subst (λ o. fits_text_op o ≡ true) same (called-fits name spot each found called)))))

spread-fits : (spot : Spot) (d : Data) (op : Op) → spread_in spot d ≡ Ok op → fits_op op ≡ true
spread-fits spot d op is =
    bind_ok (needed part_size_of spot (codes "n") d) _ op is (λ n counted after.
    bind_ok (each_in spot d) _ op after (λ each there last.
    let same : Spread n each ≡ op = cc in
    let first : fits_part n ≡ true = found-passes part_size_of fits_part (get (codes "n") d) (BadField spot (codes "n")) n finds-part counted in
    let both : fits_op (Spread n each) ≡ true = rw first (each-fits spot d each there) in
    subst (λ o. fits_op o ≡ true) same both))

-- ---- pipelines

all-line_rows : AllMake fits_line_op line_rows
unfolding line_rows
all-line_rows = makes-bare fits_line_op (codes "number") Number refl & makes-bare fits_line_op (codes "stamp") Stamp refl & all-used fits_line_op LineText text_rows all-text_rows

line_op-fits : (spot : Spot) (d : Data) (found : WithFields LineOp) → op_in line_rows spot d ≡ Ok found → fits_line_op found.op ≡ true
line_op-fits spot d found is =
    bind_ok (needed as_str spot (codes "op") d) (λ name. op_called line_rows name spot d) found is (λ name here called.
    bind_ok (ok_or (row_called line_rows name) (BadField spot (codes "op"))) _ found called (λ row at_row rest.
    bind_ok (row.made spot d) _ found rest (λ op made last.
    let same : record { op = op; fields = row.fields } ≡ found = cc in
    let fine : fits_line_op op ≡ true = called-makes fits_line_op line_rows name row all-line_rows (ok_or_ok _ _ row at_row) spot d op made in
    subst (λ (f : WithFields LineOp). fits_line_op f.op ≡ true) same fine)))

-- what was read of pipes
record ReadPipes (before after : PipeRows) : Type 0 where
  serial : List Bool
  ops : List LineOp
  fine : fits_pipes serial ops ≡ true
  serial_is : before.serial ++ serial ≡ after.serial
  ops_are : before.ops ++ ops ≡ after.ops

pipes-fit : (spot : Spot) (before : PipeRows) (items : List Data) (r : PipeRows) → walk (add_pipe spot) before items ≡ Ok r → ReadPipes before r
pipes-fit spot before [] r is = let same : before ≡ r = cc in record { serial = []; ops = []; fine = refl; serial_is = append-nil before.serial ∙ ap (λ (p : PipeRows). p.serial) same; ops_are = append-nil before.ops ∙ ap (λ (p : PipeRows). p.ops) same }
pipes-fit spot before (d ∷ ds) r is =
    bind_ok (add_pipe spot before d) (λ next. walk (add_pipe spot) next ds) r is (λ next here rest.
    bind_ok (needed as_bool spot (codes "serial") d) _ next here (λ s read_ after_serial.
    bind_ok (op_in line_rows spot d) _ next after_serial (λ found in_ after_op.
    let may = passed-ok (may_have s found.op) (BadField spot (codes "op")) _ next after_op in
    bind_ok (only (codes "serial" ∷ codes "op" ∷ found.fields) spot d) _ next may.1 (λ done none last.
    let same : record { serial = before.serial ++ s ∷ []; ops = before.ops ++ found.op ∷ [] } ≡ next = cc in
    let others : ReadPipes next r = pipes-fit spot next ds r rest in
    record {
      serial = s ∷ others.serial;
      ops = found.op ∷ others.ops;
      fine = rw (may.0, line_op-fits spot d found in_) others.fine;
      serial_is = sym (append_assoc before.serial (s ∷ []) others.serial) ∙ ap (λ (p : PipeRows). p.serial ++ others.serial) same ∙ others.serial_is;
      ops_are = sym (append_assoc before.ops (found.op ∷ []) others.ops) ∙ ap (λ (p : PipeRows). p.ops ++ others.ops) same ∙ others.ops_are;
    }))))

-- what was read of the rows that defer tokens
record ReadDefers (before after : List DeferRow) (items : ℕ) : Type 0 where
  rows : List DeferRow
  count : length rows ≡ items
  fine : fits_defers before rows ≡ true
  are : before ++ rows ≡ after

defers-fit : (spot : Spot) (before : List DeferRow) (items : List Data) (r : List DeferRow) → walk (add_defer spot) before items ≡ Ok r → ReadDefers before r (length items)
defers-fit spot before [] r is = let same : before ≡ r = cc in record { rows = []; count = refl; fine = refl; are = append-nil before ∙ same }
defers-fit spot before (d ∷ ds) r is =
    bind_ok (add_defer spot before d) (λ next. walk (add_defer spot) next ds) r is (λ next here rest.
    bind_ok (needed token_number_of spot (codes "token") d) _ next here (λ token read_ after_token.
    bind_ok (needed targets_of spot (codes "to") d) _ next after_token (λ to waited after_to.
    let new = passed-ok (not (is_deferred before token)) (BadField spot (codes "token")) _ next after_to in
    bind_ok (only (codes "token" ∷ codes "to" ∷ []) spot d) _ next new.1 (λ done none last.
    let row : DeferRow = record { token = token; to = to } in
    let same : before ++ row ∷ [] ≡ next = cc in
    let others : ReadDefers next r (length ds) = defers-fit spot next ds r rest in
    let later : fits_defers (before ++ row ∷ []) others.rows ≡ true = ap (λ rows. fits_defers rows others.rows) same ∙ others.fine in
    record {
      rows = row ∷ others.rows;
      count = ap suc others.count;
      fine = rw (found-passes token_number_of fits_token (get (codes "token") d) (BadField spot (codes "token")) token finds-token read_, found-passes targets_of fits_targets (get (codes "to") d) (BadField spot (codes "to")) to finds-targets waited, new.0) later;
      are = sym (append_assoc before (row ∷ []) others.rows) ∙ ap (λ rows. rows ++ others.rows) same ∙ others.are;
    }))))

allowed-part : (spot : Spot) (field : List ℕ) (found : Option Data) (n : ℕ) → ok_or (option_map_or part_size_of found (Some 1)) (BadField spot field) ≡ Ok n → fits_part n ≡ true
allowed-part spot field None n is = let same : 1 ≡ n = cc in subst (λ m. fits_part m ≡ true) same refl
allowed-part spot field (Some d) n is = finds-part d n (ok_or_ok _ _ n is)

few-defers : (spot : Spot) (field : List ℕ) (found : Option Data) (items : List Data) → ok_or (option_map_or defer_objects_of found (Some [])) (BadField spot field) ≡ Ok items → leb (length items) 256 ≡ true
few-defers spot field None items is = let same : [] ≡ items = cc in subst (λ ds. leb (length ds) 256 ≡ true) same refl
few-defers spot field (Some d) items is = passing-ok (λ ds. leb (length ds) 256) (objects_of d) items (ok_or_ok _ _ items is)

pipes_in-fit : (spot : Spot) (d : Data) (r : PipeRows) → pipes_in spot d ≡ Ok r → fits_pipes r.serial r.ops ≡ true
pipes_in-fit spot d r is =
    bind_ok (needed objects_of spot (codes "pipes") d) _ r is (λ items here after.
    let read_ : ReadPipes (record { serial = []; ops = [] }) r = pipes-fit spot (record { serial = []; ops = [] }) items r (otherwise_ok (walk (add_pipe spot) (record { serial = []; ops = [] }) items) _ r after) in
    ap (λ s. fits_pipes s r.ops) (sym read_.serial_is) ∙ ap (λ o. fits_pipes read_.serial o) (sym read_.ops_are) ∙ read_.fine)

defers_in-fit : (spot : Spot) (d : Data) (r : List DeferRow) → defers_in spot d ≡ Ok r → leb (length r) 256 && fits_defers [] r ≡ true
defers_in-fit spot d r is =
    bind_ok (allowed [] defer_objects_of spot (codes "defer") d) _ r is (λ items here after.
    let read_ : ReadDefers [] r (length items) = defers-fit spot [] items r (otherwise_ok (walk (add_defer spot) [] items) _ r after) in
    let few : leb (length r) 256 ≡ true = ap (λ rows. leb (length rows) 256) (sym read_.are) ∙ ap (λ n. leb n 256) read_.count ∙ few-defers spot (codes "defer") (get (codes "defer") d) items here in
    rw few (ap (fits_defers []) (sym read_.are) ∙ read_.fine))

pipe-fits : (spot : Spot) (d : Data) (op : Op) → pipe_in spot d ≡ Ok op → fits_op op ≡ true
pipe-fits spot d op is =
    bind_ok (needed pipe_lines_of spot (codes "lines") d) _ op is (λ lines counted after_lines.
    bind_ok (allowed 1 part_size_of spot (codes "n") d) _ op after_lines (λ chunk sized after_chunk.
    bind_ok (pipes_in spot d) _ op after_chunk (λ pipes piped after_pipes.
    bind_ok (defers_in spot d) _ op after_pipes (λ defers deferred last.
    let same : Pipe (record { spec = record { lines = lines; serial = pipes.serial }; ops = pipes.ops; chunk = chunk; defers = defers }) ≡ op = cc in
    let all : fits_op (Pipe (record { spec = record { lines = lines; serial = pipes.serial }; ops = pipes.ops; chunk = chunk; defers = defers })) ≡ true =
    rw (found-passes pipe_lines_of fits_pipe_lines (get (codes "lines") d) (BadField spot (codes "lines")) lines finds-pipe_lines counted, allowed-part spot (codes "n") (get (codes "n") d) chunk sized, pipes_in-fit spot d pipes piped) (defers_in-fit spot d defers deferred) in
    subst (λ o. fits_op o ≡ true) same all))))

makes-pipe : Makes fits pipe_row
makes-pipe spot d made is =
    bind_ok (pipe_in spot d) (λ op. Ok (does op)) made is (λ op here last.
    let same : does op ≡ made = cc in
    subst (λ o. fits o ≡ true) same (pipe-fits spot d op here))

makes-spread : Makes fits spread_row
makes-spread spot d made is =
    bind_ok (spread_in spot d) (λ op. Ok (does op)) made is (λ op here last.
    let same : does op ≡ made = cc in
    subst (λ o. fits o ≡ true) same (spread-fits spot d op here))

all-op_rows : AllMake fits op_rows
unfolding op_rows
all-op_rows =
    makes-bare fits (codes "input") (does Input) refl
    & makes-single fits (codes "read") (codes "text") text_name_of reads finds-text
    & makes-bare fits (codes "match") (does Match) refl
    & makes-bare fits (codes "back") (does Back) refl
    & makes-single fits (codes "ifmore") (codes "n") line_count_of (λ n. does (IfMore n)) finds-lines
    & makes-single fits (codes "ifhas") (codes "word") word_of (λ word. does (IfHas word)) finds-word
    & makes-single fits (codes "route") (codes "words") words_of (λ words. does (Route words)) finds-words
    & makes-spread
    & makes-single fits (codes "module") (codes "module") as_str runs finds-string
    & makes-pipe
    & all-used fits (λ op. does (Text op)) text_rows all-text_rows

-- the operation that an object names may stand in a file
op_in-fits : (spot : Spot) (d : Data) (found : WithFields FileOpRow) → op_in op_rows spot d ≡ Ok found → fits found.op ≡ true
op_in-fits spot d found is =
    bind_ok (needed as_str spot (codes "op") d) (λ name. op_called op_rows name spot d) found is (λ name here called.
    bind_ok (ok_or (row_called op_rows name) (BadField spot (codes "op"))) _ found called (λ row at_row rest.
    bind_ok (row.made spot d) _ found rest (λ op made last.
    let same : record { op = op; fields = row.fields } ≡ found = cc in
    let fine : fits op ≡ true = called-makes fits op_rows name row all-op_rows (ok_or_ok _ _ row at_row) spot d op made in
    subst (λ (f : WithFields FileOpRow). fits f.op ≡ true) same fine)))

-- ---- tasks

allowed-names : (spot : Spot) (field : List ℕ) (found : Option Data) (names : List (List ℕ)) → ok_or (option_map_or name_list_of found (Some [])) (BadField spot field) ≡ Ok names → list_all is_name names ≡ true
allowed-names spot field None names is = let same : [] ≡ names = cc in subst (λ ns. list_all is_name ns ≡ true) same refl
allowed-names spot field (Some d) names is = finds-names d names (ok_or_ok _ _ names is)

-- a task that is read may stand in a file, and the draft has it besides
pub task-read : (draft : DraftRows) (d : Data) (next : DraftRows) → add_task draft d ≡ Ok next → (task : TaskText) × IsValidTask task × (with_task_text draft task ≡ next)
task-read draft d next is =
    let spot = task_spot draft.scope (length draft.tasks) in
    bind_ok (needed name_of spot (codes "name") d) _ next is (λ name named after_name.
    bind_ok (op_in op_rows spot d) _ next after_name (λ found called after_op.
    bind_ok (allowed [] name_list_of spot (codes "to") d) _ next after_op (λ to linked after_to.
    bind_ok (allowed [] name_list_of spot (takes_field draft.version) d) _ next after_to (λ takes taken after_takes.
    bind_ok (allowed [] name_list_of spot (puts_field draft.version) d) _ next after_takes (λ puts put after_puts.
    bind_ok (only (task_fields draft.version ++ found.fields) spot d) _ next after_puts (λ done none last.
    let task : TaskText = record { names = record { name = name; to = to; takes = takes; puts = puts }; op = found.op } in
    let same : with_task_text draft task ≡ next = cc in (
      task,
      record {
        name = found-passes name_of is_name (get (codes "name") d) (BadField spot (codes "name")) name finds-name named;
        op = op_in-fits spot d found called;
        to = allowed-names spot (codes "to") (get (codes "to") d) to linked;
        takes = allowed-names spot (takes_field draft.version) (get (takes_field draft.version) d) takes taken;
        puts = allowed-names spot (puts_field draft.version) (get (puts_field draft.version) d) puts put;
      },
      same,
    )))))))

-- the draft with these tasks more
abbrev pub with_tasks : DraftRows → List TaskText → DraftRows
with_tasks draft tasks = record draft { tasks = draft.tasks ++ tasks }

tasks-read : (draft : DraftRows) (ds : List Data) (r : DraftRows) → walk add_task draft ds ≡ Ok r → (tasks : List TaskText) × AreFine tasks × (with_tasks draft tasks ≡ r)
tasks-read draft [] r is = let same : draft ≡ r = cc in ([], tt, rw append-nil same)
tasks-read draft (d ∷ ds) r is =
    bind_ok (add_task draft d) (λ next. walk add_task next ds) r is (λ next here rest.
    let first = task-read draft d next here in
    let others = tasks-read next ds r rest in
    (first.0 ∷ others.0, (first.1, others.1), ap (λ ts. record draft { tasks = ts }) (sym (append_assoc draft.tasks (first.0 ∷ []) others.0)) ∙ ap (λ x. with_tasks x others.0) first.2 ∙ others.2))

-- ---- semaphores

finds-max : Finds (whole_of 1 maximum_limit) fits_max
finds-max d n is = passing-ok fits_max (option_and_then as_u64 (as_number d)) n is

semaphore-read : (draft : DraftRows) (d : Data) (next : DraftRows) → add_semaphore draft d ≡ Ok next → (sem : SemText) × IsValidSem sem × (with_semaphore draft sem.name sem.max ≡ next)
semaphore-read draft d next is =
    let spot = sem_spot draft.scope (length draft.sem_names) in
    bind_ok (needed name_of spot (codes "name") d) _ next is (λ name named after_name.
    bind_ok (needed (whole_of 1 maximum_limit) spot (codes "max") d) _ next after_name (λ max limited after_max.
    bind_ok (only (codes "name" ∷ codes "max" ∷ []) spot d) _ next after_max (λ done none last.
    let same : with_semaphore draft name max ≡ next = cc in (
      record { name = name; max = max },
      record {
        name = found-passes name_of is_name (get (codes "name") d) (BadField spot (codes "name")) name finds-name named;
        max = found-passes (whole_of 1 maximum_limit) fits_max (get (codes "max") d) (BadField spot (codes "max")) max finds-max limited;
      },
      same,
    ))))

-- the draft with these semaphores more
abbrev pub with_sems_more : DraftRows → List SemText → DraftRows
with_sems_more draft sems = record draft { sem_names = draft.sem_names ++ names_of_sems sems; sems = draft.sems ++ maxima_of sems }

semaphores-read : (draft : DraftRows) (ds : List Data) (r : DraftRows) → walk add_semaphore draft ds ≡ Ok r → (sems : List SemText) × AreValidSems sems × (with_sems_more draft sems ≡ r)
semaphores-read draft [] r is = let same : draft ≡ r = cc in ([], tt, rw (append-nil, append-nil) same)
semaphores-read draft (d ∷ ds) r is =
    bind_ok (add_semaphore draft d) (λ next. walk add_semaphore next ds) r is (λ next here rest.
    let first = semaphore-read draft d next here in
    let others = semaphores-read next ds r rest in (
      first.0 ∷ others.0,
      (first.1, others.1),
      ap (λ ns. record draft { sem_names = ns; sems = draft.sems ++ maxima_of (first.0 ∷ others.0) }) (sym (append_assoc draft.sem_names (first.0.name ∷ []) (names_of_sems others.0)))
          ∙ ap (λ ms. record draft { sem_names = (draft.sem_names ++ first.0.name ∷ []) ++ names_of_sems others.0; sems = ms }) (sym (append_assoc draft.sems (first.0.max ∷ []) (maxima_of others.0)))
          ∙ ap (λ x. with_sems_more x others.0) first.2 ∙ others.2,
    ))

-- ---- graphs

-- a graph that was read has just its semaphores and tasks
pub graph_in-made : (scope : Scope) (version : ℕ) (name : List ℕ) (ss ts : List Data) (r : DraftRows) → graph_in (empty_draft scope version name) ss ts ≡ Ok r → IsMade scope r × (r.name ≡ name)
graph_in-made scope version name ss ts r is =
    let empty = empty_draft scope version name in
    bind_ok (walk add_semaphore empty ss) (λ start. walk add_task start ts) r is (λ start first rest.
    let sems = semaphores-read empty ss start first in
    let tasks = tasks-read start ts r rest in
    let all : with_tasks (with_sems_more empty sems.0) tasks.0 ≡ r = ap (λ x. with_tasks x tasks.0) sems.2 ∙ tasks.2 in (
      subst (IsMade scope) all (record { scope_is = refl; sems = sems.0; fine_sems = sems.1; sem_names = refl; maxima = refl; tasks = tasks.1 }),
      ap (λ (x : DraftRows). x.name) (sym all),
    ))

module_in-made : (scope : Scope) (version : ℕ) (d : Data) (r : DraftRows) → module_in scope version d ≡ Ok r → (is_name r.name ≡ true) × IsMade scope r
module_in-made scope version d r is =
    let spot = graph_spot scope in
    bind_ok (needed name_of spot (codes "name") d) _ r is (λ name named after_name.
    bind_ok (needed objects_of spot (codes "tasks") d) _ r after_name (λ ts listed_ after_tasks.
    bind_ok (allowed [] objects_of spot (codes "semaphores") d) _ r after_tasks (λ ss found after_sems.
    bind_ok (only (codes "name" ∷ codes "tasks" ∷ codes "semaphores" ∷ []) spot d) _ r after_sems (λ done none rest.
    let made = graph_in-made scope version name ss ts r rest in
    let fine : is_name name ≡ true = found-passes name_of is_name (get (codes "name") d) (BadField spot (codes "name")) name finds-name named in
    (subst (λ n. is_name n ≡ true) (sym made.1) fine, made.0)))))

made-more : (m : ℕ) (drafts : List DraftRows) (draft : DraftRows) → AreMade m drafts → is_name draft.name ≡ true → IsMade (OfModule (m + length drafts)) draft → AreMade m (drafts ++ draft ∷ [])
made-more m [] draft all name made = let here : m + 0 ≡ m = omega arith in (name, subst (λ k. IsMade (OfModule k) draft) here made, tt)
made-more m (first ∷ drafts) draft all name made =
    let later : m + suc (length drafts) ≡ suc m + length drafts = omega arith in
    (all.0, all.1, made-more (suc m) drafts draft all.2 name (subst (λ k. IsMade (OfModule k) draft) later made))

modules-made : (version : ℕ) (before : List DraftRows) (ds : List Data) (r : List DraftRows) → AreMade 0 before → walk (add_module version) before ds ≡ Ok r → AreMade 0 r
modules-made version before [] r made is = let same : before ≡ r = cc in subst (AreMade 0) same made
modules-made version before (d ∷ ds) r made is =
    bind_ok (add_module version before d) (λ next. walk (add_module version) next ds) r is (λ next here rest.
    bind_ok (module_in (OfModule (length before)) version d) _ next here (λ graph read_ last.
    let same : before ++ graph ∷ [] ≡ next = cc in
    let fine = module_in-made (OfModule (length before)) version d graph read_ in
    let number : 0 + length before ≡ length before = omega arith in
    let more : AreMade 0 (before ++ graph ∷ []) = made-more 0 before graph made fine.0 (subst (λ k. IsMade (OfModule k) graph) (sym number) fine.1) in
    modules-made version next ds r (subst (AreMade 0) same more) rest))

-- the graphs of a file have just what stands in it
pub file_in-made : (d : Data) (file : FileRows) → file_in d ≡ Ok file → IsMadeFile file
file_in-made d file is =
    bind_ok (allowed 1 (whole_of 1 2) File (codes "version") d) _ file is (λ version at_version after_version.
    bind_ok (needed objects_of File (codes "tasks") d) _ file after_version (λ ts here after_tasks.
    bind_ok (allowed [] objects_of File (codes "semaphores") d) _ file after_tasks (λ ss at_sems after_sems.
    bind_ok (allowed [] objects_of File (codes "modules") d) _ file after_sems (λ ms at_modules after_modules.
    bind_ok (only file_fields File d) _ file after_modules (λ done none after_fields.
    bind_ok (graph_in (empty_draft Top version []) ss ts) _ file after_fields (λ top read_ after_top.
    bind_ok (walk (add_module version) [] ms) _ file after_top (λ graphs walked last.
    let made = graph_in-made Top version [] ss ts top read_ in
    let same : record { top = top; modules = graphs } ≡ file = cc in
    subst IsMadeFile same (record { no_name = made.1; top = made.0; modules = modules-made version [] ms graphs tt walked }))))))))
