-- Reading texts one after another.
use Rattle.std.proofs.Common.{◌≡◌, ◌≢◌, inr, ℕ, zero, suc, ◌+◌, ◌<◌, ◌≤◌, Bool, true, false, cond, List, [], ◌∷◌, ◌++◌, length, sym, refl, ap, ◌∙◌, subst, arith, get_or, take, drop, length-append}
use Rattle.std.specs.Prelude.{All, IfErr, IsErrAnd, Result, Ok, Err}
use Rattle.std.proofs.lemmas.List.{take_more}
use Rattle.std.proofs.lemmas.List.Elements.{All-nil, All-cons}
use Rattle.graph_drafts.specs.declared.refusals.GraphError.{GraphError}
use Rattle.graph_drafts.specs.declared.refusals.GraphError.TheVariants.{NotJson, BadField, NoSuchName, Repeated, ModuleCycle, TooMany, NoMemory as NoMemoryToRead, BadPipe}
use Rattle.graph_plans.specs.PlanRows.{PlanRows, IsPlan}
use Rattle.graph_file.specs.PlanText.{PlanText, IsRefused}
use Rattle.text_ops.specs.Lines.{normal, is_normal, line_end}
use Rattle.text_ops.proofs.LineLemmas.{IsNormal-normal}
use Rattle.text_tasks.specs.ValueTexts.{IsValueText}
use Rattle.text_tasks.specs.GraphWork.{greatest_limit, IsWork, first_work}
use Rattle.text_tasks.specs.declared.job.TextJob.{TextJob}
use Rattle.text_tasks.specs.declared.job.TextJob.TheVariants.{Graph}
use Rattle.call_status.specs.declared.stop.Stop.{Stop}
use Rattle.call_status.specs.declared.stop.Stop.TheVariants.{BadGraph, NoSource, NoText, LongText, ReadFault, BadJournal, NoMemory}
use Rattle.journal_rules.specs.declared.entry.Entry.{Entry}
use Rattle.legal_run.specs.Verdict.{IsVerdict}
use Rattle.legal_run.specs.declared.verdict.Verdict.{Verdict}
use Rattle.flow_run.specs.Judgements.{HasJournal, IsJudged, StopsAtJournal, StopsBeforeVerdict}
use Rattle.flow_run.specs.Requests.{SourceTexts, HasStart, IsAdded, IsHeld, IsRequestedJob, IsTextOf, StopsAtName, StopsAtText, StopsAtBytes, StopsAtPlan, StopsBefore, TextsAre, file_limit, text_limit}

-- one text more
pub texts_more : (held : SourceTexts) (names texts : List (List ℕ)) (name text : List ℕ) → TextsAre held names texts → IsTextOf held name text → TextsAre held (names ++ name ∷ []) (texts ++ text ∷ [])
texts_more held [] [] name text so_far is = (is, tt)
texts_more held [] (t ∷ ts) name text so_far is = absurd so_far
texts_more held (n ∷ ns) [] name text so_far is = absurd so_far
texts_more held (n ∷ ns) (t ∷ ts) name text so_far is = (so_far.0, texts_more held ns ts name text so_far.1 is)

-- the text of the next name
pub read_one_more : (held : SourceTexts) (names : List (List ℕ)) (i : ℕ) (name : List ℕ) (old new : List (List ℕ)) → i < length names → name ≡ get_or names i name → TextsAre held (take i names) old → IsAdded held name old new → TextsAre held (take (i + 1) names) new
read_one_more held names i name old new below is so_far added =
    subst (λ ns. TextsAre held ns new) (sym (take_more names i name below ∙ ap (λ n. take i names ++ n ∷ []) (sym is)))
    (subst (TextsAre held (take i names ++ name ∷ [])) (sym added.row) (texts_more held (take i names) old name added.text so_far added.read))

-- there is a text for each name
pub as_many : (held : SourceTexts) (names texts : List (List ℕ)) → TextsAre held names texts → length texts ≡ length names
as_many held [] [] are = refl
as_many held [] (t ∷ ts) are = absurd are
as_many held (n ∷ ns) [] are = absurd are
as_many held (n ∷ ns) (t ∷ ts) are = ap suc (as_many held ns ts are.1)

-- the end of its last line makes a text one byte longer at most
normal_length : (bytes : List ℕ) → length (normal bytes) ≤ length bytes + 1
normal_length bytes = by_test (is_normal bytes)
  where
    by_test : (b : Bool) → length (cond b bytes (bytes ++ line_end ∷ [])) ≤ length bytes + 1
    by_test true = omega arith
    by_test false = rw (length-append bytes (line_end ∷ [])) (omega arith)

value_text : (held : SourceTexts) (name text : List ℕ) → IsTextOf held name text → IsValueText text
value_text held name text is = subst IsValueText (sym is.is) (record { normal = IsNormal-normal is.bytes; short = omega (arith, normal_length is.bytes, is.read.1) })

-- and each may be a value
pub are_values : (held : SourceTexts) (names texts : List (List ℕ)) → TextsAre held names texts → All IsValueText texts
are_values held [] [] are = All-nil IsValueText
are_values held [] (t ∷ ts) are = absurd are
are_values held (n ∷ ns) [] are = absurd are
are_values held (n ∷ ns) (t ∷ ts) are = All-cons IsValueText t ts (value_text held n t are.0) (are_values held ns ts are.1)

-- a list around one of its places
pub around : {X : Type 0} (xs : List X) (i : ℕ) (d : X) → i < length xs → xs ≡ take i xs ++ get_or xs i d ∷ drop (i + 1) xs
around [] i d below = absurd (omega arith)
around (x ∷ xs) zero d below = refl
around (x ∷ xs) (suc i) d below =
    let rest : xs ≡ take i xs ++ get_or xs i d ∷ drop (i + 1) xs = around xs i d (omega arith) in
    let one : i + 1 ≡ suc i = omega arith in
    let two : suc (suc i) ≡ suc i + 1 = omega arith in
    ap (λ ys. x ∷ ys) (rest ∙ ap (λ n. take i xs ++ get_or xs i d ∷ drop n xs) one) ∙ ap (λ n. x ∷ (take i xs ++ get_or xs i d ∷ drop n (x ∷ xs))) two

pub stops_at : (held : SourceTexts) (names texts : List (List ℕ)) (i : ℕ) (name : List ℕ) (why : Stop) → i < length names → name ≡ get_or names i name → TextsAre held (take i names) texts → StopsAtName held name text_limit why → StopsAtText held names why
stops_at held names texts i name why below is so_far stops =
    record { before = take i names; name = name; after = drop (i + 1) names; texts = texts; parts = around names i name below ∙ ap (λ n. take i names ++ n ∷ drop (i + 1) names) (sym is); read = so_far; stops = stops }

-- a refusal stops the call
pub refused_bytes : (bytes : List ℕ) (error : GraphError) (why : Stop) → (error ≡ NoMemoryToRead → why ≡ NoMemory) → (error ≢ NoMemoryToRead → why ≡ BadGraph error)
    → (error ≢ NoMemoryToRead → IsRefused bytes error) → StopsAtPlan bytes why
refused_bytes bytes error why memory bad refused = by_error error refl
  where
    other : error ≢ NoMemoryToRead → StopsAtPlan bytes why
    other differs = subst (StopsAtPlan bytes) (sym (bad differs)) (refused differs)

    by_error : (e : GraphError) → error ≡ e → StopsAtPlan bytes why
    by_error NotJson is = other (λ out. cc)
    by_error (BadField spot field) is = other (λ out. cc)
    by_error (NoSuchName spot field) is = other (λ out. cc)
    by_error (Repeated spot field) is = other (λ out. cc)
    by_error (ModuleCycle name) is = other (λ out. cc)
    by_error (TooMany kind) is = other (λ out. cc)
    by_error (BadPipe spot why) is = other (λ out. cc)
    by_error NoMemoryToRead is = subst (StopsAtPlan bytes) (sym (memory is)) tt

-- what stands for no plan stops a run too
pub no_plan : (bytes : List ℕ) (why : Stop) → StopsAtPlan bytes why → StopsAtBytes bytes why
no_plan bytes (BadGraph error) stops = stops
no_plan bytes (NoSource spot) stops = absurd stops
no_plan bytes (NoText name) stops = absurd stops
no_plan bytes (LongText name) stops = absurd stops
no_plan bytes (ReadFault name) stops = absurd stops
no_plan bytes (BadJournal line) stops = absurd stops
no_plan bytes NoMemory stops = stops

-- the job of a plan over the texts that it names
pub is_work : (held : SourceTexts) (plan : PlanRows) (texts : List (List ℕ)) (limit : ℕ) → limit ≤ greatest_limit → IsPlan plan → TextsAre held plan.texts texts → IsWork (first_work plan texts limit)
is_work held plan texts limit within is read =
    record {
      plan = is;
      text_count = as_many held plan.texts texts read;
      texts = are_values held plan.texts texts read;
      input = record { normal = refl; short = omega arith };
      in_plan = tt;
      starts = within;
    }

-- and it is the one that is asked for
pub requested_job : (held : SourceTexts) (file : List ℕ) (limit : ℕ) (bytes : List ℕ) (plan : PlanRows) (texts : List (List ℕ)) (job : TextJob) → IsHeld held file file_limit bytes → PlanText bytes plan → HasStart plan → TextsAre held plan.texts texts
    → job ≡ Graph (first_work plan texts limit) → IsRequestedJob held file limit job
requested_job held file limit bytes plan texts job read stands source are is =
    subst (IsRequestedJob held file limit) (sym is) (record { plan = record { bytes = bytes; read = read; stands = stands; source = source }; texts = are; top = refl; input = refl; starts = refl })

-- what stops a call behind its graph: one of the plan's texts, or the journal file
pub stops_at_plan_text : (held : SourceTexts) (file bytes : List ℕ) (plan : PlanRows) (why : Stop) → IsHeld held file file_limit bytes → PlanText bytes plan → HasStart plan → StopsAtText held plan.texts why → StopsBefore held file why
stops_at_plan_text held file bytes plan why read stands source stops = inr (inr (record { plan = plan; has = record { bytes = bytes; read = read; stands = stands; source = source }; stops = stops }))

pub stops_at_journal : (held : SourceTexts) (file name bytes : List ℕ) (plan : PlanRows) (why : Stop) → IsHeld held file file_limit bytes → PlanText bytes plan → HasStart plan → StopsAtJournal held name why → StopsBeforeVerdict held file name why
stops_at_journal held file name bytes plan why read stands source stops = inr (inr (record { plan = plan; has = record { bytes = bytes; read = read; stands = stands; source = source }; stops = stops }))

-- a verdict on a journal that was read, by a plan that was read
pub judged_by : (held : SourceTexts) (file name bytes : List ℕ) (plan : PlanRows) (limit : ℕ) (journal : List Entry) (verdict : Verdict) → IsHeld held file file_limit bytes → PlanText bytes plan → HasStart plan → HasJournal held name journal
    → IsVerdict plan.top.net limit journal verdict → IsJudged held file name limit verdict
judged_by held file name bytes plan limit journal verdict read stands source text is = record { plan = plan; graph = record { bytes = bytes; read = read; stands = stands; source = source }; journal = journal; text = text; is = is }

-- what an error is told for, where it is handed on as it is
pub handed_on : {A : Type 0} (P : Stop → Type 0) (answer : Result A Stop) (why : Stop) → IsErrAnd answer (λ error. error ≡ why) → P why → IfErr answer P
handed_on P (Ok value) why never is = absurd never
handed_on P (Err error) why same is = subst P (sym same) is
