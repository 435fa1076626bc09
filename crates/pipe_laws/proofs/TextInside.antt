-- Each pipeline of texts inside a run keeps the order of its tokens.
use Rattle.std.proofs.Common.{◌≡◌, ℕ, zero, suc, ◌+◌, ◌<◌, ◌≤◌, ◌==◌, Bool, true, false, cond, List, [], ◌∷◌, ◌++◌, length, map, Option, Some, None, sym, refl, ap, ◌∙◌, subst, arith}
use Rattle.std.specs.Prelude.{nat_le, slice_get, slice_index_or, IfSome, IsSomeAnd}
use Rattle.std.specs.Option.{option_and_then, option_map}
use Rattle.std.proofs.lemmas.Bool.{false≢true}
use Rattle.std.proofs.lemmas.Bool.Decides.{nat_tests}
use Rattle.std.proofs.lemmas.List.{length_push}
use Rattle.std.proofs.lemmas.List.FromFn.{length-map-range_with_len}
use Rattle.std.proofs.lemmas.Option.{none-some, same_Some}
use Rattle.task_graph.specs.NetRows.{NetRows}
use Rattle.journal_rules.specs.declared.entry.Why.{Why}
use Rattle.journal_rules.specs.declared.entry.Entry.{Entry}
use Rattle.journal_rules.specs.declared.entry.Entry.TheVariants.{Start, End, Fault, Drop}
use Rattle.join_words.specs.Ins.{InputValue}
use Rattle.run_frame.specs.declared.job.Answer.TheVariants.{All as Each}
use Rattle.run_frame.specs.declared.job.Done.TheVariants.{Inner as InnerJob}
use Rattle.run_frame.specs.declared.run.FrameRun.{FrameRun, FrameRun', out-FrameRun}
use Rattle.run_frame.specs.declared.run.InnerRow.{InnerRow, out-InnerRow}
use Rattle.run_frame.specs.declared.run.ValueRow.{ValueRow}
use Rattle.run_frame.specs.Meaning.{Meaning}
use Rattle.run_frame.specs.Runs.{IsFine, inner_in, value_at, values_of}
use Rattle.run_frame.specs.WorkRule.{Work, work_at}
use Rattle.run_frame.specs.NestedRule.{InnerEnd, InnerEndRule, InnerFault, InnerWhy, IsInnerOf, NestedRule, job_of, journal_of}
use Rattle.run_frame.specs.Legal.{CompleteRun, IsKept, Legal, inner_at}
use Rattle.run_frame.specs.Rows.{MayHaveInner, RowsFit, inner_places}
use Rattle.nested_runs.specs.Spreads.{part_limit}
use Rattle.graph_plans.specs.declared.ops.Op.{Op}
use Rattle.graph_plans.specs.declared.ops.Op.TheVariants.{Input, Read, Text as OnText, Match, Back, IfMore, IfHas, Route, Spread, Module, Pipe as PipeOp}
use Rattle.graph_plans.specs.declared.pipes.PipePlan.{PipePlan}
use Rattle.graph_plans.specs.Operations.{HasPipeline, IsOp, IsPipePlan}
use Rattle.graph_plans.specs.PlanRows.{GraphRows, HasPipelines, IsPlan, PlanRows}
use Rattle.pipe_lines.specs.declared.deferral.DeferRow.{DeferRow}
use Rattle.pipe_lines.specs.DeferRows.{token_limit}
use Rattle.pipe_lines.specs.PassOrder.{next_token, pass_order, passes}
use Rattle.pipe_lines.specs.Pipelines.{IsPipeline}
use Rattle.text_ops.specs.LineParts.{line_part, line_parts, part_count}
use Rattle.text_ops.specs.Values.{value_limit}
use Rattle.text_tasks.specs.declared.item.Item.{Item}
use Rattle.text_tasks.specs.declared.job.TextJob.{TextJob}
use Rattle.text_tasks.specs.declared.job.TextJob.TheVariants.{Graph, Parts, Pipe}
use Rattle.text_tasks.specs.FoundTexts.{text_found}
use Rattle.text_tasks.specs.GraphWork.{GraphWork, graph_in, graph_of, module_work}
use Rattle.text_tasks.specs.JobLaws.{graph_in_plan}
use Rattle.text_tasks.specs.JobMeaning.{JobAnswers, net_of, task_meaning, text_job}
use Rattle.text_tasks.specs.OpMeaning.{OpMeaning, hands_over, op_meaning, runs, too_wide}
use Rattle.text_tasks.specs.PipeWork.{IsPipeWork, PipeWork, pipe_work, pipeline_of}
use Rattle.run_laws.specs.OneAnswer.{AllowsOne}
use Rattle.run_laws.specs.TextAnswers.{IsPlanned}
use Rattle.run_laws.proofs.LastEnds.{met_at}
use Rattle.run_laws.proofs.Runs.{inner_sound, legal_journal}
use Rattle.run_laws.proofs.TextAnswers.{inner_at_task, item_meets, module_runs, parts_none, spread_runs}
use Rattle.pipe_laws.specs.PipeRuns.{IsPipeRun}
use Rattle.pipe_laws.specs.TextPipes.{KeepsOrder, PipesInOrder, StartsInOrder, run_at}
use Rattle.pipe_laws.proofs.CellRuns.{lines_take_turns}
use Rattle.pipe_laws.proofs.Ordered.{pipes_keep_order}
use Rattle.pipe_laws.proofs.Passed.{tokens_pass_all_pipes}
use Rattle.pipe_laws.proofs.TextCells.{allows_cells, are_cells, cell_answer, cell_runs}

-- ---- jobs of a plan

-- no more tokens pass than there are
pub passes_few : (tokens : ℕ) (rows : List DeferRow) (n : ℕ) (passed : List ℕ) → length (passes tokens rows n passed) ≤ length passed + n
passes_few tokens rows zero passed = omega arith
passes_few tokens rows (suc n) passed = by_next (passes_few tokens rows n) (next_token tokens rows passed)
  where
    by_next : ((ks : List ℕ) → length (passes tokens rows n ks) ≤ length ks + n) → (o : Option ℕ) → length {A = ℕ} (elim o [ None ↦ passed | Some k ↦ passes tokens rows n (passed ++ k ∷ []) ]) ≤ length passed + suc n
    by_next later None = omega arith
    by_next later (Some k) = omega (arith, later (passed ++ k ∷ []), length_push passed k)

-- A graph is one of a plan's, and a pipeline is one.
abbrev IsOfPlan : TextJob → Type 0
IsOfPlan (Graph work) = IsPlan work.plan × IfSome work.«module» (λ m. m < length work.plan.modules)
IsOfPlan (Parts work) = Unit {0}
IsOfPlan (Pipe work) = IsPipeWork work

pub le_of : (a b : ℕ) → nat_le a b ≡ true → a ≤ b
le_of a b is = grind (arith, nat_tests)

pub pipe_runs : (few : Bool) (work : PipeWork) (count : ℕ) (inner : TextJob) → cond few (runs (Pipe work)) (too_wide count) ≡ runs inner → (inner ≡ Pipe work) × (few ≡ true)
pipe_runs true work count inner same = (cc, refl)
pipe_runs false work count inner same = absurd (cc)

pub pipe_of_plan : (plan : PipePlan) (text : List ℕ) → IsPipePlan plan → IsPipeline plan.spec → part_count plan.chunk text ≤ token_limit → IsPipeWork (pipe_work plan text)
pipe_of_plan plan text keeps pipeline few =
    let count : length (line_parts plan.chunk text) ≡ part_count plan.chunk text = length-map-range_with_len (line_part plan.chunk text) 0 (part_count plan.chunk text) in
    let passed : length (pass_order (part_count plan.chunk text) plan.defers) ≤ length {A = ℕ} [] + part_count plan.chunk text = passes_few (part_count plan.chunk text) plan.defers (part_count plan.chunk text) [] in
    record { pipeline = pipeline; op_count = keeps.op_count; part_count = omega (arith, count, few); passed_count = omega (arith, passed, few) }

-- the pipes of the tasks of each graph of a plan are pipelines
pipelines_in : (plan : PlanRows) (g : Option ℕ) → IsPlan plan → IfSome g (λ m. m < length plan.modules) → HasPipelines (graph_in plan g)
pipelines_in plan None keeps there = keeps.pipelines 0 plan.top (omega arith)
pipelines_in plan (Some m) keeps there = keeps.pipelines (suc m) plan.top (omega (arith, there))

module _ (work : GraphWork) (found : List (InputValue Item)) (inner : TextJob) (of : IsOfPlan (Graph work)) where
  op_of_plan : (op : Op) → IsOp (length work.plan.texts) (length work.plan.modules) op → HasPipeline op → op_meaning work found op ≡ runs inner → IsOfPlan inner
  op_of_plan Input fits pipes same = absurd (cc)
  op_of_plan (Read number) fits pipes same = absurd (cc)
  op_of_plan (OnText op) fits pipes same = absurd (cc)
  op_of_plan Match fits pipes same = absurd (cc)
  op_of_plan Back fits pipes same = absurd (cc)
  op_of_plan (IfMore n) fits pipes same = absurd (cc)
  op_of_plan (IfHas word) fits pipes same = absurd (cc)
  op_of_plan (Route words) fits pipes same = absurd (cc)
  op_of_plan (Spread n each) fits pipes same =
      let text : List ℕ = text_found found in
      let is = spread_runs (nat_le (part_count n text) part_limit) (record { parts = line_parts n text; op = each }) (part_count n text) inner same in
      subst IsOfPlan (sym is.0) tt
  op_of_plan (Module m) fits pipes same =
      let text : List ℕ = text_found found in
      let is = module_runs (nat_le (length text) value_limit) (module_work work m text) text inner same in
      subst IsOfPlan (sym is) (of.0, fits)
  op_of_plan (PipeOp plan) fits pipes same =
      let text : List ℕ = text_found found in
      let is = pipe_runs (nat_le (part_count plan.chunk text) token_limit) (pipe_work plan text) (part_count plan.chunk text) inner same in
      subst IsOfPlan (sym is.0) (pipe_of_plan plan text fits pipes (le_of (part_count plan.chunk text) token_limit is.1))

  by_op : (t : ℕ) (o : Option Op) → slice_get (graph_of work).ops t ≡ o → option_map (op_meaning work found) o ≡ Some (runs inner) → IsOfPlan inner
  by_op t None at same = absurd (none-some _ same)
  by_op t (Some op) at same =
      op_of_plan op
      (item_meets (IsOp (length work.plan.texts) (length work.plan.modules)) (graph_of work).ops t op (graph_in_plan work.plan work.«module» of.0 of.1).ops at)
      (item_meets HasPipeline (graph_of work).ops t op (pipelines_in work.plan work.«module» of.0 of.1) at)
      (same_Some _ _ same)

-- so is a job that the task of such a job runs
runs_of_plan : (job : TextJob) (t : ℕ) (found : List (InputValue Item)) (inner : TextJob) → IsOfPlan job → task_meaning job t found ≡ Some (runs inner) → IsOfPlan inner
runs_of_plan (Graph work) t found inner of same = by_op work found inner of t (slice_get (graph_of work).ops t) refl same
runs_of_plan (Parts work) t found inner of same = absurd (parts_none (slice_get work.parts t) work.op inner same)
runs_of_plan (Pipe work) t found inner of same = absurd (cell_runs work t found (slice_get work.ops _) inner same)

-- ---- the runs inside a run

legal_rows_fit : {J V : Type 0} (meaning : Meaning J V) (run : FrameRun J V) → Legal meaning run → RowsFit run
legal_rows_fit meaning (FrameRun' job journal values shape rows) legal = legal.1

-- a run inside stands at one of the places of such runs
has_place : {J V : Type 0} (rows : List (InnerRow J V)) (n : ℕ) (inner : FrameRun J V) → inner_in rows n ≡ Some inner → (k : ℕ) × (slice_get (map (λ row. (out-InnerRow J V row).place) rows) k ≡ Some n)
has_place [] n inner is = absurd (none-some _ is)
has_place {J} {V} (row ∷ rows) n inner is = by_place (has_place rows n inner) ((out-InnerRow J V row).place == n) refl is
  where
    by_place : (inner_in rows n ≡ Some inner → (k : ℕ) × (slice_get (map (λ r. (out-InnerRow J V r).place) rows) k ≡ Some n)) → (b : Bool) → ((out-InnerRow J V row).place == n) ≡ b
        → cond b (Some (out-InnerRow J V row).run) (inner_in rows n) ≡ Some inner → (k : ℕ) × (slice_get (map (λ r. (out-InnerRow J V r).place) (row ∷ rows)) k ≡ Some n)
    by_place later true same is2 = let here : (out-InnerRow J V row).place ≡ n = grind (arith, nat_tests) in (0, ap Some here)
    by_place later false same is2 = let rest = later is2 in (suc rest.0, rest.1)

module _ {J V : Type 0} (meaning : Meaning J V) (run : FrameRun J V) (legal : Legal meaning run) where
  abbrev values : List (ValueRow V)
  values = values_of run

  -- the run is of a job that some task answered
  pub record Answered (inner : FrameRun J V) : Type 0 where
    pub task : ℕ
    pub found : List (InputValue V)
    pub answered : meaning.answers (job_of run) task found (InnerJob (job_of inner))

  some_work : (inner : FrameRun J V) (o : Option (Work V)) → IsSomeAnd o (λ w. IsInnerOf meaning (job_of run) w inner) → Answered inner
  some_work inner None is = absurd is
  some_work inner (Some w) is = record { task = w.task; found = w.found; answered = is }

  by_fault : (inner : FrameRun J V) (why : Why) (o : Option (Work V)) → IsSomeAnd o (λ w. IsInnerOf meaning (job_of run) w inner × InnerWhy meaning inner why) → Answered inner
  by_fault inner why None is = absurd is
  by_fault inner why (Some w) is = record { task = w.task; found = w.found; answered = is.0 }

  by_value : (gives : List ℕ) (inner : FrameRun J V) (w : Work V) (o : Option V) → IsSomeAnd o (λ v. InnerEnd meaning (job_of run) w v gives inner) → Answered inner
  by_value gives inner w None is = absurd is
  by_value gives inner w (Some v) is = record { task = w.task; found = w.found; answered = is.answered }

  by_end : (gives : List ℕ) (inner : FrameRun J V) (o : Option (Work V)) (v : Option V) → IsSomeAnd o (λ w. IsSomeAnd v (λ x. InnerEnd meaning (job_of run) w x gives inner)) → Answered inner
  by_end gives inner None v is = absurd is
  by_end gives inner (Some w) v is = by_value gives inner w v is

  -- by the entry at its place
  by_entry : (before : List Entry) (x : Entry) (inner : FrameRun J V) → MayHaveInner x → inner_at run (length before) ≡ Some inner
      → NestedRule meaning (job_of run) values (inner_at run) before x → Answered inner
  by_entry before (Start task cause ins) inner may at rule = absurd may
  by_entry before (Drop task cause why) inner may at rule = absurd may
  by_entry before (Fault start why) inner may at rule =
      by_fault inner why (work_at values before start) (subst (λ o. InnerFault meaning (job_of run) values before start why o) at rule)
  by_entry before (End start gives false) inner may at rule = absurd (false≢true may)
  by_entry before (End start gives true) inner may at rule =
      by_end gives inner (work_at values before start) (value_at values (length before)) (subst (λ o. InnerEndRule meaning (job_of run) values before start gives true o) at rule)

  at_place : (n : ℕ) (inner : FrameRun J V) → inner_at run n ≡ Some inner → (o : Option Entry) → slice_get (journal_of run) n ≡ o → IsSomeAnd o MayHaveInner → Answered inner
  at_place n inner is None at may = absurd may
  at_place n inner is (Some x) at may =
      let met = met_at (NestedRule meaning (job_of run) values (inner_at run)) [] (journal_of run) n x (legal_journal meaning run legal).nested at in
      by_entry met.0 x inner may (ap (inner_at run) (met.1 ∙ (let plain : 0 + n ≡ n = omega arith in plain)) ∙ is) met.2

  -- Each run inside is one that some task answered with.
  pub inner_answered : (n : ℕ) (inner : FrameRun J V) → inner_at run n ≡ Some inner → Answered inner
  inner_answered n inner is =
      let place = has_place (out-FrameRun J V run).inner.items n inner is in
      at_place n inner is (slice_get (journal_of run) n) refl
      (item_meets (λ m. IsSomeAnd (slice_get (journal_of run) m) MayHaveInner) (inner_places run) place.0 n (legal_rows_fit meaning run legal).fit place.1)

-- ---- pipelines

abbrev Sound : FrameRun TextJob Item → Type 0
Sound run = Legal text_job run × CompleteRun text_job run

-- a pipeline's run keeps the order
keeps_here : (run : FrameRun TextJob Item) (job : TextJob) → job_of run ≡ job → IsOfPlan job → Sound run → KeepsOrder job run
keeps_here run (Graph work) same of sound = tt
keeps_here run (Parts work) same of sound = tt
keeps_here run (Pipe work) same of sound = record {
  serial = pipes_keep_order text_job run (pipeline_of work) (cell_answer work) is;
  turns = lines_take_turns text_job run (pipeline_of work) (cell_answer work) is;
  all = tokens_pass_all_pipes text_job run (pipeline_of work) (cell_answer work) is sound.1;
}
  where
    is : IsPipeRun text_job run (pipeline_of work) (cell_answer work)
    is = record {
      some_lines = of.pipeline.some_lines;
      first_serial = of.pipeline.first_serial;
      net = ap net_of same;
      cells = are_cells work of;
      one_answer = subst (λ j. AllowsOne text_job j (cell_answer work)) (sym same) (allows_cells work);
      legal = sound.0;
    }

inside : (run : FrameRun TextJob Item) → IsOfPlan (job_of run) → Sound run → PipesInOrder run
inside run of sound [] inner at =
    let same : run ≡ inner = same_Some _ _ at in
    subst (λ r. KeepsOrder (job_of r) r) same (keeps_here run (job_of run) refl of sound)
inside run of sound (n ∷ path) inner at = by_run (λ next of_next sound_next is. inside next of_next sound_next path inner is) (inner_at run n) refl at
  where
    by_run : ((next : FrameRun TextJob Item) → IsOfPlan (job_of next) → Sound next → run_at next path ≡ Some inner → KeepsOrder (job_of inner) inner)
        → (o : Option (FrameRun TextJob Item)) → inner_at run n ≡ o → option_and_then (λ r. run_at r path) o ≡ Some inner → KeepsOrder (job_of inner) inner
    by_run later None here is = absurd (none-some _ is)
    by_run later (Some next) here is =
        let answered = inner_answered text_job run sound.0 n next here in
        let of_next : IsOfPlan (job_of next) =
        runs_of_plan (job_of run) answered.task answered.found (job_of next) of (inner_at_task (task_meaning (job_of run) answered.task answered.found) (job_of next) answered.answered) in
        later next of_next (inner_sound text_job run sound.0 n next here) is

-- a job of a plan's top graph is one of a plan
planned_of : (job : TextJob) → IsPlanned job → IsOfPlan job
planned_of (Graph work) planned = (planned.0, subst (λ g. IfSome g (λ m. m < length work.plan.modules)) (sym planned.1) tt)
planned_of (Parts work) planned = tt
planned_of (Pipe work) planned = absurd planned

-- In each kept run of a plan's graph the pipelines keep the order of their tokens.
pub pipes_in_order : (run : FrameRun TextJob Item) → IsPlanned (job_of run) → IsKept text_job run → PipesInOrder run
pipes_in_order run planned kept = inside run (planned_of (job_of run) planned) (kept.legal, kept.complete)
