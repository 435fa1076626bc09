-- Text jobs without conditions are plain, and their runs have one report.
use Rattle.std.proofs.Common.{append-nil, ◌≡◌, ◌⊎◌, inl, inr, ℕ, zero, suc, ◌+◌, ◌<◌, ◌≤◌, Bool, true, false, cond, List, [], ◌∷◌, ◌++◌, length, Option, Some, None, sym, refl, ap, ◌∙◌, subst, arith}
use Rattle.std.specs.Prelude.{All, ◌||◌, filter, nat_eq, nat_le, replicate, slice_get, slice_index_or, IfSome, IsSomeAnd}
use Rattle.std.proofs.lemmas.Bool.{false≢true}
use Rattle.std.proofs.lemmas.List.{get_or-map, get_or-replicate, length-replicate}
use Rattle.std.proofs.lemmas.List.Elements.{All-nil}
use Rattle.std.proofs.lemmas.List.FromFn.{length-map-range_with_len}
use Rattle.std.specs.List.{last_or, list_any, range_with_len}
use Rattle.std.specs.Option.{option_map, option_map_or, option_and_then}
use Rattle.std.proofs.lemmas.Bool.Decides.{nat_tests}
use Rattle.std.proofs.lemmas.Option.{none-some, same_Some, slice_get_within, slice_get-get_or, get_or_from_slice_get}
use Rattle.task_graph.specs.NetRows.{NetRows}
use Rattle.task_graph.specs.Net.{AreSemaphoresOf, IsNet, IsTaskOf, chooses, is_weak, is_weak_row}
use Rattle.task_graph.specs.declared.net.EdgeRow.{EdgeRow}
use Rattle.task_graph.specs.declared.net.TaskRow.{TaskRow}
use Rattle.journal_rules.specs.Counts.{first_tokens}
use Rattle.journal_rules.specs.SemaphoreRule.{takes, puts}
use Rattle.journal_rules.specs.OnceNets.{IsOnceNet}
use Rattle.journal_rules.specs.declared.entry.Why.{Why}
use Rattle.journal_rules.specs.declared.entry.Why.TheVariants.{Long, Wide, Unmet, Inner, OverRelease}
use Rattle.join_words.specs.Ins.{InputValue}
use Rattle.run_frame.specs.declared.job.Answer.{Answer}
use Rattle.run_frame.specs.declared.job.Answer.TheVariants.{All as Each}
use Rattle.run_frame.specs.declared.job.Done.{Done}
use Rattle.run_frame.specs.declared.job.Done.TheVariants.{Value, Inner as InnerJob}
use Rattle.run_frame.specs.declared.run.FrameRun.{FrameRun}
use Rattle.run_frame.specs.LastEnds.{last_value}
use Rattle.run_frame.specs.Legal.{IsKept}
use Rattle.run_frame.specs.NestedRule.{job_of, journal_of}
use Rattle.run_frame.specs.Runs.{values_of}
use Rattle.nested_runs.specs.Spreads.{part_limit, part_row, spread_net}
use Rattle.text_ops.specs.LineParts.{line_part, line_parts, part_count}
use Rattle.text_ops.specs.Values.{value_limit}
use Rattle.graph_plans.specs.ModuleUses.{has_chain, modules_run, run_before}
use Rattle.graph_plans.specs.Operations.{HasPipeline, IsOp}
use Rattle.graph_plans.specs.PlanRows.{GraphRows, HasPipelines, IsGraph, IsPlan, PlanRows, depth_limit, module_uses}
use Rattle.graph_plans.specs.declared.ops.TextOp.{TextOp}
use Rattle.graph_plans.specs.declared.ops.Op.{Op}
use Rattle.graph_plans.specs.declared.ops.Op.TheVariants.{Input, Read, Text as OnText, Match, Back, IfMore, IfHas, Route, Spread, Module, Pipe as PipeOp}
use Rattle.text_tasks.specs.declared.item.CellItem.{CellItem}
use Rattle.text_tasks.specs.declared.item.Item.{Item}
use Rattle.text_tasks.specs.declared.item.Item.TheVariants.{Text, Cell}
use Rattle.text_tasks.specs.declared.job.TextJob.{TextJob}
use Rattle.text_tasks.specs.declared.job.TextJob.TheVariants.{Graph, Parts, Pipe}
use Rattle.text_tasks.specs.FoundTexts.{text_found}
use Rattle.text_tasks.specs.GraphWork.{GraphWork, graph_in, graph_of, module_work}
use Rattle.text_tasks.specs.PartsWork.{PartsWork}
use Rattle.text_tasks.specs.Items.{item_text}
use Rattle.text_tasks.specs.JobMeaning.{AnswersAs, FaultsAs, FaultsLong, JobAnswers, JobFollows, feedback_of, gathered_text, job_plan, net_of, names_of, task_meaning, text_gathered, text_job}
use Rattle.text_tasks.specs.PipeWork.{IsPipeWork, pipe_work}
use Rattle.pipe_lines.specs.DeferRows.{token_limit}
use Rattle.text_tasks.specs.Sinks.{is_sink, last_sink, task_values}
use Rattle.text_tasks.specs.OpMeaning.{OpMeaning, hands_over, moves_on, never_passes, op_meaning, runs, text_op_value, too_wide}
use Rattle.call_status.specs.Reasons.{reason_line}
use Rattle.nested_runs.specs.Reasons.{run_reason}
use Rattle.nested_runs.specs.declared.reasons.Reason.TheVariants.{Fine}
use Rattle.report_laws.specs.Output.{report, task_report}
use Rattle.run_laws.specs.PlainJobs.{IsGraphJob, IsInside, IsPlainly, LeadsTo, plain_value}
use Rattle.run_laws.specs.PlainLaws.{IsPlainRun}
use Rattle.run_laws.specs.TextAnswers.{IsPlanned, as_value, done_by, text_does}
use Rattle.report_laws.specs.PlainReport.{HasSameReport, HasSoundPipes, IsPlainGraph, IsPlainJob, IsPlainTo, IsSoundGraph, NestsPlainly, OfModule, OpensNone, ReportsPlainly, RunsWell, UsesPlain, greatest_depth, known_value, plain_feedback, plain_next, plain_report, text_answer, text_plain}
use Rattle.run_laws.proofs.Depth.{runs_plainly}
use Rattle.run_laws.proofs.LastEnds.{flat_map_below}
use Rattle.run_laws.proofs.TextAnswers.{fault_at_task, gather_long, gather_value, inner_at_task, item_meets, module_runs, parts_none, spread_runs, value_at_task}
use Rattle.pipe_laws.proofs.TextCells.{cell_runs}
use Rattle.pipe_laws.proofs.TextInside.{le_of, pipe_of_plan, pipe_runs}
use Rattle.pipe_values.proofs.OfPlans.{few_pass}
use Rattle.pipe_values.proofs.Values.{comes_to_value}

-- ---- nets without conditions

pub no_weak : (net : NetRows) → All (λ (row : TaskRow). chooses row.shape ≡ false) net.tasks → (e : ℕ) → is_weak net e ≡ false
no_weak net none e = by_edge (slice_get net.edges e)
  where
    by_task : (o : Option TaskRow) (t : ℕ) → slice_get net.tasks t ≡ o → option_map_or (λ (row : TaskRow). chooses row.shape) o false ≡ false
    by_task None t is = refl
    by_task (Some row) t is = item_meets (λ (r : TaskRow). chooses r.shape ≡ false) net.tasks t row none is

    by_edge : (o : Option EdgeRow) → option_map_or (is_weak_row net) o false ≡ false
    by_edge None = refl
    by_edge (Some row) = by_task (slice_get net.tasks row.from) row.from refl

pub no_first_token : (net : NetRows) → All (λ (row : EdgeRow). row.start ≡ false) net.edges → (e : ℕ) → first_tokens net e ≡ 0
no_first_token net none e = by_edge (slice_get net.edges e) refl
  where
    tokens_of : EdgeRow → ℕ
    tokens_of row = cond row.start 1 0

    by_edge : (o : Option EdgeRow) → slice_get net.edges e ≡ o → option_map_or tokens_of o 0 ≡ 0
    by_edge None is = refl
    by_edge (Some row) is = ap (λ b. cond b 1 0) (item_meets (λ (r : EdgeRow). r.start ≡ false) net.edges e row none is)

pub same_units : (net : NetRows) → All (λ (row : TaskRow). row.takes ≡ row.puts) net.tasks → (s t : ℕ) → takes net s t ≡ puts net s t
same_units net same s t = by_task (slice_get net.tasks t) refl
  where
    has : List ℕ → Bool
    has units = list_any (λ x. nat_eq x s) units

    by_task : (o : Option TaskRow) → slice_get net.tasks t ≡ o → option_map_or (λ (row : TaskRow). has row.takes) o false ≡ option_map_or (λ (row : TaskRow). has row.puts) o false
    by_task None is = refl
    by_task (Some row) is = ap has (item_meets (λ (r : TaskRow). r.takes ≡ r.puts) net.tasks t row same is)

-- ---- jobs inside jobs

-- a job that is plain to one depth less
pub record Below (d : ℕ) (job : TextJob) : Type 0 where
  pub below : ℕ
  pub less : d ≡ suc below
  pub plain : IsPlainTo below job

abbrev Inside : ℕ → PlanRows → Option GraphRows → Type 0
Inside d plan used = IsSomeAnd used (λ g. IsSoundGraph g × NestsPlainly d plan g)

module _ (work : GraphWork) (found : List (InputValue Item)) (inner : TextJob) where
  op_below : (d : ℕ) (op : Op) → HasSoundPipes op → OfModule (Inside d work.plan) work.plan.modules op → op_meaning work found op ≡ runs inner → Below (suc d) inner
  op_below d Input pipes uses same = absurd (cc)
  op_below d (Read number) pipes uses same = absurd (cc)
  op_below d (OnText op) pipes uses same = absurd (cc)
  op_below d Match pipes uses same = absurd (cc)
  op_below d Back pipes uses same = absurd (cc)
  op_below d (IfMore n) pipes uses same = absurd (cc)
  op_below d (IfHas word) pipes uses same = absurd (cc)
  op_below d (Route words) pipes uses same = absurd (cc)
  op_below d (Spread n each) pipes uses same =
      let text : List ℕ = text_found found in
      let is = spread_runs (nat_le (part_count n text) part_limit) (record { parts = line_parts n text; op = each }) (part_count n text) inner same in
      let few : part_count n text ≤ part_limit = le_of (part_count n text) part_limit is.1 in
      let count : length (line_parts n text) ≡ part_count n text = length-map-range_with_len (line_part n text) 0 (part_count n text) in
      let all : length (line_parts n text) ≤ part_limit = omega (arith, few, count) in
      record { below = d; less = refl; plain = subst (IsPlainTo d) (sym is.0) all }
  op_below d (Module m) pipes uses same =
      let text : List ℕ = text_found found in
      let is = module_runs (nat_le (length text) value_limit) (module_work work m text) text inner same in
      record { below = d; less = refl; plain = subst (IsPlainTo d) (sym is) (by_graph (slice_get work.plan.modules m) refl uses) }
    where
      by_graph : (o : Option GraphRows) → slice_get work.plan.modules m ≡ o → Inside d work.plan o
          → IsSoundGraph (slice_index_or work.plan.modules m work.plan.top) × NestsPlainly d work.plan (slice_index_or work.plan.modules m work.plan.top)
      by_graph None at is = absurd is
      by_graph (Some g) at is = subst (λ h. IsSoundGraph h × NestsPlainly d work.plan h) (sym (get_or_from_slice_get work.plan.modules m g work.plan.top at)) is
  op_below d (PipeOp plan) pipes uses same =
      let text : List ℕ = text_found found in
      let count : ℕ = part_count plan.chunk text in
      let is = pipe_runs (nat_le count token_limit) (pipe_work plan text) count inner same in
      let of : IsPipeWork (pipe_work plan text) = pipe_of_plan plan text pipes.0 pipes.1 (le_of count token_limit is.1) in
      record { below = d; less = refl; plain = subst (IsPlainTo d) (sym is.0) (of, few_pass plan text) }

  op_none : (op : Op) → OpensNone op → op_meaning work found op ≡ runs inner → ⊥
  op_none Input none same = cc
  op_none (Read number) none same = cc
  op_none (OnText op) none same = cc
  op_none Match none same = cc
  op_none Back none same = cc
  op_none (IfMore n) none same = cc
  op_none (IfHas word) none same = cc
  op_none (Route words) none same = cc
  op_none (Spread n each) none same = none
  op_none (Module m) none same = none
  op_none (PipeOp plan) none same = none

  by_depth : (d : ℕ) (t : ℕ) → IsSoundGraph (graph_of work) → NestsPlainly d work.plan (graph_of work) → (o : Option Op) → slice_get (graph_of work).ops t ≡ o → option_map (op_meaning work found) o ≡ Some (runs inner) → Below d inner
  by_depth d t sound nests None at same = absurd (none-some _ same)
  by_depth zero t sound nests (Some op) at same = absurd (op_none op (item_meets OpensNone (graph_of work).ops t op nests at) (same_Some _ _ same))
  by_depth (suc d) t sound nests (Some op) at same =
      op_below d op (item_meets HasSoundPipes (graph_of work).ops t op sound.pipes at) (item_meets (OfModule (Inside d work.plan) work.plan.modules) (graph_of work).ops t op nests at) (same_Some _ _ same)

text_below : (d : ℕ) (job : TextJob) (t : ℕ) (found : List (InputValue Item)) (inner : TextJob) → IsPlainTo d job → task_meaning job t found ≡ Some (runs inner) → Below d inner
text_below d (Graph work) t found inner is same = by_depth work found inner d t is.0 is.1 (slice_get (graph_of work).ops t) refl same
text_below d (Parts work) t found inner is same = absurd (parts_none (slice_get work.parts t) work.op inner same)
text_below d (Pipe work) t found inner is same = absurd (cell_runs work t found (slice_get work.ops _) inner same)

text_inner : (d : ℕ) (job : TextJob) (t : ℕ) (found : List (InputValue Item)) (inner : TextJob) → IsPlainTo d job → JobAnswers job t found (InnerJob inner) → IsInside text_plain d job t found inner
text_inner d job t found inner is answers =
    let runs_it : task_meaning job t found ≡ Some (runs inner) = inner_at_task (task_meaning job t found) inner answers in
    let less = text_below d job t found inner is runs_it in
    record { does = ap (option_and_then done_by) runs_it; below = less.below; less = less.less; such = less.plain }

-- ---- gathering

-- a plain job's run is gathered by what its tasks ended with
gathered_is : (run : FrameRun TextJob Item) (job : TextJob) → known_value job ≡ None → text_gathered job run ≡ gathered_text job (task_values (net_of job) run)
gathered_is run (Graph work) is = refl
gathered_is run (Parts work) is = refl
gathered_is run (Pipe work) is = absurd (none-some _ (sym is))

-- ---- text jobs

no_semaphores : (net : NetRows) → AreSemaphoresOf net []
no_semaphores net = record { rising = λ k below. absurd (omega (arith, below)); in_range = All-nil _ }

-- what holds of the task of a part holds of all of them
all_parts : (P : TaskRow → Type 0) (n : ℕ) → P part_row → All P (replicate n part_row)
all_parts P n is = λ k d below. subst P (sym (get_or-replicate n k part_row d (omega (arith, below, length-replicate n part_row)))) is

-- the net of so many parts
parts_sound : (n : ℕ) → n ≤ part_limit → IsSoundGraph (record { name = []; names = []; ops = []; sem_names = []; net = spread_net n })
parts_sound n few = record {
  is_net = record {
    tasks = all_parts (IsTaskOf (spread_net n)) n (record { takes = no_semaphores (spread_net n); puts = no_semaphores (spread_net n) });
    edges = All-nil _;
    sems = All-nil _;
    task_count = omega (arith, few, length-replicate n part_row);
    edge_count = omega arith;
    sem_count = omega arith;
  };
  no_first_tokens = All-nil _;
  pipes = All-nil _;
  plain = record { no_condition = all_parts (λ row. chooses row.shape ≡ false) n refl; returns = all_parts (λ row. row.takes ≡ row.puts) n refl };
}

sound_graph : (d : ℕ) (job : TextJob) → IsGraphJob text_plain d job → (g : GraphRows) × (g.net ≡ net_of job) × IsSoundGraph g
sound_graph d (Graph work) is = (graph_of work, refl, is.such.0)
sound_graph d (Parts work) is = (record { name = []; names = []; ops = []; sem_names = []; net = spread_net (length work.parts) }, refl, parts_sound (length work.parts) is.such)
sound_graph d (Pipe work) is = absurd (none-some _ (sym is.graph))

text_net : (d : ℕ) (job : TextJob) → IsGraphJob text_plain d job → IsNet (net_of job)
text_net d job is = let of = sound_graph d job is in subst IsNet of.1 of.2.is_net

text_once : (d : ℕ) (job : TextJob) → IsGraphJob text_plain d job → IsOnceNet (net_of job)
text_once d job is =
    let of = sound_graph d job is in
    subst IsOnceNet of.1 (record { strong = no_weak of.0.net of.2.plain.no_condition; no_first = no_first_token of.0.net of.2.no_first_tokens })

text_returns : (d : ℕ) (job : TextJob) → IsGraphJob text_plain d job → (s t : ℕ) → takes (net_of job) s t ≡ puts (net_of job) s t
text_returns d job is s t = let of = sound_graph d job is in subst (λ net. takes net s t ≡ puts net s t) of.1 (same_units of.0.net of.2.plain.returns s t)

-- what is known of a pipeline by itself
known_by_itself : (d : ℕ) (run : FrameRun TextJob Item) (result : Option Item) (job : TextJob) → job_of run ≡ job → IsPlainTo d job → known_value job ≡ Some result → IsKept text_job run → LeadsTo text_job run result
known_by_itself d run result (Graph work) same is known kept = absurd (none-some _ known)
known_by_itself d run result (Parts work) same is known kept = absurd (none-some _ known)
known_by_itself d run result (Pipe work) same is known kept = subst (LeadsTo text_job run) (same_Some _ _ known) (comes_to_value run work same is.0 is.1 kept)

-- text jobs without conditions are plain
pub text_plainly : IsPlainly text_job text_plain
text_plainly = record {
  net = λ d job is. text_net d job is;
  once = λ d job is. text_once d job is;
  returns = λ d job is. text_returns d job is;
  value = λ d job t found item answer is allowed. value_at_task (task_meaning job t found) item answer allowed;
  fault = λ d job t found why is allowed. fault_at_task (task_meaning job t found) why allowed;
  inner = λ d job t found inner is allowed. text_inner d job t found inner is.such allowed;
  gathers = λ d run item is gathered. ap as_value (sym (gathered_is run (job_of run) is.graph)) ∙ gather_value (text_gathered (job_of run) run) item gathered.0 gathered.1;
  gather_fault = λ d run why is fault. ap as_value (sym (gathered_is run (job_of run) is.graph)) ∙ gather_long (text_gathered (job_of run) run) why fault;
  by_itself = λ d run result is known kept. known_by_itself d run result (job_of run) refl is known kept;
}

-- ---- plans

or_left : (a b : Bool) → (a || b) ≡ false → a ≡ false
or_left true b is = is
or_left false b is = refl

or_right : (a b : Bool) → (a || b) ≡ false → b ≡ false
or_right true b is = absurd (false≢true (sym is))
or_right false b is = is

rest_run : (test : ℕ → Bool) (op : Op) (ms : List ℕ) → list_any test (run_before ms op) ≡ false → list_any test ms ≡ false
rest_run test Input ms none = none
rest_run test (Read number) ms none = none
rest_run test (OnText op) ms none = none
rest_run test Match ms none = none
rest_run test Back ms none = none
rest_run test (IfMore n) ms none = none
rest_run test (IfHas word) ms none = none
rest_run test (Route words) ms none = none
rest_run test (Spread n each) ms none = none
rest_run test (Module m) ms none = or_right (test m) (list_any test ms) none
rest_run test (PipeOp plan) ms none = none

-- a module that a task runs passes no test that none of those passes which tasks run
run_fails : (test : ℕ → Bool) (ops : List Op) (k m : ℕ) → slice_get ops k ≡ Some (Module m) → list_any test (modules_run ops) ≡ false → test m ≡ false
run_fails test [] k m at none = absurd (none-some _ at)
run_fails test (op ∷ ops) zero m at none =
    let is : op ≡ Module m = same_Some _ _ at in
    or_left (test m) (list_any test (modules_run ops)) (subst (λ o. list_any test (run_before (modules_run ops) o) ≡ false) is none)
run_fails test (op ∷ ops) (suc k) m at none = run_fails test ops k m at (rest_run test op (modules_run ops) none)

plain_here : (plan : PlanRows) (d : ℕ) (g : GraphRows) → UsesPlain d plan g → IsPlainGraph g
plain_here plan zero g uses = uses
plain_here plan (suc d) g uses = uses.0

module _ (plan : PlanRows) (rules : IsPlan plan) where
  abbrev Rules : GraphRows → Type 0
  Rules = IsGraph (length plan.texts) (length plan.modules)

  -- the pipes of a graph's operations are pipelines
  sound_pipes : (g : GraphRows) → Rules g → HasPipelines g → All HasSoundPipes g.ops
  sound_pipes g keeps pipelines = λ k op below. by_op (slice_index_or g.ops k op) (keeps.ops k op below) (pipelines k op below)
    where
      by_op : (op : Op) → IsOp (length plan.texts) (length plan.modules) op → HasPipeline op → HasSoundPipes op
      by_op Input fits has = tt
      by_op (Read number) fits has = tt
      by_op (OnText op) fits has = tt
      by_op Match fits has = tt
      by_op Back fits has = tt
      by_op (IfMore n) fits has = tt
      by_op (IfHas word) fits has = tt
      by_op (Route words) fits has = tt
      by_op (Spread n each) fits has = tt
      by_op (Module m) fits has = tt
      by_op (PipeOp plan) fits has = (fits, has)

  sound_by : (d : ℕ) (g : GraphRows) → Rules g → HasPipelines g → UsesPlain d plan g → IsSoundGraph g
  sound_by d g keeps pipelines uses = record { is_net = keeps.net; no_first_tokens = keeps.no_first_tokens; pipes = sound_pipes g keeps pipelines; plain = plain_here plan d g uses }

  module_at : (m : ℕ) → m < length plan.modules → (g : GraphRows) × (slice_get plan.modules m ≡ Some g) × Rules g × (slice_index_or (module_uses plan) m [] ≡ modules_run g.ops) × HasPipelines g
  module_at m below = (
    slice_index_or plan.modules m plan.top,
    slice_get-get_or plan.modules m plan.top below,
    rules.graphs (suc m) plan.top (omega (arith, below)),
    get_or-map (λ (graph : GraphRows). modules_run graph.ops) plan.modules m plan.top [] below,
    rules.pipelines (suc m) plan.top (omega (arith, below)),
  )

  -- what holds of each module that a graph's tasks run
  over_ops : (d : ℕ) (g : GraphRows) → Rules g → ((k m : ℕ) → slice_get g.ops k ≡ Some (Module m) → m < length plan.modules → Inside d plan (slice_get plan.modules m)) → NestsPlainly (suc d) plan g
  over_ops d g keeps inside = λ k op below. by_op k (slice_index_or g.ops k op) (slice_get-get_or g.ops k op below) (keeps.ops k op below)
    where
      by_op : (k : ℕ) (op : Op) → slice_get g.ops k ≡ Some op → IsOp (length plan.texts) (length plan.modules) op → OfModule (Inside d plan) plan.modules op
      by_op k Input at fits = tt
      by_op k (Read number) at fits = tt
      by_op k (OnText op) at fits = tt
      by_op k Match at fits = tt
      by_op k Back at fits = tt
      by_op k (IfMore n) at fits = tt
      by_op k (IfHas word) at fits = tt
      by_op k (Route words) at fits = tt
      by_op k (Spread n each) at fits = tt
      by_op k (Module m) at fits = inside k m at fits
      by_op k (PipeOp plan) at fits = tt

  -- by the rule of depth and what is used, modules are in modules to a depth, and a spread in the last
  nests : (d : ℕ) (g : GraphRows) → Rules g → has_chain (suc d) (module_uses plan) (modules_run g.ops) ≡ false → UsesPlain d plan g → NestsPlainly (suc d) plan g
  nests zero g keeps shallow uses =
      over_ops zero g keeps (λ k m at there. absurd (false≢true (sym (run_fails (λ n. has_chain zero (module_uses plan) (slice_index_or (module_uses plan) n [])) g.ops k m at shallow))))
  nests (suc e) g keeps shallow uses =
      over_ops (suc e) g keeps (λ k m at there.
      let of = module_at m there in
      let deep : has_chain (suc e) (module_uses plan) (modules_run of.0.ops) ≡ false =
      ap (has_chain (suc e) (module_uses plan)) (sym of.3) ∙ run_fails (λ n. has_chain (suc e) (module_uses plan) (slice_index_or (module_uses plan) n [])) g.ops k m at shallow in
      let plainly : UsesPlain e plan of.0 = subst (λ o. IfSome o (UsesPlain e plan)) of.1 (item_meets (OfModule (λ o. IfSome o (UsesPlain e plan)) plan.modules) g.ops k (Module m) uses.1 at) in
      subst (λ o. Inside (suc e) plan o) (sym of.1) (sound_by e of.0 of.2 of.4 plainly, nests e of.0 of.2 deep plainly))

-- a job of a plan without conditions is plain to the depth of plans
pub plain_to : (job : TextJob) → IsPlanned job → IsPlainJob job → IsPlainTo greatest_depth job
plain_to (Graph work) is plain =
    let top : graph_of work ≡ work.plan.top = ap (graph_in work.plan) is.1 in
    let keeps = is.0.graphs 0 work.plan.top (omega arith) in
    let uses : UsesPlain depth_limit work.plan work.plan.top = subst (UsesPlain depth_limit work.plan) top plain in
    subst (λ g. IsSoundGraph g × NestsPlainly greatest_depth work.plan g) (sym top)
    (sound_by work.plan is.0 depth_limit work.plan.top keeps (is.0.pipelines 0 work.plan.top (omega arith)) uses, nests work.plan is.0 depth_limit work.plan.top keeps is.0.depth uses)
plain_to (Parts work) is plain = absurd plain
plain_to (Pipe work) is plain = absurd plain

-- such a job is that of a graph
none_known : (job : TextJob) → IsPlainJob job → known_value job ≡ None
none_known (Graph work) plain = refl
none_known (Parts work) plain = absurd plain
none_known (Pipe work) plain = absurd plain

-- the last number that passes is one of them
last_passing : (test : ℕ → Bool) (a n : ℕ) (o : Option ℕ) (t : ℕ) → last_or o (filter test (range_with_len a n)) ≡ Some t → (o ≡ Some t) ⊎ (t < a + n)
last_passing test a zero o t is = inl is
last_passing test a (suc n) o t is = by_test (test a) (last_passing test (a + 1) n) is
  where
    by_test : (b : Bool) → ((p : Option ℕ) (k : ℕ) → last_or p (filter test (range_with_len (a + 1) n)) ≡ Some k → (p ≡ Some k) ⊎ (k < (a + 1) + n))
        → last_or o (cond b (a ∷ filter test (range_with_len (a + 1) n)) (filter test (range_with_len (a + 1) n))) ≡ Some t → (o ≡ Some t) ⊎ (t < a + suc n)
    by_test true rest is2 = elim (rest (Some a) t is2) [ inl here ↦ (let same : a ≡ t = same_Some _ _ here in inr (omega (arith, same))) | inr below ↦ inr (omega (arith, below)) ]
    by_test false rest is2 = elim (rest o t is2) [ inl before ↦ inl before | inr below ↦ inr (omega (arith, below)) ]

sink_below : (net : NetRows) (t : ℕ) → last_sink net ≡ Some t → t < length net.tasks
sink_below net t is = elim (last_passing (is_sink net) 0 (length net.tasks) None t is) [ inl never ↦ absurd (none-some t never) | inr below ↦ omega (arith, below) ]

next_same : (run : FrameRun TextJob Item) (job next : TextJob) → feedback_of run ≡ plain_feedback job → JobFollows job run next → next ≡ plain_next job
next_same run (Graph work) next same follows = follows ∙ ap (λ text. Graph (record work { input = text })) same
next_same run (Parts work) next same follows = absurd follows
next_same run (Pipe work) next same follows = absurd follows

-- a run that is kept of such a job reports what one thread does
pub same_report : (run : FrameRun TextJob Item) → ReportsPlainly run
same_report run plain is kept =
    let plainly : IsPlainRun text_job run (text_answer (job_of run)) = runs_plainly text_job text_plain text_plainly run greatest_depth (record { such = plain_to (job_of run) is plain; graph = none_known (job_of run) plain }) kept in
    record {
      fine = plainly.fine;
      next = λ reason next follows.
          let net : NetRows = net_of (job_of run) in
          let value : (o : Option ℕ) → last_sink net ≡ o → option_and_then (last_value (journal_of run) (values_of run)) o ≡ option_and_then (plain_value net (text_answer (job_of run))) o =
          λ o. elim o as (λ p. last_sink net ≡ p → option_and_then (last_value (journal_of run) (values_of run)) p ≡ option_and_then (plain_value net (text_answer (job_of run))) p) [
            | None ↦ λ is. refl
            | Some t ↦ λ is. plainly.values reason t (sink_below net t is)
          ] in
          next_same run (job_of run) next (ap (λ o. option_map_or item_text o []) (value (last_sink net) refl)) follows;
      report = λ reason.
          let net : NetRows = net_of (job_of run) in
          let names : List (List ℕ) = names_of (job_of run) in
          let values : report names net (journal_of run) (values_of run) ≡ plain_report (job_of run) =
          flat_map_below _ _ 0 (length net.tasks) (λ t below. ap (task_report net t (slice_index_or names t [])) (plainly.values reason t (omega (arith, below)))) in
          ap (λ r. report names net (journal_of run) (values_of run) ++ reason_line (job_plan (job_of run)) r) reason ∙ append-nil _ ∙ values;
    }
