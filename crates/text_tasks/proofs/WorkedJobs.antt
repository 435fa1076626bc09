-- The definitions of text jobs, computed on small ones.
use Rattle.std.proofs.Common.{◌≡◌, ℕ, true, false, List, [], ◌∷◌, length, Some, None, pos, refl, arith, codes, ap, sym, ◌∙◌}
use Rattle.std.specs.Prelude.{nat_le, if◌then◌else◌}
use Rattle.std.specs.Int.{div_ceil}
use Rattle.std.specs.Fmt.{digits}
use Rattle.std.specs.Ptr.{Ptr}
use Rattle.task_graph.specs.declared.net.Shape.TheVariants.{Plain, Choice}
use Rattle.journal_rules.specs.declared.entry.Cause.TheVariants.{Source}
use Rattle.journal_rules.specs.declared.entry.Entry.{Entry}
use Rattle.journal_rules.specs.declared.entry.Entry.TheVariants.{Start, End}
use Rattle.journal_rules.specs.declared.entry.Why.TheVariants.{Long, Wide, Unmet, Inner, OverRelease}
use Rattle.join_words.specs.Ins.{InputValue, value, first, nothing}
use Rattle.run_frame.specs.declared.job.Answer.TheVariants.{All as Each, None as NoneOf, Indices}
use Rattle.run_frame.specs.declared.job.Done.TheVariants.{Value, Inner as InnerJob}
use Rattle.run_frame.specs.declared.run.ValueRow.{ValueRow}
use Rattle.run_frame.specs.declared.run.FrameRun.{FrameRun}
use Rattle.run_frame.specs.NestedRule.{job_of, journal_of}
use Rattle.run_frame.specs.Runs.{values_of}
use Rattle.graph_plans.specs.declared.ops.Op.TheVariants.{Input, Read, Text as OnText, Match, Back, IfMore, IfHas, Route, Spread, Module}
use Rattle.graph_plans.specs.declared.ops.TextOp.TheVariants.{Pass, Keep, Without, Head, Tail, Skip, Sort, Uniq, Count, Tally}
use Rattle.graph_plans.specs.PlanRows.{IsPlan, PlanRows}
use Rattle.nested_runs.specs.Spreads.{spread_net}
use Rattle.text_ops.specs.LineParts.{line_parts}
use Rattle.text_ops.specs.Lines.{IsNormal, lines_of}
use Rattle.text_tasks.specs.declared.item.Item.{Item}
use Rattle.text_tasks.specs.declared.item.Item.TheVariants.{Text}
use Rattle.text_tasks.specs.declared.job.TextJob.{TextJob}
use Rattle.text_tasks.specs.declared.job.TextJob.TheVariants.{Graph, Parts, Pipe}
use Rattle.text_tasks.specs.Items.{item_text}
use Rattle.text_tasks.specs.ValueTexts.{IsValueText}
use Rattle.text_tasks.specs.GraphWork.{GraphWork, IsWork, first_work, graph_in, graph_of, module_work}
use Rattle.text_tasks.specs.PartsWork.{IsPartsWork, PartsWork}
use Rattle.text_tasks.specs.FoundTexts.{found_text, text_found, left_found, right_found}
use Rattle.text_tasks.specs.OpMeaning.{hands_over, has_more, module_meaning, occurring, op_meaning, runs, spread_meaning, text_op_value, too_wide}
use Rattle.text_tasks.specs.JobMeaning.{AnswersAs, FaultsAs, FaultsWide, JobAnswers, JobFaults, JobFollows, IsTextJob, feedback_of, gathered_text, job_plan, limit_of, names_of, net_of, task_meaning, text_gathered, text_job}
use Rattle.text_tasks.specs.Sinks.{is_sink, last_sink, last_sink_below, sink_text, sink_texts, task_values}
use Rattle.text_tasks.specs.inside.WorkedPlans.{worked_module, worked_modules, worked_net, worked_plan, worked_texts, worked_work}
use Rattle.text_tasks.proofs.PlanLemmas.{worked_is_work}

-- Values are normal, and not too long.
text_of_item : item_text (Text (codes "x\n")) ≡ codes "x\n"
text_of_item = refl

ended_value : IsValueText (codes "x\n")
ended_value = record { normal = refl; short = omega arith }

unended_value : ¬ IsValueText (codes "x")
unended_value is = let normal : false ≡ true = is.normal in absurd (cc)

value_at_the_limit : (text : List ℕ) → IsNormal text → length text ≡ 16777216 → IsValueText text
value_at_the_limit text normal long = record { normal = normal; short = omega arith }

value_over_the_limit : (text : List ℕ) → IsNormal text → length text ≡ 16777217 → ¬ IsValueText text
value_over_the_limit text normal long is = absurd (omega (arith, is.short))

-- A job's plan, texts and numbers.
abbrev work : GraphWork
work = worked_work Match

first_of_a_plan : first_work (worked_plan Match) worked_texts 10 ≡ record { plan = worked_plan Match; texts = worked_texts; «module» = None; input = []; limit = 10 }
first_of_a_plan = refl

graph_is_the_module's : graph_of (record work { plan = worked_modules Match; «module» = Some 0 }) ≡ worked_module
graph_is_the_module's = refl

graph_of_no_module : graph_in (worked_modules Match) (Some 1) ≡ (worked_plan Match).top
graph_of_no_module = refl

started_module : module_work work 0 (codes "x\n") ≡ record { plan = worked_plan Match; texts = worked_texts; «module» = Some 0; input = codes "x\n"; limit = 10 }
started_module = refl

graph_is_the_top_one : graph_of (record work { plan = record (worked_plan Match) { modules = (worked_plan Back).top ∷ [] } }) ≡ (worked_plan Match).top
graph_is_the_top_one = refl

small_work : IsWork work
small_work = worked_is_work Match tt tt

work_at_its_limit : IsWork (record work { limit = 1000000 })
work_at_its_limit = record {
  plan = small_work.plan;
  text_count = small_work.text_count;
  texts = small_work.texts;
  input = small_work.input;
  in_plan = small_work.in_plan;
  starts = omega arith;
}

work_over_its_limit : ¬ IsWork (record work { limit = 1000001 })
work_over_its_limit is = absurd (omega (arith, is.starts))

plan_against_the_rules : ¬ IsWork (record work { plan = record (worked_plan Match) { top = record (worked_plan Match).top { name = codes "t" } } })
plan_against_the_rules is = let unnamed = is.plan.name in absurd (cc)

text_missing : ¬ IsWork (record work { texts = codes "x\n" ∷ [] })
text_missing is = absurd (omega (arith, is.text_count))

text_too_many : ¬ IsWork (record work { texts = codes "x\n" ∷ codes "y\n" ∷ codes "z\n" ∷ [] })
text_too_many is = absurd (omega (arith, is.text_count))

unended_text : ¬ IsWork (record work { texts = codes "x\n" ∷ codes "y" ∷ [] })
unended_text is = absurd (unended_y (is.texts 1 [] (omega arith)))
  where
    unended_y : ¬ IsValueText (codes "y")
    unended_y is = let normal : false ≡ true = is.normal in absurd (cc)

unended_input : ¬ IsWork (record work { input = codes "x" })
unended_input is = absurd (unended_value is.input)

work_of_no_module : ¬ IsWork (record work { «module» = Some 0 })
work_of_no_module is = absurd (omega (arith, is.in_plan))

work_of_a_module : (plan : PlanRows) → IsPlan plan → length plan.texts ≡ 0 → length plan.modules ≡ 1 → IsWork (record { plan = plan; texts = []; «module» = Some 0; input = []; limit = 10 })
work_of_a_module plan rules none one = record {
  plan = rules;
  text_count = omega (arith, none);
  texts = λ k d below. absurd (omega (arith, below));
  input = record { normal = refl; short = omega arith };
  in_plan = omega (arith, one);
  starts = omega arith;
}

-- A task's text is what its edges hold, in their order; what is no value is empty.
abbrev x : InputValue Item
x = value (Text (codes "x\n"))

abbrev y : InputValue Item
y = value (Text (codes "y\nz\n"))

text_of_all_edges : text_found (x ∷ first ∷ nothing ∷ y ∷ x ∷ []) ≡ codes "x\ny\nz\nx\n"
text_of_all_edges = refl

text_of_no_edge : text_found [] ≡ []
text_of_no_edge = refl

token_is_empty : found_text first ≡ []
token_is_empty = refl

nothing_is_empty : found_text nothing ≡ []
nothing_is_empty = refl

left_is_the_first : left_found (x ∷ y ∷ []) ≡ codes "x\n"
left_is_the_first = refl

left_of_a_token : left_found (first ∷ y ∷ []) ≡ []
left_of_a_token = refl

left_of_no_edge : left_found [] ≡ []
left_of_no_edge = refl

right_is_the_others : right_found (x ∷ y ∷ nothing ∷ x ∷ []) ≡ codes "y\nz\nx\n"
right_is_the_others = refl

right_of_one_edge : right_found (x ∷ []) ≡ []
right_of_one_edge = refl

right_of_no_edge : right_found [] ≡ []
right_of_no_edge = refl

-- What each operation on one text makes of four lines.
abbrev four : List ℕ
four = codes "b\na\nb\nb\n"

passed : text_op_value Pass four ≡ codes "b\na\nb\nb\n"
passed = refl

kept : text_op_value (Keep (codes "a")) four ≡ codes "a\n"
kept = refl

left_out : text_op_value (Without (codes "a")) four ≡ codes "b\nb\nb\n"
left_out = refl

headed : text_op_value (Head 1) four ≡ codes "b\n"
headed = refl

tailed : text_op_value (Tail 3) four ≡ codes "a\nb\nb\n"
tailed = refl

skipped : text_op_value (Skip 2) four ≡ codes "b\nb\n"
skipped = refl

sorted : text_op_value Sort four ≡ codes "a\nb\nb\nb\n"
sorted = refl

without_repeat : text_op_value Uniq four ≡ codes "b\na\nb\n"
without_repeat = refl

counted : text_op_value Count four ≡ codes "4\n"
unfolding digits
counted = refl

tallied : text_op_value Tally four ≡ codes "1 a\n3 b\n"
unfolding digits
tallied = refl

-- More than n lines, and the words that occur.
more_lines : has_more 1 (codes "y\nz\n") ≡ true
more_lines = refl

as_many_lines : has_more 2 (codes "y\nz\n") ≡ false
as_many_lines = refl

fewer_lines : has_more 3 (codes "y\nz\n") ≡ false
fewer_lines = refl

words_that_occur : occurring (codes "z" ∷ codes "x" ∷ [] ∷ codes "z" ∷ codes "y\nz" ∷ []) (codes "y\nz\n") ≡ pos 0 ∷ pos 2 ∷ pos 3 ∷ []
words_that_occur = refl

no_word_occurs_in_no_line : occurring (codes "z" ∷ [] ∷ []) [] ≡ []
no_word_occurs_in_no_line = refl

-- What the task of each operation hands over.
input_handed_over : op_meaning (record work { input = codes "i\n" }) (x ∷ []) Input ≡ hands_over (codes "i\n") Each
input_handed_over = refl

text_read : op_meaning work (x ∷ []) (Read 1) ≡ hands_over (codes "y\nz\n") Each
text_read = refl

no_text_read : op_meaning work (x ∷ []) (Read 2) ≡ hands_over [] Each
no_text_read = refl

lines_of_all_edges : op_meaning work (y ∷ nothing ∷ x ∷ []) (OnText (Tail 2)) ≡ hands_over (codes "z\nx\n") Each
lines_of_all_edges = refl

lines_matched : op_meaning work (value (Text (codes "k 1\nl\n")) ∷ value (Text (codes "l 2\n")) ∷ value (Text (codes "k 3\nk 4\n")) ∷ []) Match ≡ hands_over (codes "k 1 3\nl 2\n") Each
lines_matched = refl

text_handed_back : op_meaning work (y ∷ nothing ∷ x ∷ []) Back ≡ hands_over (codes "y\nz\nx\n") (Indices (pos 0 ∷ []))
text_handed_back = refl

more_lines_go_first : op_meaning work (y ∷ nothing ∷ x ∷ []) (IfMore 2) ≡ hands_over (codes "y\nz\nx\n") (Indices (pos 0 ∷ []))
more_lines_go_first = refl

as_many_lines_go_second : op_meaning work (y ∷ nothing ∷ x ∷ []) (IfMore 3) ≡ hands_over (codes "y\nz\nx\n") (Indices (pos 1 ∷ []))
as_many_lines_go_second = refl

word_goes_first : op_meaning work (y ∷ nothing ∷ x ∷ []) (IfHas (codes "x")) ≡ hands_over (codes "y\nz\nx\n") (Indices (pos 0 ∷ []))
word_goes_first = refl

no_word_goes_second : op_meaning work (y ∷ nothing ∷ x ∷ []) (IfHas (codes "w")) ≡ hands_over (codes "y\nz\nx\n") (Indices (pos 1 ∷ []))
no_word_goes_second = refl

routed : op_meaning work (y ∷ nothing ∷ x ∷ []) (Route (codes "w" ∷ codes "x" ∷ codes "x" ∷ codes "z" ∷ [])) ≡ hands_over (codes "y\nz\nx\n") (Indices (pos 1 ∷ pos 2 ∷ pos 3 ∷ []))
routed = refl

-- A spread runs the parts of its text, and a module its graph.
abbrev five : InputValue Item
five = value (Text (codes "1\n2\n3\n4\n5\n"))

abbrev parts : PartsWork
parts = record { parts = codes "1\n2\n" ∷ codes "3\n4\n" ∷ codes "5\n" ∷ []; op = Head 1 }

parts_run : op_meaning work (five ∷ []) (Spread 2 (Head 1)) ≡ runs (Parts parts)
parts_run = refl

no_part_run : op_meaning work [] (Spread 2 Sort) ≡ runs (Parts (record { parts = []; op = Sort }))
no_part_run = refl

parts_at_the_limit : (text : List ℕ) → length (lines_of text) ≡ 65536 → spread_meaning 1 Pass text ≡ runs (Parts (record { parts = line_parts 1 text; op = Pass }))
parts_at_the_limit text many = ap (λ n. if nat_le (div_ceil n 1) 65536 then runs (Parts (record { parts = line_parts 1 text; op = Pass })) else too_wide (div_ceil n 1)) many

too_many_parts : (text : List ℕ) → length (lines_of text) ≡ 65537 → spread_meaning 1 Pass text ≡ too_wide 65537
too_many_parts text many = ap (λ n. if nat_le (div_ceil n 1) 65536 then runs (Parts (record { parts = line_parts 1 text; op = Pass })) else too_wide (div_ceil n 1)) many

module_run : op_meaning work (x ∷ y ∷ []) (Module 0) ≡ runs (Graph (record work { «module» = Some 0; input = codes "x\ny\nz\n" }))
module_run = refl

module_text_at_the_limit : (text : List ℕ) → length text ≡ 16777216 → module_meaning work 0 text ≡ runs (Graph (module_work work 0 text))
module_text_at_the_limit text long = ap (λ n. if nat_le n 16777216 then runs (Graph (module_work work 0 text)) else hands_over text Each) long

module_text_too_long : (text : List ℕ) → length text ≡ 16777217 → module_meaning work 0 text ≡ hands_over text Each
module_text_too_long text long = ap (λ n. if nat_le n 16777216 then runs (Graph (module_work work 0 text)) else hands_over text Each) long

-- The task of a part puts the part through the operation, whatever it finds.
first_part : task_meaning (Parts parts) 0 (x ∷ []) ≡ Some (hands_over (codes "1\n") Each)
first_part = refl

last_part : task_meaning (Parts parts) 2 [] ≡ Some (hands_over (codes "5\n") Each)
last_part = refl

part_behind_the_last : task_meaning (Parts parts) 3 [] ≡ None
part_behind_the_last = refl

task_of_a_graph : task_meaning (Graph (worked_work Input)) 0 [] ≡ Some (hands_over (codes "x\n") Each)
task_of_a_graph = refl

task_behind_the_last : task_meaning (Graph (worked_work Input)) 4 [] ≡ None
task_behind_the_last = refl

net_of_parts : net_of (Parts parts) ≡ spread_net 3
net_of_parts = refl

names_of_parts : names_of (Parts parts) ≡ []
names_of_parts = refl

plan_of_a_job : job_plan (Graph work) ≡ Some (worked_plan Match)
plan_of_a_job = refl

plan_of_parts : job_plan (Parts parts) ≡ None
plan_of_parts = refl

a_start_for_each_part : limit_of (Parts parts) ≡ 3
a_start_for_each_part = refl

a_start_for_no_part : limit_of (Parts (record { parts = []; op = Sort })) ≡ 1
a_start_for_no_part = refl

few_parts : IsTextJob (Parts parts)
few_parts = omega arith

as_many_parts_as_may_be : (work : PartsWork) → length work.parts ≡ 65536 → IsPartsWork work
as_many_parts_as_may_be work many = omega (arith, many)

more_parts_than_may_be : (work : PartsWork) → length work.parts ≡ 65537 → ¬ IsTextJob (Parts work)
more_parts_than_may_be work many is = absurd (omega (arith, many, is))

no_round_follows_parts : (run : FrameRun TextJob Item) (next : TextJob) → ¬ JobFollows (Parts parts) run next
no_round_follows_parts run next follows = follows

-- Which answers and faults a job in a task's place has, and too many parts.
job_answered : AnswersAs (runs (Parts parts)) (InnerJob (Parts parts))
job_answered = refl

another_job_answered : ¬ AnswersAs (runs (Parts parts)) (InnerJob (Graph work))
another_job_answered is = let same : Graph work ≡ Parts parts = is in absurd (cc)

value_in_place_of_a_job : ¬ AnswersAs (runs (Parts parts)) (Value (Text []) Each)
value_in_place_of_a_job is = is

fault_in_place_of_a_job : (n : ℕ) → ¬ FaultsAs (runs (Parts parts)) (Wide n)
fault_in_place_of_a_job n is = is

value_of_too_many_parts : ¬ AnswersAs (too_wide 65537) (Value (Text []) Each)
value_of_too_many_parts is = is

job_of_too_many_parts : ¬ AnswersAs (too_wide 65537) (InnerJob (Parts parts))
job_of_too_many_parts is = is

fault_of_too_many_parts : FaultsAs (too_wide 65537) (Wide 65537)
fault_of_too_many_parts = refl

fault_of_another_number : ¬ FaultsAs (too_wide 65537) (Wide 65538)
fault_of_another_number is = absurd (omega (arith, is))

long_is_not_wide : ¬ FaultsWide 65537 (Long 65537)
long_is_not_wide is = is

unmet_is_not_wide : ¬ FaultsWide 65537 (Unmet 65537)
unmet_is_not_wide is = is

inner_is_not_wide : ¬ FaultsWide 65537 Inner
inner_is_not_wide is = is

unit_is_not_wide : ¬ FaultsWide 65537 (OverRelease 0)
unit_is_not_wide is = is

part_answered : JobAnswers (Parts parts) 1 [] (Value (Text (codes "3\n")) Each)
part_answered = (refl, refl, omega arith)

long_part_faults : (text : List ℕ) → length text ≡ 16777217 → JobFaults (Parts (record { parts = text ∷ []; op = Pass })) 0 [] (Long 16777217)
long_part_faults text long = (sym long, omega arith)

-- Which answers and faults a value has.
answered : AnswersAs (hands_over (codes "x\n") Each) (Value (Text (codes "x\n")) Each)
answered = (refl, refl, omega arith)

answered_at_the_limit : (text : List ℕ) → length text ≡ 16777216 → AnswersAs (hands_over text Each) (Value (Text text) Each)
answered_at_the_limit text long = (refl, refl, omega arith)

another_value : ¬ AnswersAs (hands_over (codes "x\n") Each) (Value (Text []) Each)
another_value is = let lengths : 0 ≡ 2 = ap (λ item. length (item_text item)) is.0 in absurd (omega (arith, lengths))

another_answer : ¬ AnswersAs (hands_over (codes "x\n") Each) (Value (Text (codes "x\n")) NoneOf)
another_answer is = let same : NoneOf ≡ Each = is.1 in absurd (cc)

long_answer : (text : List ℕ) → length text ≡ 16777217 → ¬ AnswersAs (hands_over text Each) (Value (Text text) Each)
long_answer text long is = absurd (omega (arith, is.2))

no_job_answered : ¬ AnswersAs (hands_over (codes "x\n") Each) (InnerJob (Graph work))
no_job_answered is = is

long_fault : (text : List ℕ) → length text ≡ 16777217 → FaultsAs (hands_over text Each) (Long 16777217)
long_fault text long = (omega arith, omega arith)

short_fault : (text : List ℕ) → length text ≡ 16777216 → ¬ FaultsAs (hands_over text Each) (Long 16777216)
short_fault text long is = absurd (omega (arith, is.1))

fault_of_another_length : (text : List ℕ) → length text ≡ 16777217 → ¬ FaultsAs (hands_over text Each) (Long 16777218)
fault_of_another_length text long is = absurd (omega (arith, is.0))

wide_fault : (text : List ℕ) → ¬ FaultsAs (hands_over text Each) (Wide 65537)
wide_fault text is = is

unmet_fault : (text : List ℕ) → ¬ FaultsAs (hands_over text Each) (Unmet 0)
unmet_fault text is = is

inner_fault : (text : List ℕ) → ¬ FaultsAs (hands_over text Each) Inner
inner_fault text is = is

unit_fault : (text : List ℕ) → ¬ FaultsAs (hands_over text Each) (OverRelease 0)
unit_fault text is = is

-- A task does what its operation says.
last_task_answers : JobAnswers (Graph (worked_work Back)) 3 (x ∷ []) (Value (Text (codes "x\n")) (Indices (pos 0 ∷ [])))
last_task_answers = (refl, refl, omega arith)

first_task_answers : JobAnswers (Graph (worked_work Back)) 0 [] (Value (Text (codes "x\n")) Each)
first_task_answers = (refl, refl, omega arith)

another_text_answered : ¬ JobAnswers (Graph (worked_work Back)) 0 [] (Value (Text (codes "y\nz\n")) Each)
another_text_answered is = let lengths : 4 ≡ 2 = ap (λ item. length (item_text item)) is.0 in absurd (omega (arith, lengths))

no_task_answers : ¬ JobAnswers (Graph (worked_work Back)) 4 (x ∷ []) (Value (Text (codes "x\n")) Each)
no_task_answers is = is

short_task_faults : ¬ JobFaults (Graph (worked_work (Read 1))) 3 [] (Long 4)
short_task_faults is = absurd (omega (arith, is.1))

long_task_faults : (text : List ℕ) → length text ≡ 16777217 → JobFaults (Graph (record (worked_work Input) { input = text })) 3 [] (Long 16777217)
long_task_faults text long = (omega arith, omega arith)

no_task_faults : (text : List ℕ) → ¬ JobFaults (Graph (worked_work Input)) 4 [] (Long 16777217)
no_task_faults text is = is

net_of_a_job : net_of (Graph (worked_work Back)) ≡ worked_net Choice
net_of_a_job = refl

names_of_a_job : names_of (Graph work) ≡ codes "a" ∷ codes "b" ∷ codes "c" ∷ codes "d" ∷ []
names_of_a_job = refl

limit_of_a_job : limit_of (Graph work) ≡ 10
limit_of_a_job = refl

small_job : IsTextJob (Graph work)
small_job = small_work

no_job : ¬ IsTextJob (Graph (record work { «module» = Some 0 }))
no_job is = work_of_no_module is

-- The last task that leads to no other.
leads_nowhere : is_sink (worked_net Plain) 3 ≡ true
leads_nowhere = refl

leads_on : is_sink (worked_net Plain) 1 ≡ false
leads_on = refl

none_before_the_last : last_sink_below (worked_net Plain) 3 ≡ None
none_before_the_last = refl

last_of_two : last_sink (record (worked_net Plain) { edges = [] }) ≡ Some 3
last_of_two = refl

only_one : last_sink (worked_net Plain) ≡ Some 3
only_one = refl

none_in_no_net : last_sink (record { tasks = []; edges = []; sems = [] }) ≡ None
none_in_no_net = refl

-- What a run hands to the next round: the value of the last End of the last task, wherever that End stands.
abbrev at : Ptr → ℕ → List ℕ → ValueRow Item
at ptr place text = record { place = place; value = record { ptr = ptr; value = Text text } }

abbrev ends : List Entry
ends = Start 3 Source [] ∷ End 0 [] false ∷ Start 3 Source [] ∷ End 2 [] false ∷ Start 0 Source [] ∷ End 4 (0 ∷ []) false ∷ []

abbrev one_end : List Entry
one_end = Start 0 Source [] ∷ End 0 (0 ∷ []) false ∷ Start 3 Source [] ∷ []

abbrev values : Ptr → List (ValueRow Item)
values ptr = at ptr 1 (codes "x\n") ∷ at ptr 3 (codes "z\n") ∷ at ptr 5 (codes "y\n") ∷ []

fed_back : (run : FrameRun TextJob Item) (ptr : Ptr) → job_of run ≡ Graph work → journal_of run ≡ ends → values_of run ≡ values ptr → feedback_of run ≡ codes "z\n"
fed_back run ptr job journal held = rw (job, journal, held) refl

nothing_fed_back : (run : FrameRun TextJob Item) → job_of run ≡ Graph work → journal_of run ≡ one_end → feedback_of run ≡ []
nothing_fed_back run job journal = rw (job, journal) refl

next_round : (run : FrameRun TextJob Item) → feedback_of run ≡ codes "z\n" → JobFollows (Graph work) run (Graph (record work { input = codes "z\n" }))
next_round run is = rw is refl

next_round_of_another_text : (run : FrameRun TextJob Item) → feedback_of run ≡ codes "z\n" → ¬ JobFollows (Graph work) run (Graph work)
next_round_of_another_text run is next = absurd (omega (arith, lengths))
  where
    input_of : TextJob → List ℕ
    input_of (Graph job) = job.input
    input_of (Parts job) = []
    input_of (Pipe job) = []

    lengths : ◌≡◌ {A = ℕ} 0 2
    lengths = ap (λ job. length (input_of job)) next ∙ ap length is

next_round_of_another_limit : (run : FrameRun TextJob Item) → ¬ JobFollows (Graph work) run (Graph (record work { input = feedback_of run; limit = 11 }))
next_round_of_another_limit run next = absurd (omega (arith, limits))
  where
    limits : ◌≡◌ {A = ℕ} 11 10
    limits = ap limit_of next

-- A run is gathered to what the tasks ended with that lead to no other, in their order.
values_of_tasks : (run : FrameRun TextJob Item) (ptr : Ptr) → journal_of run ≡ ends → values_of run ≡ values ptr → task_values (worked_net Plain) run ≡ Some (Text (codes "y\n")) ∷ None ∷ None ∷ Some (Text (codes "z\n")) ∷ []
values_of_tasks run ptr journal held = rw (journal, held) refl

added_by_a_sink : sink_text (worked_net Plain) 3 (Some (Text (codes "x\n"))) ≡ codes "x\n"
added_by_a_sink = refl

added_without_an_end : sink_text (worked_net Plain) 3 None ≡ []
added_without_an_end = refl

nothing_added_by_others : sink_text (worked_net Plain) 2 (Some (Text (codes "x\n"))) ≡ []
nothing_added_by_others = refl

added_by_no_task : sink_texts (worked_net Plain) 4 [] ≡ []
added_by_no_task = refl

added_from_a_task_on : sink_texts (worked_net Plain) 2 (Some (Text (codes "x\n")) ∷ Some (Text (codes "y\n")) ∷ []) ≡ codes "y\n"
added_from_a_task_on = refl

gathered_in_order : gathered_text (Parts (record { parts = codes "a\n" ∷ codes "b\n" ∷ codes "c\n" ∷ []; op = Pass })) (Some (Text (codes "x\n")) ∷ None ∷ Some (Text (codes "y\n")) ∷ []) ≡ codes "x\ny\n"
gathered_in_order = refl

gathered_from_a_run : (run : FrameRun TextJob Item) (ptr : Ptr) → journal_of run ≡ ends → values_of run ≡ values ptr → text_gathered (Graph work) run ≡ codes "z\n"
gathered_from_a_run run ptr journal held = rw (journal, held) refl

-- The meaning of text jobs has these parts.
meaning_of_a_job : (text_job.net (Graph work) ≡ worked_net Plain) × (text_job.limit (Graph work) ≡ 10)
meaning_of_a_job = (refl, refl)

answer_of_a_job : text_job.answers (Graph (worked_work Back)) 3 (x ∷ []) (Value (Text (codes "x\n")) (Indices (pos 0 ∷ [])))
answer_of_a_job = last_task_answers

fault_of_a_job : (text : List ℕ) → length text ≡ 16777217 → text_job.faults (Graph (record (worked_work Input) { input = text })) 3 [] (Long 16777217)
fault_of_a_job = long_task_faults

gathered_of_a_job : (run : FrameRun TextJob Item) (ptr : Ptr) → journal_of run ≡ ends → values_of run ≡ values ptr → text_job.gathers (Graph work) run (Text (codes "z\n"))
gathered_of_a_job run ptr journal held = rw (journal, held) (refl, omega arith)

another_text_gathered : (run : FrameRun TextJob Item) (ptr : Ptr) → journal_of run ≡ ends → values_of run ≡ values ptr → ¬ text_job.gathers (Graph work) run (Text [])
another_text_gathered run ptr journal held is = let lengths : 0 ≡ 2 = ap (λ item. length (item_text item)) (rw (journal, held) at is.0) in absurd (omega (arith, lengths))

long_text_gathered : (run : FrameRun TextJob Item) (item : Item) → length (text_gathered (Graph work) run) ≡ 16777217 → ¬ text_job.gathers (Graph work) run item
long_text_gathered run item long is = absurd (omega (arith, long, is.1))

fault_of_gathering : (run : FrameRun TextJob Item) → length (text_gathered (Graph work) run) ≡ 16777217 → text_job.gather_faults (Graph work) run (Long 16777217)
fault_of_gathering run long = (sym long, omega arith)

no_fault_of_gathering : (run : FrameRun TextJob Item) → length (text_gathered (Graph work) run) ≡ 16777216 → ¬ text_job.gather_faults (Graph work) run (Long 16777216)
no_fault_of_gathering run long is = absurd (omega (arith, is.1))

next_job : (run : FrameRun TextJob Item) → feedback_of run ≡ codes "z\n" → text_job.follows (Graph work) run (Graph (record work { input = codes "z\n" }))
next_job = next_round
