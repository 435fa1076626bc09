-- What a run is gathered to, task by task.
use Rattle.std.proofs.Common.{◌≡◌, ℕ, suc, ◌+◌, ◌<◌, true, cond, List, [], ◌∷◌, ◌++◌, ◌≤◌, length, drop, get_or, Option, Some, None, refl, sym, ap, ◌∙◌, arith, append-nil, drop-cons}
use Rattle.std.specs.Global.{Global}
use Rattle.std.specs.declared.sync.Arc.{Arc}
use Rattle.std.specs.Option.{option_and_then, option_map_or}
use Rattle.std.proofs.lemmas.List.Concat.{flat_map-append}
use Rattle.std.proofs.lemmas.List.FromFn.{get_or-map-range_with_len, length-map-range_with_len}
use Rattle.std.proofs.lemmas.List.{drop_all}
use Rattle.task_graph.specs.NetRows.{NetRows}
use Rattle.run_frame.specs.LastEnds.{is_end_of, last_end, last_value}
use Rattle.run_frame.specs.NestedRule.{journal_of}
use Rattle.run_frame.specs.Runs.{value_at, values_of}
use Rattle.run_frame.specs.declared.run.FrameRun.{FrameRun}
use Rattle.text_tasks.specs.declared.gathered.LastValues.{LastValues}
use Rattle.text_tasks.specs.declared.item.Item.{Item}
use Rattle.text_tasks.specs.declared.job.TextJob.{TextJob}
use Rattle.text_tasks.specs.Items.{item_text}
use Rattle.text_tasks.specs.Sinks.{is_sink, sink_text, sink_texts, task_values}
use Rattle.text_tasks.specs.inside.Gathering.{AreLastValues, AreValuesOf, all_of, last_held, value_held}
use Rattle.text_tasks.proofs.LastLemmas.{last_within}

-- ---- the last value of a task

-- where the values are put down an End's is found at its place
pub value_is_held : (run : FrameRun TextJob Item) (values : List (Option (Arc Item Global))) (end : Option ℕ) → AreValuesOf run values → ((n : ℕ) → end ≡ Some n → n < length (journal_of run)) → option_and_then (value_held values) end ≡ option_and_then (value_at (values_of run)) end
value_is_held run values None are within = refl
value_is_held run values (Some n) are within = are.each n (within n refl)

-- the value of a task's last End is put down
pub last_value_held : (run : FrameRun TextJob Item) (tasks : ℕ) (last : LastValues) (t : ℕ) → AreLastValues run tasks last → t < tasks → last_held last t ≡ last_value (journal_of run) (values_of run) t
last_value_held run tasks last t are below =
    ap (option_and_then (value_held last.values.items)) (are.ends t below)
    ∙ value_is_held run last.values.items (last_end (journal_of run) t) are.values (last_within (is_end_of (journal_of run) t) (length (journal_of run)))

-- ---- what tasks add

pub value_added : (net : NetRows) (t : ℕ) (value : Option Item) → is_sink net t ≡ true → sink_text net t value ≡ option_map_or item_text value []
value_added net t value is = ap (λ b. cond b (option_map_or item_text value []) []) is

-- a text behind others
pub all_of_put : (texts : List (List ℕ)) (text : List ℕ) → all_of (texts ++ text ∷ []) ≡ all_of texts ++ text
all_of_put texts text = flat_map-append (λ t. t) texts (text ∷ []) ∙ ap (λ l. all_of texts ++ l) (append-nil text)

-- the first of some texts, and the others
pub all_of-next : (texts : List (List ℕ)) (i : ℕ) (d : List ℕ) → i < length texts → all_of (drop i texts) ≡ get_or texts i d ++ all_of (drop (i + 1) texts)
all_of-next texts i d below =
    let next : i + 1 ≡ suc i = omega arith in
    ap all_of (drop-cons texts i d below) ∙ ap (λ k. get_or texts i d ++ all_of (drop k texts)) (sym next)

pub all_of-end : (texts : List (List ℕ)) (i : ℕ) → length texts ≤ i → all_of (drop i texts) ≡ []
all_of-end texts i past = ap all_of (drop_all i texts past)

-- what the tasks from one on add is what it adds and what those behind it do
pub sink_texts-next : (net : NetRows) (run : FrameRun TextJob Item) (t : ℕ) → t < length net.tasks → sink_texts net t (drop t (task_values net run)) ≡ sink_text net t (last_value (journal_of run) (values_of run) t) ++ sink_texts net (t + 1) (drop (t + 1) (task_values net run))
sink_texts-next net run t below =
    let next : t + 1 ≡ suc t = omega arith in
    let long : t < length (task_values net run) = omega (arith, below, length-map-range_with_len (last_value (journal_of run) (values_of run)) 0 (length net.tasks)) in
    let here : get_or (task_values net run) t None ≡ last_value (journal_of run) (values_of run) t = get_or-map-range_with_len (last_value (journal_of run) (values_of run)) 0 (length net.tasks) t t None below (omega arith) in
    ap (sink_texts net t) (drop-cons (task_values net run) t None long)
    ∙ ap (λ value. sink_text net t value ++ sink_texts net (suc t) (drop (suc t) (task_values net run))) here
    ∙ ap (λ k. sink_text net t (last_value (journal_of run) (values_of run) t) ++ sink_texts net k (drop k (task_values net run))) (sym next)

pub sink_texts-end : (net : NetRows) (run : FrameRun TextJob Item) (t : ℕ) → length net.tasks ≤ t → sink_texts net t (drop t (task_values net run)) ≡ []
sink_texts-end net run t past =
    ap (sink_texts net t) (drop_all t (task_values net run) (omega (arith, past, length-map-range_with_len (last_value (journal_of run) (values_of run)) 0 (length net.tasks))))
