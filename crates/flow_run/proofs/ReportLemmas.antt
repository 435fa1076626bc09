-- The report of a run, one task after another.
use Rattle.std.proofs.Common.{Ok, Err, append-nil, ◌≡◌, ℕ, zero, suc, ◌+◌, ◌-◌, ◌<◌, List, [], ◌∷◌, ◌++◌, Option, sym, ap, ◌∙◌, subst, arith, slice_index_or}
use Rattle.std.specs.List.{range_with_len, flat_map}
use Rattle.std.specs.Option.{option_and_then}
use Rattle.std.proofs.lemmas.Grind.{flat_map-append}
use Rattle.run_frame.specs.declared.run.ValueRow.{ValueRow}
use Rattle.run_frame.specs.Runs.{value_at, values_of}
use Rattle.text_tasks.specs.declared.item.Item.{Item}
use Rattle.outside_io.specs.declared.ports.sink.SinkFault.{SinkFault}
use Rattle.outside_io.specs.Sink.{SinkState, Accepts, Writes}
use Rattle.outside_io.proofs.Pieces.{writes_both, writes_no_more}
use Rattle.task_graph.specs.NetRows.{NetRows}
use Rattle.run_frame.specs.NestedRule.{job_of, journal_of}
use Rattle.run_frame.specs.declared.run.FrameRun.{FrameRun}
use Rattle.text_tasks.specs.declared.job.TextJob.{TextJob}
use Rattle.text_tasks.specs.JobMeaning.{net_of, names_of}
use Rattle.run_frame.specs.LastEnds.{last_end}
use Rattle.run_frame.proofs.EndsLemmas.{counting_more}
use Rattle.report_laws.specs.Output.{task_part, task_report}

-- The texts of one number more.
pub texts_more : (text : ℕ → List ℕ) (n : ℕ) → flat_map text (range_with_len 0 (n + 1)) ≡ flat_map text (range_with_len 0 n) ++ text n
texts_more text n =
    ap (flat_map text) (counting_more 0 n n (omega arith))
    ∙ flat_map-append text (range_with_len 0 n) (n ∷ [])
    ∙ ap (λ last. flat_map text (range_with_len 0 n) ++ last) (append-nil (text n))

-- After the texts before it, the text of one number more was accepted.
pub one_written : (text : ℕ → List ℕ) (n : ℕ) (before between after : SinkState) → Accepts before between (flat_map text (range_with_len 0 n)) → Accepts between after (text n) → Accepts before after (flat_map text (range_with_len 0 (n + 1)))
one_written text n before between after whole next = rw (texts_more text n) (writes_both before between after _ _ (Ok tt) whole next)

-- A write that ends in an error at some of the texts does so at more of them.
no_further : (text : ℕ → List ℕ) (n more : ℕ) (before after : SinkState) (fault : SinkFault) → Writes before after (flat_map text (range_with_len 0 n)) (Err fault) → Writes before after (flat_map text (range_with_len 0 (n + more))) (Err fault)
no_further text n zero before after fault cut = let same : n ≡ n + 0 = omega arith in subst (λ k. Writes before after (flat_map text (range_with_len 0 k)) (Err fault)) same cut
no_further text n (suc more) before after fault cut =
    let same : n + more + 1 ≡ n + suc more = omega arith in
    subst (λ k. Writes before after (flat_map text (range_with_len 0 k)) (Err fault)) same
    (subst (λ bytes. Writes before after bytes (Err fault)) (sym (texts_more text (n + more))) (writes_no_more before after _ _ fault (no_further text n more before after fault cut)))

-- Where the write of one text ends in an error after those before it, so does that of all texts.
pub one_refused : (text : ℕ → List ℕ) (n all : ℕ) (before between after : SinkState) (fault : SinkFault) → n < all → Accepts before between (flat_map text (range_with_len 0 n)) → Writes between after (text n) (Err fault) → Writes before after (flat_map text (range_with_len 0 all)) (Err fault)
one_refused text n all before between after fault inside whole part =
    let same : n + 1 + (all - (n + 1)) ≡ all = omega arith in
    subst (λ k. Writes before after (flat_map text (range_with_len 0 k)) (Err fault)) same
    (no_further text (n + 1) (all - (n + 1)) before after fault
    (subst (λ bytes. Writes before after bytes (Err fault)) (sym (texts_more text n)) (writes_both before between after _ _ (Err fault) whole part)))

-- What the looked-up parts of a task's report come to is what the report tells of it.
pub part_is : (run : FrameRun TextJob Item) (net : NetRows) (t : ℕ) (name : List ℕ) (end : Option ℕ) (values : List (ValueRow Item)) (value : Option Item)
    → net ≡ net_of (job_of run) → name ≡ slice_index_or (names_of (job_of run)) t [] → end ≡ last_end (journal_of run) t → values ≡ values_of run → value ≡ option_and_then (value_at values) end
    → task_report net t name value ≡ task_part (names_of (job_of run)) (net_of (job_of run)) (journal_of run) (values_of run) t
part_is run net t name end values value net_is name_is end_is values_are value_is =
    ap (λ n. task_report n t name value) net_is
    ∙ ap (λ n. task_report (net_of (job_of run)) t n value) name_is
    ∙ ap (task_report (net_of (job_of run)) t (slice_index_or (names_of (job_of run)) t []))
    (value_is ∙ ap (option_and_then (value_at values)) end_is ∙ ap (λ rows. option_and_then (value_at rows) (last_end (journal_of run) t)) values_are)
