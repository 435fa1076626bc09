use Rattle.std.proofs.Common.{◌≡◌, ◌+◌, List, Some, arith, sym, ap, subst}
use Rattle.std.specs.Prelude.{count_by, map, slice_get, sum}
use Rattle.std.proofs.lemmas.List.Sorted.{IsPermutation-map, sum_by-IsPermutation}
use Rattle.nested_runs.specs.Totals.{all_spans, is_span, spans_of_row}
use Rattle.table_runs.specs.Spans.{spans_in, spans_kept}
use Rattle.table_runs.proofs.Counting.{spans_merged}
use Rattle.std.specs.List.{AllByRecursion}
use Rattle.std.specs.Arc.{arc_value}
use Rattle.journal_rules.specs.declared.entry.Entry.{Entry}
use Rattle.join_tables.specs.declared.keeper.Recorded.{Recorded}
use Rattle.join_tables.specs.Keeping.{TellsRun, entries_told}
use Rattle.table_runs.specs.RunKeys.{RunKeeperView}
use Rattle.table_runs.proofs.Finishing.{Tells, finished}
use Rattle.run_frame.specs.declared.run.FrameRun.{FrameRun, FrameRun-F, roll-FrameRun, out-roll-FrameRun}
use Rattle.run_frame.specs.declared.run.InnerRow.{InnerRow}
use Rattle.table_runs.specs.JournalFacts.{HasEntries}
use Rattle.table_runs.proofs.run_keeper.RunKeeper.finish.Goals as goal

pub returns-clause-kept : goal.returns-clause-kept
returns-clause-kept g c =
    let meaning = g.J.Job.meaning in
    let made = c.in_ok-journal.field-0 in
    let e = c.in_ok-journal.ensures in
    let job = c.self.inside.job in
    let fates = c.self.inside.keeper.fates in
    let tells_run = subst (λ (v : RunKeeperView g.row.J.Denot g.row.J-V.Denot). TellsRun (meaning.net v.job) (meaning.limit v.job) (entries_told v.keeper.fates)) (sym c.self.view_is) c.requires in
    let all = e.finished (meaning.net (arc_value job)) (meaning.limit (arc_value job)) tells_run in
    let told = c.self.inside.inner.items in
    let tells : Tells meaning (arc_value job) fates told made.journal made.values.items c.in_ok-values.values c.sort_rows.new.rows.items =
    record { allowed = c.self.invariant; agree = e.agree; merges = e.merges; legal = all.0; meets = all.1; complete = all.2; are = e.values; rows_are = c.in_ok-values.ensures; same = c.in_ok-sort_rows.ensures.same; sorted = c.in_ok-sort_rows.ensures.sorted } in
    finished meaning job fates told made.journal made.values.items c.in_ok-values.values c.sort_rows.new.rows tells

pub returns-clause-entries : goal.returns-clause-entries
returns-clause-entries g c =
    let J = g.row.J.Denot in
    let V = g.row.J-V.Denot in
    let layer : FrameRun-F J V (FrameRun J V) (InnerRow J V) = record { job = c.self.inside.job; journal = c.in_ok-journal.field-0.journal; values = c.in_ok-values.values; inner = c.sort_rows.new.rows } in
    let fates = c.self.inside.keeper.fates in
    let told : HasEntries (roll-FrameRun J V layer) fates = subst (λ (journal : List Entry). AllByRecursion (λ (r : Recorded). slice_get journal r.place ≡ Some r.entry) (entries_told fates)) (sym (ap (λ r. r.journal) (out-roll-FrameRun J V layer))) c.in_ok-journal.ensures.merges.stand in
    subst (λ (v : RunKeeperView J V). HasEntries (roll-FrameRun J V layer) v.keeper.fates) c.self.view_is told

pub returns-clause-spans : goal.returns-clause-spans
returns-clause-spans g c =
    let J = g.row.J.Denot in
    let V = g.row.J-V.Denot in
    let layer : FrameRun-F J V (FrameRun J V) (InnerRow J V) = record { job = c.self.inside.job; journal = c.in_ok-journal.field-0.journal; values = c.in_ok-values.values; inner = c.sort_rows.new.rows } in
    let fates = c.self.inside.keeper.fates in
    let told = c.self.inside.inner.items in
    let sorted = c.sort_rows.new.rows.items in
    let all : all_spans (roll-FrameRun J V layer) ≡ count_by is_span layer.journal + sum (map spans_of_row sorted) =
    ap (λ (r : FrameRun-F J V (FrameRun J V) (InnerRow J V)). count_by is_span r.journal + sum (map spans_of_row r.inner.items)) (out-roll-FrameRun J V layer) in
    let own : count_by is_span layer.journal ≡ spans_in fates = spans_merged fates layer.journal c.in_ok-journal.ensures.merges in
    let rows : sum (map spans_of_row sorted) ≡ sum (map spans_of_row told) = sum_by-IsPermutation (λ x. x) (map spans_of_row told) (map spans_of_row sorted) (IsPermutation-map spans_of_row told sorted c.in_ok-sort_rows.ensures.same) in
    let whole : all_spans (roll-FrameRun J V layer) ≡ spans_in fates + sum (map spans_of_row told) = omega arith in
    subst (λ (v : RunKeeperView J V). all_spans (roll-FrameRun J V layer) ≡ spans_kept v) c.self.view_is whole
