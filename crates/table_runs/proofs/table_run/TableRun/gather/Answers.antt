use Rattle.std.proofs.Common.{◌≡◌, ◌+◌, Some, arith, refl, sym, ap, ◌∙◌, subst}
use Rattle.std.specs.Prelude.{map, sum}
use Rattle.join_tables.specs.Batches.{BatchState}
use Rattle.join_tables.specs.Rests.{IsOfTable}
use Rattle.join_tables.specs.declared.fates.Fate.{Fate}
use Rattle.table_runs.specs.inside.FateRuns.{closing_place, run_at}
use Rattle.table_runs.specs.RunKeys.{FrameKey}
use Rattle.nested_runs.specs.Totals.{spans_of_row}
use Rattle.table_runs.specs.Spans.{spans_made}
use Rattle.table_runs.proofs.Counting.{row_made, rows_append}
use Rattle.table_runs.proofs.Keeping.{one_more}
use Rattle.table_runs.proofs.table_run.TableRun.gather.Goals as goal

pub returns-clause-done : goal.returns-clause-done
returns-clause-done g c =
    let J = g.row.J.Denot in
    let V = g.row.J-V.Denot in
    let frame = c.args.self.now in
    let done = c.args.done.now in
    let turn = c.args.turn in
    let row = c.add_row.ensures in
    let same : c.gather.new.batch.table ≡ Some frame.table = ap (λ (b : BatchState V). b.table) c.gather.ensures ∙ ap (λ (k : FrameKey J). Some k.table) c.self.view_is in
    let row_is = row.row_is ∙ ap (λ (f : Fate V). run_at (closing_place f) turn.inner) c.fate.ensures in
    record {
      table = subst (IsOfTable frame.table) (sym same) refl;
      allowed = one_more g.J.Job.meaning frame.job done.batch.fates c.gather.new.batch.fates done.inner.items c.add_row.new.rows.items row.own turn.spent.fate turn.inner
          (ap (λ (b : BatchState V). b.fates) c.gather.ensures) row.after_is row_is c.requires.done.allowed c.requires.allowed;
    }

pub returns-clause-inside : goal.returns-clause-inside
returns-clause-inside g c =
    let done = c.args.done.now in
    let turn = c.args.turn in
    let row = c.add_row.ensures in
    let row_is = row.row_is ∙ ap (λ (f : Fate g.row.J-V.Denot). run_at (closing_place f) turn.inner) c.fate.ensures in
    let rows : sum (map spans_of_row c.add_row.new.rows.items) ≡ sum (map spans_of_row done.inner.items) + sum (map spans_of_row row.own) = ap (λ rs. sum (map spans_of_row rs)) row.after_is ∙ rows_append done.inner.items row.own in
    let made : sum (map spans_of_row row.own) ≡ spans_made turn.inner = row_made row.own (closing_place turn.spent.fate) turn.inner row_is in
    omega arith
