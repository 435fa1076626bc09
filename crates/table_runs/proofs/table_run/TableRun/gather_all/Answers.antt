use Rattle.std.proofs.Common.{◌≡◌, ◌+◌, ◌++◌, Some, arith, refl, sym, ap, ◌∙◌, subst}
use Rattle.std.specs.Prelude.{map, sum}
use Rattle.join_tables.specs.Batches.{BatchState}
use Rattle.join_tables.specs.Rests.{IsOfTable}
use Rattle.nested_runs.specs.Totals.{spans_of_row}
use Rattle.table_runs.specs.RunKeys.{FrameKey}
use Rattle.table_runs.specs.Spans.{spans_in}
use Rattle.table_runs.proofs.Counting.{rows_append, spans_append}
use Rattle.table_runs.proofs.Keeping.{kept_more}
use Rattle.table_runs.proofs.table_run.TableRun.gather_all.Goals as goal

pub returns-clause-done : goal.returns-clause-done
returns-clause-done g c =
    let J = g.row.J.Denot in
    let V = g.row.J-V.Denot in
    let frame = c.args.self.now in
    let done = c.args.done.now in
    let more = c.args.more.now in
    let same : c.gather_all.new.batch.table ≡ Some frame.table = ap (λ (b : BatchState V). b.table) c.in_ok-gather_all.ensures.ok ∙ ap (λ (k : FrameKey J). Some k.table) c.self.view_is in
    record {
      table = subst (IsOfTable frame.table) (sym same) refl;
      allowed = kept_more g.J.Job.meaning frame.job done.batch.fates c.gather_all.new.batch.fates more.batch.fates done.inner.items c.move_rows.new.rows.items more.inner.items
          (ap (λ (b : BatchState V). b.fates) c.in_ok-gather_all.ensures.ok) (c.move_rows.ensures.rows ∙ ap (λ rs. rs ++ more.inner.items) c.try_reserve.ensures.items) c.requires.done.allowed c.requires.more.allowed;
    }
