use Rattle.std.proofs.Common.{subst}
use Rattle.std.specs.List.{flat_map, zip}
use Rattle.outside_io.specs.Sink.{Accepts}
use Rattle.outside_io.proofs.Pieces.{row_refused, row_written}
use Rattle.profile_table.proofs.LineLemmas.{all_lines, pair_at}
use Rattle.profile_table.specs.Profiles.{no_counts}
use Rattle.profile_table.specs.ProfileText.{row_line}
use Rattle.profile_table.proofs.printer.put_rows.Goals as goal

pub loop-task-preserved : goal.loop-task-preserved
loop-task-preserved g c =
    let pair = pair_at c.args.names.now c.args.rows.now c.loop-task.task c.index-names-task.result c.as_slice.result.now no_counts c.requires c.loop-task-test.true c.as_slice.ensures c.index-names-task.is in
    row_written row_line (zip c.args.names.now c.args.rows.now) c.loop-task.task _ _ _ _ pair.inside pair.is c.loop-task.invariant c.in_default.ensures

pub returns-in-Err : goal.returns-in-Err
returns-in-Err g c =
    let pair = pair_at c.args.names.now c.args.rows.now c.loop-task.task c.index-names-task.result c.as_slice.result.now no_counts c.requires c.loop-task-test.true c.as_slice.ensures c.index-names-task.is in
    row_refused row_line (zip c.args.names.now c.args.rows.now) c.loop-task.task _ _ _ _ c.in-Err.fault pair.inside pair.is c.loop-task.invariant c.in-Err.ensures

pub returns : goal.returns
returns g c =
    subst (λ lines. Accepts (g.S.Sink.state c.args.out.now) (g.S.Sink.state c.loop-task.out) (flat_map row_line lines)) (all_lines c.args.names.now c.args.rows.now c.loop-task.task c.loop-task-test.false) c.loop-task.invariant
