use Rattle.std.proofs.Common.{◌++◌, List, Err, Ok, subst}
use Rattle.std.specs.List.{flat_map, zip}
use Rattle.outside_io.specs.Sink.{Accepts, Writes}
use Rattle.outside_io.proofs.Pieces.{writes_both, writes_no_more}
use Rattle.profile_table.specs.ProfileText.{columns_line, profile_text, row_line, spans_line}
use Rattle.profile_table.specs.declared.row.TableRow.{TableRow}
use Rattle.profile_table.proofs.printer.print_table.Goals as goal

pub returns-in-Err : goal.returns-in-Err
unfolding profile_text
returns-in-Err g c =
    let lines = flat_map row_line (zip c.args.names.now c.args.table.now.rows) in
    writes_no_more _ _ (columns_line ++ lines) (spans_line c.args.spans) c.in-Err.fault (writes_no_more _ _ columns_line lines c.in-Err.fault c.in-Err.ensures)

pub returns-in-Err-put_rows : goal.returns-in-Err-put_rows
unfolding profile_text
returns-in-Err-put_rows g c =
    let lines = flat_map row_line (zip c.args.names.now c.args.table.now.rows) in
    let fault = c.in-Err-put_rows.fault in
    let refused = subst (λ (rows : List TableRow). Writes (g.S.Sink.state c.put_piece.new.out) (g.S.Sink.state c.put_rows.new.out) (flat_map row_line (zip c.args.names.now rows)) (Err fault)) c.rows.ensures c.in-Err-put_rows.ensures in
    writes_no_more _ _ (columns_line ++ lines) (spans_line c.args.spans) fault (writes_both _ _ _ columns_line lines (Err fault) c.in_default.ensures refused)

pub returns : goal.returns
unfolding profile_text
returns g c =
    let lines = flat_map row_line (zip c.args.names.now c.args.table.now.rows) in
    let written = subst (λ (rows : List TableRow). Accepts (g.S.Sink.state c.put_piece.new.out) (g.S.Sink.state c.put_rows.new.out) (flat_map row_line (zip c.args.names.now rows))) c.rows.ensures c.in_default-put_rows.ensures in
    writes_both _ _ _ (columns_line ++ lines) (spans_line c.args.spans) c.put_spans.result (writes_both _ _ _ columns_line lines (Ok _) c.in_default.ensures written) c.put_spans.ensures
