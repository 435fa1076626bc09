use Rattle.std.proofs.Common.{◌≡◌, ◌<◌, ◌≤◌, ◌∙◌, [], get_or, length, take, sym, ap, subst, arith}
use Rattle.std.specs.Prelude.{IfOk}
use Rattle.text_ops.specs.Lines.{ended, lines_of}
use Rattle.text_ops.specs.Values.{MayRefuse, value_limit}
use Rattle.text_tasks.specs.OpMeaning.{text_op_value}
use Rattle.line_maps.specs.LineMaps.{LineMap}
use Rattle.line_maps.proofs.LineLengths.{line_is, line_value_short}
use Rattle.line_maps.proofs.line_fold.LineFoldFold.at.Goals as goal

pub unreachable-requires : goal.unreachable-requires
unreachable-requires c =
    let op = c.self.inside.op in
    let rest = c.from_line-rest.result.now in
    let below : c.args.index < length (lines_of c.self.inside.index) = omega (arith, c.requires, ap (λ (f : LineMap). length (lines_of f.text)) c.self.view_is) in
    let text : c.in_ok-line-2.line ≡ take c.end_of_first.result rest = c.in_ok-line-2.ensures ∙ c.in_ok-line.ensures in
    let short = line_value_short c.self.inside.index rest c.args.index c.end_of_first.result below c.from_line-rest.ensures.lines c.end_of_first.ensures op c.self.invariant in
    let long = subst (MayRefuse (text_op_value op c.in_ok-line-2.line)) c.in-Err-Long.field-0-is c.in-Err-Long.ensures in
    omega (arith, long.0, long.1, short, ap (λ text. length (text_op_value op text)) text)

pub returns-in-Ok : goal.returns-in-Ok
returns-in-Ok c =
    let op = c.self.inside.op in
    let rest = c.from_line-rest.result.now in
    let below : c.args.index < length (lines_of c.self.inside.index) = omega (arith, c.requires, ap (λ (f : LineMap). length (lines_of f.text)) c.self.view_is) in
    let text : c.in_ok-line-2.line ≡ take c.end_of_first.result rest = c.in_ok-line-2.ensures ∙ c.in_ok-line.ensures in
    let value = c.as_slice.ensures.value ∙ c.in-Ok.ensures.0 in
    let line = line_is c.self.inside.index rest c.args.index c.end_of_first.result below c.from_line-rest.ensures.lines c.end_of_first.ensures in
    subst (λ bytes. IfOk c.from_slice-in-Ok.result (λ v. v ≡ bytes))
    (value ∙ ap (text_op_value op) (text ∙ line) ∙ ap (λ (f : LineMap). text_op_value f.op (ended (get_or (lines_of f.text) c.args.index []))) c.self.view_is)
    c.from_slice-in-Ok.ensures
