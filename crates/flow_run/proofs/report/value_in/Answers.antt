use Rattle.std.proofs.Common.{Some, rules, ap, sym, ◌∙◌}
use Rattle.std.proofs.lemmas.List.Sorted.{answers_always}
use Rattle.flow_run.proofs.ValueSearch.{found_row, found_none}
use Rattle.flow_run.proofs.report.value_in.Goals as goal

pub returns-in-Ok : goal.returns-in-Ok
returns-in-Ok c =
    let row = c.index-rows-at.result in
    let by_place = c.in-Ok.ensures.position (λ row. row.place) (answers_always _ _ _ (λ f a r g called. search rules)) in
    ap Some c.deref.ensures ∙ sym (found_row c.args.rows.now c.args.place c.in-Ok.at row c.requires c.in-Ok.ensures.bound by_place)

pub returns-in-Err : goal.returns-in-Err
returns-in-Err c =
    let by_place = c.in-Err.ensures.position (λ row. row.place) (answers_always _ _ _ (λ f a r g called. search rules)) in
    sym (found_none c.args.rows.now c.args.place c.in-Err.field-0 c.requires by_place)
