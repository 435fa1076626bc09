use Rattle.std.proofs.Common.{codes, sym, subst, ap, ◌∙◌, arith}
use Rattle.serde_json.specs.Data.{string}
use Rattle.graph_plans.specs.PlanRows.{graph_rows, names_of_graphs}
use Rattle.std.proofs.Common.{map}
use Rattle.graph_writer.specs.WrittenPlan.{op_text, with_field}
use Rattle.graph_writer.specs.inside.Writer.{HasUtf8, IsString}
use Rattle.graph_drafts.proofs.BindLemmas.{if-ok}
use Rattle.graph_writer.proofs.WritingLemmas.{name-at, names-count}
use Rattle.graph_writer.proofs.op_writer.written_op.Goals as goal

pub string_value-requires-in-Module : goal.string_value-requires-in-Module
string_value-requires-in-Module c =
    let graphs = c.args.modules.now in
    let has = subst (HasUtf8 c.args.texts.now (names_of_graphs (map graph_rows graphs))) c.in-Module.is c.requires in
    subst IsString (sym (name-at graphs c.in-Module.module c.index-modules-module.result (omega (arith, has.0, names-count graphs)))) has.1

pub returns-in_ok-string_value-in-Module : goal.returns-in_ok-string_value-in-Module
returns-in_ok-string_value-in-Module c =
    let graphs = c.args.modules.now in
    let names = names_of_graphs (map graph_rows graphs) in
    let has = subst (HasUtf8 c.args.texts.now names) c.in-Module.is c.requires in
    let name = name-at graphs c.in-Module.module c.index-modules-module.result (omega (arith, has.0, names-count graphs)) in
    if-ok c.having-in-Module.result
    (λ written same. same ∙ ap (with_field (codes "module") (codes "module")) (c.in_ok-string_value-in-Module.ensures ∙ ap string name) ∙ sym (ap (op_text c.args.texts.now names) c.in-Module.is))
    c.having-in-Module.ensures
