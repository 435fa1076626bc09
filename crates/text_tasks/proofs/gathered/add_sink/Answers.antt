use Rattle.std.proofs.Common.{rules, ◌≡◌, true, ℕ, [], ◌++◌, length, sym, ap, subst, ◌∙◌}
use Rattle.std.specs.Prelude.{OnOk}
use Rattle.std.specs.Option.{option_map_or}
use Rattle.run_frame.specs.LastEnds.{last_value}
use Rattle.run_frame.specs.NestedRule.{journal_of}
use Rattle.run_frame.specs.Runs.{values_of}
use Rattle.text_tasks.specs.Items.{item_text}
use Rattle.text_tasks.specs.Sinks.{is_sink}
use Rattle.text_tasks.specs.inside.Gathering.{all_of}
use Rattle.text_tasks.proofs.GatherLemmas.{last_value_held, value_added}
use Rattle.text_tasks.proofs.gathered.add_sink.Goals as goal

pub returns-then-is_empty : goal.returns-then-is_empty
returns-then-is_empty c = λ run are.
    let net = c.args.net.now in
    let t : ℕ = c.args.task in
    let sink : is_sink net t ≡ true = search rules in
    let same = ap (λ value. option_map_or item_text value []) (c.get.ensures ∙ last_value_held run (length net.tasks) c.args.values.now t are c.requires) ∙ sym (value_added net t (last_value (journal_of run) (values_of run) t) sink) in
    subst (λ text. OnOk c.add_value.result (all_of c.add_value.new.texts ≡ all_of c.args.texts.now ++ text)) same c.add_value.ensures
