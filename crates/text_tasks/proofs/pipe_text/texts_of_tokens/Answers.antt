use Rattle.std.proofs.Common.{◌≡◌, ℕ, [], ◌++◌, length, sym, ap, subst, ◌∙◌}
use Rattle.std.specs.Option.{option_map_or}
use Rattle.text_tasks.specs.Items.{item_text}
use Rattle.text_tasks.specs.PipeEnds.{text_at_place}
use Rattle.text_tasks.specs.PipeWork.{PipeWork}
use Rattle.text_tasks.specs.inside.Gathering.{AreTokenValues, all_of}
use Rattle.text_tasks.proofs.PipeTextLemmas.{texts_next, token_text_held}
use Rattle.text_tasks.proofs.pipe_text.texts_of_tokens.Goals as goal

pub loop-place-preserved : goal.loop-place-preserved
loop-place-preserved c =
    let run = c.args.run.now in
    let pipes = length c.args.job.now.spec.serial in
    let places = c.len-places.result in
    let place : ℕ = c.loop-place.place in
    let text = text_at_place pipes run in
    let counted : c.len.result ≡ pipes = c.len.ensures ∙ ap (λ (work : PipeWork). length work.spec.serial) c.job.view_is in
    let are = subst (λ n. AreTokenValues run n places c.in_ok-values.values) counted c.in_ok-values.ensures in
    let added = ap (λ o. option_map_or item_text o []) c.get.ensures ∙ token_text_held run pipes places c.in_ok-values.values place are c.loop-place-test.true in
    c.in_ok-add_value.ensures
    ∙ ap (λ more. all_of c.loop-place.texts ++ more) added
    ∙ ap (λ front. front ++ text place) c.loop-place.invariant
    ∙ sym (texts_next text place)
