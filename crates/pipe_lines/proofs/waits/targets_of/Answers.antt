use Rattle.std.proofs.Common.{rules, sym, ap, ◌∙◌, None, slice_index_or}
use Rattle.pipe_lines.specs.declared.deferral.DeferRow.{DeferRow}
use Rattle.pipe_lines.proofs.WaitLemmas.{place_none, place_targets}
use Rattle.pipe_lines.proofs.waits.targets_of.Goals as goal

pub returns-in-Some : goal.returns-in-Some
returns-in-Some c =
    c.as_slice.ensures
    ∙ ap (λ (row : DeferRow). row.to) (sym c.index-rows-place.is)
    ∙ place_targets c.args.rows.now c.args.token c.in-Some.place (slice_index_or c.args.places.now c.args.token None) c.index-rows-place.result c.requires.apart (c.requires.places.each c.args.token c.requires.token) (search rules) c.index-rows-place.is

pub returns-in-None : goal.returns-in-None
returns-in-None c = place_none c.args.rows.now c.args.token (slice_index_or c.args.places.now c.args.token None) (c.requires.places.each c.args.token c.requires.token) (search rules)
