use Rattle.std.proofs.Common.{ap, sym, subst}
use Rattle.graph_drafts.specs.inside.Reading.{strings}
use Rattle.graph_file.specs.inside.Lookups.{OccurOnce}
use Rattle.graph_file.proofs.NumberLemmas.{names-drafted}
use Rattle.graph_file.proofs.RepeatLemmas.{graph-checked}
use Rattle.graph_file.proofs.repeats.check_graph.Goals as goal

pub check_tasks-requires : goal.check_tasks-requires
check_tasks-requires c once = subst OccurOnce (sym (names-drafted c.args.draft.now c.as_slice-2.result.now c.as_slice-2.ensures.value)) (c.requires once)

pub returns : goal.returns
returns c =
    graph-checked c.args.draft.now c.as_slice-2.result.now (strings c.as_slice.result.now) c.check_tasks.result c.as_slice-2.ensures.value (ap strings c.as_slice.ensures) c.in_default.ensures c.check_tasks.ensures
