use Rattle.std.proofs.Common.{◌∙◌}
use Rattle.graph_drafts.specs.declared.refusals.GraphError.TheVariants.{TooMany}
use Rattle.graph_drafts.specs.declared.refusals.Kind.TheVariants.{Depth}
use Rattle.graph_drafts.specs.inside.Reading.{file_rows, strings}
use Rattle.graph_file.proofs.UseLemmas.{depth-found, depth-passed, depth-refused, used-shown}
use Rattle.graph_file.proofs.limits.check_depth.Goals as goal

pub returns-then-branch : goal.returns-then-branch
returns-then-branch c sure =
    let file = file_rows c.args.file.now in
    let used = c.as_slice-3.ensures ∙ c.in_ok-used.ensures ∙ used-shown (strings c.args.modules.now.names) c.args.file.now c.as_slice.result.now c.as_slice.ensures.value c.requires.modules in
    depth-refused file c.in_ok-has_chain.field-0 (TooMany Depth) (depth-found file c.in_ok-has_chain.field-0 c.as_slice-2.result.now c.as_slice-3.result.now c.in_ok-has_chain.ensures (c.as_slice-2.ensures ∙ c.in_ok-uses.ensures) used) c.if-branch.true

pub returns : goal.returns
returns c =
    let file = file_rows c.args.file.now in
    let used = c.as_slice-3.ensures ∙ c.in_ok-used.ensures ∙ used-shown (strings c.args.modules.now.names) c.args.file.now c.as_slice.result.now c.as_slice.ensures.value c.requires.modules in
    depth-passed file c.in_ok-has_chain.field-0 (TooMany Depth) (depth-found file c.in_ok-has_chain.field-0 c.as_slice-2.result.now c.as_slice-3.result.now c.in_ok-has_chain.ensures (c.as_slice-2.ensures ∙ c.in_ok-uses.ensures) used) c.if-branch.false
