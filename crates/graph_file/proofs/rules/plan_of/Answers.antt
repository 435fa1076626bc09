use Rattle.std.proofs.Common.{◌∙◌}
use Rattle.graph_file.specs.PlanText.{names_of_modules}
use Rattle.graph_drafts.specs.inside.Reading.{file_rows}
use Rattle.graph_file.specs.inside.Reader.{numbers_rows}
use Rattle.graph_file.proofs.NumberLemmas.{names-filed}
use Rattle.graph_file.proofs.PlanLemmas.{ready-file}
use Rattle.graph_file.proofs.rules.plan_of.Goals as goal

pub numbers_of-requires-clause-modules : goal.numbers_of-requires-clause-modules
numbers_of-requires-clause-modules c = c.in_ok-modules.ensures.names ∙ c.in_ok-names.ensures ∙ names-filed c.args.file c.as_slice.result.now c.as_slice.ensures.value

pub check_limits-requires-clause-modules : goal.check_limits-requires-clause-modules
check_limits-requires-clause-modules c = c.in_ok-modules.ensures.names ∙ c.in_ok-names.ensures ∙ names-filed c.args.file c.as_slice.result.now c.as_slice.ensures.value

pub plan_with-requires-clause-names : goal.plan_with-requires-clause-names
plan_with-requires-clause-names c = c.in_ok-modules.ensures.names ∙ c.in_ok-names.ensures ∙ names-filed c.args.file c.as_slice.result.now c.as_slice.ensures.value

pub plan_with-requires-clause-ready : goal.plan_with-requires-clause-ready
plan_with-requires-clause-ready c =
    ready-file (file_rows c.args.file) (numbers_rows c.in_ok-numbers.numbers) (names_of_modules (file_rows c.args.file)) c.requires c.in_ok-numbers.ensures.numbers c.in_ok-check_names.ensures c.in_ok-check_limits.ensures
