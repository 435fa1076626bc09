use Rattle.std.proofs.Common.{◌∙◌}
use Rattle.std.proofs.lemmas.List.{length-map}
use Rattle.graph_drafts.specs.inside.Reading.{draft_rows, file_rows}
use Rattle.graph_file.specs.inside.Reader.{numbers_rows}
use Rattle.graph_file.proofs.PlanLemmas.{IsNumberedFile-of, graphs-count}
use Rattle.graph_file.proofs.UseLemmas.{AreUses-of, top-used}
use Rattle.graph_file.specs.PlanText.{names_of_modules}
use Rattle.graph_file.proofs.limits.check_limits.Goals as goal

pub check_cycles-requires-clause-uses : goal.check_cycles-requires-clause-uses
check_cycles-requires-clause-uses c = AreUses-of (file_rows c.args.file.now) (numbers_rows c.args.numbers.now) c.requires.numbers

pub check_counts-requires : goal.check_counts-requires
check_counts-requires c =
    let file = file_rows c.args.file.now in
    let numbers = numbers_rows c.args.numbers.now in
    graphs-count (names_of_modules file) file.modules numbers.modules (IsNumberedFile-of file numbers c.requires.numbers).modules ∙ length-map c.args.file.now.modules.items draft_rows

pub check_depth-requires-clause-uses : goal.check_depth-requires-clause-uses
check_depth-requires-clause-uses c = AreUses-of (file_rows c.args.file.now) (numbers_rows c.args.numbers.now) c.requires.numbers

pub check_depth-requires-clause-used : goal.check_depth-requires-clause-used
check_depth-requires-clause-used c = top-used (file_rows c.args.file.now) (numbers_rows c.args.numbers.now) c.requires.numbers
