use Rattle.json_values.specs.inside.View.{view}
use Rattle.graph_drafts.specs.inside.Reading.{file_rows}
use Rattle.graph_file.proofs.PlanLemmas.{IsFile-read}
use Rattle.graph_file.proofs.reader.read_by_steps.Goals as goal

pub plan_of-requires : goal.plan_of-requires
plan_of-requires c = IsFile-read (view c.in_ok-file.file) (file_rows c.in_ok-draft.draft) c.in_ok-draft.ensures
