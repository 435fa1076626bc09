use Rattle.std.proofs.Common.{ap, ◌∙◌}
use Rattle.serde_json.specs.View.{view}
use Rattle.graph_file.specs.PlanText.{json_in}
use Rattle.graph_file.proofs.JsonLemmas.{json_in-ok}
use Rattle.graph_drafts.proofs.BindLemmas.{if-ok}
use Rattle.graph_writer.proofs.writer.file_bytes.Goals as goal

pub returns-clause-reads_back : goal.returns-clause-reads_back
returns-clause-reads_back c =
    if-ok c.from_slice.result
    (λ bytes same. ap json_in (same ∙ c.as_slice.ensures.value) ∙ json_in-ok c.in_ok-bytes.bytes.items (view c.args.file.now) (c.in_ok-bytes.ensures.utf8, c.in_ok-bytes.ensures.reads_back c.requires.shallow))
    c.from_slice.ensures
