use Rattle.std.proofs.Common.{ap, ◌∙◌, sym, Err}
use Rattle.json_values.specs.inside.View.{view}
use Rattle.graph_file.proofs.JsonLemmas.{json_in-ok, json_in-refused}
use Rattle.graph_file.proofs.reader.read_json.Goals as goal

pub returns-in-Ok : goal.returns-in-Ok
returns-in-Ok c = json_in-ok c.args.bytes.now (view c.in-Ok.file) c.in-Ok.ensures.ok

pub returns-in-Err : goal.returns-in-Err
returns-in-Err c sure = json_in-refused c.args.bytes.now (c.in-Err.ensures.refused (ap Err (c.unread_refusal.ensures sure).0)) ∙ ap Err (sym (c.unread_refusal.ensures sure).1)
