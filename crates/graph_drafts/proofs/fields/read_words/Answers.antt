use Rattle.std.proofs.Common.{codes}
use Rattle.serde_json.specs.Find.{get}
use Rattle.json_values.specs.inside.View.{view}
use Rattle.graph_drafts.proofs.WordLemmas.{Reads-words}
use Rattle.graph_drafts.proofs.fields.read_words.Goals as goal

pub returns : goal.returns
returns c = Reads-words (get (codes "words") (view c.args.object.now)) c.in-Some.words.now c.args.spot c.copied_words.result c.in-Some.ensures c.if-words-gt-MAX_WORDS.false c.copied_words.ensures
