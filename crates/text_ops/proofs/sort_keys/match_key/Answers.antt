use Rattle.text_ops.proofs.SortKeyLemmas.{match_key-found, match_key-whole}
use Rattle.text_ops.proofs.sort_keys.match_key.Goals as goal

pub returns-in-Some : goal.returns-in-Some
returns-in-Some c = match_key-found c.args.line.now c.in-Some.end c.in-Some.ensures

pub returns-in-None : goal.returns-in-None
returns-in-None c = match_key-whole c.args.line.now c.in-None.ensures
