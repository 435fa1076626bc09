use Rattle.text_ops.proofs.PlaceLemmas.{StartsLine-behind}
use Rattle.text_ops.proofs.found_line.line_start.Goals as goal

pub returns-in-Some : goal.returns-in-Some
returns-in-Some c = StartsLine-behind c.args.text.now c.args.place c.in-Some.end c.requires c.in-Some.ensures
