use Rattle.std.proofs.Common.{sym, ◌∙◌}
use Rattle.graph_file.proofs.LookupLemmas.{KeepsPlace-again, KeepsPlace-updates}
use Rattle.graph_file.proofs.lookups.keep_place.Goals as goal

pub returns-in_default-clause-kept : goal.returns-in_default-clause-kept
returns-in_default-clause-kept c = KeepsPlace-updates c.args.places.now c.insert.new.self c.args.name c.args.place (sym c.in_ok-first.ensures.old ∙ c.in_default.is) c.in_ok-first.ensures.updates

pub returns-clause-kept : goal.returns-clause-kept
returns-clause-kept c = KeepsPlace-again c.args.places.now c.insert.new.self c.insert-2.new.self c.args.name c.args.place c.in-Some.first (sym c.in_ok-first.ensures.old ∙ c.in-Some.is) c.in_ok-first.ensures.updates c.in_ok-insert.ensures.updates
