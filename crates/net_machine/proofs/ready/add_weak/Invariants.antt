use Rattle.std.proofs.Common.{◌≡◌, ◌++◌, List, take}
use Rattle.journal_rules.specs.declared.entry.Entry.{Entry}
use Rattle.net_machine.specs.Ready.{ready_weak}
use Rattle.journal_rules.specs.inside.Releases.{CountsReleases}
use Rattle.net_machine.proofs.ready.add_weak.Given as goal

abbrev pub invariant-loop-edge : goal.invariant-loop-edge
invariant-loop-edge l = (journal : List Entry) → CountsReleases l.net journal l.releases → l.list ≡ l.fn.list ++ ready_weak l.net journal l.task (take l.edge-index l.edges)
