use Rattle.std.proofs.Common.{◌≡◌, List}
use Rattle.std.specs.List.{range_with_len}
use Rattle.journal_rules.specs.declared.entry.Entry.{Entry}
use Rattle.net_machine.specs.Ready.{ready_of_each}
use Rattle.journal_rules.specs.inside.Releases.{CountsReleases}
use Rattle.net_machine.proofs.ready.ready_list.Given as goal

abbrev pub invariant-loop-task : goal.invariant-loop-task
invariant-loop-task l = (journal : List Entry) → CountsReleases l.net journal l.releases → l.list ≡ ready_of_each l.net journal (range_with_len 0 l.task)
