use Rattle.std.proofs.Common.{◌≡◌, ◌<◌, length, subst, sym, List, ℕ}
use Rattle.std.specs.Prelude.{OnOk, All}
use Rattle.net_machine.specs.declared.ready.ReadyRelease.{ReadyRelease}
use Rattle.journal_rules.proofs.NetLemmas.{places_below}
use Rattle.net_machine.proofs.Readying.{task_parts}
use Rattle.net_machine.proofs.ready.add_task.Goals as goal

pub add_weak-requires-clause-edges : goal.add_weak-requires-clause-edges
add_weak-requires-clause-edges c = subst (λ (es : List ℕ). All (λ e. e < length c.args.net.now.edges) es) (sym c.weak_in.ensures) (places_below _ c.args.net.now.edges)

pub returns : goal.returns
returns c = λ journal counts.
    let parts = task_parts c.args.net.now journal c.args.task c.source_left.result c.rounds_left.result c.args.list.now c.add_row.new.list c.add_row-2.new.list (c.source_left.ensures journal counts) (c.rounds_left.ensures journal counts) c.in_ok-add_row.ensures c.in_ok-add_row-2.ensures in
    let added = rw c.weak_in.ensures at (c.add_weak.ensures journal counts) in
    subst (λ (xs : List ReadyRelease). OnOk c.add_weak.result (c.add_weak.new.list ≡ xs)) parts added
