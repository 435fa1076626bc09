use Rattle.std.proofs.Common.{refl}
use Rattle.std.specs.Arc.{arc_value}
use Rattle.journal_rules.proofs.CountLaws.{can_grow, open_flag}
use Rattle.legal_run.proofs.Walking.{gives_once}
use Rattle.net_machine.proofs.Keeping.{position_of, small_journal, counted_room, has_ended, same_state}
use Rattle.net_machine.proofs.machine.Machine.end.Goals as goal

pub new-position-requires : goal.new-position-requires
new-position-requires c =
    let journal = c.as_slice-journal.ensures in
    rw (c.deref.ensures, journal) (position_of _ _ _ _ _ _ c.self.invariant (rw journal at (small_journal _ c.as_slice-journal.type_inv)))

pub end-requires-clause-grow : goal.end-requires-clause-grow
end-requires-clause-grow c =
    let net = arc_value c.self.inside.net in
    let h = c.self.inside.journal in
    let counted = counted_room net h c.self.inside.counts (record c.self.inside.counts { open_starts = c.append.new.open_starts }) c.self.invariant.counted c.in-Ok-append.ensures.opened refl refl refl refl refl refl in
    rw c.deref-2.ensures (can_grow net h _ counted c.in-Ok-append.ensures.size)

pub end-requires-clause-once : goal.end-requires-clause-once
end-requires-clause-once c =
    let journal = c.as_slice-journal.ensures in
    let found = rw (c.new-position.ensures, c.deref.ensures, journal) at c.in-Ok.ensures.checked in
    gives_once (arc_value c.self.inside.net) c.self.inside.journal c.args.start c.args.gives.now c.args.inner found.0.choice

pub end-requires-clause-opened : goal.end-requires-clause-opened
end-requires-clause-opened c =
    let journal = c.as_slice-journal.ensures in
    let found = rw (c.new-position.ensures, c.deref.ensures, journal) at c.in-Ok.ensures.checked in
    open_flag c.self.inside.journal _ c.args.start c.in-Ok-append.ensures.opened found.0.closing

pub invariant_of-self-2 : goal.invariant_of-self-2
invariant_of-self-2 c =
    let net = arc_value c.self.inside.net in
    let h = c.self.inside.journal in
    let counted = counted_room net h c.self.inside.counts (record c.self.inside.counts { open_starts = c.append.new.open_starts }) c.self.invariant.counted c.in-Ok-append.ensures.opened refl refl refl refl refl refl in
    let journal = c.as_slice-journal.ensures in
    let found = rw (c.new-position.ensures, c.deref.ensures, journal) at c.in-Ok.ensures.checked in
    let counts_it = rw c.deref-2.ensures at c.end.ensures.counted in
    let done = has_ended net c.self.inside.limit c.args.start c.in-Ok.task _ h _ c.args.gives.now c.in-Ok-from_slice.list c.args.inner _ _ _ _ _ _ c.self.invariant found.0 found.1 c.in-Ok-from_slice.ensures c.in-Ok-append.ensures.appended c.in-Ok-append.ensures.place counted c.in-Ok-append.ensures.room counts_it c.give.ensures in
    rw c.in-Ok.ensures.marks done.kept

pub returns-clause-ended : goal.returns-clause-ended
returns-clause-ended c =
    let net = arc_value c.self.inside.net in
    let h = c.self.inside.journal in
    let counted = counted_room net h c.self.inside.counts (record c.self.inside.counts { open_starts = c.append.new.open_starts }) c.self.invariant.counted c.in-Ok-append.ensures.opened refl refl refl refl refl refl in
    let journal = c.as_slice-journal.ensures in
    let found = rw (c.new-position.ensures, c.deref.ensures, journal) at c.in-Ok.ensures.checked in
    let counts_it = rw c.deref-2.ensures at c.end.ensures.counted in
    let done = has_ended net c.self.inside.limit c.args.start c.in-Ok.task _ h _ c.args.gives.now c.in-Ok-from_slice.list c.args.inner _ _ _ _ _ _ c.self.invariant found.0 found.1 c.in-Ok-from_slice.ensures c.in-Ok-append.ensures.appended c.in-Ok-append.ensures.place counted c.in-Ok-append.ensures.room counts_it c.give.ensures in
    rw (← c.self.view_is) (record { stands = c.in-Ok-append.ensures.place; allowed = done.may; after = same_state _ _ _ _ done.journal })
