use Rattle.std.proofs.Common.{refl, List, []}
use Rattle.std.specs.Arc.{arc_value}
use Rattle.journal_rules.specs.declared.entry.Part.{Part}
use Rattle.journal_rules.specs.Waiting.{waiting_parts}
use Rattle.journal_rules.specs.ShapeLegal.{MayFollow}
use Rattle.journal_rules.specs.declared.entry.Entry.TheVariants.{Start}
use Rattle.journal_rules.proofs.CountLaws.{can_grow, next_closed}
use Rattle.net_machine.proofs.Keeping.{counted_room, has_started, same_state, opened_last}
use Rattle.net_machine.proofs.machine.Machine.start.Goals as goal

pub parts_of-requires-clause-task : goal.parts_of-requires-clause-task
parts_of-requires-clause-task c =
    let may = rw (c.position.ensures, ← c.self.view_is) at (c.in-Ok.ensures []) in
    rw c.deref.ensures may.in_range.0

pub parts_of-requires-clause-cause : goal.parts_of-requires-clause-cause
parts_of-requires-clause-cause c =
    let may = rw (c.position.ensures, ← c.self.view_is) at (c.in-Ok.ensures []) in
    rw c.deref.ensures may.in_range.1

pub start-requires-clause-task : goal.start-requires-clause-task
start-requires-clause-task c =
    let may = rw (c.position.ensures, ← c.self.view_is) at (c.in-Ok.ensures []) in
    rw c.deref-2.ensures may.in_range.0

pub start-requires-clause-cause : goal.start-requires-clause-cause
start-requires-clause-cause c =
    let may = rw (c.position.ensures, ← c.self.view_is) at (c.in-Ok.ensures []) in
    rw c.deref-2.ensures may.in_range.1

pub take-requires-clause-task : goal.take-requires-clause-task
take-requires-clause-task c =
    let may = rw (c.position.ensures, ← c.self.view_is) at (c.in-Ok.ensures []) in
    rw c.deref-3.ensures may.in_range.0

pub take-requires-clause-cause : goal.take-requires-clause-cause
take-requires-clause-cause c =
    let may = rw (c.position.ensures, ← c.self.view_is) at (c.in-Ok.ensures []) in
    rw c.deref-3.ensures may.in_range.1

pub start-requires-clause-grow : goal.start-requires-clause-grow
start-requires-clause-grow c =
    let net = arc_value c.self.inside.net in
    let h = c.self.inside.journal in
    let counted = counted_room net h c.self.inside.counts (record c.self.inside.counts { open_starts = c.append.new.open_starts }) c.self.invariant.counted c.in-Ok-append.ensures.opened refl refl refl refl refl refl in
    rw c.deref-2.ensures (can_grow net h _ counted c.in-Ok-append.ensures.size)

pub start-requires-clause-room : goal.start-requires-clause-room
start-requires-clause-room c =
    next_closed c.self.inside.journal _ _ c.in-Ok-append.ensures.opened c.in-Ok-append.ensures.room c.in-Ok-append.ensures.place

pub returns-in_default-clause-refused : goal.returns-in_default-clause-refused
returns-in_default-clause-refused c =
    rw c.position.ensures at (c.in-Ok.ensures (waiting_parts c.args.self.now.net c.args.task c.args.cause c.args.self.now.journal))

pub returns-in_default-append-clause-refused : goal.returns-in_default-append-clause-refused
returns-in_default-append-clause-refused c =
    rw c.position.ensures at (c.in-Ok.ensures (waiting_parts c.args.self.now.net c.args.task c.args.cause c.args.self.now.journal))

pub invariant_of-self-2 : goal.invariant_of-self-2
invariant_of-self-2 c =
    let net = arc_value c.self.inside.net in
    let h = c.self.inside.journal in
    let counted = counted_room net h c.self.inside.counts (record c.self.inside.counts { open_starts = c.append.new.open_starts }) c.self.invariant.counted c.in-Ok-append.ensures.opened refl refl refl refl refl refl in
    let may : (i : List Part) → MayFollow net c.self.inside.limit h (Start c.args.task c.args.cause i) = λ i. rw (c.position.ensures, ← c.self.view_is) at (c.in-Ok.ensures i) in
    let ins = (rw c.deref.ensures at c.in-Ok-parts_of.ensures) h c.self.invariant.waiting in
    let counts_it = rw c.deref-2.ensures at c.start.ensures.counted in
    let tells_it = rw c.deref-3.ensures at c.take.ensures in
    let done = has_started net c.self.inside.limit c.args.task _ h _ c.args.cause _ _ _ _ _ _ _ c.self.invariant may ins c.in-Ok-append.ensures.appended c.in-Ok-append.ensures.place counted counts_it tells_it in
    done.kept

pub returns-clause-started : goal.returns-clause-started
returns-clause-started c =
    let net = arc_value c.self.inside.net in
    let h = c.self.inside.journal in
    let counted = counted_room net h c.self.inside.counts (record c.self.inside.counts { open_starts = c.append.new.open_starts }) c.self.invariant.counted c.in-Ok-append.ensures.opened refl refl refl refl refl refl in
    let may : (i : List Part) → MayFollow net c.self.inside.limit h (Start c.args.task c.args.cause i) = λ i. rw (c.position.ensures, ← c.self.view_is) at (c.in-Ok.ensures i) in
    let ins = (rw c.deref.ensures at c.in-Ok-parts_of.ensures) h c.self.invariant.waiting in
    let counts_it = rw c.deref-2.ensures at c.start.ensures.counted in
    let tells_it = rw c.deref-3.ensures at c.take.ensures in
    let done = has_started net c.self.inside.limit c.args.task _ h _ c.args.cause _ _ _ _ _ _ _ c.self.invariant may ins c.in-Ok-append.ensures.appended c.in-Ok-append.ensures.place counted counts_it tells_it in
    rw (← c.self.view_is) (record { stands = c.in-Ok-append.ensures.place; allowed = done.may; after = same_state _ _ _ _ done.journal })

pub returns-clause-opened : goal.returns-clause-opened
returns-clause-opened c =
    let net = arc_value c.self.inside.net in
    let h = c.self.inside.journal in
    let counted = counted_room net h c.self.inside.counts (record c.self.inside.counts { open_starts = c.append.new.open_starts }) c.self.invariant.counted c.in-Ok-append.ensures.opened refl refl refl refl refl refl in
    let may : (i : List Part) → MayFollow net c.self.inside.limit h (Start c.args.task c.args.cause i) = λ i. rw (c.position.ensures, ← c.self.view_is) at (c.in-Ok.ensures i) in
    let ins = (rw c.deref.ensures at c.in-Ok-parts_of.ensures) h c.self.invariant.waiting in
    let counts_it = rw c.deref-2.ensures at c.start.ensures.counted in
    let tells_it = rw c.deref-3.ensures at c.take.ensures in
    let done = has_started net c.self.inside.limit c.args.task _ h _ c.args.cause _ _ _ _ _ _ _ c.self.invariant may ins c.in-Ok-append.ensures.appended c.in-Ok-append.ensures.place counted counts_it tells_it in
    rw (done.journal, c.in-Ok-append.ensures.place) (opened_last net c.self.inside.limit c.args.task h c.args.cause _ c.self.invariant.led.reached)
