use Rattle.std.proofs.Common.{List, length, true, false, append-nil, refl, sym, ap, ◌∙◌, subst, arith, ℕ}
use Rattle.semaphore_turns.specs.WokenTurns.{WakesAtMost}
use Rattle.semaphore_turns.specs.YardTurns.{WakesFirst, passed_over}
use Rattle.semaphore_turns.proofs.YardReleases.{passed_some}
use Rattle.semaphore_turns.proofs.parks.pass_on.Goals as goal

pub wake_turns-requires-clause-room : goal.wake_turns-requires-clause-room
wake_turns-requires-clause-room g c =
    let passed = passed_some c.args.sems.now c.args.woken_for c.in-Some.sem true c.in-Some.is (sym c.contains.ensures.value ∙ c.if-contains.true) in
    omega (arith, c.requires.room, ap length passed)

pub returns-then-contains-clause-wakes : goal.returns-then-contains-clause-wakes
returns-then-contains-clause-wakes g c =
    let passed = passed_some c.args.sems.now c.args.woken_for c.in-Some.sem true c.in-Some.is (sym c.contains.ensures.value ∙ c.if-contains.true) in
    subst (λ (l : List ℕ). WakesAtMost c.args.yard.now.home l (length l) c.args.ready.now.items c.wake_turns.new.ready.items) (sym passed) c.wake_turns.ensures.wakes

pub returns-then-contains-clause-first : goal.returns-then-contains-clause-first
returns-then-contains-clause-first g c =
    let passed = passed_some c.args.sems.now c.args.woken_for c.in-Some.sem true c.in-Some.is (sym c.contains.ensures.value ∙ c.if-contains.true) in
    subst (λ (l : List ℕ). WakesFirst l c.args.yard.now c.wake_turns.new.yard c.args.ready.now.items c.wake_turns.new.ready.items) (sym passed) c.wake_turns.ensures.first

pub returns-then-contains-clause-few : goal.returns-then-contains-clause-few
returns-then-contains-clause-few g c =
    let passed = passed_some c.args.sems.now c.args.woken_for c.in-Some.sem true c.in-Some.is (sym c.contains.ensures.value ∙ c.if-contains.true) in
    omega (arith, c.wake_turns.ensures.few, ap length passed)

pub returns-else-contains-clause-first : goal.returns-else-contains-clause-first
returns-else-contains-clause-first g c =
    let none = passed_some c.args.sems.now c.args.woken_for c.in-Some.sem false c.in-Some.is (sym c.contains.ensures.value ∙ c.if-contains.false) in
    subst (λ (l : List ℕ). WakesFirst l c.args.yard.now c.args.yard.now c.args.ready.now.items c.args.ready.now.items) (sym none) (record { yard = refl; woken = sym (append-nil c.args.ready.now.items) })

pub returns-in_default-clause-first : goal.returns-in_default-clause-first
returns-in_default-clause-first g c =
    subst (λ (l : List ℕ). WakesFirst l c.args.yard.now c.args.yard.now c.args.ready.now.items c.args.ready.now.items) (sym (ap (passed_over c.args.sems.now) c.in_default.is)) (record { yard = refl; woken = sym (append-nil c.args.ready.now.items) })
