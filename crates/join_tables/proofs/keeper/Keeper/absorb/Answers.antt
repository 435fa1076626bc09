use Rattle.std.proofs.Common.{rules, ◌≡◌, ◌++◌, sym, ap, ◌∙◌, subst}
use Rattle.std.proofs.lemmas.Grind.{flat_map-append}
use Rattle.outside_io.specs.declared.list.NoMemory.{NoMemory}
use Rattle.table_steps.specs.OneJournal.{AreInOneJournal}
use Rattle.table_steps.specs.Values.{Knows}
use Rattle.table_steps.specs.inside.Accounts.{busy, weigh}
use Rattle.table_steps.proofs.Values.{knows_again, one_known}
use Rattle.join_tables.specs.States.{TableState}
use Rattle.join_tables.specs.Values.{values_known}
use Rattle.join_tables.specs.Keeping.{TellsRun, entries_of, entries_told, with_places}
use Rattle.join_tables.specs.inside.Recording.{tellings, told_notes}
use Rattle.join_tables.proofs.Drawn.{told_in_one}
use Rattle.join_tables.proofs.Knowing.{knows_all}
use Rattle.join_tables.proofs.Recordings.{may_leave, told_more, idle_still, tells_run, found_one}
use Rattle.join_tables.proofs.RestViews.{held_in}
use Rattle.join_tables.proofs.keeper.Keeper.absorb.Goals as goal

pub settle-requires-clause-ready : goal.settle-requires-clause-ready
settle-requires-clause-ready g c =
    let s = c.in-Some.spent in
    let spent = held_in _ c.batch.inside.seat s c.batch.invariant.0 (sym c.take.ensures.value ∙ c.in-Some.is) in
    may_leave (entries_told c.batch.inside.fates.items) c.self.inside.seat.me.0 s.me.0 spent.0 c.self.invariant.3

pub invariant_of-self-2 : goal.invariant_of-self-2
invariant_of-self-2 g c =
    let s = c.in-Some.spent in let k = c.self.inside.fates.items in let b = c.batch.inside.fates.items in
    let spent = held_in _ c.batch.inside.seat s c.batch.invariant.0 (sym c.take.ensures.value ∙ c.in-Some.is) in
    let fates : c.append.new.self.items ≡ k ++ b = search rules in
    let view : tellings c.settle.new.seat.me.0 ≡ told_notes (entries_told c.append.new.self.items) =
    ap tellings c.settle.ensures.view.0 ∙ told_more (entries_told b) (entries_told k) c.self.inside.seat.me.0 s.me.0 spent.0 c.self.invariant.2 ∙ ap told_notes (sym (ap entries_told fates ∙ flat_map-append entries_of k b)) in
    let idle : weigh busy c.settle.new.seat.me.0 ≡ 0 =
    ap (weigh busy) c.settle.ensures.view.0 ∙ idle_still (entries_told b) c.self.inside.seat.me.0 s.me.0 spent.0 c.self.invariant.3 in
    let known = knows_all c.settle.new.seat.values k b (knows_again _ _ _ c.settle.ensures.known.0 c.self.invariant.4) (knows_again _ _ _ c.settle.ensures.known.1 spent.2) in
    (c.settle.ensures.table.1, c.settle.ensures.view.1, view, idle, subst (λ fs. Knows c.settle.new.seat.values (values_known fs)) (sym fates) known, c.settle.ensures.one)

pub returns-clause-journal : goal.returns-clause-journal
returns-clause-journal g c =
    let s = c.in-Some.spent in let k = c.self.inside.fates.items in let b = c.batch.inside.fates.items in
    let spent = held_in _ c.batch.inside.seat s c.batch.invariant.0 (sym c.take.ensures.value ∙ c.in-Some.is) in
    let fates : c.append.new.self.items ≡ k ++ b = search rules in
    let view : tellings c.settle.new.seat.me.0 ≡ told_notes (entries_told c.append.new.self.items) =
    ap tellings c.settle.ensures.view.0 ∙ told_more (entries_told b) (entries_told k) c.self.inside.seat.me.0 s.me.0 spent.0 c.self.invariant.2 ∙ ap told_notes (sym (ap entries_told fates ∙ flat_map-append entries_of k b)) in
    subst (λ (t : TableState). AreInOneJournal t.net t.limit (with_places (entries_told c.append.new.self.items))) c.table.view_is
    (told_in_one _ _ c.settle.new.seat.me.0 (entries_told c.append.new.self.items) view c.settle.ensures.journal)

pub returns-clause-agree : goal.returns-clause-agree
returns-clause-agree g c =
    let s = c.in-Some.spent in let k = c.self.inside.fates.items in let b = c.batch.inside.fates.items in
    let spent = held_in _ c.batch.inside.seat s c.batch.invariant.0 (sym c.take.ensures.value ∙ c.in-Some.is) in
    let fates : c.append.new.self.items ≡ k ++ b = search rules in
    let known = knows_all c.settle.new.seat.values k b (knows_again _ _ _ c.settle.ensures.known.0 c.self.invariant.4) (knows_again _ _ _ c.settle.ensures.known.1 spent.2) in
    one_known _ _ (subst (λ fs. Knows c.settle.new.seat.values (values_known fs)) (sym fates) known) c.settle.ensures.one

pub returns-clause-all : goal.returns-clause-all
returns-clause-all g c = λ last.
    let s = c.in-Some.spent in let k = c.self.inside.fates.items in let b = c.batch.inside.fates.items in
    let spent = held_in _ c.batch.inside.seat s c.batch.invariant.0 (sym c.take.ensures.value ∙ c.in-Some.is) in
    let fates : c.append.new.self.items ≡ k ++ b = search rules in
    let view : tellings c.settle.new.seat.me.0 ≡ told_notes (entries_told c.append.new.self.items) =
    ap tellings c.settle.ensures.view.0 ∙ told_more (entries_told b) (entries_told k) c.self.inside.seat.me.0 s.me.0 spent.0 c.self.invariant.2 ∙ ap told_notes (sym (ap entries_told fates ∙ flat_map-append entries_of k b)) in
    subst (λ (t : TableState). TellsRun t.net t.limit (entries_told c.append.new.self.items)) c.table.view_is
    (tells_run _ _ c.settle.new.seat.me.0 (entries_told c.append.new.self.items) view (c.settle.ensures.all (found_one NoMemory c.settle.result c.of.result c.of.ensures last)))

-- where an allocation fails
pub invariant_of-self : goal.invariant_of-self
invariant_of-self g c =
    let fates : c.append.new.self.items ≡ c.self.inside.fates.items = search rules in (
      c.learn.ensures.table.1 ∙ c.self.invariant.0,
      c.learn.ensures.view.1 ∙ c.self.invariant.1,
      ap tellings c.learn.ensures.view.0 ∙ c.self.invariant.2 ∙ ap told_notes (ap entries_told (sym fates)),
      ap (weigh busy) c.learn.ensures.view.0 ∙ c.self.invariant.3,
      subst (λ fs. Knows c.learn.new.seat.values (values_known fs)) (sym fates) (knows_again _ _ _ c.learn.ensures.known c.self.invariant.4),
      c.learn.ensures.one,
    )

pub returns-then-is_err-clause-journal : goal.returns-then-is_err-clause-journal
returns-then-is_err-clause-journal g c =
    let fates : c.append.new.self.items ≡ c.self.inside.fates.items = search rules in
    subst (λ (t : TableState). AreInOneJournal t.net t.limit (with_places (entries_told c.append.new.self.items))) c.table.view_is
    (told_in_one _ _ c.self.inside.seat.me.0 (entries_told c.append.new.self.items) (c.self.invariant.2 ∙ ap told_notes (ap entries_told (sym fates))) c.learn.ensures.journal)

pub returns-then-is_err-clause-agree : goal.returns-then-is_err-clause-agree
returns-then-is_err-clause-agree g c =
    let fates : c.append.new.self.items ≡ c.self.inside.fates.items = search rules in
    one_known _ _ (subst (λ fs. Knows c.self.inside.seat.values (values_known fs)) (sym fates) c.self.invariant.4) c.self.invariant.5
