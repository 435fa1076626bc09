-- The entries that a turn or a keeper tells are in one journal.
use Rattle.std.proofs.Common.{◌≡◌, ℕ, List, [], ◌∷◌, ◌++◌, Option, Some, None, refl, sym, ap, ◌∙◌, subst, arith}
use Rattle.std.specs.List.{AllByRecursion}
use Rattle.task_graph.specs.NetRows.{NetRows}
use Rattle.journal_rules.specs.declared.entry.Cause.{Cause}
use Rattle.journal_rules.specs.declared.entry.Entry.{Entry}
use Rattle.journal_rules.specs.declared.entry.Entry.TheVariants.{Start, End}
use Rattle.journal_rules.specs.declared.entry.Part.{Part}
use Rattle.table_steps.specs.declared.view.TurnDuty.TheVariants.{Told, Fresh, Collecting, Ticket, Open, Owes, Counting}
use Rattle.table_steps.specs.declared.view.SeatMark.TheVariants.{Live}
use Rattle.table_steps.specs.declared.view.SemaphoreRole.TheVariants.{Owed}
use Rattle.table_steps.specs.declared.view.Note.{Note}
use Rattle.table_steps.specs.declared.view.Note.TheVariants.{Duty, Sems, Has, Unfit, Lies, Queued}
use Rattle.table_steps.specs.OneJournal.{entries_in, HasEntry, AreInOneJournal}
use Rattle.table_steps.specs.inside.Accounts.{resting, weigh}
use Rattle.table_steps.specs.inside.Kinds.{IsTurn, with_end_drawn}
use Rattle.table_steps.specs.inside.Slots.{our_lots}
use Rattle.table_steps.proofs.Totals.{weigh_append}
use Rattle.table_steps.proofs.SlotViews.{our_weigh}
use Rattle.join_tables.specs.declared.fates.Fate.TheVariants.{Ended}
use Rattle.join_tables.specs.declared.keeper.Recorded.{Recorded}
use Rattle.join_tables.specs.declared.turns.EndedStart.{EndedStart}
use Rattle.join_tables.specs.Keeping.{entries_of, start_of, with_places}
use Rattle.join_tables.specs.inside.Recording.{tellings, told_after, told_notes}
use Rattle.join_tables.specs.inside.Seated.{IsSpent, UnitShares, refused_notes, running_view, owing_view}

-- what else is known tells no entry
entries_tellings : (v : List Note) → entries_in v ≡ entries_in (tellings v)
entries_tellings [] = refl
entries_tellings (Duty (Told n x) ∷ v) = ap (λ es. (n, x) ∷ es) (entries_tellings v)
entries_tellings (Duty (Fresh t cause) ∷ v) = entries_tellings v
entries_tellings (Duty (Collecting t cause taken left) ∷ v) = entries_tellings v
entries_tellings (Duty Ticket ∷ v) = entries_tellings v
entries_tellings (Duty (Open n t) ∷ v) = entries_tellings v
entries_tellings (Duty (Owes gives) ∷ v) = entries_tellings v
entries_tellings (Duty (Counting e) ∷ v) = entries_tellings v
entries_tellings (Sems k l ∷ v) = entries_tellings v
entries_tellings (Has m ∷ v) = entries_tellings v
entries_tellings (Unfit s n t ∷ v) = entries_tellings v
entries_tellings (Lies k e p ∷ v) = entries_tellings v
entries_tellings (Queued q qs ∷ v) = entries_tellings v

told_there : (journal : List Entry) (notes : List Note) (rs : List Recorded) → AllByRecursion (HasEntry journal) (entries_in (told_after notes rs)) → AllByRecursion (HasEntry journal) (entries_in notes) × AllByRecursion (HasEntry journal) (with_places rs)
told_there journal notes [] h = (h, tt)
told_there journal notes (r ∷ rs) h = let k = told_there journal (Duty (Told r.place r.entry) ∷ notes) rs h in (k.0.1, (k.0.0, k.1))

pub told_in_one : (net : NetRows) (limit : ℕ) (v : List Note) (rs : List Recorded) → tellings v ≡ told_notes rs → AreInOneJournal net limit (entries_in v) → AreInOneJournal net limit (with_places rs)
told_in_one net limit v rs is one = record {
  journal = one.journal;
  legal = one.legal;
  meets = one.meets;
  stand = (told_there one.journal [] rs (subst (AllByRecursion (HasEntry one.journal)) (entries_tellings v ∙ ap entries_in is) one.stand)).1;
}

-- A TURN THAT IS DONE
pub spent_in_one : (net : NetRows) (limit : ℕ) (v : List Note) (rs : List Recorded) → IsSpent rs v → AreInOneJournal net limit (entries_in v) → AreInOneJournal net limit (with_places rs)
spent_in_one net limit (Duty (Owes []) ∷ Has Live ∷ rest) rs spent one = told_in_one net limit rest rs spent.0 one
spent_in_one net limit v rs spent one = absurd spent

-- A START
refused_rests : (place t : ℕ) (r : Option ℕ) (rest : List Note) → weigh resting (refused_notes place t r ++ rest) ≡ weigh resting rest
refused_rests place t None rest = refl
refused_rests place t (Some a) rest = omega arith

refused_tells : (place t : ℕ) (r : Option ℕ) (rest : List Note) → tellings (refused_notes place t r ++ rest) ≡ tellings rest
refused_tells place t None rest = refl
refused_tells place t (Some a) rest = refl

pub running_turn : (t : ℕ) (cause : Cause) (place : ℕ) (ins : List Part) (s : UnitShares) → IsTurn (running_view t cause place ins s)
running_turn t cause place ins s = (omega (arith, refused_rests place t s.refused (Duty (Told place (Start t cause ins)) ∷ [])), omega arith)

pub running_told : (t : ℕ) (cause : Cause) (place : ℕ) (ins : List Part) (s : UnitShares) → tellings (running_view t cause place ins s) ≡ told_notes (start_of place t cause ins ∷ [])
running_told t cause place ins s = refused_tells place t s.refused (Duty (Told place (Start t cause ins)) ∷ [])

-- AN END
ours_tell : (n : ℕ) (es : List ℕ) (rest : List Note) → tellings (our_lots n es ++ rest) ≡ tellings rest
ours_tell n [] rest = refl
ours_tell n (e ∷ es) rest = ours_tell n es rest

pub end_view : {V : Type 0} (ended : EndedStart V) (s : UnitShares) (ins : List Part) → ended.found.parts ≡ ins → s.refused ≡ None → with_end_drawn ended.gives ended.inner ended.place (running_view ended.task ended.cause ended.start ins s) ≡ owing_view ended ended.gives (s.granted ++ s.both)
end_view ended s ins is none = λ i. Duty (Owes ended.gives) ∷ Has Live ∷ Sems Owed (s.granted ++ s.both) ∷ Duty (Told ended.place (End ended.start ended.gives ended.inner)) ∷ our_lots ended.place ended.gives ++ (refused_notes ended.start ended.task (none i) ++ Duty (Told ended.start (Start ended.task ended.cause (sym is i))) ∷ [])

module _ {V : Type 0} (ended : EndedStart V) (left units : List ℕ) where
  abbrev started : List Note
  started = Duty (Told ended.start (Start ended.task ended.cause ended.found.parts)) ∷ []

  pub owing_turn : IsTurn (owing_view ended left units)
  owing_turn = (omega (arith, weigh_append resting (our_lots ended.place left) started, our_weigh resting ended.place left), omega arith)

  pub owing_told : tellings (owing_view ended left units) ≡ told_notes (entries_of (Ended ended))
  owing_told = ap (λ v. Duty (Told ended.place (End ended.start ended.gives ended.inner)) ∷ v) (ours_tell ended.place left started)
