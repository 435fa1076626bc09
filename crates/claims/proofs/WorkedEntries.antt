-- By which causes tasks may be released, the one journal of the entries that seats have, when fates tell a run, and
-- what batches, shares and inputs say.
use Rattle.std.proofs.Common.{◌≡◌, ℕ, zero, suc, ◌<◌, true, false, List, [], ◌∷◌, length, map, Some, None, refl, ap, sym, subst, ◌∙◌, arith}
use Rattle.std.specs.Prelude.{◌==◌, count_by, slice_get}
use Rattle.std.specs.Arc.{arc_with_value}
use Rattle.std.specs.Vec.{vec_capacity}
use Rattle.std.specs.Global.{Global}
use Rattle.std.specs.declared.sync.Arc.{Arc}
use Rattle.atomic_table.specs.Seated.{TableId}
use Rattle.atomic_table.specs.Table.{State}
use Rattle.task_graph.specs.NetRows.{NetRows}
use Rattle.task_graph.specs.declared.net.EdgeRow.{EdgeRow}
use Rattle.task_graph.specs.declared.net.Shape.{Shape}
use Rattle.task_graph.specs.declared.net.Shape.TheVariants.{Plain, Choice}
use Rattle.task_graph.specs.declared.net.TaskRow.{TaskRow}
use Rattle.journal_rules.specs.declared.entry.Cause.TheVariants.{Source, Strong, Weak}
use Rattle.journal_rules.specs.declared.entry.DropWhy.TheVariants.{Limit}
use Rattle.journal_rules.specs.declared.entry.Entry.{Entry}
use Rattle.journal_rules.specs.declared.entry.Entry.TheVariants.{Start, End}
use Rattle.journal_rules.specs.declared.entry.Part.TheVariants.{From, First}
use Rattle.journal_rules.specs.Complete.{Complete}
use Rattle.journal_rules.specs.ShapeLegal.{MayFollow, ShapeLegal, MeetsDataRule}
use Rattle.join_words.specs.declared.ins.Given.{Given}
use Rattle.join_words.specs.declared.ins.Given.TheVariants.{Value, First as FirstToken}
use Rattle.join_words.specs.Ins.{parts_of}
use Rattle.table_steps.specs.Releases.{CanRelease, MayBeReleased}
use Rattle.table_steps.specs.OneJournal.{told_by, entries_in, HasEntry, AreInOneJournal, AreOneJournal, drawn_count, seats_entries}
use Rattle.table_steps.specs.Values.{given_part}
use Rattle.table_steps.specs.declared.view.Note.{Note}
use Rattle.table_steps.specs.declared.view.Note.TheVariants.{Duty, Has}
use Rattle.table_steps.specs.declared.view.SeatMark.TheVariants.{Live}
use Rattle.table_steps.specs.declared.view.SeatView.{SeatView}
use Rattle.table_steps.specs.declared.view.TurnDuty.TheVariants.{Told, Ticket}
use Rattle.join_tables.specs.Batches.{BatchState, batch_state}
use Rattle.join_tables.specs.Finishing.{IsRunTold}
use Rattle.join_tables.specs.Inputs.{given_in, parts_found, room_in}
use Rattle.join_tables.specs.Keeping.{Merges, entries_told}
use Rattle.join_tables.specs.Parts.{parts_in}
use Rattle.join_tables.specs.Shares.{SharedState, shared_state}
use Rattle.join_tables.specs.declared.fates.Fate.{Fate}
use Rattle.join_tables.specs.declared.fates.Fate.TheVariants.{Ended, Dropped}
use Rattle.join_tables.specs.declared.parts.FoundParts.{FoundParts}
use Rattle.join_tables.specs.declared.parts.Inputs.{Inputs}
use Rattle.claims.proofs.WorkedTurns.{one_task, journal, may_start, may_end, ended, whole_run}

-- WHO MAY BE RELEASED
abbrev free : Shape → TaskRow
free shape = record { shape = shape; takes = []; puts = [] }

abbrev edge : ℕ → ℕ → EdgeRow
edge from to = record { from = from; to = to; start = false }

-- a source, a choice behind it, and a task behind both
abbrev net : NetRows
net = record { tasks = free Plain ∷ free Choice ∷ free Plain ∷ []; edges = edge 0 1 ∷ edge 1 2 ∷ edge 0 2 ∷ []; sems = [] }

by_each_cause : CanRelease net 0 Source × CanRelease net 1 Strong × CanRelease net 2 (Weak 1)
by_each_cause = (refl, (λ none. absurd (cc)), (refl, refl))

no_source_behind_an_edge : ¬ CanRelease net 1 Source
no_source_behind_an_edge is = absurd (cc)

not_without_a_strong_edge : ¬ CanRelease net 0 Strong
not_without_a_strong_edge some = some refl

not_by_an_edge_to_another : ¬ CanRelease net 1 (Weak 1)
not_by_an_edge_to_another is = absurd (omega (arith, is.1))

not_by_a_strong_edge_alone : ¬ CanRelease net 2 (Weak 2)
not_by_a_strong_edge_alone is = absurd (cc)

released_by_each_cause : MayBeReleased net 0 Source × MayBeReleased net 1 Strong × MayBeReleased net 2 (Weak 1)
released_by_each_cause = (
  record { in_tasks = omega arith; in_range = tt; fits = by_each_cause.0 },
  record { in_tasks = omega arith; in_range = tt; fits = by_each_cause.1 },
  record { in_tasks = omega arith; in_range = omega arith; fits = by_each_cause.2 },
)

no_task_there : CanRelease net 3 Source × ¬ MayBeReleased net 3 Source
no_task_there = (refl, λ may. absurd (omega (arith, may.in_tasks)))

no_edge_there : ¬ MayBeReleased net 2 (Weak 3)
no_edge_there may = absurd (omega (arith, may.in_range))

another_cause : ¬ MayBeReleased net 1 Source
another_cause may = no_source_behind_an_edge may.fits

-- ONE JOURNAL
abbrev start : Entry
start = Start 0 Source []

abbrev finish : Entry
finish = End 0 [] false

entry_of_a_note : (told_by (Duty (Told 1 finish)) ≡ (1, finish) ∷ []) × (told_by (Duty Ticket) ≡ []) × (told_by (Has Live) ≡ [])
entry_of_a_note = (refl, refl, refl)

entries_of_notes : entries_in (Has Live ∷ Duty (Told 0 start) ∷ Duty (Told 1 finish) ∷ []) ≡ (0, start) ∷ (1, finish) ∷ []
entries_of_notes = refl

at_its_place : HasEntry journal (1, finish)
at_its_place = refl

at_another_place : ¬ HasEntry journal (0, finish) × ¬ HasEntry journal (2, finish)
at_another_place = ((λ is. absurd (cc)), λ is. absurd (cc))

in_one_journal : AreInOneJournal one_task 5 ((1, finish) ∷ [])
in_one_journal = record { journal = journal; legal = (may_start, (may_end, tt)); meets = (tt, (tt, tt)); stand = (refl, tt) }

two_at_one_place : ¬ AreInOneJournal one_task 5 ((0, start) ∷ (0, finish) ∷ [])
two_at_one_place are = let same : Some start ≡ Some finish = sym are.stand.0 ∙ are.stand.1.0 in absurd (cc)

-- no legal journal begins with an End
end_before_its_start : ¬ AreInOneJournal one_task 5 ((0, finish) ∷ [])
end_before_its_start are = by_front are.journal are.legal are.stand.0
  where
    by_front : (h : List Entry) → ShapeLegal one_task 5 h → slice_get h 0 ≡ Some finish → ⊥
    by_front [] legal is = absurd (cc)
    by_front (x ∷ more) legal is = let same : x ≡ finish = cc in let no : false ≡ true = (subst (MayFollow one_task 5 []) same legal.0).closing in absurd (cc)

each_once : (m : ℕ) → m < 2 → count_by (λ (e : ℕ × Entry). e.0 == m) ((1, finish) ∷ (0, start) ∷ []) ≡ 1
each_once zero below = refl
each_once (suc zero) below = refl
each_once (suc (suc m)) below = absurd (omega arith)

one_journal : AreOneJournal one_task 5 2 ((1, finish) ∷ (0, start) ∷ [])
one_journal = record {
  within = record { journal = journal; legal = (may_start, (may_end, tt)); meets = (tt, (tt, tt)); stand = (refl, (refl, tt)) };
  size = refl;
  once = each_once;
}

one_entry_is_missing : ¬ AreOneJournal one_task 5 2 ((1, finish) ∷ [])
one_entry_is_missing are = absurd (omega (arith, are.once 0 (omega arith)))

one_entry_twice : ¬ AreOneJournal one_task 5 2 ((0, start) ∷ (1, finish) ∷ (0, start) ∷ [])
one_entry_twice are = absurd (omega (arith, are.once 0 (omega arith)))

-- A clock that says two, and two seats of which each has an entry.
abbrev seat_with : List Note → SeatView ℕ
seat_with notes = record { notes = notes; values = [] }

abbrev table : State (List (Given ℕ)) (SeatView ℕ)
table = record {
  words = 0 ∷ 0 ∷ 0 ∷ 0 ∷ 0 ∷ 0 ∷ 0 ∷ 0 ∷ 2 ∷ 9 ∷ [];
  homes = [];
  views = seat_with (Duty (Told 1 finish) ∷ Has Live ∷ []) ∷ seat_with (Duty (Told 0 start) ∷ []) ∷ [];
}

drawn_by_the_clock : drawn_count table ≡ 2
drawn_by_the_clock = refl

entries_of_both_seats : seats_entries table ≡ (1, finish) ∷ (0, start) ∷ []
entries_of_both_seats = refl

-- WHEN FATES TELL A RUN
-- the one task found no input, and ended
module _ (shared : Arc ℕ Global) (parts : FoundParts ℕ) (no_input : parts.parts ≡ []) where
  abbrev fates : List (Fate ℕ)
  fates = Ended (ended shared parts no_input) ∷ []

  abbrev its_start : Entry
  its_start = Start 0 Source parts.parts

  -- two entries, each at its place, are one journal
  merged : (h : List Entry) → Merges (entries_told fates) h → h ≡ its_start ∷ finish ∷ []
  merged [] merges = let no : None ≡ Some its_start = merges.stand.0 in absurd (cc)
  merged (x ∷ []) merges = let no : None ≡ Some finish = merges.stand.1.0 in absurd (cc)
  merged (x ∷ y ∷ []) merges =
      let first : Some x ≡ Some its_start = merges.stand.0 in
      let second : Some y ≡ Some finish = merges.stand.1.0 in
      cc
  merged (x ∷ y ∷ z ∷ more) merges = absurd (omega (arith, merges.each 2 (omega arith)))

  run_told : IsRunTold fates (its_start ∷ finish ∷ [])
  run_told net limit tells =
      let same : tells.journal ≡ its_start ∷ finish ∷ [] = merged tells.journal tells.merges in
      (subst (ShapeLegal net limit) same tells.legal, subst (MeetsDataRule net) same tells.meets, subst (Complete net limit) same tells.complete)

  no_run_without_entries : ¬ IsRunTold fates []
  no_run_without_entries told = absurd (omega (arith, (told one_task 5 (whole_run shared parts no_input)).2.sources.0 refl))

-- BATCHES, SHARES AND INPUTS
module _ (n : TableId) where
  abbrev dropped : Fate ℕ
  dropped = Dropped (record { task = 0; cause = Source; place = 3; why = Limit })

  batch_with_its_turn : batch_state (Some n) (dropped ∷ []) 4 ≡ record { table = Some n; fates = dropped ∷ []; room = 4 }
  batch_with_its_turn = refl

  batch_without_its_turn : ¬ (batch_state (Some n) (dropped ∷ []) 4 ≡ batch_state (Some n) [] 4)
  batch_without_its_turn is = absurd (omega (arith, ap (λ (b : BatchState ℕ). length b.fates) is))

  batch_with_other_room : ¬ (batch_state (Some n) (dropped ∷ []) 4 ≡ batch_state (Some n) (dropped ∷ []) 3)
  batch_with_other_room is = absurd (omega (arith, ap (λ (b : BatchState ℕ). b.room) is))

value_for_two_edges : shared_state {V = ℕ} 7 2 true ≡ record { value = 7; edges = 2; bare = true }
value_for_two_edges = refl

value_for_one_edge : ¬ (shared_state {V = ℕ} 7 2 true ≡ shared_state {V = ℕ} 7 1 true)
value_for_one_edge is = absurd (omega (arith, ap (λ (s : SharedState ℕ). s.edges) is))

another_value_shared : ¬ (shared_state {V = ℕ} 7 2 true ≡ shared_state {V = ℕ} 8 2 true)
another_value_shared is = absurd (omega (arith, ap (λ (s : SharedState ℕ). s.value) is))

-- what was found: the value 7 of the End at place 3, and the token with which an edge began
module _ (shared : Arc ℕ Global) (inputs : Inputs ℕ) (found : parts_of inputs.ins ≡ Value 3 (arc_with_value shared 7) ∷ FirstToken ∷ []) where
  given_so_far : given_in inputs ≡ Value 3 (arc_with_value shared 7) ∷ FirstToken ∷ []
  given_so_far = found

  given_without_the_token : ¬ (given_in inputs ≡ Value 3 (arc_with_value shared 7) ∷ [])
  given_without_the_token is = absurd (omega (arith, ap length (sym found ∙ is)))

  parts_so_far : parts_found inputs ≡ From 3 ∷ First ∷ []
  parts_so_far = ap (λ (given : List (Given ℕ)). map given_part given) found

  part_of_another_end : ¬ (parts_found inputs ≡ From 4 ∷ First ∷ [])
  part_of_another_end is = let no : From 3 ∷ First ∷ [] ≡ From 4 ∷ First ∷ [] = sym parts_so_far ∙ is in absurd (cc)

  parts_of_the_inputs : parts_in inputs.ins ≡ From 3 ∷ First ∷ []
  parts_of_the_inputs = parts_so_far

  room_for_three : vec_capacity inputs.parts ≡ 3 → (room_in inputs ≡ 3) × ¬ (room_in inputs ≡ 2)
  room_for_three three = (three, λ two. absurd (omega (arith, three, two)))
