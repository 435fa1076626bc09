-- What a turn's calls ask of its seat.
use Rattle.std.proofs.Common.{◌≡◌, ◌≢◌, inl, inr, Bool, ℕ, zero, suc, ◌+◌, ◌<◌, true, false, not, ◌&&◌, eqb, List, [], ◌∷◌, ◌++◌, length, Option, Some, None, refl, sym, ap, subst, ◌∙◌, arith}
use Rattle.std.specs.Prelude.{slice_get, ◌==◌}
use Rattle.std.specs.Option.{option_map_or}
use Rattle.std.proofs.lemmas.Bool.Decides.{nat_tests}
use Rattle.task_graph.specs.NetRows.{NetRows}
use Rattle.task_graph.specs.Net.{is_weak, is_weak_row, strong_in}
use Rattle.task_graph.specs.declared.net.EdgeRow.{EdgeRow}
use Rattle.std.specs.Prelude.{drop}
use Rattle.table_steps.specs.declared.view.TurnDuty.TheVariants.{Told, Owes}
use Rattle.table_steps.specs.declared.view.Note.{Note}
use Rattle.table_steps.specs.declared.view.Note.TheVariants.{Duty, Sems, Has, Lies}
use Rattle.table_steps.proofs.Counting.{times_strong_in, is_strong_into}
use Rattle.join_tables.specs.Findings.{FindsOne, FindsTwo, CountsEdge, GivesToken}
use Rattle.join_tables.specs.States.{FreshState, OwingState, SpentState, fresh_state, owing_state, spent_state}
use Rattle.join_tables.specs.Turns.{GivesNext, release_cause}
use Rattle.join_tables.specs.declared.turns.Gave.TheVariants.{Next, Released, Finished}
use Rattle.join_tables.specs.declared.fates.Fate.TheVariants.{Ended}
use Rattle.journal_rules.specs.declared.entry.Part.TheVariants.{From}
use Rattle.journal_rules.specs.declared.entry.Cause.TheVariants.{Weak}
use Rattle.table_steps.specs.declared.view.SeatMark.TheVariants.{Live}
use Rattle.table_steps.specs.declared.view.Lot.TheVariants.{Ours, Putting, Put}
use Rattle.table_steps.specs.inside.Accounts.{mark, resting, weigh, AllFitNotes}
use Rattle.table_steps.specs.inside.Slots.{lot, slot_weigh, our_lots, pick, relot, unlot}
use Rattle.table_steps.specs.inside.SlotKinds.{MayTryPut, pick_part, lot_part}
use Rattle.table_steps.proofs.Relotting.{has_lot, relot_weigh, unlot_weigh, relot_there, unlot_relot, self_weight}
use Rattle.table_steps.proofs.Totals.{weigh_append}
use Rattle.table_steps.proofs.Lots.{slot_append, our_none}
use Rattle.table_steps.proofs.SlotViews.{our_weigh}
use Rattle.journal_rules.specs.declared.entry.Entry.TheVariants.{Start, End}
use Rattle.table_steps.specs.declared.view.SemaphoreRole.TheVariants.{Owed}
use Rattle.join_tables.specs.declared.turns.EndedStart.{EndedStart}
use Rattle.table_steps.specs.inside.Kinds.{OwesNext, gave, given_notes, CountsNext}
use Rattle.join_tables.specs.inside.Seated.{owing_view, HasMade, OwesFirst, OwesToken, paid, paid_token}
use Rattle.table_steps.specs.Giving.{times, one_if, target}
use Rattle.table_steps.proofs.Counting.{is_strong_into}

-- a strong edge ends strongly in its target
target_into : (net : NetRows) (f : ℕ) → f < length net.edges → is_weak net f ≡ false → is_strong_into net (target net f) f ≡ true
target_into net f below strong = by_row (slice_get net.edges f) refl strong
  where
    in_list : {X : Type 0} (xs : List X) (n : ℕ) → n < length xs → slice_get xs n ≡ None → ⊥
    in_list [] n lt gone = omega arith
    in_list (x ∷ xs) zero lt gone = cc
    in_list (x ∷ xs) (suc n) lt gone = in_list xs n (omega arith) gone

    by_row : (row : Option EdgeRow) → slice_get net.edges f ≡ row → option_map_or (is_weak_row net) row false ≡ false
        → option_map_or (λ (r : EdgeRow). (r.to == option_map_or (λ (q : EdgeRow). q.to) row 0) && not (is_weak_row net r)) row false ≡ true
    by_row None is h = absurd (in_list net.edges f below is)
    by_row (Some row) is h = let hit : eqb row.to row.to ≡ true = grind (arith, nat_tests) in rw (hit, h) refl

-- where the first token of a strong edge was given, the edge is to be counted
pub gave_counts : (net : NetRows) (f task found : ℕ) (v : List Note) → OwesNext net f v → is_weak net f ≡ false → found ≡ 0 → task ≡ target net f → task < length net.tasks → CountsNext net task f (gave net f found v)
gave_counts net f task found (Duty (Owes (g ∷ gives)) ∷ rest) owes strong is_zero task_is below =
    let r = has_lot Put f rest owes.3 in
    subst (λ k. CountsNext net task f (given_notes (is_weak net f) (target net f) k f gives ++ unlot Put f rest)) (sym is_zero)
    (subst (λ w. CountsNext net task f (given_notes w (target net f) 0 f gives ++ unlot Put f rest)) (sym strong)
    (refl, below, ap (λ t. times f (strong_in net t)) task_is ∙ times_strong_in net (target net f) f ∙ ap one_if (target_into net f owes.1 strong), (omega (arith, owes.2.0, unlot_weigh resting Put f rest r), omega (arith, owes.2.1, unlot_weigh (mark Live) Put f rest r))))
gave_counts net f task found v owes strong is_zero task_is below = absurd owes

-- an edge to which a seat owes a token is one of the net's
pub owes_next : (net : NetRows) (f : ℕ) (v : List Note) → OwesToken f v → AllFitNotes net v → OwesNext net f v
owes_next net f (Duty (Owes (g ∷ gives)) ∷ rest) owes fits = (owes.0, subst (λ k. k < length net.edges) owes.0 fits.0.0, owes.1, owes.2)
owes_next net f v owes fits = absurd owes

-- a seat that owes an edge its parcel may put it
pub record MayDeliver (net : NetRows) (f n : ℕ) (v : List Note) : Type 0 where
  pub may : MayTryPut f v
  pub free : slot_weigh (lot Putting f) v ≡ 0
  pub part : lot_part Ours f v ≡ From n
  pub below : f < length net.edges
  pub token : OwesToken f (relot Ours Put (λ p. p) f v)
  pub pays : paid_token (relot Ours Put (λ p. p) f v) ≡ paid v

pub may_deliver : (net : NetRows) (f n : ℕ) (v : List Note) → OwesFirst f n v → AllFitNotes net v → MayDeliver net f n v
may_deliver net f n (Duty (Owes (g ∷ gives)) ∷ rest) owes fits =
    let r = has_lot Ours f rest owes.2.ours in record {
      may = record {
        ours = omega (arith, owes.2.ours);
        from = record { place = n; is = owes.2.part };
        turn = (omega (arith, owes.1.0), omega (arith, owes.1.1));
      };
      free = omega (arith, owes.2.none_held);
      part = owes.2.part;
      below = subst (λ k. k < length net.edges) owes.0 fits.0.0;
      token = (owes.0, (omega (arith, owes.1.0, relot_weigh resting Ours Put (λ p. p) f rest r), omega (arith, owes.1.1, relot_weigh (mark Live) Ours Put (λ p. p) f rest r)), relot_there Ours Put (λ p. p) f rest r owes.2.none_put refl);
      pays = (λ i. Duty (Owes gives) ∷ unlot Put (owes.0 i) (relot Ours Put (λ p. p) f rest)) ∙ ap (λ l. Duty (Owes gives) ∷ l) (unlot_relot Ours Put (λ p. p) f rest owes.2.none_put) ∙ (λ i. Duty (Owes gives) ∷ unlot Ours (sym owes.0 i) rest);
    }
may_deliver net f n v owes fits = absurd owes

-- the places of a list from one on
drop_after : (xs : List ℕ) (n e : ℕ) → slice_get xs n ≡ Some e → drop n xs ≡ e ∷ drop (suc n) xs
drop_after [] n e h = absurd (cc)
drop_after (x ∷ xs) zero e h = cc
drop_after (x ∷ xs) (suc n) e h = drop_after xs n e h

pub drop_some : (xs : List ℕ) (n e : ℕ) → slice_get xs n ≡ Some e → drop n xs ≡ e ∷ drop (n + 1) xs
drop_some xs n e h = let is : suc n ≡ n + 1 = omega arith in drop_after xs n e h ∙ ap (λ k. e ∷ drop k xs) is

pub get_below : (xs : List ℕ) (n e : ℕ) → slice_get xs n ≡ Some e → n < length xs
get_below [] n e h = absurd (cc)
get_below (x ∷ xs) zero e h = omega arith
get_below (x ∷ xs) (suc n) e h = omega (arith, get_below xs n e h)

pub drop_none : (xs : List ℕ) (n : ℕ) → slice_get xs n ≡ None → drop n xs ≡ []
drop_none [] zero h = refl
drop_none [] (suc n) h = refl
drop_none (x ∷ xs) zero h = absurd (cc)
drop_none (x ∷ xs) (suc n) h = drop_none xs n h

-- what giving led to, by what was left
pub gives_none : {V : Type 0} (net : NetRows) (o : OwingState V) (left : List ℕ) (spent : SpentState V) → left ≡ [] → spent ≡ spent_state o.table (Ended o.ended) → GivesNext net o left (Finished spent)
gives_none net o left spent none is = subst (λ es. GivesNext net o es (Finished spent)) (sym none) is

pub gives_on : {V : Type 0} (net : NetRows) (o : OwingState V) (e : ℕ) (left rest : List ℕ) (p : OwingState V) → left ≡ e ∷ rest → p ≡ owing_state o.table o.ended rest [] p.found o.bare → GivesToken (is_weak net e) false o.found p.found → GivesNext net o left (Next p)
gives_on net o e left rest p some is found = subst (λ es. GivesNext net o es (Next p)) (sym some) (is, found)

pub gives_more : {V : Type 0} (net : NetRows) (o : OwingState V) (e : ℕ) (left rest : List ℕ) (p : OwingState V) (fresh : FreshState) → left ≡ e ∷ rest → p ≡ owing_state o.table o.ended rest [] p.found o.bare → fresh ≡ fresh_state o.table (target net e) (release_cause net e) → GivesToken (is_weak net e) true o.found p.found → GivesNext net o left (Released p fresh)
gives_more net o e left rest p fresh some is made found = subst (λ es. GivesNext net o es (Released p fresh)) (sym some) (is, made, found)

-- what giving a token found: at a weak edge, and at a strong one that was counted, or wasn't
pub gives_weak : (weak : Bool) (k : ℕ) (before after : List ℕ) → weak ≡ true → after ≡ k ∷ before → GivesToken weak true before after
gives_weak true k before after is found = subst (λ ns. FindsOne (λ n. Unit {0}) before ns) (sym found) (refl, tt)
gives_weak false k before after is found = absurd (cc)

pub gives_counted : (weak made : Bool) (k : ℕ) (before between after : List ℕ) → weak ≡ false → k ≡ 0 → between ≡ k ∷ before → CountsEdge made between after → GivesToken weak made before after
gives_counted true made k before between after is none found counts = absurd (cc)
gives_counted false true k before between (n ∷ rest) is none found counts = subst (λ ns. FindsTwo (λ i j. (i ≡ 0) × (j ≡ 1)) before (n ∷ ns)) (sym (counts.0 ∙ found)) (refl, (none, counts.1))
gives_counted false false k before between (n ∷ rest) is none found counts = inr (subst (λ ns. FindsTwo (λ i j. (i ≡ 0) × (j ≢ 1)) before (n ∷ ns)) (sym (counts.0 ∙ found)) (refl, (none, counts.1)))
gives_counted false true k before between [] is none found counts = absurd counts
gives_counted false false k before between [] is none found counts = absurd counts

pub gives_uncounted : (weak : Bool) (k : ℕ) (before after : List ℕ) → weak ≡ false → k ≢ 0 → after ≡ k ∷ before → GivesToken weak false before after
gives_uncounted true k before after is some found = absurd (cc)
gives_uncounted false k before after is some found = inl (subst (λ ns. FindsOne (λ n. n ≢ 0) before ns) (sym found) (refl, some))

-- WHAT AN END OWES
-- the parcels of an End, each of an edge once
ours_first : (e n : ℕ) (es : List ℕ) (v : List Note) → slot_weigh (lot Ours e) (our_lots n (e ∷ es) ++ v) ≡ 1 + slot_weigh (lot Ours e) (our_lots n es ++ v)
ours_first e n es v = omega (arith, self_weight Ours e (From n))

-- a view of an End that owes an edge has its parcel
pub owes_first : {V : Type 0} (ended : EndedStart V) (e : ℕ) (left units : List ℕ) → OwesFirst e ended.place (owing_view ended (e ∷ left) units)
owes_first ended e left units = (
  refl,
  (lone, omega arith),
  record {
    ours = omega (arith, ours_first e ended.place left told);
    part = ap (λ w. pick_part w (lot_part Ours e (our_lots ended.place left ++ told)) (From ended.place)) (self_weight Ours e (From ended.place));
    none_held = omega (arith, slot_append (lot Putting e) (our_lots ended.place (e ∷ left)) told, our_none (lot Putting e) tt ended.place (e ∷ left));
    none_put = omega (arith, slot_append (lot Put e) (our_lots ended.place (e ∷ left)) told, our_none (lot Put e) tt ended.place (e ∷ left));
  },
)
  where
    told : List Note
    told = Duty (Told ended.start (Start ended.task ended.cause ended.found.parts)) ∷ []

    lone : weigh resting (Has Live ∷ Sems Owed units ∷ Duty (Told ended.place (End ended.start ended.gives ended.inner)) ∷ our_lots ended.place (e ∷ left) ++ told) ≡ 0
    lone = omega (arith, weigh_append resting (our_lots ended.place (e ∷ left)) told, our_weigh resting ended.place (e ∷ left))

pub paid_view : {V : Type 0} (ended : EndedStart V) (e : ℕ) (left units : List ℕ) → paid (owing_view ended (e ∷ left) units) ≡ owing_view ended left units
paid_view ended e left units = ap (λ l. Duty (Owes left) ∷ Has Live ∷ Sems Owed units ∷ Duty (Told ended.place (End ended.start ended.gives ended.inner)) ∷ l) (unlot_head)
  where
    told : List Note
    told = Duty (Told ended.start (Start ended.task ended.cause ended.found.parts)) ∷ []

    rest : List Note
    rest = our_lots ended.place left ++ told

    unlot_head : unlot Ours e (Lies Ours e (From ended.place) ∷ rest) ≡ rest
    unlot_head = ap (λ w. pick w (Lies Ours e (From ended.place) ∷ unlot Ours e rest) rest) (self_weight Ours e (From ended.place))

-- a token of a weak edge has made a release
pub gave_made : (net : NetRows) (f task found : ℕ) (v : List Note) → OwesNext net f v → is_weak net f ≡ true → task ≡ target net f → HasMade task (Weak f) (gave net f found v)
gave_made net f task found (Duty (Owes (g ∷ gives)) ∷ rest) owes weak task_is =
    let r = has_lot Put f rest owes.3 in
    subst (λ w. HasMade task (Weak f) (given_notes w (target net f) found f gives ++ unlot Put f rest)) (sym weak)
    (sym task_is, refl, (omega (arith, owes.2.0, unlot_weigh resting Put f rest r), omega (arith, owes.2.1, unlot_weigh (mark Live) Put f rest r)))
gave_made net f task found v owes weak task_is = absurd owes
