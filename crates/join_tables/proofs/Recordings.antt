-- What the keeper's seat knows is what the keeper has.
use Rattle.std.proofs.Common.{◌≡◌, ◌≢◌, ℕ, ◌+◌, List, [], ◌∷◌, ◌++◌, length, Option, Some, None, IfSome, IfNone, sym, refl, ap, ◌∙◌, subst, arith}
use Rattle.std.specs.Prelude.{◌==◌, slice_get, count_by}
use Rattle.std.specs.Option.{option_map_or}
use Rattle.std.specs.List.{AllByRecursion}
use Rattle.task_graph.specs.NetRows.{NetRows}
use Rattle.journal_rules.specs.declared.entry.Entry.{Entry}
use Rattle.std.proofs.lemmas.List.{append_assoc, append-nil}
use Rattle.std.proofs.lemmas.Grind.{flat_map-append}
use Rattle.join_tables.specs.declared.fates.Fate.{Fate}
use Rattle.join_tables.specs.declared.keeper.Recorded.{Recorded}
use Rattle.table_steps.specs.declared.view.TurnDuty.TheVariants.{Told, Fresh, Collecting, Ticket, Open, Owes, Counting}
use Rattle.table_steps.specs.declared.view.SeatMark.TheVariants.{Live}
use Rattle.table_steps.specs.declared.view.Note.{Note}
use Rattle.table_steps.specs.declared.view.Note.TheVariants.{Duty, Sems, Has, Unfit, Lies, Queued}
use Rattle.table_steps.specs.inside.Duties.{place}
use Rattle.table_steps.specs.inside.Accounts.{duty, busy, weigh, AllStand}
use Rattle.table_steps.specs.inside.Kinds.{MayLeave, left_by, views_joined, IsWhole}
use Rattle.join_tables.specs.inside.Seated.{IsSpent}
use Rattle.join_tables.specs.inside.Recording.{tellings, told_after, told_notes}
use Rattle.table_steps.proofs.Totals.{weigh_append}
use Rattle.std.specs.declared.result.Result.TheVariants.{Ok}
use Rattle.join_tables.specs.declared.keeper.Remaining.{Remaining}
use Rattle.join_tables.specs.declared.keeper.Remaining.TheVariants.{More, All as AllTaken}
use Rattle.join_tables.specs.Keeping.{TellsRun, LeavesOf, IsLast, entries_of, entries_told}
use Rattle.table_steps.proofs.Journals.{count_cons}

-- a seat that takes in another
told_append : (notes : List Note) (rs : List Recorded) → told_after notes rs ≡ told_after [] rs ++ notes
told_append notes [] = refl
told_append notes (r ∷ rs) = told_append (Duty (Told r.place r.entry) ∷ notes) rs ∙ sym (append_assoc (told_after [] rs) (Duty (Told r.place r.entry) ∷ []) notes) ∙ ap (λ v. v ++ notes) (sym (told_append (Duty (Told r.place r.entry) ∷ []) rs))

pub told_all : (notes : List Note) (rs qs : List Recorded) → told_after notes (rs ++ qs) ≡ told_after (told_after notes rs) qs
told_all notes [] qs = refl
told_all notes (r ∷ rs) qs = told_all (Duty (Told r.place r.entry) ∷ notes) rs qs

pub tellings_append : (v w : List Note) → tellings (v ++ w) ≡ tellings v ++ tellings w
tellings_append [] w = refl
tellings_append (Duty (Told n x) ∷ v) w = ap (λ u. Duty (Told n x) ∷ u) (tellings_append v w)
tellings_append (Duty (Fresh t cause) ∷ v) w = tellings_append v w
tellings_append (Duty (Collecting t cause taken left) ∷ v) w = tellings_append v w
tellings_append (Duty Ticket ∷ v) w = tellings_append v w
tellings_append (Duty (Open n t) ∷ v) w = tellings_append v w
tellings_append (Duty (Owes gives) ∷ v) w = tellings_append v w
tellings_append (Duty (Counting e) ∷ v) w = tellings_append v w
tellings_append (Sems k l ∷ v) w = tellings_append v w
tellings_append (Has m ∷ v) w = tellings_append v w
tellings_append (Unfit s n t ∷ v) w = tellings_append v w
tellings_append (Lies k e p ∷ v) w = tellings_append v w
tellings_append (Queued q qs ∷ v) w = tellings_append v w

pub may_leave : (es : List Recorded) (v w : List Note) → IsSpent es w → weigh busy v ≡ 0 → MayLeave (views_joined v w)
may_leave es v (Duty (Owes []) ∷ Has Live ∷ rest) spent idle = λ _. omega (arith, idle, spent.1, weigh_append busy rest v)
may_leave es v w spent idle = absurd spent

-- one that takes in a turn knows the entries of both
both_told : (es fs : List Recorded) (v w : List Note) → tellings v ≡ told_notes es → tellings w ≡ told_notes fs → tellings (w ++ v) ≡ told_notes (es ++ fs)
both_told es fs v w is new = tellings_append w v ∙ ap (λ u. u ++ tellings v) new ∙ ap (λ u. told_notes fs ++ u) is ∙ sym (told_append (told_notes es) fs) ∙ sym (told_all [] es fs)

pub told_more : (es rs : List Recorded) (v w : List Note) → IsSpent es w → tellings v ≡ told_notes rs → tellings (left_by (views_joined v w)) ≡ told_notes (rs ++ es)
told_more es rs v (Duty (Owes []) ∷ Has Live ∷ rest) spent is = both_told rs es v rest is spent.0
told_more es rs v w spent is = absurd spent

pub idle_still : (es : List Recorded) (v w : List Note) → IsSpent es w → weigh busy v ≡ 0 → weigh busy (left_by (views_joined v w)) ≡ 0
idle_still es v (Duty (Owes []) ∷ Has Live ∷ rest) spent idle = omega (arith, idle, spent.1, weigh_append busy rest v)
idle_still es v w spent idle = absurd spent

-- a turn that is done takes in another
spent_both : (es fs : List Recorded) (v w : List Note) → IsSpent es v → IsSpent fs w → IsSpent (es ++ fs) (w ++ left_by v)
spent_both es fs (Duty (Owes []) ∷ Has Live ∷ rest) (Duty (Owes []) ∷ Has Live ∷ more) spent new = (both_told es fs rest more spent.0 new.0, omega (arith, spent.1, new.1, weigh_append busy more rest))
spent_both es fs (Duty (Owes []) ∷ Has Live ∷ rest) w spent new = absurd new
spent_both es fs v w spent new = absurd spent

-- the entries of a turn more
entries_more : {V : Type 0} (fates : List (Fate V)) (fate : Fate V) → entries_told (fates ++ fate ∷ []) ≡ entries_told fates ++ entries_of fate
entries_more fates fate = flat_map-append entries_of fates (fate ∷ []) ∙ ap (λ es. entries_told fates ++ es) (append-nil (entries_of fate))

-- where the turn is added to a batch, which may have none yet
pub spent_more : {V S : Type 0} (me : S → List Note) (seat : Option S) (fates : List (Fate V)) (fate : Fate V) (w : List Note) → IfSome seat (λ s. IsSpent (entries_told fates) (me s)) → IfNone seat (fates ≡ []) → IsSpent (entries_of fate) w
    → IsSpent (entries_told (fates ++ fate ∷ [])) (w ++ option_map_or (λ s. left_by (me s)) seat [])
spent_more me None fates fate w before none new = subst (λ fs. IsSpent (entries_told (fs ++ fate ∷ [])) (w ++ [])) (sym none) (subst (λ es. IsSpent es (w ++ [])) (sym (append-nil (entries_of fate))) (subst (IsSpent (entries_of fate)) (sym (append-nil w)) new))
spent_more me (Some s) fates fate w before none new = subst (λ es. IsSpent es (w ++ left_by (me s))) (sym (entries_more fates fate)) (spent_both (entries_told fates) (entries_of fate) (me s) w before new)

-- where a batch is added to one that may have none yet
pub spent_all : {V S : Type 0} (me : S → List Note) (seat : Option S) (fates more : List (Fate V)) (w : List Note) → IfSome seat (λ s. IsSpent (entries_told fates) (me s)) → IfNone seat (fates ≡ []) → IsSpent (entries_told more) w
    → IsSpent (entries_told (fates ++ more)) (w ++ option_map_or (λ s. left_by (me s)) seat [])
spent_all me None fates more w before none new = subst (λ fs. IsSpent (entries_told (fs ++ more)) (w ++ [])) (sym none) (subst (IsSpent (entries_told more)) (sym (append-nil w)) new)
spent_all me (Some s) fates more w before none new = subst (λ es. IsSpent es (w ++ left_by (me s))) (sym (flat_map-append entries_of fates more)) (spent_both (entries_told fates) (entries_told more) (me s) w before new)

pub not_empty : {X : Type 0} (xs ys : List X) → ys ≢ [] → xs ++ ys ≢ []
not_empty [] ys some = some
not_empty (x ∷ xs) ys some = λ e. absurd (omega (arith, ap length e))

-- what else a seat knows tells no entry
place_told : (m : ℕ) (v : List Note) → weigh (duty (place m)) v ≡ weigh (duty (place m)) (tellings v)
place_told m [] = refl
place_told m (Duty (Told n x) ∷ v) = omega (arith, place_told m v)
place_told m (Duty (Fresh t cause) ∷ v) = omega (arith, place_told m v)
place_told m (Duty (Collecting t cause taken left) ∷ v) = omega (arith, place_told m v)
place_told m (Duty Ticket ∷ v) = omega (arith, place_told m v)
place_told m (Duty (Open n t) ∷ v) = omega (arith, place_told m v)
place_told m (Duty (Owes gives) ∷ v) = omega (arith, place_told m v)
place_told m (Duty (Counting e) ∷ v) = omega (arith, place_told m v)
place_told m (Sems k l ∷ v) = omega (arith, place_told m v)
place_told m (Has q ∷ v) = omega (arith, place_told m v)
place_told m (Unfit s n t ∷ v) = omega (arith, place_told m v)
place_told m (Lies k e p ∷ v) = omega (arith, place_told m v)
place_told m (Queued q qs ∷ v) = omega (arith, place_told m v)

stand_told : (net : NetRows) (journal : List Entry) (v : List Note) → AllStand net journal v → AllStand net journal (tellings v)
stand_told net journal [] h = tt
stand_told net journal (Duty (Told n x) ∷ v) h = (h.0, stand_told net journal v h.1)
stand_told net journal (Duty (Fresh t cause) ∷ v) h = stand_told net journal v h.1
stand_told net journal (Duty (Collecting t cause taken left) ∷ v) h = stand_told net journal v h.1
stand_told net journal (Duty Ticket ∷ v) h = stand_told net journal v h.1
stand_told net journal (Duty (Open n t) ∷ v) h = stand_told net journal v h.1
stand_told net journal (Duty (Owes gives) ∷ v) h = stand_told net journal v h.1
stand_told net journal (Duty (Counting e) ∷ v) h = stand_told net journal v h.1
stand_told net journal (Sems k l ∷ v) h = stand_told net journal v h.1
stand_told net journal (Has m ∷ v) h = stand_told net journal v h.1
stand_told net journal (Unfit s n t ∷ v) h = stand_told net journal v h.1
stand_told net journal (Lies k e p ∷ v) h = stand_told net journal v h.1
stand_told net journal (Queued q qs ∷ v) h = stand_told net journal v h.1

told_places : (m : ℕ) (notes : List Note) (rs : List Recorded) → weigh (duty (place m)) (told_after notes rs) ≡ weigh (duty (place m)) notes + count_by (λ (r : Recorded). r.place == m) rs
told_places m notes [] = omega arith
told_places m notes (r ∷ rs) = omega (arith, told_places m (Duty (Told r.place r.entry) ∷ notes) rs, count_cons (λ (q : Recorded). q.place == m) r rs)

told_stand : (net : NetRows) (journal : List Entry) (notes : List Note) (rs : List Recorded) → AllStand net journal (told_after notes rs) → AllStand net journal notes × AllByRecursion (λ (r : Recorded). slice_get journal r.place ≡ Some r.entry) rs
told_stand net journal notes [] h = (h, tt)
told_stand net journal notes (r ∷ rs) h = let k = told_stand net journal (Duty (Told r.place r.entry) ∷ notes) rs h in (k.0.1, (k.0.0, k.1))

pub tells_run : (net : NetRows) (limit : ℕ) (notes : List Note) (rs : List Recorded) → tellings notes ≡ told_notes rs → IsWhole net limit notes → TellsRun net limit rs
tells_run net limit notes rs is whole = record {
  journal = whole.journal;
  legal = whole.legal;
  meets = whole.meets;
  complete = whole.complete;
  merges = record {
    stand = (told_stand net whole.journal [] rs (subst (λ v. AllStand net whole.journal v) is (stand_told net whole.journal notes whole.stand))).1;
    each = λ m below. omega (arith, whole.each m below, place_told m notes, ap (weigh (duty (place m))) is, told_places m [] rs);
  };
}

pub found_one : (E : Type 0) (n : ℕ) (r : Remaining) → LeavesOf n r → IsLast {E = E} (Ok r) → n ≡ 1
found_one E n AllTaken is h = is
found_one E n More is h = absurd h
