-- What each seat has, after a step of one; and what a seat knows that has all live turns.
use Rattle.std.proofs.Common.{◌≡◌, ◌≢◌, ◌⊎◌, inl, inr, ℕ, zero, suc, ◌+◌, ◌≤◌, Bool, true, false, Some, List, [], ◌∷◌, ◌++◌, length, set, refl, sym, ap, ◌∙◌, subst, arith}
use Rattle.std.specs.Prelude.{count_by, ◌==◌}
use Rattle.std.proofs.lemmas.Bool.{cases_eq}
use mathlib.Core.Option.{some, some-injective, some-ne-none}
use lib.ListN.{get_elem?}
use Rattle.atomic_table.proofs.Lists.{set_else}
use Rattle.task_graph.specs.NetRows.{NetRows}
use Rattle.journal_rules.specs.declared.entry.Entry.{Entry}
use Rattle.journal_rules.specs.Counts.{faults, is_fault, start_at}
use Rattle.journal_rules.specs.SemaphoreRule.{back, taken, max_of}
use Rattle.journal_rules.specs.HaltLimitStuckRule.{is_stuck}
use Rattle.journal_rules.proofs.Snoc.{count_by_push, slice_get_push}
use Rattle.table_steps.specs.declared.view.TurnDuty.TheVariants.{Told, Fresh, Collecting, Ticket, Open, Owes, Counting}
use Rattle.table_steps.specs.Giving.{one_if, times}
use Rattle.table_steps.specs.declared.view.SemaphoreRole.{SemaphoreRole}
use Rattle.table_steps.specs.declared.view.SemaphoreRole.TheVariants.{Held, Undo, Owed, Both, Credit, Credited, Claim, Granted, Refusing, Denied, Full}
use Rattle.table_steps.specs.declared.view.SeatMark.TheVariants.{Live, New, Over, ToMark, Halted, Alone, Quiet, Sticking, Asked}
use Rattle.table_steps.specs.declared.view.Note.{Note}
use Rattle.table_steps.specs.declared.view.Note.TheVariants.{Duty, Sems, Has, Unfit, Lies, Queued}
use Rattle.table_steps.specs.inside.Accounts.{Coord, sem, mark, busy, resting, telling, weight, weigh, total, Stands, AllStand, ViewPart, StuckPart}
use Rattle.table_steps.proofs.Totals.{total_set, total_swap, weigh_append}
use Rattle.table_steps.proofs.Journals.{over_longer}

-- LISTS OF VIEWS
pub get_set : {X : Type 0} (xs : List X) (i : ℕ) (x y : X) → get_elem? xs i ≡ some y → get_elem? (set xs i x) i ≡ some x
get_set [] i x y h = absurd (some-ne-none y (sym h))
get_set (z ∷ zs) zero x y h = refl
get_set (z ∷ zs) (suc i) x y h = get_set zs i x y h

pub at_most : (c : Coord) (views : List (List Note)) (id : ℕ) (v : List Note) → get_elem? views id ≡ some v → weigh c v ≤ total c views
at_most c views id v at = omega (arith, total_set c views id v [] at)

pub two_views : (c : Coord) (views : List (List Note)) (id other : ℕ) (v w : List Note) → get_elem? views id ≡ some v → get_elem? views other ≡ some w → ¬ (other ≡ id) → weigh c v + weigh c w ≤ total c views
two_views c views id other v w at at_other apart = omega (arith, total_set c views id v [] at, at_most c (set views id []) other w (set_else views id other [] apart ∙ at_other))

pub each_none : (c : Coord) (views : List (List Note)) → ((id : ℕ) (v : List Note) → get_elem? views id ≡ some v → weigh c v ≡ 0) → total c views ≡ 0
each_none c [] none = refl
each_none c (v ∷ vs) none = omega (arith, none 0 v refl, each_none c vs (λ id w at. none (suc id) w at))

-- a view of which something is counted
pub record Found (c : Coord) (views : List (List Note)) : Type 0 where
  pub id : ℕ
  pub view : List Note
  pub at : get_elem? views id ≡ some view
  pub some_there : 1 ≤ weigh c view

pub found_in : (c : Coord) (views : List (List Note)) → 1 ≤ total c views → Found c views
found_in c [] h = absurd (omega arith)
found_in c (v ∷ vs) h = by_zero (cases_eq (weigh c v) 0) (λ k. found_in c vs k)
  where
    pos : (n : ℕ) → n ≢ 0 → 1 ≤ n
    pos zero h = absurd (h refl)
    pos (suc n) h = omega arith

    by_zero : (weigh c v ≡ 0) ⊎ (weigh c v ≢ 0) → (1 ≤ total c vs → Found c vs) → Found c (v ∷ vs)
    by_zero (inl none) deeper = let r = deeper (omega (arith, none)) in record { id = suc r.id; view = r.view; at = r.at; some_there = r.some_there }
    by_zero (inr more) deeper = record { id = 0; view = v; at = refl; some_there = pos (weigh c v) more }

-- FACTS THAT STAY
start_longer : (journal : List Entry) (x : Entry) (n t : ℕ) → start_at journal n ≡ Some t → start_at (journal ++ x ∷ []) n ≡ Some t
start_longer [] x n t h = absurd (cc)
start_longer (y ∷ ys) x zero t h = h
start_longer (y ∷ ys) x (suc n) t h = start_longer ys x n t h

pub longer : (net : NetRows) (journal : List Entry) (x : Entry) (v : List Note) → AllStand net journal v → AllStand net (journal ++ x ∷ []) v
longer net journal x [] h = tt
longer net journal x (n ∷ ns) h = (one n h.0, longer net journal x ns h.1)
  where
    one : (n : Note) → Stands net journal n → Stands net (journal ++ x ∷ []) n
    one (Duty (Told n y)) h = slice_get_push journal x y n h
    one (Duty (Fresh t cause)) h = h
    one (Duty (Collecting t cause es left)) h = h
    one (Duty Ticket) h = tt
    one (Duty (Open n t)) h = tt
    one (Duty (Owes gives)) h = h
    one (Duty (Counting e)) h = tt
    one (Sems k l) h = tt
    one (Has Live) h = tt
    one (Has New) h = tt
    one (Has Over) h = tt
    one (Has ToMark) h = tt
    one (Has Halted) h = omega (arith, h, count_by_push is_fault journal x)
    one (Has Alone) h = tt
    one (Has Quiet) h = tt
    one (Has Sticking) h = tt
    one (Has Asked) h = tt
    one (Unfit s n t) h = (start_longer journal x n t h.0, over_longer net journal x s n t h.1)
    one (Lies k e p) h = tt
    one (Queued q qs) h = tt

pub stand_left : (net : NetRows) (journal : List Entry) (xs ys : List Note) → AllStand net journal (xs ++ ys) → AllStand net journal xs × AllStand net journal ys
stand_left net journal [] ys h = (tt, h)
stand_left net journal (x ∷ xs) ys h = let r = stand_left net journal xs ys h.1 in ((h.0, r.0), r.1)

pub stand_both : (net : NetRows) (journal : List Entry) (xs ys : List Note) → AllStand net journal xs → AllStand net journal ys → AllStand net journal (xs ++ ys)
stand_both net journal [] ys h k = k
stand_both net journal (x ∷ xs) ys h k = (h.0, stand_both net journal xs ys h.1 k)

-- A STEP OF ONE SEAT
pub times_short : (s : ℕ) (l : List ℕ) → times s l ≤ length l
times_short s [] = omega arith
times_short s (x ∷ xs) = omega (arith, times_short s xs, bit (x == s))
  where
    bit : (b : Bool) → one_if b ≤ 1
    bit true = omega arith
    bit false = omega arith

-- what is known only of a rest
pub quiet_rests : (v : List Note) → weigh (mark Quiet) v ≤ weigh resting v
quiet_rests [] = omega arith
quiet_rests (x ∷ xs) = omega (arith, one x, quiet_rests xs)
  where
    by_kind : (k : SemaphoreRole) (l : List ℕ) → weight (mark Quiet) (Sems k l) ≡ 0
    by_kind k l = refl

    one : (x : Note) → weight (mark Quiet) x ≤ weight resting x
    one (Duty i) = omega arith
    one (Sems k l) = omega (arith, by_kind k l)
    one (Has Live) = omega arith
    one (Has New) = omega arith
    one (Has Over) = omega arith
    one (Has ToMark) = omega arith
    one (Has Halted) = omega arith
    one (Has Alone) = omega arith
    one (Has Quiet) = omega arith
    one (Has Sticking) = omega arith
    one (Has Asked) = omega arith
    one (Unfit s n t) = omega arith
    one (Lies k e p) = omega arith
    one (Queued q qs) = omega arith

pub sticking_rests : (v : List Note) → weigh (mark Sticking) v ≤ weigh resting v
sticking_rests [] = omega arith
sticking_rests (x ∷ xs) = omega (arith, one x, sticking_rests xs)
  where
    by_kind : (k : SemaphoreRole) (l : List ℕ) → weight (mark Sticking) (Sems k l) ≡ 0
    by_kind k l = refl

    one : (x : Note) → weight (mark Sticking) x ≤ weight resting x
    one (Duty i) = omega arith
    one (Sems k l) = omega (arith, by_kind k l)
    one (Has Live) = omega arith
    one (Has New) = omega arith
    one (Has Over) = omega arith
    one (Has ToMark) = omega arith
    one (Has Halted) = omega arith
    one (Has Alone) = omega arith
    one (Has Quiet) = omega arith
    one (Has Sticking) = omega arith
    one (Has Asked) = omega arith
    one (Unfit s n t) = omega arith
    one (Lies k e p) = omega arith
    one (Queued q qs) = omega arith

pub full_rests_too : (s : ℕ) (v : List Note) → weigh (sem Full s) v ≤ weigh resting v
full_rests_too s [] = omega arith
full_rests_too s (x ∷ xs) = omega (arith, one x, full_rests_too s xs)
  where
    one : (x : Note) → weight (sem Full s) x ≤ weight resting x
    one (Duty i) = omega arith
    one (Sems Held l) = omega arith
    one (Sems Undo l) = omega arith
    one (Sems Owed l) = omega arith
    one (Sems Both l) = omega arith
    one (Sems Credit l) = omega arith
    one (Sems Credited l) = omega arith
    one (Sems Claim l) = omega arith
    one (Sems Granted l) = omega arith
    one (Sems Refusing l) = omega arith
    one (Sems Denied l) = omega arith
    one (Sems Full l) = omega (arith, times_short s l)
    one (Has m) = omega arith
    one (Unfit z n t) = omega arith
    one (Lies k e p) = omega arith
    one (Queued q qs) = omega arith

-- what a step makes of its seat's own view
pub record OwnView (net : NetRows) (journal : List Entry) (T : Coord → ℕ) (id : ℕ) (old new rest : List Note) : Type 0 where
  pub lives : 1 ≤ weigh (mark Live) (old ++ rest)
  pub stand : AllStand net journal new
  pub covered : weigh (mark Live) (new ++ rest) ≡ 0 → weigh busy (new ++ rest) ≡ 0
  pub told : id ≢ 0 → weigh (mark Live) (new ++ rest) ≡ 0 → weigh telling (new ++ rest) ≡ 0
  pub alone : weigh resting (new ++ rest) ≢ 0 → T (mark Live) ≡ weigh (mark Live) (old ++ rest)
  pub quiet : weigh (mark Quiet) (new ++ rest) ≢ 0 → faults journal ≡ 0
  pub full : (s : ℕ) → weigh (sem Full s) (new ++ rest) ≢ 0 → back net s journal + max_of net s ≤ taken net s journal

abbrev pub Views : NetRows → List Entry → List (List Note) → Type 0
Views net journal views = (id : ℕ) (v : List Note) → get_elem? views id ≡ some v → ViewPart net journal (λ c. total c views) id v

-- another seat has no rest that is alone
no_other : (net : NetRows) (journal : List Entry) (views : List (List Note)) (id other : ℕ) (v w : List Note) → Views net journal views → get_elem? views id ≡ some v → get_elem? views other ≡ some w → ¬ (other ≡ id)
    → 1 ≤ weigh (mark Live) v → weigh resting w ≢ 0 → ⊥
no_other net journal views id other v w parts at at_other apart lives rested =
    omega (arith, (parts other w at_other).alone rested, two_views (mark Live) views id other v w at at_other apart, lives)

pub views_after : (net : NetRows) (journal journal' : List Entry) (views : List (List Note)) (id : ℕ) (old new rest : List Note) → Views net journal views → get_elem? views id ≡ some (old ++ rest)
    → ((v : List Note) → AllStand net journal v → AllStand net journal' v) → OwnView net journal' (λ c. total c views) id old new rest → Views net journal' (set views id (new ++ rest))
views_after net journal journal' views id old new rest parts at stays own other w at_other = by_eq (cases_eq other id)
  where
    by_eq : (other ≡ id) ⊎ (other ≢ id) → ViewPart net journal' (λ c. total c (set views id (new ++ rest))) other w
    by_eq (inl same) =
        let is : new ++ rest ≡ w = some-injective (new ++ rest) w (sym (get_set views id (new ++ rest) (old ++ rest) at) ∙ sym (ap (get_elem? (set views id (new ++ rest))) same) ∙ at_other) in
        subst (λ u. ViewPart net journal' (λ c. total c (set views id (new ++ rest))) other u) is (record {
          stand = stand_both net journal' new rest own.stand (stand_left net journal' old rest (stays (old ++ rest) (parts id (old ++ rest) at).stand)).1;
          covered = own.covered;
          told = λ far. own.told (λ z. far (same ∙ z));
          alone = λ some. omega (arith, own.alone some, total_swap (mark Live) views id old new rest at, weigh_append (mark Live) old rest, weigh_append (mark Live) new rest);
          quiet = own.quiet;
          full = own.full;
        })
    by_eq (inr apart) =
        let at_w : get_elem? views other ≡ some w = sym (set_else views id other (new ++ rest) apart) ∙ at_other in
        let p = parts other w at_w in
        let never : weigh resting w ≢ 0 → ⊥ = λ some. no_other net journal views id other (old ++ rest) w parts at at_w apart own.lives some in record {
          stand = stays w p.stand;
          covered = p.covered;
          told = p.told;
          alone = λ some. absurd (never some);
          quiet = λ some. absurd (never (λ none. some (omega (arith, none, quiet_rests w))));
          full = λ s some. absurd (never (λ none. some (omega (arith, none, full_rests_too s w))));
        }

-- A live turn that has drawn no Drop for want of a unit finds none in the journal.
pub none_stuck : (net : NetRows) (journal : List Entry) (views : List (List Note)) (id : ℕ) (v : List Note) → Views net journal views → StuckPart journal (λ c. total c views) → get_elem? views id ≡ some v
    → 1 ≤ weigh (mark Live) v → weigh (mark Sticking) v ≡ 0 → count_by is_stuck journal ≡ 0
none_stuck net journal views id v parts stuck at lives none = by_zero (cases_eq (count_by is_stuck journal) 0)
  where
    by_zero : (count_by is_stuck journal ≡ 0) ⊎ (count_by is_stuck journal ≢ 0) → count_by is_stuck journal ≡ 0
    by_zero (inl is) = is
    by_zero (inr more) = let f = found_in (mark Sticking) views (stuck more) in absurd (by_eq f (cases_eq f.id id))
      where
        by_eq : (f : Found (mark Sticking) views) → (f.id ≡ id) ⊎ (f.id ≢ id) → ⊥
        by_eq f (inl same) =
            let is : v ≡ f.view = some-injective v f.view (sym at ∙ sym (ap (get_elem? views) same) ∙ f.at) in
            omega (arith, ap (weigh (mark Sticking)) is, none, f.some_there)
        by_eq f (inr apart) = no_other net journal views id f.id v f.view parts at f.at apart lives (λ z. omega (arith, z, f.some_there, sticking_rests f.view))

-- A SEAT THAT HAS ALL LIVE TURNS
pub zero_notes : (c : Coord) → ((x : Note) → weight busy x ≡ 0 → weight c x ≡ 0) → (v : List Note) → weigh busy v ≡ 0 → weigh c v ≡ 0
zero_notes c bound [] h = refl
zero_notes c bound (x ∷ xs) h = omega (arith, bound x (omega arith), zero_notes c bound xs (omega arith))
