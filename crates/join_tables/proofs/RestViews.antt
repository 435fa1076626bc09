-- What a rest's seat knows, and what it knows after each of its steps.
use Rattle.std.proofs.Common.{◌≡◌, ◌≢◌, ℕ, zero, suc, ◌+◌, ◌<◌, ◌≤◌, Bool, true, false, eqb, List, [], ◌∷◌, ◌++◌, length, reverse, Option, Some, None, refl, sym, ap, ◌∙◌, subst, arith}
use Rattle.std.specs.Prelude.{nat_lt, IfSome, IfNone}
use Rattle.std.specs.List.{AllByRecursion}
use Rattle.std.specs.Option.{option_map, option_map_or}
use Rattle.atomic_table.specs.Seated.{TableId}
use Rattle.std.proofs.lemmas.Bool.Decides.{nat_tests}
use Rattle.std.proofs.lemmas.List.{reverse-append, length-reverse}
use Rattle.task_graph.specs.NetRows.{NetRows}
use Rattle.journal_rules.specs.declared.entry.Cause.{Cause}
use Rattle.journal_rules.specs.declared.entry.DropWhy.{DropWhy}
use Rattle.journal_rules.specs.declared.entry.DropWhy.TheVariants.{Stuck, Limit, Halted as AfterFault}
use Rattle.journal_rules.specs.declared.entry.Entry.{Entry}
use Rattle.journal_rules.specs.declared.entry.Entry.TheVariants.{Drop}
use Rattle.journal_rules.specs.SemaphoreRule.{max_of}
use Rattle.table_steps.specs.declared.view.TurnDuty.TheVariants.{Told, Collecting}
use Rattle.table_steps.specs.declared.view.SemaphoreRole.TheVariants.{Held, Undo, Owed, Full}
use Rattle.table_steps.specs.declared.view.SeatMark.TheVariants.{Live, ToMark, Halted, Alone, Quiet, Sticking}
use Rattle.table_steps.specs.declared.view.Note.{Note}
use Rattle.table_steps.specs.declared.view.Note.TheVariants.{Duty, Sems, Has}
use Rattle.join_tables.specs.declared.fates.Dropping.{Dropping}
use Rattle.join_tables.specs.declared.rests.Parked.{Parked}
use Rattle.join_tables.specs.RestStates.{parked_as}
use Rattle.join_tables.specs.Rests.{IsOfTable, found_left, table_left}
use Rattle.table_steps.specs.inside.Duties.{running}
use Rattle.table_steps.specs.inside.Accounts.{Coord, duty, sem, mark, busy, resting, telling, weight, weigh}
use Rattle.table_steps.specs.inside.Kinds.{IsTurn}
use Rattle.journal_rules.specs.declared.entry.Part.{Part}
use Rattle.table_steps.specs.inside.Slots.{found_lots, after_lots}
use Rattle.table_steps.proofs.UnitAccounts.{no_units}
use Rattle.table_steps.proofs.SlotViews.{found_weigh, after_weigh, finds_found, found_parts, found_after, lots_first, parts_length}
use Rattle.join_tables.specs.inside.Seated.{turn_view, taken_in}
use Rattle.table_steps.specs.inside.RestKinds.{bare_part, MayPark, parked, HasLast, MayHandOut, last_turn, other_turns, handed_out, left_behind, live_found, alone_notes, MayLook, looked, HasNoUnit, MayAskForUnit, full_with, with_unit_asked}
use Rattle.join_tables.specs.inside.Resting.{alone_in, full_in, known_notes, stuck_notes, drop_notes, HoldsTurns, HoldsParts, FitsDrops, IsRestView, RestParts}
use Rattle.table_steps.proofs.Totals.{weigh_append}

pub some_map : {X : Type 0} {P Q : X → Type 0} (o : Option X) → IfSome o P → ((x : X) → P x → Q x) → IfSome o Q
some_map None h f = tt
some_map (Some x) h f = f x h

pub held_in : {X : Type 0} (P : X → Type 0) (o : Option X) (x : X) → IfSome o P → o ≡ Some x → P x
held_in P o x h is = subst (λ q. IfSome q P) is h

pub reverse_last : (ps : List Parked) (p : Parked) → reverse (ps ++ p ∷ []) ≡ p ∷ reverse ps
reverse_last ps p = reverse-append ps (p ∷ [])

pub some_length : {X : Type 0} (xs : List X) → xs ≢ [] → 1 ≤ length xs
some_length [] some_there = absurd (some_there refl)
some_length (x ∷ xs) some_there = omega arith

-- WHAT TURNS AND DROPS COUNT
turns_each : (c : Coord) → ((t : ℕ) (cause : Cause) (taken : List ℕ) → weight c (Duty (Collecting t cause taken [])) + weight c (Has Live) ≡ 1) → (ps : List Parked) (ds : List Dropping) (v : List Note) → HoldsTurns ps ds v → weigh c v ≡ length ps + weigh c (drop_notes ds)
turns_each c one [] ds v h = omega (arith, ap (weigh c) h)
turns_each c one (p ∷ ps) ds (Duty (Collecting t cause taken []) ∷ Has Live ∷ Sems Held [] ∷ rest) h = omega (arith, one t cause taken, no_units c, after_weigh c taken rest h.2, turns_each c one ps ds (after_lots taken rest) h.3)
turns_each c one (p ∷ ps) ds v h = absurd h

pub turns_none : (c : Coord) → ((t : ℕ) (cause : Cause) (taken : List ℕ) → weight c (Duty (Collecting t cause taken [])) + weight c (Has Live) ≡ 0) → (ps : List Parked) (ds : List Dropping) (v : List Note) → HoldsTurns ps ds v → weigh c v ≡ weigh c (drop_notes ds)
turns_none c none [] ds v h = ap (weigh c) h
turns_none c none (p ∷ ps) ds (Duty (Collecting t cause taken []) ∷ Has Live ∷ Sems Held [] ∷ rest) h = omega (arith, none t cause taken, no_units c, after_weigh c taken rest h.2, turns_none c none ps ds (after_lots taken rest) h.3)
turns_none c none (p ∷ ps) ds v h = absurd h

stuck_none : (c : Coord) → weight c (Has Sticking) ≡ 0 → (why : DropWhy) → weigh c (stuck_notes why) ≡ 0
stuck_none c none AfterFault = refl
stuck_none c none Limit = refl
stuck_none c none (Stuck s) = omega (arith, none)

drops_none : (c : Coord) → ((n : ℕ) (x : Entry) → weight c (Duty (Told n x)) ≡ 0) → weight c (Has Sticking) ≡ 0 → (ds : List Dropping) → weigh c (drop_notes ds) ≡ 0
drops_none c told sticks [] = refl
drops_none c told sticks (d ∷ ds) = omega (arith, told d.place (Drop d.task d.cause d.why), weigh_append c (stuck_notes d.why) (drop_notes ds), stuck_none c sticks d.why, drops_none c told sticks ds)

pub holds_live : (ps : List Parked) (ds : List Dropping) (v : List Note) → HoldsTurns ps ds v → weigh (mark Live) v ≡ length ps
holds_live ps ds v h = omega (arith, turns_each (mark Live) (λ t cause taken. refl) ps ds v h, drops_none (mark Live) (λ n x. refl) refl ds)

pub holds_busy : (ps : List Parked) (ds : List Dropping) (v : List Note) → HoldsTurns ps ds v → weigh busy v ≡ length ps
holds_busy ps ds v h = omega (arith, turns_each busy (λ t cause taken. refl) ps ds v h, drops_none busy (λ n x. refl) refl ds)

holds_mark : (ps : List Parked) (ds : List Dropping) (v : List Note) → HoldsTurns ps ds v → weigh (mark ToMark) v ≡ 0
holds_mark ps ds v h = turns_none (mark ToMark) (λ t cause taken. refl) ps ds v h ∙ drops_none (mark ToMark) (λ n x. refl) refl ds

pub holds_running : (ps : List Parked) (ds : List Dropping) (v : List Note) → HoldsTurns ps ds v → weigh (duty running) v ≡ 0
holds_running ps ds v h = turns_none (duty running) (λ t cause taken. refl) ps ds v h ∙ drops_none (duty running) (λ n x. refl) refl ds

holds_no_unit : (a : ℕ) (ps : List Parked) (ds : List Dropping) (v : List Note) → HoldsTurns ps ds v → HasNoUnit a v
holds_no_unit a ps ds v h = record {
  held = turns_none (sem Held a) (λ t cause taken. refl) ps ds v h ∙ drops_none (sem Held a) (λ n x. refl) refl ds;
  owed = turns_none (sem Owed a) (λ t cause taken. refl) ps ds v h ∙ drops_none (sem Owed a) (λ n x. refl) refl ds;
  undo = turns_none (sem Undo a) (λ t cause taken. refl) ps ds v h ∙ drops_none (sem Undo a) (λ n x. refl) refl ds;
}

-- one that drew no Drop
holds_lone : (ps : List Parked) (v : List Note) → HoldsTurns ps [] v → weigh resting v ≡ 0
holds_lone ps v h = turns_none resting (λ t cause taken. refl) ps [] v h

holds_telling : (ps : List Parked) (v : List Note) → HoldsTurns ps [] v → weigh telling v ≡ 0
holds_telling ps v h = turns_none telling (λ t cause taken. refl) ps [] v h

-- WHAT IS KNOWN
known_live : (k : Option Bool) (l : List ℕ) → weigh (mark Live) (known_notes k l) ≡ 0
known_live None l = refl
known_live (Some false) l = refl
known_live (Some true) l = refl

pub rest_lives : (turns : List Parked) (ds : List Dropping) (v : List Note) → IsRestView turns ds v → weigh (mark Live) v ≡ length turns
rest_lives turns ds v r = omega (
  arith,
  ap (weigh (mark Live)) r.known,
  weigh_append (mark Live) (known_notes (alone_in v) (full_in v)) (bare_part v),
  known_live (alone_in v) (full_in v),
  holds_live (reverse turns) ds (bare_part v) r.holds,
  length-reverse turns,
)

bare_known : (ps : List Parked) (ds : List Dropping) (v : List Note) → HoldsTurns ps ds v → (alone_in v ≡ None) × (full_in v ≡ []) × (bare_part v ≡ v)
bare_known [] [] v h = (ap alone_in h, ap full_in h, ap bare_part h ∙ sym h)
bare_known [] (d ∷ ds) v h = (ap alone_in h, ap full_in h, ap bare_part h ∙ sym h)
bare_known (p ∷ ps) ds (Duty (Collecting t cause taken []) ∷ Has Live ∷ Sems Held [] ∷ rest) h = (refl, refl, refl)
bare_known (p ∷ ps) ds v h = absurd h

-- a rest of which nothing is known
pub plain_rest : (turns : List Parked) (v : List Note) → HoldsTurns (reverse turns) [] v → IsRestView turns [] v × (alone_in v ≡ None) × (full_in v ≡ [])
plain_rest turns v h = let k = bare_known (reverse turns) [] v h in (
  record {
    known = sym k.2 ∙ ap (λ a. known_notes a (full_in v) ++ bare_part v) (sym k.0);
    holds = subst (λ u. HoldsTurns (reverse turns) [] u) (sym k.2) h;
    fits = subst (λ a. FitsDrops a []) (sym k.0) refl;
  },
  k.0,
  k.1,
)

plain_holds : (turns : List Parked) (ds : List Dropping) (v : List Note) → IsRestView turns ds v → alone_in v ≡ None → HoldsTurns (reverse turns) ds v × (ds ≡ [])
plain_holds turns ds v r none = (
  subst (λ u. HoldsTurns (reverse turns) ds u) (sym (r.known ∙ ap (λ a. known_notes a (full_in v) ++ bare_part v) none)) r.holds,
  subst (λ a. FitsDrops a ds) none r.fits,
)

pub none_full : (turns : List Parked) (ds : List Dropping) (v : List Note) → IsRestView turns ds v → alone_in v ≡ None → full_in v ≡ []
none_full turns ds v r none = (bare_known (reverse turns) ds v (plain_holds turns ds v r none).0).1

-- the turns of a rest of which nothing is known are all its notes
pub plain_bare : (turns : List Parked) (ds : List Dropping) (v : List Note) → IsRestView turns ds v → alone_in v ≡ None → bare_part v ≡ v
plain_bare turns ds v r none = (bare_known (reverse turns) ds v (plain_holds turns ds v r none).0).2

-- JOIN
pub may_park : (turns : List Parked) (ds : List Dropping) (v w : List Note) (t : ℕ) (cause : Cause) (taken : List ℕ) (parts : List Part) → IsRestView turns ds v → turns ≢ [] → w ≡ turn_view t cause taken parts None [] → MayPark v w
may_park turns ds v w t cause taken parts r some_there is = record {
  rests = omega (arith, rest_lives turns ds v r, some_length turns some_there);
  lives = omega (arith, ap (weigh (mark Live)) is);
  lone = omega (arith, ap (weigh resting) is, found_weigh resting taken parts);
}

pub rest_parked : (turns : List Parked) (v w : List Note) (t : ℕ) (cause : Cause) (taken : List ℕ) (parts : List Part) → length parts ≡ length taken → HoldsTurns (reverse turns) [] (bare_part v) → w ≡ turn_view t cause taken parts None []
    → IsRestView (turns ++ parked_as t cause ∷ []) [] (parked v w) × (alone_in (parked v w) ≡ None) × (full_in (parked v w) ≡ [])
rest_parked turns v w t cause taken parts same h is = let p = parked_as t cause in
    plain_rest (turns ++ p ∷ []) (w ++ bare_part v)
    (subst (λ u. HoldsTurns (reverse (turns ++ p ∷ [])) [] (u ++ bare_part v)) (sym is) (subst (λ ps. HoldsTurns ps [] (turn_view t cause taken parts None [] ++ bare_part v)) (sym (reverse_last turns p))
    (refl, refl, finds_found taken parts (bare_part v) same, subst (λ u. HoldsTurns (reverse turns) [] u) (sym (found_after taken parts (bare_part v) same)) h)))

pub parts_parked : (more : List (List Part)) (v w : List Note) (t : ℕ) (cause : Cause) (taken : List ℕ) (parts : List Part) → length parts ≡ length taken → RestParts more v → w ≡ turn_view t cause taken parts None []
    → bare_part (parked v w) ≡ parked v w → RestParts (more ++ parts ∷ []) (parked v w)
parts_parked more v w t cause taken parts same h is bare =
    subst (λ u. HoldsParts (reverse (more ++ parts ∷ [])) u) (sym bare) (subst (λ u. HoldsParts (reverse (more ++ parts ∷ [])) (u ++ bare_part v)) (sym is) (subst (λ ps. HoldsParts ps (turn_view t cause taken parts None [] ++ bare_part v)) (sym (reverse-append more (parts ∷ [])))
    (found_parts taken parts (bare_part v) same, subst (λ u. HoldsParts (reverse more) u) (sym (found_after taken parts (bare_part v) same)) h)))

-- what a rest takes a turn to
pub rest_taken : {X : Type 0} (g : X → List Note) (B : X → Type 0) (o : Option X) (turns : List Parked) (ds : List Dropping) (parts : List (List Part)) → IfSome o (λ s. IsRestView turns ds (g s) × B s × (turns ≢ []) × RestParts parts (g s)) → IfNone o ((turns ≡ []) × (ds ≡ [])) → length parts ≡ length turns → ds ≡ []
    → HoldsTurns (reverse turns) [] (bare_part (option_map_or g o [])) × RestParts parts (option_map_or g o [])
rest_taken g B None turns ds parts some_there none same undropped = (subst (λ ts. HoldsTurns (reverse ts) [] []) (sym none.0) refl, by_parts parts (same ∙ ap length none.0))
  where
    by_parts : (fs : List (List Part)) → length fs ≡ 0 → RestParts fs []
    by_parts [] h = tt
    by_parts (f ∷ fs) h = absurd (omega arith)
rest_taken g B (Some x) turns ds parts some_there none same undropped = (subst (λ es. HoldsTurns (reverse turns) es (bare_part (g x))) undropped some_there.0.holds, some_there.3)

pub record TakesIn (turns : List Parked) (p : Parked) (parts : List (List Part)) (v : List Note) : Type 0 where
  pub rest : IsRestView (turns ++ p ∷ []) [] v
  pub unknown : alone_in v ≡ None
  pub none_full : full_in v ≡ []
  pub parts_are : RestParts parts v

pub takes_in : (turns : List Parked) (more : List (List Part)) (v w : List Note) (t : ℕ) (cause : Cause) (taken : List ℕ) (parts : List Part) → length parts ≡ length taken → HoldsTurns (reverse turns) [] (bare_part v) → RestParts more v → w ≡ turn_view t cause taken parts None []
    → TakesIn turns (parked_as t cause) (more ++ parts ∷ []) (parked v w)
takes_in turns more v w t cause taken parts same h q is = let r = rest_parked turns v w t cause taken parts same h is in record {
  rest = r.0;
  unknown = r.1;
  none_full = r.2;
  parts_are = parts_parked more v w t cause taken parts same q is (plain_bare (turns ++ parked_as t cause ∷ []) [] (parked v w) r.0 r.1);
}

-- SPLIT
pub record HandsOne (p : Parked) (left : List Parked) (parts : List Part) (more : List (List Part)) (v : List Note) : Type 0 where
  pub may : MayHandOut v
  pub out : handed_out v ≡ turn_view p.task p.cause (taken_in (handed_out v)) parts None []
  pub found : length parts ≡ length (taken_in (handed_out v))
  pub rest : IsRestView left [] (left_behind v)
  pub parts_left : RestParts more (left_behind v)
  pub unknown : alone_in (left_behind v) ≡ None
  pub none_full : full_in (left_behind v) ≡ []

pub hands_one : (turns left : List Parked) (p : Parked) (all more : List (List Part)) (parts : List Part) (v : List Note) → IsRestView turns [] v → RestParts all v → turns ≡ left ++ p ∷ [] → all ≡ more ++ parts ∷ [] → HandsOne p left parts more v
hands_one turns left p all more parts v r q is are =
    from (bare_part v) (subst (λ ps. HoldsTurns ps [] (bare_part v)) (ap reverse is ∙ reverse_last left p) r.holds) (subst (λ ps. HoldsParts ps (bare_part v)) (ap reverse are ∙ reverse-append more (parts ∷ [])) q) refl
  where
    with_bare : (b : List Note) → b ≡ bare_part v → HasLast b × (last_turn b ≡ turn_view p.task p.cause (taken_in (last_turn b)) parts None []) × (length parts ≡ length (taken_in (last_turn b))) × HoldsTurns (reverse left) [] (other_turns b) × HoldsParts (reverse more) (other_turns b) → HandsOne p left parts more v
    with_bare b same h =
        let holds = subst (λ u. HoldsTurns (reverse left) [] (other_turns u)) same h.3 in
        let k = plain_rest left (left_behind v) holds in record {
          may = subst HasLast same h.0;
          out = subst (λ u. last_turn u ≡ turn_view p.task p.cause (taken_in (last_turn u)) parts None []) same h.1;
          found = subst (λ u. length parts ≡ length (taken_in (last_turn u))) same h.2;
          rest = k.0;
          parts_left = subst (λ u. HoldsParts (reverse more) u) (sym (plain_bare left [] (left_behind v) k.0 k.1)) (subst (λ u. HoldsParts (reverse more) (other_turns u)) same h.4);
          unknown = k.1;
          none_full = k.2;
        }

    from : (b : List Note) → HoldsTurns (p ∷ reverse left) [] b → HoldsParts (parts ∷ reverse more) b → b ≡ bare_part v → HandsOne p left parts more v
    from (Duty (Collecting t cause taken []) ∷ Has Live ∷ Sems Held [] ∷ rest) h f same =
        let others = after_lots taken rest in
        with_bare (Duty (Collecting t cause taken []) ∷ Has Live ∷ Sems Held [] ∷ rest) same (
          (
            h.2,
            record {
              lone = holds_lone (reverse left) others h.3;
              covered = λ none. omega (arith, none, holds_live (reverse left) [] others h.3, holds_busy (reverse left) [] others h.3);
              told = λ none. holds_telling (reverse left) others h.3;
            },
          ),
          (λ i. Duty (Collecting (h.0 i) (h.1 i) taken []) ∷ Has Live ∷ Sems Held [] ∷ (lots_first taken rest h.2 ∙ ap (found_lots taken) f.0) i),
          sym (ap length f.0) ∙ parts_length taken rest h.2,
          h.3,
          f.1,
        )
    from b h f same = absurd h

-- the seat of what is left, if a turn is
more_is_some : (x : Parked) (xs : List Parked) → x ∷ xs ≢ []
more_is_some x xs is = omega (arith, ap length is)

abbrev pub SeatFits : {X : Type 0} → (X → Type 0) → (X → Type 0) → (X → Type 0) → Type 0 → List Parked → Option X → Type 0
SeatFits A B D C xs o = IfSome o (λ s. A s × B s × (xs ≢ []) × D s) × IfNone o ((xs ≡ []) × C)

pub left_seat : {X : Type 0} (A B D : X → Type 0) (C : Type 0) (xs : List Parked) (o : Option X) (x : X) → (xs ≡ [] → o ≡ None) → (xs ≢ [] → o ≡ Some x) → A x → B x → D x → C → SeatFits A B D C xs o
left_seat A B D C [] o x none some_there a b d h = subst (λ q. SeatFits A B D C [] q) (sym (none refl)) (tt, (refl, h))
left_seat A B D C (y ∷ ys) o x none some_there a b d h = subst (λ q. SeatFits A B D C (y ∷ ys) q) (sym (some_there (more_is_some y ys))) ((a, b, more_is_some y ys, d), tt)

pub left_known : {X : Type 0} (g : X → List Note) (xs : List Parked) (o : Option X) (x : X) → (xs ≡ [] → o ≡ None) → (xs ≢ [] → o ≡ Some x) → alone_in (g x) ≡ None → full_in (g x) ≡ [] → (alone_in (option_map_or g o []) ≡ None) × (full_in (option_map_or g o []) ≡ [])
left_known g [] o x none some_there unknown empty = subst (λ q. (alone_in (option_map_or g q []) ≡ None) × (full_in (option_map_or g q []) ≡ [])) (sym (none refl)) (refl, refl)
left_known g (y ∷ ys) o x none some_there unknown empty = subst (λ q. (alone_in (option_map_or g q []) ≡ None) × (full_in (option_map_or g q []) ≡ [])) (sym (some_there (more_is_some y ys))) (unknown, empty)

pub left_table : {X : Type 0} (f : X → TableId) (n : TableId) (xs : List Parked) (o : Option X) (x : X) → (xs ≡ [] → o ≡ None) → (xs ≢ [] → o ≡ Some x) → f x ≡ n → IsOfTable n (option_map f o)
left_table f n [] o x none some_there is = subst (λ q. IsOfTable n (option_map f q)) (sym (none refl)) tt
left_table f n (y ∷ ys) o x none some_there is = subst (λ q. IsOfTable n (option_map f q)) (sym (some_there (more_is_some y ys))) is

pub left_is : {X : Type 0} (f : X → TableId) (n : TableId) (xs : List Parked) (o : Option X) (x : X) → (xs ≡ [] → o ≡ None) → (xs ≢ [] → o ≡ Some x) → f x ≡ n → option_map f o ≡ table_left n xs
left_is f n [] o x none some_there is = ap (option_map f) (none refl)
left_is f n (y ∷ ys) o x none some_there is = ap (option_map f) (some_there (more_is_some y ys)) ∙ ap Some is

pub left_is_so : {X : Type 0} (p : X → Type 0) (xs : List Parked) (o : Option X) (x : X) → (xs ≡ [] → o ≡ None) → (xs ≢ [] → o ≡ Some x) → p x → IfSome o p
left_is_so p [] o x none some_there is = subst (λ q. IfSome q p) (sym (none refl)) tt
left_is_so p (y ∷ ys) o x none some_there is = subst (λ q. IfSome q p) (sym (some_there (more_is_some y ys))) is

pub left_found : {X : Type 0} (g : X → List ℕ) (xs : List Parked) (o : Option X) (x : X) (before : List ℕ) → (xs ≡ [] → o ≡ None) → (xs ≢ [] → o ≡ Some x) → g x ≡ before → option_map_or g o [] ≡ found_left xs before
left_found g [] o x before none some_there is = ap (λ q. option_map_or g q []) (none refl)
left_found g (y ∷ ys) o x before none some_there is = ap (λ q. option_map_or g q []) (some_there (more_is_some y ys)) ∙ is

-- LOADS
pub may_check : (turns : List Parked) (ds : List Dropping) (v : List Note) → IsRestView turns ds v → alone_in v ≡ None → turns ≢ [] → IsTurn v
may_check turns ds v r none some_there =
    let p = plain_holds turns ds v r none in
    let h = subst (λ es. HoldsTurns (reverse turns) es v) p.1 p.0 in
    (holds_lone (reverse turns) v h, omega (arith, rest_lives turns ds v r, some_length turns some_there))

pub found_other : (turns : List Parked) (ds : List Dropping) (v : List Note) (n : ℕ) → IsRestView turns ds v → n ≢ length turns → live_found n v ≡ v
found_other turns ds v n r other = let miss : eqb n (weigh (mark Live) v) ≡ false = let lives = rest_lives turns ds v r in grind (arith, nat_tests, lives, other) in ap (λ b. alone_notes b ++ v) miss

pub found_all : (turns : List Parked) (ds : List Dropping) (v : List Note) (n : ℕ) → IsRestView turns ds v → n ≡ length turns → live_found n v ≡ Has Alone ∷ v
found_all turns ds v n r same = let hit : eqb n (weigh (mark Live) v) ≡ true = let lives = rest_lives turns ds v r in grind (arith, nat_tests, lives, same) in ap (λ b. alone_notes b ++ v) hit

pub may_look : (turns : List Parked) (ds : List Dropping) (v : List Note) → IsRestView turns ds v → alone_in v ≡ None → turns ≢ [] → MayLook (Has Alone ∷ v)
may_look turns ds v r none some_there = let turn = may_check turns ds v r none some_there in (turn.0, turn.1, holds_mark (reverse turns) ds v (plain_holds turns ds v r none).0)

pub looked_view : (turns : List Parked) (ds : List Dropping) (v : List Note) (n : ℕ) (b : Bool) → IsRestView turns ds v → alone_in v ≡ None → (b ≡ true → n ≢ 0) → (b ≡ false → n ≡ 0)
    → IsRestView turns ds (looked n (Has Alone ∷ v)) × (alone_in (looked n (Has Alone ∷ v)) ≡ Some b) × (full_in (looked n (Has Alone ∷ v)) ≡ [])
looked_view turns ds v zero true r none some_there zero_there = absurd (some_there refl refl)
looked_view turns ds v zero false r none some_there zero_there = (record { known = refl; holds = (plain_holds turns ds v r none).0; fits = tt }, refl, refl)
looked_view turns ds v (suc n) true r none some_there zero_there = let p = plain_holds turns ds v r none in (record { known = refl; holds = p.0; fits = subst (λ es. FitsDrops (Some true) es) (sym p.1) tt }, refl, refl)
looked_view turns ds v (suc n) false r none some_there zero_there = absurd (omega (arith, zero_there refl))

pub looked_parts : (turns : List Parked) (ds : List Dropping) (parts : List (List Part)) (v : List Note) (n : ℕ) → IsRestView turns ds v → alone_in v ≡ None → RestParts parts v → RestParts parts (looked n (Has Alone ∷ v))
looked_parts turns ds parts v zero r none h = subst (λ u. HoldsParts (reverse parts) u) (plain_bare turns ds v r none) h
looked_parts turns ds parts v (suc n) r none h = subst (λ u. HoldsParts (reverse parts) u) (plain_bare turns ds v r none) h

-- a rest that is known to be alone
pub known_as : (turns : List Parked) (ds : List Dropping) (P : List Note → Type 0) (v : List Note) → IsRestView turns ds v → alone_in v ≢ None
    → ((l : List ℕ) (b : List Note) → HoldsTurns (reverse turns) ds b → P (Sems Full l ∷ Has Quiet ∷ b)) → ((l : List ℕ) (b : List Note) → HoldsTurns (reverse turns) ds b → AllByRecursion (λ (d : Dropping). d.why ≡ AfterFault) ds → P (Sems Full l ∷ Has Alone ∷ Has Halted ∷ b)) → P v
known_as turns ds P v r some_there quiet halted = from (alone_in v) refl
  where
    from : (k : Option Bool) → alone_in v ≡ k → P v
    from None is = absurd (some_there is)
    from (Some false) is = subst P (sym (r.known ∙ ap (λ a. known_notes a (full_in v) ++ bare_part v) is)) (quiet (full_in v) (bare_part v) r.holds)
    from (Some true) is = subst P (sym (r.known ∙ ap (λ a. known_notes a (full_in v) ++ bare_part v) is)) (halted (full_in v) (bare_part v) r.holds (subst (λ a. FitsDrops a ds) is r.fits))

pub may_ask : (net : NetRows) (a : ℕ) (turns : List Parked) (ds : List Dropping) (v : List Note) → IsRestView turns ds v → alone_in v ≢ None → turns ≢ [] → a < length net.sems → MayAskForUnit net a v
may_ask net a turns ds v r known some_there below = known_as turns ds (MayAskForUnit net a) v r known
    (λ l b h. (below, omega (arith, lives b h), λ none. omega (arith, none), let u = holds_no_unit a (reverse turns) ds b h in record { held = omega (arith, u.held); owed = omega (arith, u.owed); undo = omega (arith, u.undo) }))
    (λ l b h all. (below, omega (arith, lives b h), λ none. omega (arith, none), let u = holds_no_unit a (reverse turns) ds b h in record { held = omega (arith, u.held); owed = omega (arith, u.owed); undo = omega (arith, u.undo) }))
  where
    lives : (b : List Note) → HoldsTurns (reverse turns) ds b → 1 ≤ weigh (mark Live) b
    lives b h = omega (arith, holds_live (reverse turns) ds b h, length-reverse turns, some_length turns some_there)

pub record AsksView (net : NetRows) (a n : ℕ) (turns : List Parked) (ds : List Dropping) (v : List Note) : Type 0 where
  pub rest : IsRestView turns ds (with_unit_asked net a n v)
  pub alone : alone_in (with_unit_asked net a n v) ≡ alone_in v
  pub full : full_in (with_unit_asked net a n v) ≡ full_with (nat_lt n (max_of net a)) a (full_in v)
  pub bare : bare_part (with_unit_asked net a n v) ≡ bare_part v

pub asked_view : (net : NetRows) (a n : ℕ) (turns : List Parked) (ds : List Dropping) (v : List Note) → IsRestView turns ds v → alone_in v ≢ None → AsksView net a n turns ds v
asked_view net a n turns ds v r known = known_as turns ds (AsksView net a n turns ds) v r known
    (λ l b h. record { rest = record { known = refl; holds = h; fits = tt }; alone = refl; full = refl; bare = refl })
    (λ l b h all. record { rest = record { known = refl; holds = h; fits = all }; alone = refl; full = refl; bare = refl })
