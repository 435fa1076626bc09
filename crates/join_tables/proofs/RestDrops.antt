-- What a rest's seat knows after a Drop.
use Rattle.std.proofs.Common.{◌≡◌, ◌≢◌, ℕ, ◌-◌, ◌≤◌, Bool, true, false, List, [], ◌∷◌, ◌++◌, length, map, reverse, Option, Some, refl, sym, ap, ◌∙◌, subst, arith}
use Rattle.std.specs.Prelude.{IsTrue, IsSomeAnd, slice_get}
use Rattle.std.specs.List.{AllByRecursion}
use Rattle.std.proofs.lemmas.List.{append_assoc, reverse-append, length-reverse, length_push, map-append}
use Rattle.task_graph.specs.NetRows.{NetRows}
use Rattle.journal_rules.specs.declared.entry.DropWhy.{DropWhy}
use Rattle.journal_rules.specs.declared.entry.DropWhy.TheVariants.{Stuck, Limit, Halted as AfterFault}
use Rattle.journal_rules.specs.declared.entry.Entry.TheVariants.{Drop}
use Rattle.journal_rules.specs.SemaphoreRule.{takes}
use Rattle.journal_rules.proofs.Snoc.{slice_get_push_last}
use Rattle.table_steps.specs.Giving.{times}
use Rattle.table_steps.specs.declared.view.TurnDuty.TheVariants.{Told, Collecting}
use Rattle.table_steps.specs.declared.view.SemaphoreRole.TheVariants.{Held, Full}
use Rattle.table_steps.specs.declared.view.SeatMark.TheVariants.{Live, Halted, Alone, Quiet, Sticking}
use Rattle.table_steps.specs.declared.view.Note.{Note}
use Rattle.table_steps.specs.declared.view.Note.TheVariants.{Duty, Sems, Has}
use Rattle.join_tables.specs.declared.fates.Dropping.{Dropping}
use Rattle.join_tables.specs.declared.fates.Fate.{Fate}
use Rattle.join_tables.specs.declared.rests.Parked.{Parked}
use Rattle.join_tables.specs.Keeping.{entries_of, drop_of}
use Rattle.join_tables.specs.RestStates.{RestState}
use Rattle.join_tables.specs.Rests.{MayDropOf}
use Rattle.journal_rules.specs.declared.entry.Part.{Part}
use Rattle.table_steps.specs.inside.Duties.{running}
use Rattle.table_steps.specs.inside.Slots.{after_lots}
use Rattle.table_steps.proofs.SlotViews.{after_weigh, after_append}
use Rattle.table_steps.specs.inside.Accounts.{duty, mark, busy, weigh}
use Rattle.table_steps.specs.inside.Kinds.{left_by}
use Rattle.join_tables.specs.inside.Seated.{IsSpent}
use Rattle.join_tables.specs.inside.Recording.{tellings, told_notes}
use Rattle.table_steps.specs.inside.RestKinds.{bare_part, MayDropLast, last_dropped, MayThin}
use Rattle.join_tables.specs.inside.Resting.{alone_in, full_in, known_notes, stuck_notes, drop_notes, HoldsTurns, HoldsParts, FitsDrops, IsRestView, RestParts}
use Rattle.table_steps.proofs.Totals.{weigh_append}
use Rattle.join_tables.proofs.Recordings.{tellings_append, told_all}
use Rattle.join_tables.proofs.RestViews.{reverse_last, some_length, turns_none, holds_running, holds_busy, holds_live}

-- one Drop more
drop_notes_last : (ds : List Dropping) (d : Dropping) → drop_notes (ds ++ d ∷ []) ≡ drop_notes ds ++ drop_notes (d ∷ [])
drop_notes_last [] d = refl
drop_notes_last (e ∷ ds) d = ap (λ u. Duty (Told e.place (Drop e.task e.cause e.why)) ∷ stuck_notes e.why ++ u) (drop_notes_last ds d) ∙ ap (λ u. Duty (Told e.place (Drop e.task e.cause e.why)) ∷ u) (sym (append_assoc (stuck_notes e.why) (drop_notes ds) (drop_notes (d ∷ []))))

holds_more : (ps : List Parked) (ds : List Dropping) (d : Dropping) (v : List Note) → HoldsTurns ps ds v → HoldsTurns ps (ds ++ d ∷ []) (v ++ drop_notes (d ∷ []))
holds_more [] ds d v h = ap (λ u. u ++ drop_notes (d ∷ [])) h ∙ sym (drop_notes_last ds d)
holds_more (p ∷ ps) ds d (Duty (Collecting t cause taken []) ∷ Has Live ∷ Sems Held [] ∷ rest) h = let more = after_append taken rest (drop_notes (d ∷ [])) h.2 in
    (h.0, h.1, more.0, subst (λ u. HoldsTurns ps (ds ++ d ∷ []) u) (sym more.2) (holds_more ps ds d (after_lots taken rest) h.3))
holds_more (p ∷ ps) ds d v h = absurd h

parts_more : (fs : List (List Part)) (ps : List Parked) (ds : List Dropping) (v w : List Note) → length fs ≡ length ps → HoldsTurns ps ds v → HoldsParts fs v → HoldsParts fs (v ++ w)
parts_more [] ps ds v w same h f = tt
parts_more (g ∷ fs) [] ds v w same h f = absurd (omega arith)
parts_more (g ∷ fs) (p ∷ ps) ds (Duty (Collecting t cause taken []) ∷ Has Live ∷ Sems Held [] ∷ rest) w same h f = let more = after_append taken rest w h.2 in
    (more.1 ∙ f.0, subst (λ u. HoldsParts fs u) (sym more.2) (parts_more fs ps ds (after_lots taken rest) w (omega arith) h.3 f.1))
parts_more (g ∷ fs) (p ∷ ps) ds v w same h f = absurd h

all_more : (ds : List Dropping) (d : Dropping) → AllByRecursion (λ (e : Dropping). e.why ≡ AfterFault) ds → d.why ≡ AfterFault → AllByRecursion (λ (e : Dropping). e.why ≡ AfterFault) (ds ++ d ∷ [])
all_more [] d all is = (is, tt)
all_more (e ∷ ds) d all is = (all.0, all_more ds d all.1 is)

halted_free : (ds : List Dropping) → AllByRecursion (λ (e : Dropping). e.why ≡ AfterFault) ds → weigh (mark Sticking) (drop_notes ds) ≡ 0
halted_free [] all = refl
halted_free (d ∷ ds) all = omega (arith, weigh_append (mark Sticking) (stuck_notes d.why) (drop_notes ds), ap (λ q. weigh (mark Sticking) (stuck_notes q)) all.0, halted_free ds all.1)

-- the entries of the Drops, as a seat tells them
stuck_tells : (why : DropWhy) → tellings (stuck_notes why) ≡ []
stuck_tells AfterFault = refl
stuck_tells Limit = refl
stuck_tells (Stuck s) = refl

drops_told : (ds : List Dropping) → tellings (drop_notes ds) ≡ told_notes (map drop_of (reverse ds))
drops_told [] = refl
drops_told (d ∷ ds) =
    let entries = map drop_of (reverse ds) in
    let last : map drop_of (reverse (d ∷ ds)) ≡ entries ++ drop_of d ∷ [] = ap (map drop_of) (reverse-append (d ∷ []) ds) ∙ map-append drop_of (reverse ds) (d ∷ []) in
    ap (λ u. Duty (Told d.place (Drop d.task d.cause d.why)) ∷ u) (tellings_append (stuck_notes d.why) (drop_notes ds) ∙ ap (λ u. u ++ tellings (drop_notes ds)) (stuck_tells d.why) ∙ drops_told ds)
    ∙ sym (told_all [] entries (drop_of d ∷ [])) ∙ ap told_notes (sym last)

-- whether a rest of which this is known may drop a turn of a task
abbrev pub MayDropAs : NetRows → DropWhy → Option Bool → List ℕ → ℕ → Type 0
MayDropAs net AfterFault k l t = k ≡ Some true
MayDropAs net (Stuck s) k l t = (k ≡ Some false) × (1 ≤ times s l) × IsTrue (takes net s t)
MayDropAs net Limit k l t = ⊥

-- what a Drop leaves, of a rest whose notes begin thus
abbrev pub dropping_as : DropWhy → ℕ → Parked → Dropping
dropping_as why n p = record { task = p.task; cause = p.cause; place = n; why = why }

pub record DropsOne (V : Type 0) (net : NetRows) (why : DropWhy) (p : Parked) (left : List Parked) (drops : List Dropping) (v : List Note) : Type 0 where
  pub may : MayDropLast net why v
  pub thins : (n : ℕ) → left ≢ [] → MayThin (last_dropped why n v)
  pub rest : (n : ℕ) → IsRestView left (drops ++ dropping_as why n p ∷ []) (left_by (last_dropped why n v))
  pub alone : (n : ℕ) → alone_in (left_by (last_dropped why n v)) ≡ alone_in v
  pub full : (n : ℕ) → full_in (left_by (last_dropped why n v)) ≡ full_in v
  pub parts : (n : ℕ) (more : List (List Part)) (found : List Part) → length more ≡ length left → RestParts (more ++ found ∷ []) v → RestParts more (left_by (last_dropped why n v))
  pub spent : (n : ℕ) (fate : Fate V) → left ≡ [] → entries_of fate ≡ map drop_of (reverse (drops ++ dropping_as why n p ∷ [])) → IsSpent (entries_of fate) (last_dropped why n v)

left_lives : (left : List Parked) (ds : List Dropping) (rest : List Note) → HoldsTurns (reverse left) ds rest → left ≢ [] → 1 ≤ weigh (mark Live) rest
left_lives left ds rest h some_there = omega (arith, holds_live (reverse left) ds rest h, length-reverse left, some_length left some_there)

told_all_of : {V : Type 0} (left : List Parked) (ds : List Dropping) (rest : List Note) (fate : Fate V) → HoldsTurns (reverse left) ds rest → left ≡ [] → entries_of fate ≡ map drop_of (reverse ds) → (tellings rest ≡ told_notes (entries_of fate)) × (weigh busy rest ≡ 0)
told_all_of left ds rest fate h none is = let g = subst (λ ps. HoldsTurns (reverse ps) ds rest) none h in
    (ap tellings g ∙ drops_told ds ∙ ap told_notes (sym is), holds_busy [] ds rest g)

-- for want of a unit
stuck_one : (V : Type 0) (net : NetRows) (s : ℕ) (p : Parked) (left : List Parked) (drops : List Dropping) (l : List ℕ) (b : List Note) → HoldsTurns (p ∷ reverse left) drops b → 1 ≤ times s l → IsTrue (takes net s p.task) → DropsOne V net (Stuck s) p left drops (Sems Full l ∷ Has Quiet ∷ b)
stuck_one V net s p left drops l (Duty (Collecting t cause taken []) ∷ Has Live ∷ Sems Held [] ∷ found) h full takes_it = record {
  may = (subst (λ u. IsTrue (takes net s u)) (sym h.0) takes_it, full, omega (arith, after_weigh (duty running) taken found h.2, holds_running (reverse left) drops rest h.3), h.2);
  thins = λ n some_there. omega (arith, left_lives left (drops ++ dropping_as (Stuck s) n p ∷ []) (rest ++ tail n) (more n) some_there);
  rest = λ n. record { known = refl; holds = more n; fits = tt };
  alone = λ n. refl;
  full = λ n. refl;
  parts = λ n more g same f. let q = subst (λ fs. HoldsParts fs (Duty (Collecting t cause taken []) ∷ Has Live ∷ Sems Held [] ∷ found)) (reverse-append more (g ∷ [])) f in parts_more (reverse more) (reverse left) drops rest (tail n) (length-reverse more ∙ same ∙ sym (length-reverse left)) h.3 q.1;
  spent = λ n fate none is. let r = told_all_of left (drops ++ dropping_as (Stuck s) n p ∷ []) (rest ++ tail n) fate (more n) none is in (r.0, omega (arith, r.1));
}
  where
    rest : List Note
    rest = after_lots taken found

    tail : ℕ → List Note
    tail n = Duty (Told n (Drop t cause (Stuck s))) ∷ Has Sticking ∷ []

    more : (n : ℕ) → HoldsTurns (reverse left) (drops ++ dropping_as (Stuck s) n p ∷ []) (rest ++ tail n)
    more n = subst (λ u. HoldsTurns (reverse left) (drops ++ dropping_as (Stuck s) n p ∷ []) (rest ++ u)) (λ i. Duty (Told n (Drop (sym h.0 i) (sym h.1 i) (Stuck s))) ∷ Has Sticking ∷ []) (holds_more (reverse left) drops (dropping_as (Stuck s) n p) rest h.3)
stuck_one V net s p left drops l b h full takes_it = absurd h

-- and after a Fault
halted_one : (V : Type 0) (net : NetRows) (p : Parked) (left : List Parked) (drops : List Dropping) (l : List ℕ) (b : List Note) → HoldsTurns (p ∷ reverse left) drops b → AllByRecursion (λ (e : Dropping). e.why ≡ AfterFault) drops → DropsOne V net AfterFault p left drops (Sems Full l ∷ Has Alone ∷ Has Halted ∷ b)
halted_one V net p left drops l (Duty (Collecting t cause taken []) ∷ Has Live ∷ Sems Held [] ∷ found) h all = record {
  may = (omega (arith, after_weigh (mark Sticking) taken found h.2, turns_none (mark Sticking) (λ u why es. refl) (reverse left) drops rest h.3, halted_free drops all), h.2);
  thins = λ n some_there. omega (arith, left_lives left (drops ++ dropping_as AfterFault n p ∷ []) (rest ++ tail n) (more n) some_there);
  rest = λ n. record { known = refl; holds = more n; fits = all_more drops (dropping_as AfterFault n p) all refl };
  alone = λ n. refl;
  full = λ n. refl;
  parts = λ n more g same f. let q = subst (λ fs. HoldsParts fs (Duty (Collecting t cause taken []) ∷ Has Live ∷ Sems Held [] ∷ found)) (reverse-append more (g ∷ [])) f in parts_more (reverse more) (reverse left) drops rest (tail n) (length-reverse more ∙ same ∙ sym (length-reverse left)) h.3 q.1;
  spent = λ n fate none is. let r = told_all_of left (drops ++ dropping_as AfterFault n p ∷ []) (rest ++ tail n) fate (more n) none is in (r.0, omega (arith, r.1));
}
  where
    rest : List Note
    rest = after_lots taken found

    tail : ℕ → List Note
    tail n = Duty (Told n (Drop t cause AfterFault)) ∷ []

    more : (n : ℕ) → HoldsTurns (reverse left) (drops ++ dropping_as AfterFault n p ∷ []) (rest ++ tail n)
    more n = subst (λ u. HoldsTurns (reverse left) (drops ++ dropping_as AfterFault n p ∷ []) (rest ++ u)) (λ i. Duty (Told n (Drop (sym h.0 i) (sym h.1 i) AfterFault)) ∷ []) (holds_more (reverse left) drops (dropping_as AfterFault n p) rest h.3)
halted_one V net p left drops l b h all = absurd h

pub drops_one : (V : Type 0) (net : NetRows) (why : DropWhy) (turns : List Parked) (p : Parked) (left : List Parked) (drops : List Dropping) (v : List Note) → IsRestView turns drops v → turns ≡ left ++ p ∷ [] → MayDropAs net why (alone_in v) (full_in v) p.task → DropsOne V net why p left drops v
drops_one V net (Stuck s) turns p left drops v r is may =
    let h = subst (λ ps. HoldsTurns ps drops (bare_part v)) (ap reverse is ∙ reverse_last left p) r.holds in
    subst (λ u. DropsOne V net (Stuck s) p left drops u) (sym (r.known ∙ ap (λ k. known_notes k (full_in v) ++ bare_part v) may.0)) (stuck_one V net s p left drops (full_in v) (bare_part v) h may.1 may.2)
drops_one V net AfterFault turns p left drops v r is may =
    let h = subst (λ ps. HoldsTurns ps drops (bare_part v)) (ap reverse is ∙ reverse_last left p) r.holds in
    subst (λ u. DropsOne V net AfterFault p left drops u) (sym (r.known ∙ ap (λ k. known_notes k (full_in v) ++ bare_part v) may)) (halted_one V net p left drops (full_in v) (bare_part v) h (subst (λ k. FitsDrops k drops) may r.fits))
drops_one V net Limit turns p left drops v r is may = absurd may

-- what a caller knows
pub may_drop_as : (net : NetRows) (r : RestState) (why : DropWhy) (k : Option Bool) (l : List ℕ) (left : List Parked) (p : Parked) → MayDropOf net r why → r.alone ≡ k → r.full ≡ l → r.turns ≡ left ++ p ∷ [] → MayDropAs net why k l p.task
may_drop_as net r AfterFault k l left p may alone full turns = sym alone ∙ may
may_drop_as net r (Stuck s) k l left p may alone full turns =
    let place : length (left ++ p ∷ []) - 1 ≡ length left = omega (arith, length_push left p) in
    let last : slice_get (left ++ p ∷ []) (length (left ++ p ∷ []) - 1) ≡ Some p = ap (slice_get (left ++ p ∷ [])) place ∙ slice_get_push_last left p in
    (sym alone ∙ may.0, subst (λ u. 1 ≤ times s u) full may.1, subst (λ o. IsSomeAnd o (λ (q : Parked). IsTrue (takes net s q.task))) (ap (λ ps. slice_get ps (length ps - 1)) turns ∙ last) may.2)
may_drop_as net r Limit k l left p may alone full turns = absurd may
