-- Along a ring with one token each Start finds, at the ring's edge, the value of the ring's last End.
use Rattle.std.proofs.Common.{◌≡◌, ◌≢◌, ◌⊎◌, inl, inr, ℕ, ◌+◌, ◌<◌, ◌≤◌, Bool, true, false, cond, eqb, ltb, List, [], ◌∷◌, ◌++◌, length, Option, Some, None, sym, refl, ap, ◌∙◌, subst, arith}
use Rattle.std.specs.Prelude.{count_by, ◌==◌}
use Rattle.std.specs.Option.{option_map_or}
use Rattle.std.specs.List.{list_any}
use Rattle.std.proofs.lemmas.Bool.Decides.{nat_tests}
use Rattle.std.proofs.lemmas.Bool.{cases_eq, cases_lt}
use Rattle.std.proofs.lemmas.List.{append-nil}
use Rattle.task_graph.specs.NetRows.{NetRows}
use Rattle.journal_rules.specs.declared.entry.Entry.{Entry}
use Rattle.journal_rules.specs.declared.entry.Entry.TheVariants.{Start, End, Fault, Drop}
use Rattle.journal_rules.specs.declared.entry.Part.TheVariants.{From}
use Rattle.journal_rules.specs.Counts.{given, gives_edge, first_tokens, used, uses, is_strong, is_open}
use Rattle.journal_rules.specs.DataRule.{last_part}
use Rattle.journal_rules.proofs.Snoc.{count_by_push, last_part_push}
use Rattle.journal_rules.proofs.Tallying.{count_by_push_no, given_push}
use Rattle.journal_rules.proofs.Reaching.{open_stands}
use Rattle.join_words.specs.Ins.{InputValue, value, first}
use Rattle.run_frame.specs.declared.run.ValueRow.{ValueRow}
use Rattle.run_frame.specs.Runs.{value_at, found_at, found_by}
use Rattle.run_laws.specs.OneThreadValue.{TaskEnd, OneAnswer, source_of}
use Rattle.run_laws.specs.Ends.{gather, is_task}
use Rattle.pipe_lines.specs.PipeNet.{next}
use Rattle.run_laws.specs.Cycles.{CycleEdge, LiesAt, IsCycle, uses_some, turn}
use Rattle.run_laws.proofs.Along.{Told, gather_push}
use Rattle.run_laws.proofs.Phases.{Phase, begins, ends_one, closed_few, idle, busy, and_both}
use Rattle.run_laws.proofs.Steps.{EndAt}
use Rattle.run_laws.proofs.Rings.{Turning}
use Rattle.run_laws.proofs.Order.{Passing, Going}

abbrev one_if : Bool → ℕ
one_if b = cond b 1 0

-- what was used of a task of the ring, and what of the next
record Ahead (net : NetRows) (n : ℕ) (cell : ℕ → ℕ) (r : ℕ) (b : List Entry) (j d : ℕ) : Type 0 where
  most : used (cell j) b + first_tokens net d ≤ used (cell (next n j)) b + 1
  its : used (cell (next n j)) b + 1 ≤ used (cell j) b + first_tokens net d → next n j ≡ r

ahead : (net : NetRows) (n : ℕ) (cell : ℕ → ℕ) (among : ℕ → Bool) (b : List Entry) (j d : ℕ) → CycleEdge net n cell j d → j < n → Going n cell among b → Ahead net n cell (turn n (count_by (uses_some among) b)) b j d
ahead net n cell among b j d e below going = by_end (eqb (j + 1) n) refl
  where
    r : ℕ
    r = turn n (count_by (uses_some among) b)

    mine : used (cell j) b ≡ going.cycles + one_if (ltb j r)
    mine = going.each j below

    by_end : (t : Bool) → eqb (j + 1) n ≡ t → Ahead net n cell r b j d
    by_end true is = round (cases_eq r 0)
      where
        at_end : j + 1 ≡ n
        at_end = grind (arith, nat_tests)

        in_ring : r < n
        in_ring = going.in_ring

        goes : next n j ≡ 0
        goes = ap (λ (t : Bool). cond t 0 (j + 1)) is

        one : first_tokens net d ≡ 1
        one = e.first ∙ ap one_if is

        past : ltb j r ≡ false
        past = let less : r ≤ j = omega (arith, at_end, in_ring) in grind (arith, nat_tests)

        no_one : one_if (ltb j r) ≡ 0
        no_one = ap one_if past

        theirs : used (cell (next n j)) b ≡ going.cycles + one_if (ltb 0 r)
        theirs = ap (λ k. used (cell k) b) goes ∙ going.each 0 (omega arith)

        round : (r ≡ 0) ⊎ (r ≢ 0) → Ahead net n cell r b j d
        round (inl same) = record { most = omega (arith, mine, theirs, one, no_one); its = λ h. goes ∙ sym same }
        round (inr other) =
            let yes : ltb 0 r ≡ true = grind (arith, nat_tests) in
            let one_there : one_if (ltb 0 r) ≡ 1 = ap one_if yes in
            record { most = omega (arith, mine, theirs, one, no_one); its = λ h. absurd (omega (arith, mine, theirs, one, no_one)) }
    by_end false is = on (cases_lt j r) (cases_lt (j + 1) r)
      where
        not_end : j + 1 ≢ n
        not_end = grind (arith, nat_tests)

        goes : next n j ≡ j + 1
        goes = ap (λ (t : Bool). cond t 0 (j + 1)) is

        none : first_tokens net d ≡ 0
        none = e.first ∙ ap one_if is

        theirs : used (cell (next n j)) b ≡ going.cycles + one_if (ltb (j + 1) r)
        theirs = ap (λ k. used (cell k) b) goes ∙ going.each (j + 1) (omega (arith, not_end))

        on : (j < r) ⊎ (r ≤ j) → (j + 1 < r) ⊎ (r ≤ j + 1) → Ahead net n cell r b j d
        on (inr past) after =
            let not_yet : ltb j r ≡ false = grind (arith, nat_tests) in
            let no_one : one_if (ltb j r) ≡ 0 = ap one_if not_yet in
            record { most = omega (arith, mine, theirs, none); its = λ h. absurd (omega (arith, mine, theirs, none)) }
        on (inl less) (inl more) =
            let yes : ltb j r ≡ true = grind (arith, nat_tests) in
            let yes_there : ltb (j + 1) r ≡ true = grind (arith, nat_tests) in
            let one_here : one_if (ltb j r) ≡ 1 = ap one_if yes in
            let one_there : one_if (ltb (j + 1) r) ≡ 1 = ap one_if yes_there in
            record { most = omega (arith, mine, theirs, none); its = λ h. absurd (omega (arith, mine, theirs, none)) }
        on (inl less) (inr past) =
            let yes : ltb j r ≡ true = grind (arith, nat_tests) in
            let one_here : one_if (ltb j r) ≡ 1 = ap one_if yes in
            record { most = omega (arith, mine, theirs, none); its = λ h. goes ∙ omega arith }

-- the ends of the ring's tasks, in the journal's order
abbrev pub among_task : (ℕ → Bool) → Option ℕ → Bool
among_task among started = option_map_or among started false

abbrev pub ring_end_of : {V : Type 0} → List (ValueRow V) → (ℕ → Option ℕ) → (ℕ → Bool) → ℕ → Entry → List (TaskEnd V)
ring_end_of values at among n (Start task cause ins) = []
ring_end_of values at among n (End start gives inner) =
    elim (value_at values n) [ None ↦ [] | Some v ↦ cond (among_task among (at start)) ((record { value = v; gives = gives }) ∷ []) [] ]
ring_end_of values at among n (Fault start why) = []
ring_end_of values at among n (Drop task cause why) = []

abbrev pub ring_ends : {V : Type 0} → List (ValueRow V) → (ℕ → Option ℕ) → (ℕ → Bool) → List Entry → List (TaskEnd V)
ring_ends values at among b = gather (ring_end_of values at among) 0 b

-- the last value, or what was there at first
abbrev pub last_or : {V : Type 0} → InputValue V → List (TaskEnd V) → InputValue V
last_or f [] = f
last_or f (u ∷ us) = last_or (value u.value) us

last_or_push : {V : Type 0} (f : InputValue V) (us : List (TaskEnd V)) (u : TaskEnd V) → last_or f (us ++ u ∷ []) ≡ value u.value
last_or_push f [] u = refl
last_or_push f (w ∷ us) u = last_or_push (value w.value) us u

-- where an edge of the ring holds the token, the ring's last value is found there
pub record Chained {V : Type 0} (net : NetRows) (values : List (ValueRow V)) (at : ℕ → Option ℕ) (n : ℕ) (cell : ℕ → ℕ) (among : ℕ → Bool) (cycle : IsCycle net n cell among) (b : List Entry) : Type 0 where
  pub found : (j : ℕ) (below : j < n) → used (cell (next n j)) b + 1 ≤ given net (cycle.edge j) b → found_at values (last_part (cycle.edge j) b) ≡ last_or first (ring_ends values at among b)

-- an entry that is no End of the ring
chain_still : {V : Type 0} (net : NetRows) (values : List (ValueRow V)) (at : ℕ → Option ℕ) (n : ℕ) (cell : ℕ → ℕ) (among : ℕ → Bool) (cycle : IsCycle net n cell among) (b : List Entry) (x : Entry)
    → ((j : ℕ) (below : j < n) → gives_edge (cycle.edge j) x ≡ false) → ring_end_of values at among (length b) x ≡ [] → Chained net values at n cell among cycle b → Chained net values at n cell among cycle (b ++ x ∷ [])
chain_still net values at n cell among cycle b x no_gift no_end chained = record {
  found = λ j below token.
      let e : ℕ = (cycle.edge j) in
      let same_given : given net e (b ++ x ∷ []) ≡ given net e b = given_push net e b x ∙ ap (λ g. given net e b + cond g 1 0) (no_gift j below) ∙ omega arith in
      let same_part : last_part e (b ++ x ∷ []) ≡ last_part e b = last_part_push e b x ∙ ap (λ g. cond g (From (length b)) (last_part e b)) (no_gift j below) in
      let same_ends : ring_ends values at among (b ++ x ∷ []) ≡ ring_ends values at among b = gather_push (ring_end_of values at among) b x ∙ ap (λ us. ring_ends values at among b ++ us) no_end ∙ append-nil (ring_ends values at among b) in
      ap (found_at values) same_part ∙ chained.found j below (omega (arith, token, same_given, count_by_push (uses is_strong (cell (next n j))) b x)) ∙ ap (last_or first) (sym same_ends);
}

-- an End of the ring
chain_end : {V : Type 0} (net : NetRows) (one : OneAnswer V) (values : List (ValueRow V)) (at : ℕ → Option ℕ) (n : ℕ) (cell : ℕ → ℕ) (among : ℕ → Bool) (cycle : IsCycle net n cell among) (b : List Entry) (start : ℕ) (gives : List ℕ) (inner : Bool)
    (a : EndAt net one values at b start gives) (l : LiesAt n cell a.task) → among a.task ≡ true → Told at b → is_open b start ≡ true → Turning net at b → Passing net at b → Going n cell among b
    → Chained net values at n cell among cycle (b ++ End start gives inner ∷ [])
chain_end {V} net one values at n cell among cycle b start gives inner a l inside told opened turning passing going = record { found = λ j below token. by_gift j below token (list_any (λ g. g == (cycle.edge j)) gives) refl }
  where
    x : Entry
    x = End start gives inner

    u : TaskEnd V
    u = record { value = a.v; gives = gives }

    ends_now : ring_ends values at among (b ++ x ∷ []) ≡ ring_ends values at among b ++ u ∷ []
    ends_now =
        gather_push (ring_end_of values at among) b x
        ∙ ap (λ us. ring_ends values at among b ++ us)
        (ap (λ (o : Option V). elim o as (λ _. List (TaskEnd V)) [ None ↦ [] | Some v ↦ cond (among_task among (at start)) ((record { value = v; gives = gives }) ∷ []) [] ]) a.value
        ∙ ap (λ (o : Option ℕ). cond (among_task among o) (u ∷ []) []) a.of_task ∙ ap (λ c. cond c (u ∷ []) []) inside)

    -- its Start is open, so fewer Starts of the task are closed than it was used
    is_its : is_task a.task (at start) ≡ true
    is_its = let hit : eqb a.task a.task ≡ true = grind (arith, nat_tests) in ap (is_task a.task) a.of_task ∙ hit

    fewer : Phase at a.task b → count_by (ends_one at a.task) b + 1 ≤ count_by (begins a.task) b
    fewer (idle same rests) = absurd (rests start (and_both _ _ (ap (is_task a.task) (sym (told start (open_stands b start opened))) ∙ is_its) opened))
    fewer (busy m one_more is) = omega arith

    less_given : given net (cycle.edge l.place) b + 1 ≤ used (cell l.place) b + first_tokens net (cycle.edge l.place)
    less_given =
        let e : CycleEdge net n cell l.place (cycle.edge l.place) = cycle.edges l.place l.below in
        let from : source_of net (cycle.edge l.place) ≡ a.task = e.from ∙ sym l.is in
        let gifts : count_by (gives_edge (cycle.edge l.place)) b ≤ count_by (ends_one at a.task) b = subst (λ t. count_by (gives_edge (cycle.edge l.place)) b ≤ count_by (ends_one at t) b) from (passing.gifts (cycle.edge l.place)) in
        let used_is : used a.task b ≡ used (cell l.place) b = ap (λ t. used t b) l.is in
        omega (arith, gifts, fewer (turning.placed.phases a.task), passing.begun a.task, used_is)

    next_same : (i j : ℕ) → i < n → j < n → next n i ≡ next n j → i ≡ j
    next_same i j i_below j_below same = by_ends (cases_eq (i + 1) n) (cases_eq (j + 1) n)
      where
        by_ends : (i + 1 ≡ n) ⊎ (i + 1 ≢ n) → (j + 1 ≡ n) ⊎ (j + 1 ≢ n) → i ≡ j
        by_ends (inl p) (inl q) = omega arith
        by_ends (inl p) (inr q) =
            let one_is : eqb (i + 1) n ≡ true = grind (arith, nat_tests) in
            let two_is : eqb (j + 1) n ≡ false = grind (arith, nat_tests) in
            let zeroth : 0 ≡ j + 1 = sym (ap (λ (t : Bool). cond t 0 (i + 1)) one_is) ∙ same ∙ ap (λ (t : Bool). cond t 0 (j + 1)) two_is in
            absurd (omega arith)
        by_ends (inr p) (inl q) =
            let one_is : eqb (i + 1) n ≡ false = grind (arith, nat_tests) in
            let two_is : eqb (j + 1) n ≡ true = grind (arith, nat_tests) in
            let zeroth : i + 1 ≡ 0 = sym (ap (λ (t : Bool). cond t 0 (i + 1)) one_is) ∙ same ∙ ap (λ (t : Bool). cond t 0 (j + 1)) two_is in
            absurd (omega arith)
        by_ends (inr p) (inr q) =
            let one_is : eqb (i + 1) n ≡ false = grind (arith, nat_tests) in
            let two_is : eqb (j + 1) n ≡ false = grind (arith, nat_tests) in
            let both : i + 1 ≡ j + 1 = sym (ap (λ (t : Bool). cond t 0 (i + 1)) one_is) ∙ same ∙ ap (λ (t : Bool). cond t 0 (j + 1)) two_is in
            omega arith

    -- while the task runs no edge of the ring holds the token
    no_token : (j : ℕ) (below : j < n) → used (cell (next n j)) b + 1 ≤ given net (cycle.edge j) b → ⊥
    no_token j below token =
        let e : CycleEdge net n cell j (cycle.edge j) = cycle.edges j below in
        let mine : CycleEdge net n cell l.place (cycle.edge l.place) = cycle.edges l.place l.below in
        let given_j : given net (cycle.edge j) b ≤ used (cell j) b + first_tokens net (cycle.edge j) = given_most j below in
        let of_j : Ahead net n cell (turn n (count_by (uses_some among) b)) b j (cycle.edge j) = ahead net n cell among b j (cycle.edge j) e below going in
        let of_l : Ahead net n cell (turn n (count_by (uses_some among) b)) b l.place (cycle.edge l.place) = ahead net n cell among b l.place (cycle.edge l.place) mine l.below going in
        let held_l : used (cell (next n l.place)) b ≤ given net (cycle.edge l.place) b = subst (λ t. used t b ≤ given net (cycle.edge l.place) b) mine.to (turning.held (cycle.edge l.place) mine.below) in
        let turn_j : next n j ≡ turn n (count_by (uses_some among) b) = of_j.its (omega arith) in
        let turn_l : next n l.place ≡ turn n (count_by (uses_some among) b) = of_l.its (omega (arith, less_given, held_l)) in
        let same : j ≡ l.place = next_same j l.place below l.below (turn_j ∙ sym turn_l) in
        let token_l : used (cell (next n l.place)) b + 1 ≤ given net (cycle.edge l.place) b = subst (λ i. used (cell (next n i)) b + 1 ≤ given net (cycle.edge i) b) same token in
        absurd (omega (arith, token_l, less_given, of_l.most))
      where
        given_most : (i : ℕ) (i_below : i < n) → given net (cycle.edge i) b ≤ used (cell i) b + first_tokens net (cycle.edge i)
        given_most i i_below =
            let d : CycleEdge net n cell i (cycle.edge i) = cycle.edges i i_below in
            let most : given net (cycle.edge i) b ≤ used (source_of net (cycle.edge i)) b + first_tokens net (cycle.edge i) =
            omega (arith, passing.gifts (cycle.edge i), passing.begun (source_of net (cycle.edge i)), closed_few at (source_of net (cycle.edge i)) b (turning.placed.phases (source_of net (cycle.edge i)))) in
            subst (λ t. given net (cycle.edge i) b ≤ used t b + first_tokens net (cycle.edge i)) d.from most

    by_gift : (j : ℕ) (below : j < n) → used (cell (next n j)) (b ++ x ∷ []) + 1 ≤ given net (cycle.edge j) (b ++ x ∷ []) → (g : Bool) → list_any (λ h. h == (cycle.edge j)) gives ≡ g
        → found_at values (last_part (cycle.edge j) (b ++ x ∷ [])) ≡ last_or first (ring_ends values at among (b ++ x ∷ []))
    by_gift j below token true gift =
        let e : ℕ = (cycle.edge j) in
        let part : last_part e (b ++ x ∷ []) ≡ From (length b) = last_part_push e b x ∙ ap (λ g. cond g (From (length b)) (last_part e b)) gift in
        ap (found_at values) part ∙ ap found_by a.value ∙ sym (ap (last_or first) ends_now ∙ last_or_push first (ring_ends values at among b) u)
    by_gift j below token false none =
        let e : ℕ = (cycle.edge j) in
        let same_given : given net e (b ++ x ∷ []) ≡ given net e b = given_push net e b x ∙ ap (λ g. given net e b + cond g 1 0) none ∙ omega arith in
        absurd (no_token j below (omega (arith, token, same_given, count_by_push_no (uses is_strong (cell (next n j))) b x refl)))
