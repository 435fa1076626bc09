-- The tasks of a ring with one token start in turn.
use Rattle.std.proofs.Common.{◌≡◌, ◌≢◌, ◌⊎◌, inl, inr, ℕ, zero, suc, ◌+◌, ◌-◌, ◌*◌, ◌<◌, ◌≤◌, Bool, true, false, ◌&&◌, cond, eqb, ltb, List, [], ◌∷◌, ◌++◌, length, Option, sym, refl, ap, ◌∙◌, subst, arith}
use Rattle.std.specs.Prelude.{count_by, ◌==◌}
use Rattle.std.specs.List.{list_any}
use Rattle.std.proofs.lemmas.Bool.Decides.{nat_tests}
use Rattle.std.proofs.lemmas.Bool.{cases_eq, cases_lt, false≢true}
use Rattle.task_graph.specs.NetRows.{NetRows}
use Rattle.task_graph.specs.Net.{strong_in}
use Rattle.journal_rules.specs.declared.entry.Entry.{Entry}
use Rattle.journal_rules.specs.declared.entry.Entry.TheVariants.{Start, End, Fault, Drop}
use Rattle.journal_rules.specs.declared.entry.Cause.{Cause}
use Rattle.journal_rules.specs.declared.entry.Cause.TheVariants.{Strong}
use Rattle.journal_rules.specs.Counts.{given, gives_edge, first_tokens, used, uses, is_strong, start_at}
use Rattle.journal_rules.specs.ReleaseRule.{IsReleased}
use Rattle.journal_rules.specs.Entries.{EachAfter, EachAfterThese}
use Rattle.journal_rules.specs.ShapeLegal.{ShapeLegal, MayFollow}
use Rattle.journal_rules.proofs.Snoc.{count_by_push}
use Rattle.journal_rules.proofs.Tallying.{count_by_push_no, count_by_push_yes}
use Rattle.run_laws.specs.OneThreadValue.{source_of, target_of}
use Rattle.run_laws.specs.Rings.{IsRinged}
use Rattle.pipe_lines.specs.PipeNet.{next}
use Rattle.run_laws.specs.Cycles.{CycleEdge, LiesAt, IsCycle, uses_some, turn, GoesRound}
use Rattle.run_laws.proofs.Along.{along, weaker, Told, told_before}
use Rattle.run_laws.proofs.Phases.{begins, ends_one, ends_few}
use Rattle.run_laws.proofs.Once.{gift_source}
use Rattle.run_laws.proofs.Rings.{Turning, turning_along, released_strongly, among_strong, all_any}

abbrev one_if : Bool → ℕ
one_if b = cond b 1 0

-- what is given and begun, all of it by what was used
pub record Passing (net : NetRows) (at : ℕ → Option ℕ) (b : List Entry) : Type 0 where
  pub gifts : (e : ℕ) → count_by (gives_edge e) b ≤ count_by (ends_one at (source_of net e)) b
  pub begun : (t : ℕ) → count_by (begins t) b ≤ used t b

-- how often each task of the ring was used: once more before the one whose turn it is
pub record Going (n : ℕ) (cell : ℕ → ℕ) (among : ℕ → Bool) (b : List Entry) : Type 0 where
  pub cycles : ℕ
  pub in_ring : turn n (count_by (uses_some among) b) < n
  pub each : (l : ℕ) → l < n → used (cell l) b ≡ cycles + one_if (ltb l (turn n (count_by (uses_some among) b)))
  pub total : count_by (uses_some among) b ≡ cycles * n + turn n (count_by (uses_some among) b)

-- an edge was given no more than its source was used, and its first token
given_most : (net : NetRows) (at : ℕ → Option ℕ) (b : List Entry) → Turning net at b → Passing net at b → (e : ℕ) → given net e b ≤ used (source_of net e) b + first_tokens net e
given_most net at b turning passing e = omega (arith, passing.gifts e, passing.begun (source_of net e), ends_few at (source_of net e) b (turning.placed.phases (source_of net e)))

-- a released task of the ring is the one whose turn it is
its_turn : (net : NetRows) (at : ℕ → Option ℕ) (n : ℕ) (cell : ℕ → ℕ) (among : ℕ → Bool) (b : List Entry) (l : ℕ) → IsRinged net → IsCycle net n cell among → Turning net at b → Passing net at b → Going n cell among b
    → l < n → IsReleased net b (cell l) Strong → l ≡ turn n (count_by (uses_some among) b)
its_turn net at n cell among b l ringed cycle turning passing going below released = by_place l refl
  where
    r : ℕ
    r = turn n (count_by (uses_some among) b)

    token : (j : ℕ) (e : CycleEdge net n cell j (cycle.edge j)) → next n j ≡ l → used (cell l) b + 1 ≤ used (cell j) b + first_tokens net (cycle.edge j)
    token j e is =
        let into : target_of net (cycle.edge j) ≡ cell l = e.to ∙ ap cell is in
        let held : used (cell l) b + 1 ≤ given net (cycle.edge j) b =
        all_any (λ f. used (cell l) b + 1 ≤ given net f b) (cycle.edge j) (strong_in net (cell l)) released.1 (subst (λ t. list_any (λ f. f == (cycle.edge j)) (strong_in net t) ≡ true) into (among_strong net (cycle.edge j) ringed e.below)) in
        let most : given net (cycle.edge j) b ≤ used (cell j) b + first_tokens net (cycle.edge j) = subst (λ t. given net (cycle.edge j) b ≤ used t b + first_tokens net (cycle.edge j)) e.from (given_most net at b turning passing (cycle.edge j)) in
        omega arith

    by_place : (m : ℕ) → l ≡ m → l ≡ r
    by_place zero is = first (cases_eq r 0)
      where
        last : ℕ
        last = n - 1

        one_before : last + 1 ≡ n
        one_before = omega (arith, cycle.some)

        e : CycleEdge net n cell last (cycle.edge last)
        e = cycle.edges last (omega (arith, one_before))

        at_end : eqb (last + 1) n ≡ true
        at_end = grind (arith, nat_tests)

        first : (r ≡ 0) ⊎ (r ≢ 0) → l ≡ r
        first (inl same) = is ∙ sym same
        first (inr other) =
            let round : next n last ≡ l = ap (λ (t : Bool). cond t 0 (last + 1)) at_end ∙ sym is in
            let one : first_tokens net (cycle.edge last) ≡ 1 = e.first ∙ ap one_if at_end in
            let here : used (cell l) b ≡ going.cycles + one_if (ltb l r) = going.each l below in
            let there : used (cell last) b ≡ going.cycles + one_if (ltb last r) = going.each last (omega (arith, one_before)) in
            let yes : ltb l r ≡ true = grind (arith, nat_tests) in
            let in_ring : r < n = going.in_ring in
            let none : ltb last r ≡ false = grind (arith, nat_tests) in
            let one_here : one_if (ltb l r) ≡ 1 = ap one_if yes in
            let none_there : one_if (ltb last r) ≡ 0 = ap one_if none in
            absurd (omega (arith, token last e round))
    by_place (suc j) is = here (cases_lt j r) (cases_lt l r)
      where
        e : CycleEdge net n cell j (cycle.edge j)
        e = cycle.edges j (omega arith)

        before_end : eqb (j + 1) n ≡ false
        before_end = grind (arith, nat_tests)

        round : next n j ≡ l
        round = ap (λ (t : Bool). cond t 0 (j + 1)) before_end ∙ omega arith

        none : first_tokens net (cycle.edge j) ≡ 0
        none = e.first ∙ ap one_if before_end

        mine : used (cell l) b ≡ going.cycles + one_if (ltb l r)
        mine = going.each l below

        theirs : used (cell j) b ≡ going.cycles + one_if (ltb j r)
        theirs = going.each j (omega arith)

        here : (j < r) ⊎ (r ≤ j) → (l < r) ⊎ (r ≤ l) → l ≡ r
        here (inr past) after =
            let not_yet : ltb j r ≡ false = grind (arith, nat_tests) in
            let no_one : one_if (ltb j r) ≡ 0 = ap one_if not_yet in
            absurd (omega (arith, token j e round, mine, theirs, none))
        here (inl less) (inl more) =
            let yes : ltb l r ≡ true = grind (arith, nat_tests) in
            let one_here : one_if (ltb l r) ≡ 1 = ap one_if yes in
            let yes_there : ltb j r ≡ true = grind (arith, nat_tests) in
            let one_there : one_if (ltb j r) ≡ 1 = ap one_if yes_there in
            absurd (omega (arith, token j e round, mine, theirs, none))
        here (inl less) (inr past) = omega arith

-- the turn goes on
going_use : (n : ℕ) (cell : ℕ → ℕ) (among : ℕ → Bool) (net : NetRows) (b : List Entry) (x : Entry) (l : ℕ) → IsCycle net n cell among → uses_some among x ≡ true → l < n → l ≡ turn n (count_by (uses_some among) b)
    → ((t : ℕ) → uses is_strong t x ≡ eqb (cell l) t) → Going n cell among b → Going n cell among (b ++ x ∷ [])
going_use n cell among net b x l cycle uses_it below its uses_is going = by_end (eqb (r + 1) n) refl
  where
    r : ℕ
    r = turn n (count_by (uses_some among) b)

    one_more : count_by (uses_some among) (b ++ x ∷ []) ≡ suc (count_by (uses_some among) b)
    one_more = omega (arith, count_by_push_yes (uses_some among) b x uses_it)

    after : turn n (count_by (uses_some among) (b ++ x ∷ [])) ≡ next n r
    after = ap (turn n) one_more

    used_now : (m : ℕ) → m < n → used (cell m) (b ++ x ∷ []) ≡ used (cell m) b + one_if (eqb m r)
    used_now m m_below = count_by_push (uses is_strong (cell m)) b x ∙ ap (λ u. used (cell m) b + one_if u) (uses_is (cell m) ∙ same (cases_eq m r))
      where
        same : (m ≡ r) ⊎ (m ≢ r) → eqb (cell l) (cell m) ≡ eqb m r
        same (inl is) =
            let cells : cell l ≡ cell m = ap cell (its ∙ sym is) in
            let one : eqb (cell l) (cell m) ≡ true = grind (arith, nat_tests) in
            let two : eqb m r ≡ true = grind (arith, nat_tests) in
            one ∙ sym two
        same (inr other) =
            let apart : cell l ≢ cell m = λ cells. other (sym (cycle.distinct l m below m_below cells) ∙ its) in
            let one : eqb (cell l) (cell m) ≡ false = grind (arith, nat_tests) in
            let two : eqb m r ≡ false = grind (arith, nat_tests) in
            one ∙ sym two

    by_end : (t : Bool) → eqb (r + 1) n ≡ t → Going n cell among (b ++ x ∷ [])
    by_end true is =
        let round : turn n (count_by (uses_some among) (b ++ x ∷ [])) ≡ 0 = after ∙ ap (λ (t : Bool). cond t 0 (r + 1)) is in
        record {
          cycles = going.cycles + 1;
          in_ring = omega (arith, round, cycle.some);
          each = λ m m_below. used_now m m_below ∙ ap (λ u. u + one_if (eqb m r)) (going.each m m_below) ∙ full m m_below ∙ sym (ap (λ k. going.cycles + 1 + one_if (ltb m k)) round);
          total = omega (arith, one_more, going.total, round, at_end, cycle_more);
        }
      where
        at_end : r + 1 ≡ n
        at_end = grind (arith, nat_tests)

        cycle_more : (going.cycles + 1) * n ≡ going.cycles * n + n
        cycle_more = omega arith

        full : (m : ℕ) → m < n → going.cycles + one_if (ltb m r) + one_if (eqb m r) ≡ going.cycles + 1 + one_if (ltb m 0)
        full m m_below = by_place (cases_lt m r)
          where
            never : ltb m 0 ≡ false
            never = grind (arith, nat_tests)

            none : one_if (ltb m 0) ≡ 0
            none = ap one_if never

            by_place : (m < r) ⊎ (r ≤ m) → going.cycles + one_if (ltb m r) + one_if (eqb m r) ≡ going.cycles + 1 + one_if (ltb m 0)
            by_place (inl less) =
                let yes : ltb m r ≡ true = grind (arith, nat_tests) in
                let other : eqb m r ≡ false = grind (arith, nat_tests) in
                let one : one_if (ltb m r) ≡ 1 = ap one_if yes in
                let zeroth : one_if (eqb m r) ≡ 0 = ap one_if other in
                omega (arith, none)
            by_place (inr past) =
                let same : m ≡ r = omega (arith, at_end) in
                let past_it : ltb m r ≡ false = grind (arith, nat_tests) in
                let hit : eqb m r ≡ true = grind (arith, nat_tests) in
                let zeroth : one_if (ltb m r) ≡ 0 = ap one_if past_it in
                let one : one_if (eqb m r) ≡ 1 = ap one_if hit in
                omega (arith, none)
    by_end false is =
        let on : turn n (count_by (uses_some among) (b ++ x ∷ [])) ≡ r + 1 = after ∙ ap (λ (t : Bool). cond t 0 (r + 1)) is in
        let not_end : r + 1 ≢ n = grind (arith, nat_tests) in
        record {
          cycles = going.cycles;
          in_ring = omega (arith, on, going.in_ring, not_end);
          each = λ m m_below. used_now m m_below ∙ ap (λ u. u + one_if (eqb m r)) (going.each m m_below) ∙ one_on m ∙ sym (ap (λ k. going.cycles + one_if (ltb m k)) on);
          total = omega (arith, one_more, going.total, on);
        }
      where
        one_on : (m : ℕ) → going.cycles + one_if (ltb m r) + one_if (eqb m r) ≡ going.cycles + one_if (ltb m (r + 1))
        one_on m = by_place (cases_lt m r) (cases_eq m r)
          where
            by_place : (m < r) ⊎ (r ≤ m) → (m ≡ r) ⊎ (m ≢ r) → going.cycles + one_if (ltb m r) + one_if (eqb m r) ≡ going.cycles + one_if (ltb m (r + 1))
            by_place (inl less) is_it =
                let yes : ltb m r ≡ true = grind (arith, nat_tests) in
                let other : eqb m r ≡ false = grind (arith, nat_tests) in
                let yes_now : ltb m (r + 1) ≡ true = grind (arith, nat_tests) in
                let one : one_if (ltb m r) ≡ 1 = ap one_if yes in
                let zeroth : one_if (eqb m r) ≡ 0 = ap one_if other in
                let one_now : one_if (ltb m (r + 1)) ≡ 1 = ap one_if yes_now in
                omega arith
            by_place (inr past) (inl same) =
                let past_it : ltb m r ≡ false = grind (arith, nat_tests) in
                let hit : eqb m r ≡ true = grind (arith, nat_tests) in
                let yes_now : ltb m (r + 1) ≡ true = grind (arith, nat_tests) in
                let zeroth : one_if (ltb m r) ≡ 0 = ap one_if past_it in
                let one : one_if (eqb m r) ≡ 1 = ap one_if hit in
                let one_now : one_if (ltb m (r + 1)) ≡ 1 = ap one_if yes_now in
                omega arith
            by_place (inr past) (inr other) =
                let past_it : ltb m r ≡ false = grind (arith, nat_tests) in
                let miss : eqb m r ≡ false = grind (arith, nat_tests) in
                let past_now : ltb m (r + 1) ≡ false = grind (arith, nat_tests) in
                let zeroth : one_if (ltb m r) ≡ 0 = ap one_if past_it in
                let zero_too : one_if (eqb m r) ≡ 0 = ap one_if miss in
                let zero_now : one_if (ltb m (r + 1)) ≡ 0 = ap one_if past_now in
                omega arith

going_still : (n : ℕ) (cell : ℕ → ℕ) (among : ℕ → Bool) (b : List Entry) (x : Entry) → uses_some among x ≡ false → ((l : ℕ) → l < n → uses is_strong (cell l) x ≡ false) → Going n cell among b → Going n cell among (b ++ x ∷ [])
going_still n cell among b x no_use no_strong going =
    let same : count_by (uses_some among) (b ++ x ∷ []) ≡ count_by (uses_some among) b = count_by_push_no (uses_some among) b x no_use in
    record {
      cycles = going.cycles;
      in_ring = subst (λ k. turn n k < n) (sym same) going.in_ring;
      each = λ l below. count_by_push_no (uses is_strong (cell l)) b x (no_strong l below) ∙ going.each l below ∙ ap (λ k. going.cycles + one_if (ltb l (turn n k))) (sym same);
      total = subst (λ k. k ≡ going.cycles * n + turn n k) (sym same) going.total;
    }

-- an entry of another task
apart : (net : NetRows) (n : ℕ) (cell : ℕ → ℕ) (among : ℕ → Bool) (t : ℕ) → IsCycle net n cell among → among t ≡ false → (l : ℕ) → l < n → eqb t (cell l) ≡ false
apart net n cell among t cycle outside l below = by_place (cases_eq t (cell l))
  where
    by_place : (t ≡ cell l) ⊎ (t ≢ cell l) → eqb t (cell l) ≡ false
    by_place (inl same) = absurd (false≢true (sym outside ∙ ap among same ∙ cycle.is_in l below))
    by_place (inr other) = grind (arith, nat_tests)

passing_step : (net : NetRows) (limit : ℕ) (at : ℕ → Option ℕ) (b : List Entry) (x : Entry) → IsRinged net → Told at (b ++ x ∷ []) → MayFollow net limit b x → Passing net at b → Passing net at (b ++ x ∷ [])
passing_step net limit at b (Start task cause ins) ringed told may passing = record {
  gifts = λ e. omega (arith, passing.gifts e, count_by_push_no (gives_edge e) b x refl, count_by_push_no (ends_one at (source_of net e)) b x refl);
  begun = λ t. omega (arith, passing.begun t, count_by_push (begins t) b x, count_by_push (uses is_strong t) b x ∙ ap (λ c. used t b + one_if ((eqb task t) && is_strong c)) (released_strongly net b task cause ringed may.in_range.0 may.release), both_one (eqb task t));
}
  where
    x : Entry
    x = Start task cause ins

    both_one : (c : Bool) → one_if (c && true) ≡ one_if c
    both_one true = refl
    both_one false = refl
passing_step net limit at b (Drop task cause why) ringed told may passing = record {
  gifts = λ e. omega (arith, passing.gifts e, count_by_push_no (gives_edge e) b (Drop task cause why) refl, count_by_push_no (ends_one at (source_of net e)) b (Drop task cause why) refl);
  begun = λ t. omega (arith, passing.begun t, count_by_push_no (begins t) b (Drop task cause why) refl, count_by_push (uses is_strong t) b (Drop task cause why));
}
passing_step net limit at b (Fault start why) ringed told may passing = record {
  gifts = λ e. omega (arith, passing.gifts e, count_by_push_no (gives_edge e) b (Fault start why) refl, count_by_push_no (ends_one at (source_of net e)) b (Fault start why) refl);
  begun = λ t. omega (arith, passing.begun t, count_by_push_no (begins t) b (Fault start why) refl, count_by_push_no (uses is_strong t) b (Fault start why) refl);
}
passing_step net limit at b (End start gives inner) ringed told may passing = record {
  gifts = λ e. by_gift e (gives_edge e x) refl;
  begun = λ t. omega (arith, passing.begun t, count_by_push_no (begins t) b x refl, count_by_push_no (uses is_strong t) b x refl);
}
  where
    x : Entry
    x = End start gives inner

    by_gift : (e : ℕ) (g : Bool) → gives_edge e x ≡ g → count_by (gives_edge e) (b ++ x ∷ []) ≤ count_by (ends_one at (source_of net e)) (b ++ x ∷ [])
    by_gift e true gift = omega (arith, passing.gifts e, count_by_push_yes (gives_edge e) b x gift, count_by_push_yes (ends_one at (source_of net e)) b x (gift_source net at b start gives inner e ringed.strong (told_before at b x told) may.closing may.choice gift))
    by_gift e false none = omega (arith, passing.gifts e, count_by_push_no (gives_edge e) b x none, count_by_push (ends_one at (source_of net e)) b x)

pub record Round (net : NetRows) (n : ℕ) (cell : ℕ → ℕ) (among : ℕ → Bool) (at : ℕ → Option ℕ) (b : List Entry) : Type 0 where
  pub passing : Passing net at b
  pub going : Going n cell among b

-- a use of a task of the ring is in turn
in_turn : (net : NetRows) (at : ℕ → Option ℕ) (n : ℕ) (cell : ℕ → ℕ) (among : ℕ → Bool) (b : List Entry) (t : ℕ) (cause : Cause) → IsRinged net → IsCycle net n cell among → Turning net at b → Round net n cell among at b
    → t < length net.tasks → IsReleased net b t cause → (l : LiesAt n cell t) → l.place ≡ turn n (count_by (uses_some among) b)
in_turn net at n cell among b t cause ringed cycle turning round below released l =
    its_turn net at n cell among b l.place ringed cycle turning round.passing round.going l.below
    (subst (λ s. IsReleased net b s Strong) l.is (subst (λ c. IsReleased net b t c) (released_strongly net b t cause ringed below released) released))

use_step : (net : NetRows) (at : ℕ → Option ℕ) (n : ℕ) (cell : ℕ → ℕ) (among : ℕ → Bool) (b : List Entry) (x : Entry) (t : ℕ) (cause : Cause) → IsRinged net → IsCycle net n cell among → Turning net at b → Round net n cell among at b
    → t < length net.tasks → IsReleased net b t cause → uses_some among x ≡ among t → ((s : ℕ) → uses is_strong s x ≡ eqb t s && is_strong cause) → Going n cell among (b ++ x ∷ [])
use_step net at n cell among b x t cause ringed cycle turning round below released use_is strong_is = by_among (among t) refl
  where
    by_among : (a : Bool) → among t ≡ a → Going n cell among (b ++ x ∷ [])
    by_among true inside =
        let l : LiesAt n cell t = cycle.lies t inside in
        let strongly : cause ≡ Strong = released_strongly net b t cause ringed below released in
        going_use n cell among net b x l.place cycle (use_is ∙ inside) l.below (in_turn net at n cell among b t cause ringed cycle turning round below released l)
        (λ s. strong_is s ∙ ap (λ c. eqb t s && is_strong c) strongly ∙ and_one (eqb t s) ∙ ap (λ r. eqb r s) l.is) round.going
      where
        and_one : (c : Bool) → c && true ≡ c
        and_one true = refl
        and_one false = refl
    by_among false outside = going_still n cell among b x (use_is ∙ outside) (λ l l_below. strong_is (cell l) ∙ ap (λ h. h && is_strong cause) (apart net n cell among t cycle outside l l_below)) round.going

round_step : (net : NetRows) (limit : ℕ) (at : ℕ → Option ℕ) (n : ℕ) (cell : ℕ → ℕ) (among : ℕ → Bool) (b : List Entry) (x : Entry) → IsRinged net → IsCycle net n cell among → Turning net at b → Told at (b ++ x ∷ []) → MayFollow net limit b x
    → Round net n cell among at b → Round net n cell among at (b ++ x ∷ [])
round_step net limit at n cell among b x ringed cycle turning told may round = record { passing = passing_step net limit at b x ringed told may round.passing; going = by_entry x may }
  where
    by_entry : (y : Entry) → MayFollow net limit b y → Going n cell among (b ++ y ∷ [])
    by_entry (Start task cause ins) m = use_step net at n cell among b (Start task cause ins) task cause ringed cycle turning round m.in_range.0 m.release refl (λ s. refl)
    by_entry (Drop task cause why) m = use_step net at n cell among b (Drop task cause why) task cause ringed cycle turning round m.in_range.0 m.release refl (λ s. refl)
    by_entry (End start gives inner) m = going_still n cell among b (End start gives inner) refl (λ l below. refl) round.going
    by_entry (Fault start why) m = going_still n cell among b (Fault start why) refl (λ l below. refl) round.going

round_first : (net : NetRows) (n : ℕ) (cell : ℕ → ℕ) (among : ℕ → Bool) (at : ℕ → Option ℕ) → IsCycle net n cell among → Round net n cell among at []
round_first net n cell among at cycle = record {
  passing = record { gifts = λ e. omega arith; begun = λ t. omega arith };
  going = record { cycles = 0; in_ring = cycle.some; each = λ l below. let never : ltb l 0 ≡ false = grind (arith, nat_tests) in let none : one_if (ltb l 0) ≡ 0 = ap one_if never in omega (arith, none); total = omega arith };
}

-- what is known at each entry
abbrev pub InRound : NetRows → ℕ → ℕ → (ℕ → ℕ) → (ℕ → Bool) → (ℕ → Option ℕ) → List Entry → Entry → Type 0
InRound net limit n cell among at b x = Round net n cell among at b × (Turning net at b × (Told at (b ++ x ∷ []) × MayFollow net limit b x))

pub rounds_along : (net : NetRows) (limit : ℕ) (n : ℕ) (cell : ℕ → ℕ) (among : ℕ → Bool) (h : List Entry) → IsRinged net → IsCycle net n cell among → ShapeLegal net limit h
    → EachAfterThese (InRound net limit n cell among (start_at h)) [] h × Round net n cell among (start_at h) h
rounds_along net limit n cell among h ringed cycle shape =
    along _ (Round net n cell among (start_at h)) (λ b x rule round. round_step net limit (start_at h) n cell among b x ringed cycle rule.0 rule.1.0 rule.1.1 round) [] h (round_first net n cell among (start_at h) cycle) (turning_along net limit h ringed shape).0

-- The Starts and Drops of a ring's tasks go round.
pub goes_round : (net : NetRows) (limit : ℕ) (n : ℕ) (cell : ℕ → ℕ) (among : ℕ → Bool) (h : List Entry) → IsRinged net → IsCycle net n cell among → ShapeLegal net limit h → EachAfter (GoesRound n cell among) h
goes_round net limit n cell among h ringed cycle shape =
    weaker _ (GoesRound n cell among) each [] h (rounds_along net limit n cell among h ringed cycle shape).0
  where
    at : ℕ → Option ℕ
    at = start_at h

    each : (b : List Entry) (x : Entry) → InRound net limit n cell among at b x → GoesRound n cell among b x
    each b (Start task cause ins) known = λ inside. let l : LiesAt n cell task = cycle.lies task inside in l.is ∙ ap cell (in_turn net at n cell among b task cause ringed cycle known.1.0 known.0 known.1.1.1.in_range.0 known.1.1.1.release l)
    each b (Drop task cause why) known = λ inside. let l : LiesAt n cell task = cycle.lies task inside in l.is ∙ ap cell (in_turn net at n cell among b task cause ringed cycle known.1.0 known.0 known.1.1.1.in_range.0 known.1.1.1.release l)
    each b (End start gives inner) known = tt
    each b (Fault start why) known = tt
