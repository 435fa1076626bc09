-- Units taken and given back keep the accounts.
use Rattle.std.proofs.Common.{◌≡◌, ◌≢◌, ◌⊎◌, inl, inr, ℕ, ◌+◌, ◌<◌, ◌≤◌, true, false, eqb, List, [], ◌∷◌, sym, refl, ap, ◌∙◌, arith}
use Rattle.std.specs.Prelude.{◌==◌}
use Rattle.std.proofs.lemmas.Bool.Decides.{nat_tests}
use Rattle.std.proofs.lemmas.Bool.{cases_eq}
use Rattle.task_graph.specs.NetRows.{NetRows}
use Rattle.journal_rules.specs.declared.entry.Entry.{Entry}
use Rattle.journal_rules.specs.SemaphoreRule.{max_of, taken, back}
use Rattle.table_steps.specs.inside.Duties.{DutyCoord, tickets, Raised}
use Rattle.table_steps.specs.Giving.{one_if, times}
use Rattle.table_steps.specs.Holding.{without}
use Rattle.table_steps.specs.declared.view.SemaphoreRole.TheVariants.{Held, Undo, Owed, Both, Credit, Credited, Claim, Granted, Refusing, Denied, Full}
use Rattle.table_steps.specs.declared.view.SeatMark.TheVariants.{Live, New, Over, ToMark, Halted, Alone, Quiet, Sticking, Asked}
use Rattle.table_steps.specs.declared.view.Note.TheVariants.{Sems, Has}
use Rattle.table_steps.specs.inside.Accounts.{Coord, duty, sem, mark, busy, resting, turning, owing, telling, weight, weigh, Readings, Balanced, Moves, with_unit}
use Rattle.table_steps.specs.inside.UnitKinds.{held_notes}
use Rattle.table_steps.proofs.Still.{journal_still, edges_still, duties_still, admission_still, turns_still, credit_still, halt_still, stuck_still}
use Rattle.table_steps.proofs.Units.{Units}

-- what a step on a unit word leaves as it is
pub record UnitsAlone (T T' : Coord → ℕ) : Type 0 where
  pub duties : (c : DutyCoord) → T' (duty c) ≡ T (duty c)
  pub live : T' (mark Live) ≡ T (mark Live)
  pub over : T' (mark Over) ≡ T (mark Over)
  pub to_mark : T' (mark ToMark) ≡ T (mark ToMark)
  pub sticking : T' (mark Sticking) ≡ T (mark Sticking)
  pub new : T' (mark New) ≡ T (mark New)
  pub turning_is : T' turning ≡ T turning
  pub owing_is : T' owing ≡ T owing
  pub both : (s : ℕ) → T' (sem Both s) ≡ T (sem Both s)
  pub credit : (s : ℕ) → T' (sem Credit s) ≡ T (sem Credit s)
  pub credited : (s : ℕ) → T' (sem Credited s) ≡ T (sem Credited s)
  pub claim : (s : ℕ) → T' (sem Claim s) ≡ T (sem Claim s)
  pub granted : (s : ℕ) → T' (sem Granted s) ≡ T (sem Granted s)
  pub refusing : (s : ℕ) → T' (sem Refusing s) ≡ T (sem Refusing s)
  pub denied : (s : ℕ) → T' (sem Denied s) ≡ T (sem Denied s)

units_kept : (net : NetRows) (limit : ℕ) (w : Readings) (counted : ℕ → ℕ) (journal : List Entry) (T T' : Coord → ℕ) (unit' : ℕ → ℕ) → Balanced net limit w counted journal T → UnitsAlone T T' → Units net unit' journal T'
    → Balanced net limit (with_unit w unit') counted journal T'
units_kept net limit w counted journal T T' unit' b alone units = record {
  by_journal = journal_still net limit w.clock journal T T' alone.duties b.by_journal;
  by_edges = edges_still net w.edge journal T T' alone.duties b.by_edges;
  by_duties = duties_still net w.edge w.join counted journal T T' alone.duties b.by_duties;
  by_admissions = admission_still limit w.admitted journal T T' (alone.duties tickets) alone.over b.by_admissions;
  by_live = b.by_live ∙ sym alone.live;
  by_turns = turns_still journal T T' alone.live alone.new alone.turning_is alone.owing_is b.by_turns;
  by_units = units;
  by_credits = λ s below. credit_still net (w.credit s) s journal T T' (alone.both s) (alone.credit s) (alone.credited s) (alone.claim s) (alone.granted s) (alone.refusing s) (alone.denied s) (b.by_credits s below);
  by_halt = halt_still w.halt journal T T' alone.to_mark b.by_halt;
  by_stuck = stuck_still journal T T' alone.sticking b.by_stuck;
}

units_taken : (net : NetRows) (unit unit' : ℕ → ℕ) (journal : List Entry) (T T' : Coord → ℕ) (a : ℕ) (l : List ℕ) → Units net unit journal T → Raised unit a unit' → unit a < max_of net a
    → Moves T (Sems Held l ∷ []) T' (Sems Held (a ∷ l) ∷ []) → Units net unit' journal T'
units_taken net unit unit' journal T T' a l u raised room moved s below = record {
  tells = omega (arith, (u s below).tells, raised s, moved (sem Held s), moved (sem Owed s), moved (sem Undo s));
  within = by_eq (cases_eq a s);
}
  where
    by_eq : (a ≡ s) ⊎ (a ≢ s) → taken net s journal + T' (sem Held s) + T' (sem Owed s) ≤ back net s journal + max_of net s
    by_eq (inl same) =
        let hit : eqb a s ≡ true = grind (arith, nat_tests) in
        omega (arith, (u s below).tells, room, ap unit same, ap (max_of net) same, ap one_if hit, moved (sem Held s), moved (sem Owed s))
    by_eq (inr other) =
        let miss : eqb a s ≡ false = grind (arith, nat_tests) in
        omega (arith, (u s below).within, ap one_if miss, moved (sem Held s), moved (sem Owed s))

units_refused : (net : NetRows) (unit unit' : ℕ → ℕ) (journal : List Entry) (T T' : Coord → ℕ) (a : ℕ) → Units net unit journal T → Raised unit a unit' → Moves T (Has Live ∷ []) T' (Sems Undo (a ∷ []) ∷ []) → Units net unit' journal T'
units_refused net unit unit' journal T T' a u raised moved s below = record {
  tells = omega (arith, (u s below).tells, raised s, moved (sem Held s), moved (sem Owed s), moved (sem Undo s));
  within = omega (arith, (u s below).within, moved (sem Held s), moved (sem Owed s));
}

units_undone : (net : NetRows) (unit unit' : ℕ → ℕ) (journal : List Entry) (T T' : Coord → ℕ) (a : ℕ) → Units net unit journal T → Raised unit' a unit → Moves T (Sems Undo (a ∷ []) ∷ []) T' (Has Live ∷ []) → Units net unit' journal T'
units_undone net unit unit' journal T T' a u lowered moved s below = record {
  tells = omega (arith, (u s below).tells, lowered s, moved (sem Held s), moved (sem Owed s), moved (sem Undo s));
  within = omega (arith, (u s below).within, moved (sem Held s), moved (sem Owed s));
}

-- one unit fewer
abbrev pub AreFewer : ℕ → List ℕ → List ℕ → Type 0
AreFewer a m l = (s : ℕ) → times s m + one_if (a == s) ≡ times s l

units_put : (net : NetRows) (unit unit' : ℕ → ℕ) (journal : List Entry) (T T' : Coord → ℕ) (a : ℕ) (l m : List ℕ) → Units net unit journal T → Raised unit' a unit → AreFewer a m l → Moves T (Sems Held l ∷ []) T' (Sems Held m ∷ []) → Units net unit' journal T'
units_put net unit unit' journal T T' a l m u lowered fewer moved s below = record {
  tells = omega (arith, (u s below).tells, lowered s, fewer s, moved (sem Held s), moved (sem Owed s), moved (sem Undo s));
  within = omega (arith, (u s below).within, fewer s, moved (sem Held s), moved (sem Owed s));
}

units_returned : (net : NetRows) (unit unit' : ℕ → ℕ) (journal : List Entry) (T T' : Coord → ℕ) (a : ℕ) (l m : List ℕ) → Units net unit journal T → Raised unit' a unit → AreFewer a m l → Moves T (Sems Owed l ∷ []) T' (Sems Owed m ∷ []) → Units net unit' journal T'
units_returned net unit unit' journal T T' a l m u lowered fewer moved s below = record {
  tells = omega (arith, (u s below).tells, lowered s, fewer s, moved (sem Held s), moved (sem Owed s), moved (sem Undo s));
  within = omega (arith, (u s below).within, fewer s, moved (sem Held s), moved (sem Owed s));
}

-- a unit taken
pub take_kept : (net : NetRows) (limit : ℕ) (w : Readings) (counted : ℕ → ℕ) (journal : List Entry) (T T' : Coord → ℕ) (unit' : ℕ → ℕ) (a : ℕ) (l : List ℕ) → Balanced net limit w counted journal T → Raised w.unit a unit' → w.unit a < max_of net a
    → Moves T (Sems Held l ∷ []) T' (Sems Held (a ∷ l) ∷ []) → Balanced net limit (with_unit w unit') counted journal T'
take_kept net limit w counted journal T T' unit' a l b raised room moved =
    units_kept net limit w counted journal T T' unit' b (record {
      duties = λ c. omega (arith, moved (duty c));
      live = omega (arith, moved (mark Live));
      over = omega (arith, moved (mark Over));
      to_mark = omega (arith, moved (mark ToMark));
      sticking = omega (arith, moved (mark Sticking));
      new = omega (arith, moved (mark New));
      turning_is = omega (arith, moved turning);
      owing_is = omega (arith, moved owing);
      both = λ s. omega (arith, moved (sem Both s));
      credit = λ s. omega (arith, moved (sem Credit s));
      credited = λ s. omega (arith, moved (sem Credited s));
      claim = λ s. omega (arith, moved (sem Claim s));
      granted = λ s. omega (arith, moved (sem Granted s));
      refusing = λ s. omega (arith, moved (sem Refusing s));
      denied = λ s. omega (arith, moved (sem Denied s));
    })
    (units_taken net w.unit unit' journal T T' a l b.by_units raised room moved)

-- a take that found none
pub refuse_kept : (net : NetRows) (limit : ℕ) (w : Readings) (counted : ℕ → ℕ) (journal : List Entry) (T T' : Coord → ℕ) (unit' : ℕ → ℕ) (a : ℕ) → Balanced net limit w counted journal T → Raised w.unit a unit'
    → Moves T (Has Live ∷ []) T' (Sems Undo (a ∷ []) ∷ []) → Balanced net limit (with_unit w unit') counted journal T'
refuse_kept net limit w counted journal T T' unit' a b raised moved =
    units_kept net limit w counted journal T T' unit' b (record {
      duties = λ c. omega (arith, moved (duty c));
      live = omega (arith, moved (mark Live));
      over = omega (arith, moved (mark Over));
      to_mark = omega (arith, moved (mark ToMark));
      sticking = omega (arith, moved (mark Sticking));
      new = omega (arith, moved (mark New));
      turning_is = omega (arith, moved turning);
      owing_is = omega (arith, moved owing);
      both = λ s. omega (arith, moved (sem Both s));
      credit = λ s. omega (arith, moved (sem Credit s));
      credited = λ s. omega (arith, moved (sem Credited s));
      claim = λ s. omega (arith, moved (sem Claim s));
      granted = λ s. omega (arith, moved (sem Granted s));
      refusing = λ s. omega (arith, moved (sem Refusing s));
      denied = λ s. omega (arith, moved (sem Denied s));
    })
    (units_refused net w.unit unit' journal T T' a b.by_units raised moved)

-- and undone
pub undo_kept : (net : NetRows) (limit : ℕ) (w : Readings) (counted : ℕ → ℕ) (journal : List Entry) (T T' : Coord → ℕ) (unit' : ℕ → ℕ) (a : ℕ) → Balanced net limit w counted journal T → Raised unit' a w.unit
    → Moves T (Sems Undo (a ∷ []) ∷ []) T' (Has Live ∷ []) → Balanced net limit (with_unit w unit') counted journal T'
undo_kept net limit w counted journal T T' unit' a b lowered moved =
    units_kept net limit w counted journal T T' unit' b (record {
      duties = λ c. omega (arith, moved (duty c));
      live = omega (arith, moved (mark Live));
      over = omega (arith, moved (mark Over));
      to_mark = omega (arith, moved (mark ToMark));
      sticking = omega (arith, moved (mark Sticking));
      new = omega (arith, moved (mark New));
      turning_is = omega (arith, moved turning);
      owing_is = omega (arith, moved owing);
      both = λ s. omega (arith, moved (sem Both s));
      credit = λ s. omega (arith, moved (sem Credit s));
      credited = λ s. omega (arith, moved (sem Credited s));
      claim = λ s. omega (arith, moved (sem Claim s));
      granted = λ s. omega (arith, moved (sem Granted s));
      refusing = λ s. omega (arith, moved (sem Refusing s));
      denied = λ s. omega (arith, moved (sem Denied s));
    })
    (units_undone net w.unit unit' journal T T' a b.by_units lowered moved)

-- a unit back, before the start
pub put_kept : (net : NetRows) (limit : ℕ) (w : Readings) (counted : ℕ → ℕ) (journal : List Entry) (T T' : Coord → ℕ) (unit' : ℕ → ℕ) (a : ℕ) (l m : List ℕ) → Balanced net limit w counted journal T → Raised unit' a w.unit → AreFewer a m l
    → Moves T (Sems Held l ∷ []) T' (Sems Held m ∷ []) → Balanced net limit (with_unit w unit') counted journal T'
put_kept net limit w counted journal T T' unit' a l m b lowered fewer moved =
    units_kept net limit w counted journal T T' unit' b (record {
      duties = λ c. omega (arith, moved (duty c));
      live = omega (arith, moved (mark Live));
      over = omega (arith, moved (mark Over));
      to_mark = omega (arith, moved (mark ToMark));
      sticking = omega (arith, moved (mark Sticking));
      new = omega (arith, moved (mark New));
      turning_is = omega (arith, moved turning);
      owing_is = omega (arith, moved owing);
      both = λ s. omega (arith, moved (sem Both s));
      credit = λ s. omega (arith, moved (sem Credit s));
      credited = λ s. omega (arith, moved (sem Credited s));
      claim = λ s. omega (arith, moved (sem Claim s));
      granted = λ s. omega (arith, moved (sem Granted s));
      refusing = λ s. omega (arith, moved (sem Refusing s));
      denied = λ s. omega (arith, moved (sem Denied s));
    })
    (units_put net w.unit unit' journal T T' a l m b.by_units lowered fewer moved)

-- and after the End
pub return_kept : (net : NetRows) (limit : ℕ) (w : Readings) (counted : ℕ → ℕ) (journal : List Entry) (T T' : Coord → ℕ) (unit' : ℕ → ℕ) (a : ℕ) (l m : List ℕ) → Balanced net limit w counted journal T → Raised unit' a w.unit → AreFewer a m l
    → Moves T (Sems Owed l ∷ []) T' (Sems Owed m ∷ []) → Balanced net limit (with_unit w unit') counted journal T'
return_kept net limit w counted journal T T' unit' a l m b lowered fewer moved =
    units_kept net limit w counted journal T T' unit' b (record {
      duties = λ c. omega (arith, moved (duty c));
      live = omega (arith, moved (mark Live));
      over = omega (arith, moved (mark Over));
      to_mark = omega (arith, moved (mark ToMark));
      sticking = omega (arith, moved (mark Sticking));
      new = omega (arith, moved (mark New));
      turning_is = omega (arith, moved turning);
      owing_is = omega (arith, moved owing);
      both = λ s. omega (arith, moved (sem Both s));
      credit = λ s. omega (arith, moved (sem Credit s));
      credited = λ s. omega (arith, moved (sem Credited s));
      claim = λ s. omega (arith, moved (sem Claim s));
      granted = λ s. omega (arith, moved (sem Granted s));
      refusing = λ s. omega (arith, moved (sem Refusing s));
      denied = λ s. omega (arith, moved (sem Denied s));
    })
    (units_returned net w.unit unit' journal T T' a l m b.by_units lowered fewer moved)

-- without a unit of a list there is one fewer
pub without_fewer : (a : ℕ) (l : List ℕ) → 1 ≤ times a l → AreFewer a (without a l) l
without_fewer a [] there s = absurd (omega arith)
without_fewer a (z ∷ zs) there s = by_eq (cases_eq z a) (λ h. without_fewer a zs h s)
  where
    by_eq : (z ≡ a) ⊎ (z ≢ a) → (1 ≤ times a zs → times s (without a zs) + one_if (a == s) ≡ times s zs) → times s (without a (z ∷ zs)) + one_if (a == s) ≡ one_if (z == s) + times s zs
    by_eq (inl same) deeper = let hit : eqb z a ≡ true = grind (arith, nat_tests) in rw hit (omega (arith, ap (λ k. one_if (k == s)) same))
    by_eq (inr other) deeper = let miss : eqb z a ≡ false = grind (arith, nat_tests) in rw miss (omega (arith, deeper (omega (arith, there, ap one_if miss))))

-- no units count nothing
pub no_units : (c : Coord) → weight c (Sems Held []) ≡ 0
no_units (duty c) = refl
no_units (sem Held s) = refl
no_units (sem Undo s) = refl
no_units (sem Owed s) = refl
no_units (sem Both s) = refl
no_units (sem Credit s) = refl
no_units (sem Credited s) = refl
no_units (sem Claim s) = refl
no_units (sem Granted s) = refl
no_units (sem Refusing s) = refl
no_units (sem Denied s) = refl
no_units (sem Full s) = refl
no_units (mark Live) = refl
no_units (mark New) = refl
no_units (mark Over) = refl
no_units (mark ToMark) = refl
no_units (mark Halted) = refl
no_units (mark Alone) = refl
no_units (mark Quiet) = refl
no_units (mark Sticking) = refl
no_units (mark Asked) = refl
no_units busy = refl
no_units resting = refl
no_units turning = refl
no_units owing = refl
no_units telling = refl

pub held_weigh : (c : Coord) (l : List ℕ) → weigh c (held_notes l) ≡ weigh c (Sems Held l ∷ [])
held_weigh c l = refl
