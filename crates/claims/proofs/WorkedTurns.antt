-- The units that turns of a table hold, what becomes of releases, how a table begins, and when a keeper tells a whole
-- run.
use Rattle.std.proofs.Common.{◌≡◌, ℕ, zero, suc, ◌+◌, ◌<◌, Bool, true, false, List, [], ◌∷◌, length, map, Option, Some, None, refl, ap, sym, subst, ◌∙◌, inl, arith}
use Rattle.std.specs.Prelude.{◌==◌, ◌||◌, ◌&&◌, not, count_by, All}
use Rattle.std.proofs.lemmas.Bool.Decides.{nat_tests}
use Rattle.std.specs.Arc.{arc_with_value}
use Rattle.std.specs.Global.{Global}
use Rattle.std.specs.declared.sync.Arc.{Arc}
use Rattle.std.specs.declared.result.Result.TheVariants.{Ok, Err}
use Rattle.task_graph.specs.declared.net.Shape.TheVariants.{Plain}
use Rattle.task_graph.specs.declared.net.TaskRow.{TaskRow}
use Rattle.task_graph.specs.NetRows.{NetRows}
use Rattle.atomic_table.specs.Seated.{TableId}
use Rattle.journal_rules.specs.declared.entry.Cause.TheVariants.{Source, Strong}
use Rattle.journal_rules.specs.declared.entry.Why.TheVariants.{Long, Wide, Unmet, Inner, OverRelease}
use Rattle.journal_rules.specs.declared.entry.DropWhy.TheVariants.{Limit, Halted}
use Rattle.journal_rules.specs.declared.entry.Entry.{Entry}
use Rattle.journal_rules.specs.declared.entry.Entry.TheVariants.{Start, End, Fault, Drop}
use Rattle.journal_rules.specs.declared.entry.Part.TheVariants.{First}
use Rattle.journal_rules.specs.ShapeLegal.{MayFollow, MeetsDataRule}
use Rattle.journal_rules.specs.SemaphoreRule.{takes}
use Rattle.journal_rules.specs.Complete.{Complete}
use Rattle.join_words.specs.declared.ins.Given.TheVariants as given
use Rattle.join_words.specs.declared.ins.Ins.{Ins}
use Rattle.join_words.specs.Ins.{parts_of}
use Rattle.table_steps.specs.Values.{given_part}
use Rattle.join_tables.specs.declared.turns.UnitTake.TheVariants.{Got, NoUnit}
use Rattle.join_tables.specs.declared.turns.EndedStart.{EndedStart}
use Rattle.join_tables.specs.declared.fates.Failure.{Failure}
use Rattle.join_tables.specs.declared.fates.Dropping.{Dropping}
use Rattle.join_tables.specs.declared.fates.Fate.TheVariants.{Ended, Faulted, Dropped}
use Rattle.join_tables.specs.declared.opening.Opening.{Opening}
use Rattle.join_tables.specs.declared.keeper.Remaining.TheVariants.{More as TurnsLeft, All as NoneLeft}
use Rattle.join_tables.specs.declared.keeper.Recorded.{Recorded}
use Rattle.join_tables.specs.States.{TableState, FreshState, TurnState, fresh_state, turn_state, turn_with, running_state, StartUnits, RunningState}
use Rattle.table_steps.specs.Giving.{one_if}
use Rattle.table_steps.specs.Holding.{HoldsEachUnit, PutsEach, PutsBack, TakesAlone, PutsAlone, PutsAll, without}
use Rattle.table_steps.specs.Credits.{AllowsOver}
use Rattle.join_tables.specs.Units.{TakesUnit}
use Rattle.table_steps.specs.Reasons.{MayTell}
use Rattle.join_tables.specs.Claims.{BeginsUnits, HasCredited, HasClaimed, HasAllUnits, credit_one, grant_one, refuse_one, with_units, ClaimsUnit}
use Rattle.join_tables.specs.declared.turns.Claim.TheVariants.{Granted, Refused}
use Rattle.join_tables.specs.Fates.{FaultedAs, DroppedAs}
use Rattle.join_tables.specs.Turns.{EndedAs}
use Rattle.join_tables.specs.Openings.{OpensTable}
use Rattle.join_tables.specs.declared.parts.FoundParts.{FoundParts}
use Rattle.join_tables.specs.Keeping.{KeeperState, keeper_state, start_of, entries_of, entries_told, with_places, Merges, TellsRun, TellsSomeRun, IsLast}

abbrev pub needs : List ℕ → List ℕ → TaskRow
needs takes puts = record { shape = Plain; takes = takes; puts = puts }

-- Task 0 takes and puts semaphores 0 and 2, task 1 needs none, task 2 only takes and task 3 only puts. Semaphore 0 has
-- two units.
abbrev pub net : NetRows
net = record {
  tasks = needs (0 ∷ 2 ∷ []) (0 ∷ 2 ∷ []) ∷ needs [] [] ∷ needs (0 ∷ []) [] ∷ needs [] (0 ∷ []) ∷ [];
  edges = [];
  sems = 2 ∷ 1 ∷ 1 ∷ [];
}

-- UNITS
none_past_them : (first second : Bool) → first ≡ false → second ≡ false → one_if second + (one_if first + 0) ≡ one_if (first || (second || false))
none_past_them false false not_first not_second = refl
none_past_them true second not_first not_second = absurd (cc)
none_past_them false true not_first not_second = absurd (cc)

pub one_of_each : HoldsEachUnit net 0 (2 ∷ 0 ∷ [])
one_of_each zero = refl
one_of_each (suc zero) = refl
one_of_each (suc (suc zero)) = refl
one_of_each (suc (suc (suc s))) = none_past_them (0 == suc (suc (suc s))) (2 == suc (suc (suc s))) (grind (arith, nat_tests)) (grind (arith, nat_tests))

none_needed : HoldsEachUnit net 1 []
none_needed s = refl

second_is_missing : ¬ HoldsEachUnit net 0 (0 ∷ [])
second_is_missing holds = absurd (omega (arith, holds 2))

first_held_twice : ¬ HoldsEachUnit net 0 (0 ∷ 2 ∷ 0 ∷ [])
first_held_twice holds = absurd (omega (arith, holds 0))

another_held_besides : ¬ HoldsEachUnit net 0 (2 ∷ 1 ∷ 0 ∷ [])
another_held_besides holds = absurd (omega (arith, holds 1))

puts_what_it_takes : PutsAll net 0
puts_what_it_takes s = refl

takes_and_keeps : ¬ PutsAll net 2
takes_and_keeps puts = let no : false ≡ true = puts 0 in absurd (cc)

puts_without_taking : ¬ PutsAll net 3
puts_without_taking puts = let no : true ≡ false = puts 0 in absurd (cc)

one_more : (b : Bool) → one_if b + 0 ≡ one_if ((b || false) && not false)
one_more true = refl
one_more false = refl

one_put : (b : Bool) → one_if b + 0 ≡ one_if (b || false)
one_put true = refl
one_put false = refl

none_of_both : (b : Bool) → 0 ≡ one_if ((b || false) && false)
none_of_both true = refl
none_of_both false = refl

puts_one : PutsEach net 3 (0 ∷ [])
puts_one s = one_put (0 == s)

one_put_is_missing : ¬ PutsEach net 0 (0 ∷ [])
one_put_is_missing puts = absurd (omega (arith, puts 2))

gives_back_none : PutsBack net 2 []
gives_back_none s = none_of_both (0 == s)

gives_back_what_it_takes : ¬ PutsBack net 0 (0 ∷ [])
gives_back_what_it_takes puts = absurd (omega (arith, puts 2))

takes_without_putting : TakesAlone net 2 (0 ∷ [])
takes_without_putting s = one_more (0 == s)

takes_and_puts_too : ¬ TakesAlone net 0 (0 ∷ [])
takes_and_puts_too takes = absurd (omega (arith, takes 0))

pub puts_alone : PutsAlone net 3 (0 ∷ [])
puts_alone s = one_more (0 == s)

puts_and_takes_too : ¬ PutsAlone net 0 (0 ∷ [])
puts_and_takes_too puts = absurd (omega (arith, puts 0))

one_unit_fewer : without 0 (2 ∷ 0 ∷ 1 ∷ 0 ∷ []) ≡ 2 ∷ 1 ∷ 0 ∷ []
one_unit_fewer = refl

no_unit_to_leave : without 1 (2 ∷ 0 ∷ []) ≡ 2 ∷ 0 ∷ []
no_unit_to_leave = refl

module _ (t u : TurnState) where
  last_unit_is_taken : TakesUnit {V = ℕ} net t 0 (Got (turn_with t.table t.task t.cause None (0 ∷ t.held) (1 ∷ t.found)))
  last_unit_is_taken = (refl, (refl, omega arith))

  no_third_unit : ¬ TakesUnit {V = ℕ} net t 0 (Got (turn_with t.table t.task t.cause None (0 ∷ t.held) (2 ∷ t.found)))
  no_third_unit takes = absurd (omega (arith, takes.1.1))

  taken_unit_is_held : TakesUnit {V = ℕ} net t 0 (Got u) → (u.held ≡ 0 ∷ t.held) × (u.task ≡ t.task) × (u.refused ≡ None)
  taken_unit_is_held takes = (ap (λ (s : TurnState). s.held) takes.0, ap (λ (s : TurnState). s.task) takes.0, ap (λ (s : TurnState). s.refused) takes.0)

  no_unit_from_the_maximum_on : TakesUnit {V = ℕ} net t 0 (NoUnit (turn_with t.table t.task t.cause None t.held (2 ∷ t.found)))
  no_unit_from_the_maximum_on = (refl, (refl, omega arith))

  no_refusal_while_one_is_left : ¬ TakesUnit {V = ℕ} net t 0 (NoUnit (turn_with t.table t.task t.cause None t.held (1 ∷ t.found)))
  no_refusal_while_one_is_left takes = absurd (omega (arith, takes.1.1))

  refusal_takes_none : TakesUnit {V = ℕ} net t 0 (NoUnit u) → u.held ≡ t.held
  refusal_takes_none takes = ap (λ (s : TurnState). s.held) takes.0

  other_semaphore_has_one : ¬ TakesUnit {V = ℕ} net t 1 (Got (turn_with t.table t.task t.cause None (1 ∷ t.held) (1 ∷ t.found)))
  other_semaphore_has_one takes = absurd (omega (arith, takes.1.1))

  found_some_number : ¬ TakesUnit {V = ℕ} net t 0 (Got (turn_with t.table t.task t.cause None (0 ∷ t.held) []))
  found_some_number takes = takes.1

  no_refusal_without_a_step : t.found ≡ 5 ∷ [] → ¬ TakesUnit {V = ℕ} net t 0 (NoUnit (turn_with t.table t.task t.cause None t.held (5 ∷ [])))
  no_refusal_without_a_step before takes = absurd (omega (arith, ap length (takes.1.0 ∙ before)))

-- CREDITS AND CLAIMS. The start of task 2 has a unit to credit, and that of task 3 one to claim.
abbrev pub lender : StartUnits
lender = record { back = []; to_credit = 0 ∷ []; credited = []; to_claim = []; refused = None }

abbrev pub putter : StartUnits
putter = record { back = []; to_credit = []; credited = []; to_claim = 0 ∷ []; refused = None }

abbrev holder : StartUnits
holder = record { back = 2 ∷ 0 ∷ []; to_credit = []; credited = []; to_claim = []; refused = None }

lends_at_first : BeginsUnits net 2 lender
lends_at_first = record { back = gives_back_none; to_credit = takes_without_putting; credited = refl; to_claim = λ s. none_claimed (0 == s); refused = refl }
  where
    none_claimed : (b : Bool) → 0 ≡ one_if (false && not (b || false))
    none_claimed b = refl

lends_no_more : ¬ BeginsUnits net 2 (credit_one 0 lender)
lends_no_more begins = absurd (omega (arith, begins.to_credit 0))

pub credits_first : ¬ HasCredited net 2 lender
credits_first credits = let some : ◌≡◌ {A = List ℕ} (0 ∷ []) [] = credits.none_left in absurd (cc)

has_credited : HasCredited net 2 (credit_one 0 lender)
has_credited = record { none_left = refl; all = takes_without_putting }

nothing_credited : ¬ HasCredited net 2 (record { back = []; to_credit = []; credited = []; to_claim = []; refused = None })
nothing_credited credits = absurd (omega (arith, credits.all 0))

pub claims_first : ¬ HasClaimed net 3 putter
claims_first claims = let some : ◌≡◌ {A = List ℕ} (0 ∷ []) [] = claims.none_left in absurd (cc)

pub has_claimed : HasClaimed net 3 (grant_one 0 putter)
has_claimed = record { none_left = refl; not_refused = refl; all = puts_one }

refused_has_not : ¬ HasClaimed net 3 (refuse_one 0 putter)
refused_has_not claims = absurd (omega (arith, claims.all 0))

never_alone : (b : Bool) → 0 ≡ one_if (b && not b)
never_alone true = refl
never_alone false = refl

has_all : HasAllUnits net 0 (2 ∷ 0 ∷ []) holder
has_all = record {
  back = refl;
  credited = record { none_left = refl; all = λ s. never_alone (takes net s 0) };
  claimed = record { none_left = refl; not_refused = refl; all = one_of_each };
}

lender_has_not : (held : List ℕ) → ¬ HasAllUnits net 2 held lender
lender_has_not held units = credits_first units.credited

module _ (r q : RunningState ℕ) where
  granted_above_the_first : ClaimsUnit net 9 r 0 (Granted (running_state r.table r.task r.cause r.place r.ins (grant_one 0 r.units) (1099511627777 ∷ r.found)))
  granted_above_the_first = (refl, (refl, omega arith))

  none_granted_at_the_first : ¬ ClaimsUnit net 9 r 0 (Granted (running_state r.table r.task r.cause r.place r.ins (grant_one 0 r.units) (1099511627776 ∷ r.found)))
  none_granted_at_the_first claims = absurd (omega (arith, claims.1.1))

  granted_is_put_back : ClaimsUnit net 9 r 0 (Granted q) → q.units ≡ grant_one 0 r.units
  granted_is_put_back claims = ap (λ (s : RunningState ℕ). s.units) claims.0

  refused_is_not_put_back : ClaimsUnit net 9 r 0 (Refused q) → q ≡ with_units r (refuse_one 0 r.units) q
  refused_is_not_put_back claims = claims.0

  none_refused_above_the_first : ¬ ClaimsUnit net 9 r 0 (Refused (running_state r.table r.task r.cause r.place r.ins (refuse_one 0 r.units) (1099511627777 ∷ r.found)))
  none_refused_above_the_first claims = absurd (omega (arith, claims.1.1))

  refused_allows_it : ClaimsUnit net 9 r 0 (Refused q) → AllowsOver net 9 0 r.place r.task
  refused_allows_it claims = claims.2

pub no_over_release_of_a_taker : ¬ AllowsOver net 9 0 4 2
no_over_release_of_a_taker allows = let no : false ≡ true = allows.over.0 in absurd (cc)

-- WHAT BECOMES OF A RELEASE
reasons_of_the_task : MayTell (Long 9) None × MayTell (Wide 9) None × MayTell (Unmet 9) None × MayTell Inner None
reasons_of_the_task = (tt, tt, tt, tt)

refused_claim_is_told : MayTell (OverRelease 0) (Some 0)
refused_claim_is_told = refl

unit_that_was_not_refused : ¬ MayTell (OverRelease 0) None
unit_that_was_not_refused may = let no : ◌≡◌ {A = Option ℕ} None (Some 0) = may in absurd (cc)

another_unit_was_refused : ¬ MayTell (OverRelease 0) (Some 1)
another_unit_was_refused may = let no : ◌≡◌ {A = Option ℕ} (Some 1) (Some 0) = may in absurd (cc)

abbrev dropping : Dropping
dropping = record { task = 3; cause = Strong; place = 6; why = Limit }

-- a start that found these parts and faulted, and one that ended with the value 7
abbrev failure : FoundParts ℕ → Failure ℕ
failure parts = record { task = 3; cause = Strong; start = 4; found = parts; place = 6; why = Inner }

abbrev ending : Arc ℕ Global → FoundParts ℕ → EndedStart ℕ
ending shared parts = record { task = 3; cause = Strong; start = 4; found = parts; value = arc_with_value shared 7; place = 6; gives = []; inner = false }

-- It found the token of its one edge; another found the value of an End.
module _ (n : TableId) (u : StartUnits) (shared : Arc ℕ Global) (this : FoundParts ℕ) (other : Ins ℕ) (token : parts_of this.ins.value ≡ given.First ∷ []) (a_value : parts_of other ≡ given.Value 2 shared ∷ []) where
  abbrev found : Ins ℕ
  found = this.ins.value

  its_start_faulted : FaultedAs (running_state n 3 Strong 4 found u []) Inner (Faulted (failure this))
  its_start_faulted = (refl, refl, refl, refl, refl)

  another_task_faulted : ¬ FaultedAs (running_state n 2 Strong 4 found u []) Inner (Faulted (failure this))
  another_task_faulted faults = absurd (omega (arith, faults.0))

  another_cause_faulted : ¬ FaultedAs (running_state n 3 Source 4 found u []) Inner (Faulted (failure this))
  another_cause_faulted faults = let no : Strong ≡ Source = faults.1 in absurd (cc)

  another_start_faulted : ¬ FaultedAs (running_state n 3 Strong 5 found u []) Inner (Faulted (failure this))
  another_start_faulted faults = absurd (omega (arith, faults.2))

  fault_with_another_input : ¬ FaultedAs (running_state n 3 Strong 4 other u []) Inner (Faulted (failure this))
  fault_with_another_input faults = let no : given.First ∷ [] ≡ given.Value 2 shared ∷ [] = sym token ∙ ap parts_of faults.3 ∙ a_value in absurd (cc)

  fault_of_another_reason : ¬ FaultedAs (running_state n 3 Strong 4 found u []) (Long 9) (Faulted (failure this))
  fault_of_another_reason faults = let no : Inner ≡ Long 9 = faults.4 in absurd (cc)

  its_start_ended : EndedAs (running_state n 3 Strong 4 found u []) [] 7 false (ending shared this)
  its_start_ended = (refl, refl, refl, refl, refl, refl, refl)

  another_task_ended : ¬ EndedAs (running_state n 2 Strong 4 found u []) [] 7 false (ending shared this)
  another_task_ended ends = absurd (omega (arith, ends.0))

  another_cause_ended : ¬ EndedAs (running_state n 3 Source 4 found u []) [] 7 false (ending shared this)
  another_cause_ended ends = let no : Strong ≡ Source = ends.1 in absurd (cc)

  another_start_ended : ¬ EndedAs (running_state n 3 Strong 5 found u []) [] 7 false (ending shared this)
  another_start_ended ends = absurd (omega (arith, ends.2))

  end_with_another_input : ¬ EndedAs (running_state n 3 Strong 4 other u []) [] 7 false (ending shared this)
  end_with_another_input ends = let no : given.First ∷ [] ≡ given.Value 2 shared ∷ [] = sym token ∙ ap parts_of ends.3 ∙ a_value in absurd (cc)

  end_with_another_value : ¬ EndedAs (running_state n 3 Strong 4 found u []) [] 8 false (ending shared this)
  end_with_another_value ends = absurd (omega (arith, ends.4))

  end_of_other_edges : ¬ EndedAs (running_state n 3 Strong 4 found u []) (0 ∷ []) 7 false (ending shared this)
  end_of_other_edges ends = let no : ◌≡◌ {A = List ℕ} [] (0 ∷ []) = ends.5 in absurd (cc)

  end_without_its_inner_run : ¬ EndedAs (running_state n 3 Strong 4 found u []) [] 7 true (ending shared this)
  end_without_its_inner_run ends = let no : false ≡ true = ends.6 in absurd (cc)

  end_is_no_fault : ¬ FaultedAs (running_state n 3 Strong 4 found u []) Inner (Ended (ending shared this))
  end_is_no_fault faults = faults

  drop_is_no_fault : ¬ FaultedAs (running_state n 3 Strong 4 found u []) Inner (Dropped dropping)
  drop_is_no_fault faults = faults

  it_was_dropped : DroppedAs {V = ℕ} (turn_state n 3 Strong []) Limit (Dropped dropping)
  it_was_dropped = (refl, refl, refl)

  another_task_dropped : ¬ DroppedAs {V = ℕ} (turn_state n 2 Strong []) Limit (Dropped dropping)
  another_task_dropped drops = absurd (omega (arith, drops.0))

  another_cause_dropped : ¬ DroppedAs {V = ℕ} (turn_state n 3 Source []) Limit (Dropped dropping)
  another_cause_dropped drops = let no : Strong ≡ Source = drops.1 in absurd (cc)

  drop_for_another_reason : ¬ DroppedAs {V = ℕ} (turn_state n 3 Strong []) Halted (Dropped dropping)
  drop_for_another_reason drops = let no : Limit ≡ Halted = drops.2 in absurd (cc)

  end_is_no_drop : ¬ DroppedAs {V = ℕ} (turn_state n 3 Strong []) Limit (Ended (ending shared this))
  end_is_no_drop drops = drops

  fault_is_no_drop : ¬ DroppedAs {V = ℕ} (turn_state n 3 Strong []) Limit (Faulted (failure this))
  fault_is_no_drop drops = drops

-- WHAT A KEEPER TELLS
module _ (shared : Arc ℕ Global) (this : FoundParts ℕ) (token : parts_of this.ins.value ≡ given.First ∷ []) where
  its_part : this.parts ≡ First ∷ []
  its_part = this.same ∙ ap (map given_part) token

  start_and_fault : entries_of (Faulted (failure this)) ≡ record { place = 4; entry = Start 3 Strong (First ∷ []) } ∷ record { place = 6; entry = Fault 4 Inner } ∷ []
  start_and_fault = ap (λ parts. start_of 4 3 Strong parts ∷ record { place = 6; entry = Fault 4 Inner } ∷ []) its_part

  start_with_its_input : entries_of (Ended (ending shared this)) ≡ record { place = 4; entry = Start 3 Strong (First ∷ []) } ∷ record { place = 6; entry = End 4 [] false } ∷ []
  start_with_its_input = ap (λ parts. start_of 4 3 Strong parts ∷ record { place = 6; entry = End 4 [] false } ∷ []) its_part

  entries_of_two_turns : with_places (entries_told (Dropped dropping ∷ Faulted (failure this) ∷ [])) ≡ (6, Drop 3 Strong Limit) ∷ (4, Start 3 Strong this.parts) ∷ (6, Fault 4 Inner) ∷ []
  entries_of_two_turns = refl

drop_alone : entries_of {V = ℕ} (Dropped dropping) ≡ record { place = 6; entry = Drop 3 Strong Limit } ∷ []
drop_alone = refl

last_by_its_answer : IsLast {E = ℕ} (Ok NoneLeft)
last_by_its_answer = tt

not_last_while_turns_are_left : ¬ IsLast {E = ℕ} (Ok TurnsLeft)
not_last_while_turns_are_left last = last

not_last_by_an_error : ¬ IsLast {E = ℕ} (Err 5)
not_last_by_an_error last = last

abbrev pub one_task : NetRows
one_task = record { tasks = needs [] [] ∷ []; edges = []; sems = [] }

abbrev pub journal : List Entry
journal = Start 0 Source [] ∷ End 0 [] false ∷ []

pub may_start : MayFollow one_task 5 [] (Start 0 Source [])
may_start = record {
  in_range = (omega arith, tt);
  release = (refl, refl);
  closing = tt;
  choice = tt;
  semaphore = record { within = tt; over = tt };
  halt_limit_stuck = record { dropped = omega arith; after_stuck = λ other. refl };
}

pub may_end : MayFollow one_task 5 (Start 0 Source [] ∷ []) (End 0 [] false)
may_end = record {
  in_range = tt;
  release = tt;
  closing = refl;
  choice = (inl refl, refl);
  semaphore = record { within = tt; over = tt };
  halt_limit_stuck = record { dropped = tt; after_stuck = λ other. refl };
}

-- the start of the one task found no input, and ended
module _ (shared : Arc ℕ Global) (parts : FoundParts ℕ) (no_input : parts.parts ≡ []) where
  abbrev pub ended : EndedStart ℕ
  ended = record { task = 0; cause = Source; start = 0; found = parts; value = shared; place = 1; gives = []; inner = false }

  pub each_place_once : Merges (entries_of (Ended ended)) journal
  each_place_once = record { stand = (ap (λ found. Some (Start 0 Source found)) (sym no_input), (refl, tt)); each = once }
    where
      once : (m : ℕ) → m < 2 → count_by (λ (r : Recorded). r.place == m) (entries_of (Ended ended)) ≡ 1
      once zero below = refl
      once (suc zero) below = refl
      once (suc (suc m)) below = absurd (omega arith)

  pub whole_run : TellsRun one_task 5 (entries_of (Ended ended))
  whole_run = record {
    journal = journal;
    merges = each_place_once;
    legal = (may_start, (may_end, tt));
    meets = (tt, (tt, tt));
    complete = record { none_open = (refl, (refl, tt)); sources = (λ is. refl, tt); weak = tt; strong = (λ some. absurd (some refl), tt); limited = λ some. absurd (some refl) };
  }

  run_of_some_net : TellsSomeRun (entries_of (Ended ended))
  run_of_some_net = record { net = one_task; limit = 5; tells = whole_run }

unused_release : (told : List Entry) → Merges [] told → ¬ Complete one_task 5 told
unused_release [] merges complete = absurd (omega (arith, complete.sources.0 refl))
unused_release (entry ∷ more) merges complete = absurd (omega (arith, merges.each 0 (omega arith)))

no_run_without_its_start : ¬ TellsRun one_task 5 []
no_run_without_its_start tells = unused_release tells.journal tells.merges tells.complete

-- no net has a finished run whose one entry stands at a later place
no_run_with_a_gap : ¬ TellsSomeRun (entries_of {V = ℕ} (Dropped dropping))
no_run_with_a_gap some = gap some.tells.journal some.tells.merges
  where
    gap : (told : List Entry) → ¬ Merges (entries_of {V = ℕ} (Dropped dropping)) told
    gap [] merges = let no : None ≡ Some (Drop 3 Strong Limit) = merges.stand.0 in absurd (cc)
    gap (entry ∷ more) merges = absurd (omega (arith, merges.each 0 (omega arith)))

-- nor has one whose start found more than its edges
no_run_with_an_input_of_no_edge : (told : List Entry) → told ≡ Start 0 Source (First ∷ []) ∷ [] → ¬ MeetsDataRule one_task told
no_run_with_an_input_of_no_edge told is meets = let first : MeetsDataRule one_task (Start 0 Source (First ∷ []) ∷ []) = subst (λ j. MeetsDataRule one_task j) is meets in first.0

keeper_without_turns : (n : TableId) (k : KeeperState ℕ) → k ≡ keeper_state n [] [] → (k.table ≡ n) × (k.fates ≡ []) × (k.found ≡ [])
keeper_without_turns n k is = (ap (λ (s : KeeperState ℕ). s.table) is, ap (λ (s : KeeperState ℕ). s.fates) is, ap (λ (s : KeeperState ℕ). s.found) is)

-- HOW A TABLE BEGINS
abbrev no_tasks : NetRows
no_tasks = record { tasks = []; edges = []; sems = [] }

all_one : {X : Type 0} (P : X → Type 0) (x : X) → P x → All P (x ∷ [])
all_one P x here zero d below = here
all_one P x here (suc k) d below = absurd (omega arith)

module _ (o : Opening ℕ) where
  of_its_net_and_limit : (t : TableState) → o.table ≡ t → OpensTable one_task 5 o → (t.net ≡ one_task) × (t.limit ≡ 5)
  of_its_net_and_limit t is opens = (sym (ap (λ (s : TableState). s.net) is) ∙ opens.net_is, sym (ap (λ (s : TableState). s.limit) is) ∙ opens.limit_is)

  with_its_first_release : OpensTable one_task 5 o → o.fresh.items ≡ fresh_state o.table.table 0 Source ∷ []
  with_its_first_release opens = opens.fresh

  no_opening_without_its_release : o.fresh.items ≡ [] → ¬ OpensTable one_task 5 o
  no_opening_without_its_release none opens = no_run_without_its_start (opens.nothing none)

  no_opening_at_another_limit : o.table.limit ≡ 4 → ¬ OpensTable one_task 5 o
  no_opening_at_another_limit four opens = absurd (omega (arith, four, opens.limit_is))

  keeper_has_nothing_at_first : OpensTable one_task 5 o → o.keeper ≡ keeper_state o.table.table [] []
  keeper_has_nothing_at_first opens = opens.keeper

  opens_with_its_parts : o.table.net ≡ one_task → o.table.limit ≡ 5 → o.fresh.items ≡ fresh_state o.table.table 0 Source ∷ [] → o.keeper ≡ keeper_state o.table.table [] []
      → OpensTable one_task 5 o
  opens_with_its_parts net_is limit_is fresh keeper = record {
    net_is = net_is;
    limit_is = limit_is;
    fresh = fresh;
    of_table = subst (λ items. All (λ (f : FreshState). f.table ≡ o.table.table) items) (sym fresh) (all_one (λ (f : FreshState). f.table ≡ o.table.table) (fresh_state o.table.table 0 Source) refl);
    nothing = λ none. let no : fresh_state o.table.table 0 Source ∷ [] ≡ [] = sym fresh ∙ none in absurd (cc);
    keeper = keeper;
  }

  finished_without_a_task : OpensTable no_tasks 5 o → TellsRun no_tasks 5 []
  finished_without_a_task opens = opens.nothing opens.fresh
