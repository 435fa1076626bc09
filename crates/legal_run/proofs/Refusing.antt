-- Which break of an entry is told, and when it may follow.
use Rattle.std.proofs.Common.{◌≡◌, ◌≢◌, ◌⊎◌, inl, inr, ℕ, ◌+◌, ◌<◌, ◌≤◌, Bool, true, false, cond, List, [], ◌∷◌, ◌++◌, length, Option, Some, None, refl, ap, ◌∙◌, arith, IsTrue, Result, Ok, Err}
use Rattle.std.specs.Prelude.{IsSomeAnd, MatchResult}
use Rattle.std.specs.Option.{option_map_or}
use Rattle.std.specs.List.{AllByRecursion}
use Rattle.std.proofs.lemmas.Bool.{cases_eq, cases_lt, false≢true}
use Rattle.task_graph.specs.NetRows.{NetRows}
use Rattle.journal_rules.specs.declared.entry.Cause.{Cause}
use Rattle.journal_rules.specs.declared.entry.Part.{Part}
use Rattle.journal_rules.specs.declared.entry.Why.{Why}
use Rattle.journal_rules.specs.declared.entry.DropWhy.{DropWhy}
use Rattle.journal_rules.specs.declared.entry.DropWhy.TheVariants.{Halted, Limit, Stuck}
use Rattle.journal_rules.specs.declared.entry.Entry.{Entry}
use Rattle.journal_rules.specs.declared.entry.Entry.TheVariants.{Start, End, Fault, Drop}
use Rattle.legal_run.specs.declared.verdict.Break.{Break}
use Rattle.legal_run.specs.declared.verdict.Break.TheVariants.{NoSuch, AfterStuck, NotReleased, OverUnits, OverLimit, NotOpen, NotChosen, NothingOut, NotOver, NotHalted, NotStuck}
use Rattle.journal_rules.specs.Counts.{starts, start_at, is_open}
use Rattle.journal_rules.specs.ReleaseRule.{IsReleased, ReleaseRule}
use Rattle.journal_rules.specs.ClosingRule.{ClosingRule}
use Rattle.journal_rules.specs.ChoiceRule.{ChoiceRule}
use Rattle.journal_rules.specs.SemaphoreRule.{takes, puts, taken, back, max_of, UnitsInBounds, UnitFaultRule}
use Rattle.journal_rules.specs.MissingUnits.{IsLeast, WantsUnit, PutsWithNothingOut}
use Rattle.journal_rules.specs.HaltLimitStuckRule.{AfterStuckRule, DropRule, is_stuck_why}
use Rattle.journal_rules.specs.ShapeLegal.{IsInRange, CauseInRange, WhyInRange, DropWhyInRange, MayFollow}
use Rattle.legal_run.specs.Refusal.{Breaks, rank, IsRefusal, StartsWithoutUnit, StartsAtLimit, EndsWithNothingOut, DropsWithoutCause, is_halted_why}
use Rattle.legal_run.specs.inside.Checks.{BreaksWhy}
use Rattle.journal_rules.specs.inside.Reached.{IsReached}
use Rattle.journal_rules.proofs.UnitLaws.{taken_push, back_push, start_below}
use Rattle.journal_rules.proofs.Snoc.{start_at_push_below}
use Rattle.journal_rules.proofs.Reaching.{each_below, at_below}
use Rattle.journal_rules.proofs.TaskSemaphores.{takes_in_range, puts_in_range}

abbrev one_if : Bool → ℕ
one_if b = cond b 1 0

-- the entry breaks no rule of the first n
pub record Clear (net : NetRows) (limit : ℕ) (h : List Entry) (x : Entry) (n : ℕ) : Type 0 where
  pub none : (b : Break) → rank b < n → ¬ Breaks net limit h x b

clear_more : (net : NetRows) (limit : ℕ) (h : List Entry) (x : Entry) (n : ℕ) → Clear net limit h x n → ((b : Break) → rank b ≡ n → ¬ Breaks net limit h x b) → Clear net limit h x (n + 1)
clear_more net limit h x n clear next = record { none = λ b below. by_case b below (cases_lt (rank b) n) }
  where
    by_case : (b : Break) → rank b < n + 1 → (rank b < n) ⊎ (n ≤ rank b) → ¬ Breaks net limit h x b
    by_case b below (inl before) = clear.none b before
    by_case b below (inr after) = next b (omega arith)

-- a break before which none is, is the one that is told
pub refused : (net : NetRows) (limit : ℕ) (h : List Entry) (x : Entry) (b : Break) → Clear net limit h x (rank b) → Breaks net limit h x b → IsRefusal net limit h x b
refused net limit h x b clear breaks = record { breaks = breaks; first = clear.none }

-- one rule after the other
pub clear_nothing : (net : NetRows) (limit : ℕ) (h : List Entry) (x : Entry) → Clear net limit h x 0
clear_nothing net limit h x = record { none = λ b below. absurd (omega arith) }

pub clear_range : (net : NetRows) (limit : ℕ) (h : List Entry) (x : Entry) → IsInRange net x → Clear net limit h x 1
clear_range net limit h x rule = clear_more net limit h x 0 (clear_nothing net limit h x) next
  where
    next : (b : Break) → rank b ≡ 0 → ¬ Breaks net limit h x b
    next NoSuch is = λ f. f rule
    next AfterStuck is = absurd (omega arith)
    next NotReleased is = absurd (omega arith)
    next (OverUnits s) is = absurd (omega arith)
    next OverLimit is = absurd (omega arith)
    next NotOpen is = absurd (omega arith)
    next NotChosen is = absurd (omega arith)
    next (NothingOut s) is = absurd (omega arith)
    next NotOver is = absurd (omega arith)
    next NotHalted is = absurd (omega arith)
    next NotStuck is = absurd (omega arith)

pub clear_stuck : (net : NetRows) (limit : ℕ) (h : List Entry) (x : Entry) → Clear net limit h x 1 → AfterStuckRule h x → Clear net limit h x 2
clear_stuck net limit h x clear rule = clear_more net limit h x 1 clear next
  where
    next : (b : Break) → rank b ≡ 1 → ¬ Breaks net limit h x b
    next NoSuch is = absurd (omega arith)
    next AfterStuck is = λ f. f rule
    next NotReleased is = absurd (omega arith)
    next (OverUnits s) is = absurd (omega arith)
    next OverLimit is = absurd (omega arith)
    next NotOpen is = absurd (omega arith)
    next NotChosen is = absurd (omega arith)
    next (NothingOut s) is = absurd (omega arith)
    next NotOver is = absurd (omega arith)
    next NotHalted is = absurd (omega arith)
    next NotStuck is = absurd (omega arith)

pub clear_release : (net : NetRows) (limit : ℕ) (h : List Entry) (x : Entry) → Clear net limit h x 2 → ReleaseRule net h x → Clear net limit h x 3
clear_release net limit h x clear rule = clear_more net limit h x 2 clear next
  where
    next : (b : Break) → rank b ≡ 2 → ¬ Breaks net limit h x b
    next NoSuch is = absurd (omega arith)
    next AfterStuck is = absurd (omega arith)
    next NotReleased is = λ f. f rule
    next (OverUnits s) is = absurd (omega arith)
    next OverLimit is = absurd (omega arith)
    next NotOpen is = absurd (omega arith)
    next NotChosen is = absurd (omega arith)
    next (NothingOut s) is = absurd (omega arith)
    next NotOver is = absurd (omega arith)
    next NotHalted is = absurd (omega arith)
    next NotStuck is = absurd (omega arith)

pub clear_units : (net : NetRows) (limit : ℕ) (h : List Entry) (x : Entry) → Clear net limit h x 3 → ((s : ℕ) → ¬ StartsWithoutUnit net h x s) → Clear net limit h x 4
clear_units net limit h x clear rule = clear_more net limit h x 3 clear next
  where
    next : (b : Break) → rank b ≡ 3 → ¬ Breaks net limit h x b
    next NoSuch is = absurd (omega arith)
    next AfterStuck is = absurd (omega arith)
    next NotReleased is = absurd (omega arith)
    next (OverUnits s) is = rule s
    next OverLimit is = absurd (omega arith)
    next NotOpen is = absurd (omega arith)
    next NotChosen is = absurd (omega arith)
    next (NothingOut s) is = absurd (omega arith)
    next NotOver is = absurd (omega arith)
    next NotHalted is = absurd (omega arith)
    next NotStuck is = absurd (omega arith)

pub clear_limit : (net : NetRows) (limit : ℕ) (h : List Entry) (x : Entry) → Clear net limit h x 4 → ¬ StartsAtLimit limit h x → Clear net limit h x 5
clear_limit net limit h x clear rule = clear_more net limit h x 4 clear next
  where
    next : (b : Break) → rank b ≡ 4 → ¬ Breaks net limit h x b
    next NoSuch is = absurd (omega arith)
    next AfterStuck is = absurd (omega arith)
    next NotReleased is = absurd (omega arith)
    next (OverUnits s) is = absurd (omega arith)
    next OverLimit is = rule
    next NotOpen is = absurd (omega arith)
    next NotChosen is = absurd (omega arith)
    next (NothingOut s) is = absurd (omega arith)
    next NotOver is = absurd (omega arith)
    next NotHalted is = absurd (omega arith)
    next NotStuck is = absurd (omega arith)

pub clear_open : (net : NetRows) (limit : ℕ) (h : List Entry) (x : Entry) → Clear net limit h x 5 → ClosingRule h x → Clear net limit h x 6
clear_open net limit h x clear rule = clear_more net limit h x 5 clear next
  where
    next : (b : Break) → rank b ≡ 5 → ¬ Breaks net limit h x b
    next NoSuch is = absurd (omega arith)
    next AfterStuck is = absurd (omega arith)
    next NotReleased is = absurd (omega arith)
    next (OverUnits s) is = absurd (omega arith)
    next OverLimit is = absurd (omega arith)
    next NotOpen is = λ f. f rule
    next NotChosen is = absurd (omega arith)
    next (NothingOut s) is = absurd (omega arith)
    next NotOver is = absurd (omega arith)
    next NotHalted is = absurd (omega arith)
    next NotStuck is = absurd (omega arith)

pub clear_choice : (net : NetRows) (limit : ℕ) (h : List Entry) (x : Entry) → Clear net limit h x 6 → ChoiceRule net h x → Clear net limit h x 7
clear_choice net limit h x clear rule = clear_more net limit h x 6 clear next
  where
    next : (b : Break) → rank b ≡ 6 → ¬ Breaks net limit h x b
    next NoSuch is = absurd (omega arith)
    next AfterStuck is = absurd (omega arith)
    next NotReleased is = absurd (omega arith)
    next (OverUnits s) is = absurd (omega arith)
    next OverLimit is = absurd (omega arith)
    next NotOpen is = absurd (omega arith)
    next NotChosen is = λ f. f rule
    next (NothingOut s) is = absurd (omega arith)
    next NotOver is = absurd (omega arith)
    next NotHalted is = absurd (omega arith)
    next NotStuck is = absurd (omega arith)

pub clear_out : (net : NetRows) (limit : ℕ) (h : List Entry) (x : Entry) → Clear net limit h x 7 → ((s : ℕ) → ¬ EndsWithNothingOut net h x s) → Clear net limit h x 8
clear_out net limit h x clear rule = clear_more net limit h x 7 clear next
  where
    next : (b : Break) → rank b ≡ 7 → ¬ Breaks net limit h x b
    next NoSuch is = absurd (omega arith)
    next AfterStuck is = absurd (omega arith)
    next NotReleased is = absurd (omega arith)
    next (OverUnits s) is = absurd (omega arith)
    next OverLimit is = absurd (omega arith)
    next NotOpen is = absurd (omega arith)
    next NotChosen is = absurd (omega arith)
    next (NothingOut s) is = rule s
    next NotOver is = absurd (omega arith)
    next NotHalted is = absurd (omega arith)
    next NotStuck is = absurd (omega arith)

pub clear_over : (net : NetRows) (limit : ℕ) (h : List Entry) (x : Entry) → Clear net limit h x 8 → UnitFaultRule net h x → Clear net limit h x 9
clear_over net limit h x clear rule = clear_more net limit h x 8 clear next
  where
    next : (b : Break) → rank b ≡ 8 → ¬ Breaks net limit h x b
    next NoSuch is = absurd (omega arith)
    next AfterStuck is = absurd (omega arith)
    next NotReleased is = absurd (omega arith)
    next (OverUnits s) is = absurd (omega arith)
    next OverLimit is = absurd (omega arith)
    next NotOpen is = absurd (omega arith)
    next NotChosen is = absurd (omega arith)
    next (NothingOut s) is = absurd (omega arith)
    next NotOver is = λ f. f rule
    next NotHalted is = absurd (omega arith)
    next NotStuck is = absurd (omega arith)

pub clear_halted : (net : NetRows) (limit : ℕ) (h : List Entry) (x : Entry) → Clear net limit h x 9 → ¬ DropsWithoutCause is_halted_why net h x → Clear net limit h x 10
clear_halted net limit h x clear rule = clear_more net limit h x 9 clear next
  where
    next : (b : Break) → rank b ≡ 9 → ¬ Breaks net limit h x b
    next NoSuch is = absurd (omega arith)
    next AfterStuck is = absurd (omega arith)
    next NotReleased is = absurd (omega arith)
    next (OverUnits s) is = absurd (omega arith)
    next OverLimit is = absurd (omega arith)
    next NotOpen is = absurd (omega arith)
    next NotChosen is = absurd (omega arith)
    next (NothingOut s) is = absurd (omega arith)
    next NotOver is = absurd (omega arith)
    next NotHalted is = rule
    next NotStuck is = absurd (omega arith)

-- the units after an entry
pub within_start : (net : NetRows) (limit t : ℕ) (h : List Entry) (cause : Cause) (ins : List Part) → IsReached net limit h → ((s : ℕ) → ¬ WantsUnit net h t s) → (s : ℕ) → s < length net.sems → UnitsInBounds net (h ++ Start t cause ins ∷ []) s
within_start net limit t h cause ins reached enough s below = by_takes (takes net s t) refl (cases_lt (taken net s h) (back net s h + max_of net s))
  where
    x : Entry
    x = Start t cause ins

    by_takes : (b : Bool) → takes net s t ≡ b → (taken net s h < back net s h + max_of net s) ⊎ (back net s h + max_of net s ≤ taken net s h) → UnitsInBounds net (h ++ x ∷ []) s
    by_takes b is (inl unit) =
        let few : one_if (takes net s t) ≤ 1 = at_most (takes net s t) in
        (omega (arith, taken_push net s h x, back_push net limit s h x reached, (reached.within s below).0), omega (arith, taken_push net s h x, back_push net limit s h x reached))
      where
        at_most : (c : Bool) → one_if c ≤ 1
        at_most true = omega arith
        at_most false = omega arith
    by_takes true is (inr none) = absurd (enough s (is, λ unit. omega arith))
    by_takes false is (inr none) =
        let same : taken net s (h ++ x ∷ []) ≡ taken net s h + 0 = taken_push net s h x ∙ ap (λ c. taken net s h + one_if c) is in
        (omega (arith, same, back_push net limit s h x reached, (reached.within s below).0), omega (arith, same, back_push net limit s h x reached, (reached.within s below).1))

within_end : (net : NetRows) (limit p t : ℕ) (h : List Entry) (gives : List ℕ) (inner : Bool) → IsReached net limit h → start_at h p ≡ Some t → ((s : ℕ) → ¬ PutsWithNothingOut net h t s) → (s : ℕ) → s < length net.sems → UnitsInBounds net (h ++ End p gives inner ∷ []) s
within_end net limit p t h gives inner reached is enough s below = by_puts (puts net s t) refl (cases_eq (back net s h) (taken net s h))
  where
    x : Entry
    x = End p gives inner

    back_is : back net s (h ++ x ∷ []) ≡ back net s h + one_if (puts net s t)
    back_is = back_push net limit s h x reached ∙ ap (λ o. back net s h + one_if (option_map_or (puts net s) o false)) (start_at_push_below h x p (start_below h p t is) ∙ is)

    taken_is : taken net s (h ++ x ∷ []) ≡ taken net s h + 0
    taken_is = taken_push net s h x

    by_puts : (b : Bool) → puts net s t ≡ b → (back net s h ≡ taken net s h) ⊎ (back net s h ≢ taken net s h) → UnitsInBounds net (h ++ x ∷ []) s
    by_puts true put (inl same) = absurd (enough s (put, same))
    by_puts true put (inr other) =
        let more : back net s (h ++ x ∷ []) ≡ back net s h + 1 = back_is ∙ ap (λ c. back net s h + one_if c) put in
        (omega (arith, more, taken_is, (reached.within s below).0), omega (arith, more, taken_is, (reached.within s below).1))
    by_puts false put any =
        let same : back net s (h ++ x ∷ []) ≡ back net s h + 0 = back_is ∙ ap (λ c. back net s h + one_if c) put in
        (omega (arith, same, taken_is, (reached.within s below).0), omega (arith, same, taken_is, (reached.within s below).1))

-- what may follow
pub may_start : (net : NetRows) (limit t : ℕ) (h : List Entry) (cause : Cause) (ins : List Part) → IsReached net limit h → t < length net.tasks → CauseInRange net cause → AfterStuckRule h (Start t cause ins) → IsReleased net h t cause
    → ((s : ℕ) → ¬ WantsUnit net h t s) → starts h < limit → MayFollow net limit h (Start t cause ins)
may_start net limit t h cause ins reached in_tasks in_edges after rule enough room = record {
  in_range = (in_tasks, in_edges);
  release = rule;
  closing = tt;
  choice = tt;
  semaphore = record { within = each_below (UnitsInBounds net (h ++ Start t cause ins ∷ [])) (length net.sems) (within_start net limit t h cause ins reached enough); over = tt };
  halt_limit_stuck = record { dropped = room; after_stuck = after };
}

pub may_end : (net : NetRows) (limit p t : ℕ) (h : List Entry) (gives : List ℕ) (inner : Bool) → IsReached net limit h → AllByRecursion (λ e. e < length net.edges) gives → AfterStuckRule h (End p gives inner) → is_open h p ≡ true → start_at h p ≡ Some t
    → ChoiceRule net h (End p gives inner) → ((s : ℕ) → ¬ PutsWithNothingOut net h t s) → MayFollow net limit h (End p gives inner)
may_end net limit p t h gives inner reached in_edges after opened is rule enough = record {
  in_range = in_edges;
  release = tt;
  closing = opened;
  choice = rule;
  semaphore = record { within = each_below (UnitsInBounds net (h ++ End p gives inner ∷ [])) (length net.sems) (within_end net limit p t h gives inner reached is enough); over = tt };
  halt_limit_stuck = record { dropped = tt; after_stuck = after };
}

within_still : (net : NetRows) (limit : ℕ) (h : List Entry) (x : Entry) (s : ℕ) → IsReached net limit h → s < length net.sems → taken net s (h ++ x ∷ []) ≡ taken net s h + 0 → back net s (h ++ x ∷ []) ≡ back net s h + 0 → UnitsInBounds net (h ++ x ∷ []) s
within_still net limit h x s reached below ta ba = (omega (arith, ta, ba, (reached.within s below).0), omega (arith, ta, ba, (reached.within s below).1))

pub may_fault : (net : NetRows) (limit p : ℕ) (h : List Entry) (why : Why) → IsReached net limit h → WhyInRange net why → AfterStuckRule h (Fault p why) → is_open h p ≡ true → UnitFaultRule net h (Fault p why) → MayFollow net limit h (Fault p why)
may_fault net limit p h why reached in_range after opened rule = record {
  in_range = in_range;
  release = tt;
  closing = opened;
  choice = tt;
  semaphore = record { within = each_below (UnitsInBounds net (h ++ Fault p why ∷ [])) (length net.sems) (λ s below. within_still net limit h (Fault p why) s reached below (taken_push net s h (Fault p why)) (back_push net limit s h (Fault p why) reached)); over = rule };
  halt_limit_stuck = record { dropped = tt; after_stuck = after };
}

pub may_drop : (net : NetRows) (limit t : ℕ) (h : List Entry) (cause : Cause) (why : DropWhy) → IsReached net limit h → t < length net.tasks → CauseInRange net cause → DropWhyInRange net why → AfterStuckRule h (Drop t cause why)
    → IsReleased net h t cause → DropRule net h t why → MayFollow net limit h (Drop t cause why)
may_drop net limit t h cause why reached in_tasks in_edges in_sems after released rule = record {
  in_range = (in_tasks, in_edges, in_sems);
  release = released;
  closing = tt;
  choice = tt;
  semaphore = record { within = each_below (UnitsInBounds net (h ++ Drop t cause why ∷ [])) (length net.sems) (λ s below. within_still net limit h (Drop t cause why) s reached below (taken_push net s h (Drop t cause why)) (back_push net limit s h (Drop t cause why) reached)); over = tt };
  halt_limit_stuck = record { dropped = rule; after_stuck = after };
}

-- An entry that may follow breaks no rule.
pub breaks_nothing : (net : NetRows) (limit : ℕ) (h : List Entry) (x : Entry) (b : Break) → IsReached net limit h → MayFollow net limit h x → ¬ Breaks net limit h x b
breaks_nothing net limit h x NoSuch reached may = λ f. f may.in_range
breaks_nothing net limit h x AfterStuck reached may = λ f. f may.halt_limit_stuck.after_stuck
breaks_nothing net limit h x NotReleased reached may = λ f. f may.release
breaks_nothing net limit h x (OverUnits s) reached may = by_entry x may
  where
    by_entry : (y : Entry) → MayFollow net limit h y → ¬ StartsWithoutUnit net h y s
    by_entry (Start t cause ins) m = λ f.
        let y = Start t cause ins in
        let below = takes_in_range net s t reached.rows f.has_it.0 in
        let more : taken net s (h ++ y ∷ []) ≡ taken net s h + 1 = taken_push net s h y ∙ ap (λ c. taken net s h + one_if c) f.has_it.0 in
        f.has_it.1 (omega (arith, more, back_push net limit s h y reached, (at_below (UnitsInBounds net (h ++ y ∷ [])) (length net.sems) m.semaphore.within s below).1))
    by_entry (End start gives inner) m = λ f. f
    by_entry (Fault start why) m = λ f. f
    by_entry (Drop t cause why) m = λ f. f
breaks_nothing net limit h x OverLimit reached may = by_entry x may
  where
    by_entry : (y : Entry) → MayFollow net limit h y → ¬ StartsAtLimit limit h y
    by_entry (Start t cause ins) m = λ f. f m.halt_limit_stuck.dropped
    by_entry (End start gives inner) m = λ f. f
    by_entry (Fault start why) m = λ f. f
    by_entry (Drop t cause why) m = λ f. f
breaks_nothing net limit h x NotOpen reached may = λ f. f may.closing
breaks_nothing net limit h x NotChosen reached may = λ f. f may.choice
breaks_nothing net limit h x (NothingOut s) reached may = by_entry x may
  where
    by_entry : (y : Entry) → MayFollow net limit h y → ¬ EndsWithNothingOut net h y s
    by_entry (Start t cause ins) m = λ f. f
    by_entry (End p gives inner) m = λ f. by_task (start_at h p) refl f
      where
        by_task : (o : Option ℕ) → start_at h p ≡ o → IsSomeAnd o (λ t. IsLeast (PutsWithNothingOut net h t) s) → ⊥
        by_task None is f = f
        by_task (Some t) is f =
            let y = End p gives inner in
            let below = puts_in_range net s t reached.rows f.has_it.0 in
            let more : back net s (h ++ y ∷ []) ≡ back net s h + 1 =
            back_push net limit s h y reached ∙ ap (λ o. back net s h + one_if (option_map_or (puts net s) o false)) (start_at_push_below h y p (start_below h p t is) ∙ is) ∙ ap (λ c. back net s h + one_if c) f.has_it.0 in
            omega (arith, more, f.has_it.1, taken_push net s h y, (at_below (UnitsInBounds net (h ++ y ∷ [])) (length net.sems) m.semaphore.within s below).0)
    by_entry (Fault start why) m = λ f. f
    by_entry (Drop t cause why) m = λ f. f
breaks_nothing net limit h x NotOver reached may = λ f. f may.semaphore.over
breaks_nothing net limit h x NotHalted reached may = by_entry x may
  where
    by_entry : (y : Entry) → MayFollow net limit h y → ¬ DropsWithoutCause is_halted_why net h y
    by_entry (Start t cause ins) m = λ f. f
    by_entry (End start gives inner) m = λ f. f
    by_entry (Fault start why) m = λ f. f
    by_entry (Drop t cause why) m = λ f. f.1 m.halt_limit_stuck.dropped
breaks_nothing net limit h x NotStuck reached may = by_entry x may
  where
    by_entry : (y : Entry) → MayFollow net limit h y → ¬ DropsWithoutCause is_stuck_why net h y
    by_entry (Start t cause ins) m = λ f. f
    by_entry (End start gives inner) m = λ f. f
    by_entry (Fault start why) m = λ f. f
    by_entry (Drop t cause why) m = λ f. f.1 m.halt_limit_stuck.dropped

-- what a Drop breaks whose numbers are right, which comes in time and whose release is unused
pub drop_answer : (net : NetRows) (limit t : ℕ) (h : List Entry) (cause : Cause) (why : DropWhy) (answer : Result (Unit {0}) Break) → IsReached net limit h → t < length net.tasks → CauseInRange net cause → DropWhyInRange net why → AfterStuckRule h (Drop t cause why)
    → IsReleased net h t cause → MatchResult answer (λ _. DropRule net h t why) (λ b. BreaksWhy net h t why b) → MatchResult answer (λ _. MayFollow net limit h (Drop t cause why)) (λ b. IsRefusal net limit h (Drop t cause why) b)
drop_answer net limit t h cause why (Ok u) reached in_tasks in_edges in_sems after released rule = may_drop net limit t h cause why reached in_tasks in_edges in_sems after released rule
drop_answer net limit t h cause why (Err b) reached in_tasks in_edges in_sems after released breaks = by_break b breaks
  where
    x : Entry
    x = Drop t cause why

    clear : Clear net limit h x 9
    clear =
        clear_over net limit h x (clear_out net limit h x (clear_choice net limit h x (clear_open net limit h x (clear_limit net limit h x (clear_units net limit h x (clear_release net limit h x (clear_stuck net limit h x (clear_range net limit h x (in_tasks, in_edges, in_sems)) after) released) (λ s f. f)) (λ f. f)) tt) tt) (λ s f. f)) tt

    not_halted : IsTrue (is_stuck_why why) → ¬ DropsWithoutCause is_halted_why net h x
    not_halted stuck f = both why stuck f.0
      where
        both : (w : DropWhy) → is_stuck_why w ≡ true → is_halted_why w ≡ true → ⊥
        both Halted yes_stuck yes_halted = false≢true yes_stuck
        both Limit yes_stuck yes_halted = false≢true yes_stuck
        both (Stuck s) yes_stuck yes_halted = false≢true yes_halted

    by_break : (c : Break) → BreaksWhy net h t why c → IsRefusal net limit h x c
    by_break NoSuch f = absurd f
    by_break AfterStuck f = absurd f
    by_break NotReleased f = absurd f
    by_break (OverUnits s) f = absurd f
    by_break OverLimit f = absurd f
    by_break NotOpen f = absurd f
    by_break NotChosen f = absurd f
    by_break (NothingOut s) f = absurd f
    by_break NotOver f = absurd f
    by_break NotHalted f = refused net limit h x NotHalted clear f
    by_break NotStuck f = refused net limit h x NotStuck (clear_halted net limit h x clear (not_halted f.0)) f

-- the least number with a property is one
least_once : (P : ℕ → Type 0) (s r : ℕ) → IsLeast P s → IsLeast P r → s ≡ r
least_once P s r one other = by_case (cases_lt s r) (cases_lt r s)
  where
    by_case : (s < r) ⊎ (r ≤ s) → (r < s) ⊎ (s ≤ r) → s ≡ r
    by_case (inl less) any = absurd (other.least s less one.has_it)
    by_case (inr more) (inl less) = absurd (one.least r less other.has_it)
    by_case (inr more) (inr less) = omega arith

units_once : (net : NetRows) (h : List Entry) (x : Entry) (s r : ℕ) → StartsWithoutUnit net h x s → StartsWithoutUnit net h x r → s ≡ r
units_once net h (Start t cause ins) s r one other = least_once (WantsUnit net h t) s r one other
units_once net h (End start gives inner) s r one other = absurd one
units_once net h (Fault start why) s r one other = absurd one
units_once net h (Drop t cause why) s r one other = absurd one

out_once : (net : NetRows) (h : List Entry) (x : Entry) (s r : ℕ) → EndsWithNothingOut net h x s → EndsWithNothingOut net h x r → s ≡ r
out_once net h (Start t cause ins) s r one other = absurd one
out_once net h (End start gives inner) s r one other = by_task (start_at h start) one other
  where
    by_task : (o : Option ℕ) → IsSomeAnd o (λ t. IsLeast (PutsWithNothingOut net h t) s) → IsSomeAnd o (λ t. IsLeast (PutsWithNothingOut net h t) r) → s ≡ r
    by_task None a b = absurd a
    by_task (Some t) a b = least_once (PutsWithNothingOut net h t) s r a b
out_once net h (Fault start why) s r one other = absurd one
out_once net h (Drop t cause why) s r one other = absurd one

-- breaks of one rank are one
of_NoSuch : (net : NetRows) (limit : ℕ) (h : List Entry) (x : Entry) → Breaks net limit h x NoSuch → (other : Break) → Breaks net limit h x other → rank other ≡ 0 → NoSuch ≡ other
of_NoSuch net limit h x one NoSuch two is = refl
of_NoSuch net limit h x one AfterStuck two is = absurd (omega arith)
of_NoSuch net limit h x one NotReleased two is = absurd (omega arith)
of_NoSuch net limit h x one (OverUnits r) two is = absurd (omega arith)
of_NoSuch net limit h x one OverLimit two is = absurd (omega arith)
of_NoSuch net limit h x one NotOpen two is = absurd (omega arith)
of_NoSuch net limit h x one NotChosen two is = absurd (omega arith)
of_NoSuch net limit h x one (NothingOut r) two is = absurd (omega arith)
of_NoSuch net limit h x one NotOver two is = absurd (omega arith)
of_NoSuch net limit h x one NotHalted two is = absurd (omega arith)
of_NoSuch net limit h x one NotStuck two is = absurd (omega arith)

of_AfterStuck : (net : NetRows) (limit : ℕ) (h : List Entry) (x : Entry) → Breaks net limit h x AfterStuck → (other : Break) → Breaks net limit h x other → rank other ≡ 1 → AfterStuck ≡ other
of_AfterStuck net limit h x one NoSuch two is = absurd (omega arith)
of_AfterStuck net limit h x one AfterStuck two is = refl
of_AfterStuck net limit h x one NotReleased two is = absurd (omega arith)
of_AfterStuck net limit h x one (OverUnits r) two is = absurd (omega arith)
of_AfterStuck net limit h x one OverLimit two is = absurd (omega arith)
of_AfterStuck net limit h x one NotOpen two is = absurd (omega arith)
of_AfterStuck net limit h x one NotChosen two is = absurd (omega arith)
of_AfterStuck net limit h x one (NothingOut r) two is = absurd (omega arith)
of_AfterStuck net limit h x one NotOver two is = absurd (omega arith)
of_AfterStuck net limit h x one NotHalted two is = absurd (omega arith)
of_AfterStuck net limit h x one NotStuck two is = absurd (omega arith)

of_NotReleased : (net : NetRows) (limit : ℕ) (h : List Entry) (x : Entry) → Breaks net limit h x NotReleased → (other : Break) → Breaks net limit h x other → rank other ≡ 2 → NotReleased ≡ other
of_NotReleased net limit h x one NoSuch two is = absurd (omega arith)
of_NotReleased net limit h x one AfterStuck two is = absurd (omega arith)
of_NotReleased net limit h x one NotReleased two is = refl
of_NotReleased net limit h x one (OverUnits r) two is = absurd (omega arith)
of_NotReleased net limit h x one OverLimit two is = absurd (omega arith)
of_NotReleased net limit h x one NotOpen two is = absurd (omega arith)
of_NotReleased net limit h x one NotChosen two is = absurd (omega arith)
of_NotReleased net limit h x one (NothingOut r) two is = absurd (omega arith)
of_NotReleased net limit h x one NotOver two is = absurd (omega arith)
of_NotReleased net limit h x one NotHalted two is = absurd (omega arith)
of_NotReleased net limit h x one NotStuck two is = absurd (omega arith)

of_OverUnits : (net : NetRows) (limit : ℕ) (h : List Entry) (x : Entry) (s : ℕ) → Breaks net limit h x (OverUnits s) → (other : Break) → Breaks net limit h x other → rank other ≡ 3 → (OverUnits s) ≡ other
of_OverUnits net limit h x s one NoSuch two is = absurd (omega arith)
of_OverUnits net limit h x s one AfterStuck two is = absurd (omega arith)
of_OverUnits net limit h x s one NotReleased two is = absurd (omega arith)
of_OverUnits net limit h x s one (OverUnits r) two is = ap (λ n. OverUnits n) (units_once net h x s r one two)
of_OverUnits net limit h x s one OverLimit two is = absurd (omega arith)
of_OverUnits net limit h x s one NotOpen two is = absurd (omega arith)
of_OverUnits net limit h x s one NotChosen two is = absurd (omega arith)
of_OverUnits net limit h x s one (NothingOut r) two is = absurd (omega arith)
of_OverUnits net limit h x s one NotOver two is = absurd (omega arith)
of_OverUnits net limit h x s one NotHalted two is = absurd (omega arith)
of_OverUnits net limit h x s one NotStuck two is = absurd (omega arith)

of_OverLimit : (net : NetRows) (limit : ℕ) (h : List Entry) (x : Entry) → Breaks net limit h x OverLimit → (other : Break) → Breaks net limit h x other → rank other ≡ 4 → OverLimit ≡ other
of_OverLimit net limit h x one NoSuch two is = absurd (omega arith)
of_OverLimit net limit h x one AfterStuck two is = absurd (omega arith)
of_OverLimit net limit h x one NotReleased two is = absurd (omega arith)
of_OverLimit net limit h x one (OverUnits r) two is = absurd (omega arith)
of_OverLimit net limit h x one OverLimit two is = refl
of_OverLimit net limit h x one NotOpen two is = absurd (omega arith)
of_OverLimit net limit h x one NotChosen two is = absurd (omega arith)
of_OverLimit net limit h x one (NothingOut r) two is = absurd (omega arith)
of_OverLimit net limit h x one NotOver two is = absurd (omega arith)
of_OverLimit net limit h x one NotHalted two is = absurd (omega arith)
of_OverLimit net limit h x one NotStuck two is = absurd (omega arith)

of_NotOpen : (net : NetRows) (limit : ℕ) (h : List Entry) (x : Entry) → Breaks net limit h x NotOpen → (other : Break) → Breaks net limit h x other → rank other ≡ 5 → NotOpen ≡ other
of_NotOpen net limit h x one NoSuch two is = absurd (omega arith)
of_NotOpen net limit h x one AfterStuck two is = absurd (omega arith)
of_NotOpen net limit h x one NotReleased two is = absurd (omega arith)
of_NotOpen net limit h x one (OverUnits r) two is = absurd (omega arith)
of_NotOpen net limit h x one OverLimit two is = absurd (omega arith)
of_NotOpen net limit h x one NotOpen two is = refl
of_NotOpen net limit h x one NotChosen two is = absurd (omega arith)
of_NotOpen net limit h x one (NothingOut r) two is = absurd (omega arith)
of_NotOpen net limit h x one NotOver two is = absurd (omega arith)
of_NotOpen net limit h x one NotHalted two is = absurd (omega arith)
of_NotOpen net limit h x one NotStuck two is = absurd (omega arith)

of_NotChosen : (net : NetRows) (limit : ℕ) (h : List Entry) (x : Entry) → Breaks net limit h x NotChosen → (other : Break) → Breaks net limit h x other → rank other ≡ 6 → NotChosen ≡ other
of_NotChosen net limit h x one NoSuch two is = absurd (omega arith)
of_NotChosen net limit h x one AfterStuck two is = absurd (omega arith)
of_NotChosen net limit h x one NotReleased two is = absurd (omega arith)
of_NotChosen net limit h x one (OverUnits r) two is = absurd (omega arith)
of_NotChosen net limit h x one OverLimit two is = absurd (omega arith)
of_NotChosen net limit h x one NotOpen two is = absurd (omega arith)
of_NotChosen net limit h x one NotChosen two is = refl
of_NotChosen net limit h x one (NothingOut r) two is = absurd (omega arith)
of_NotChosen net limit h x one NotOver two is = absurd (omega arith)
of_NotChosen net limit h x one NotHalted two is = absurd (omega arith)
of_NotChosen net limit h x one NotStuck two is = absurd (omega arith)

of_NothingOut : (net : NetRows) (limit : ℕ) (h : List Entry) (x : Entry) (s : ℕ) → Breaks net limit h x (NothingOut s) → (other : Break) → Breaks net limit h x other → rank other ≡ 7 → (NothingOut s) ≡ other
of_NothingOut net limit h x s one NoSuch two is = absurd (omega arith)
of_NothingOut net limit h x s one AfterStuck two is = absurd (omega arith)
of_NothingOut net limit h x s one NotReleased two is = absurd (omega arith)
of_NothingOut net limit h x s one (OverUnits r) two is = absurd (omega arith)
of_NothingOut net limit h x s one OverLimit two is = absurd (omega arith)
of_NothingOut net limit h x s one NotOpen two is = absurd (omega arith)
of_NothingOut net limit h x s one NotChosen two is = absurd (omega arith)
of_NothingOut net limit h x s one (NothingOut r) two is = ap (λ n. NothingOut n) (out_once net h x s r one two)
of_NothingOut net limit h x s one NotOver two is = absurd (omega arith)
of_NothingOut net limit h x s one NotHalted two is = absurd (omega arith)
of_NothingOut net limit h x s one NotStuck two is = absurd (omega arith)

of_NotOver : (net : NetRows) (limit : ℕ) (h : List Entry) (x : Entry) → Breaks net limit h x NotOver → (other : Break) → Breaks net limit h x other → rank other ≡ 8 → NotOver ≡ other
of_NotOver net limit h x one NoSuch two is = absurd (omega arith)
of_NotOver net limit h x one AfterStuck two is = absurd (omega arith)
of_NotOver net limit h x one NotReleased two is = absurd (omega arith)
of_NotOver net limit h x one (OverUnits r) two is = absurd (omega arith)
of_NotOver net limit h x one OverLimit two is = absurd (omega arith)
of_NotOver net limit h x one NotOpen two is = absurd (omega arith)
of_NotOver net limit h x one NotChosen two is = absurd (omega arith)
of_NotOver net limit h x one (NothingOut r) two is = absurd (omega arith)
of_NotOver net limit h x one NotOver two is = refl
of_NotOver net limit h x one NotHalted two is = absurd (omega arith)
of_NotOver net limit h x one NotStuck two is = absurd (omega arith)

of_NotHalted : (net : NetRows) (limit : ℕ) (h : List Entry) (x : Entry) → Breaks net limit h x NotHalted → (other : Break) → Breaks net limit h x other → rank other ≡ 9 → NotHalted ≡ other
of_NotHalted net limit h x one NoSuch two is = absurd (omega arith)
of_NotHalted net limit h x one AfterStuck two is = absurd (omega arith)
of_NotHalted net limit h x one NotReleased two is = absurd (omega arith)
of_NotHalted net limit h x one (OverUnits r) two is = absurd (omega arith)
of_NotHalted net limit h x one OverLimit two is = absurd (omega arith)
of_NotHalted net limit h x one NotOpen two is = absurd (omega arith)
of_NotHalted net limit h x one NotChosen two is = absurd (omega arith)
of_NotHalted net limit h x one (NothingOut r) two is = absurd (omega arith)
of_NotHalted net limit h x one NotOver two is = absurd (omega arith)
of_NotHalted net limit h x one NotHalted two is = refl
of_NotHalted net limit h x one NotStuck two is = absurd (omega arith)

of_NotStuck : (net : NetRows) (limit : ℕ) (h : List Entry) (x : Entry) → Breaks net limit h x NotStuck → (other : Break) → Breaks net limit h x other → rank other ≡ 10 → NotStuck ≡ other
of_NotStuck net limit h x one NoSuch two is = absurd (omega arith)
of_NotStuck net limit h x one AfterStuck two is = absurd (omega arith)
of_NotStuck net limit h x one NotReleased two is = absurd (omega arith)
of_NotStuck net limit h x one (OverUnits r) two is = absurd (omega arith)
of_NotStuck net limit h x one OverLimit two is = absurd (omega arith)
of_NotStuck net limit h x one NotOpen two is = absurd (omega arith)
of_NotStuck net limit h x one NotChosen two is = absurd (omega arith)
of_NotStuck net limit h x one (NothingOut r) two is = absurd (omega arith)
of_NotStuck net limit h x one NotOver two is = absurd (omega arith)
of_NotStuck net limit h x one NotHalted two is = absurd (omega arith)
of_NotStuck net limit h x one NotStuck two is = refl

pub one_refusal : (net : NetRows) (limit : ℕ) (h : List Entry) (x : Entry) (b c : Break) → IsRefusal net limit h x b → IsRefusal net limit h x c → b ≡ c
one_refusal net limit h x b c one other = by_rank (cases_lt (rank b) (rank c)) (cases_lt (rank c) (rank b))
  where
    same : (d : Break) → Breaks net limit h x d → rank c ≡ rank d → d ≡ c
    same NoSuch breaks is = of_NoSuch net limit h x breaks c other.breaks is
    same AfterStuck breaks is = of_AfterStuck net limit h x breaks c other.breaks is
    same NotReleased breaks is = of_NotReleased net limit h x breaks c other.breaks is
    same (OverUnits s) breaks is = of_OverUnits net limit h x s breaks c other.breaks is
    same OverLimit breaks is = of_OverLimit net limit h x breaks c other.breaks is
    same NotOpen breaks is = of_NotOpen net limit h x breaks c other.breaks is
    same NotChosen breaks is = of_NotChosen net limit h x breaks c other.breaks is
    same (NothingOut s) breaks is = of_NothingOut net limit h x s breaks c other.breaks is
    same NotOver breaks is = of_NotOver net limit h x breaks c other.breaks is
    same NotHalted breaks is = of_NotHalted net limit h x breaks c other.breaks is
    same NotStuck breaks is = of_NotStuck net limit h x breaks c other.breaks is

    by_rank : (rank b < rank c) ⊎ (rank c ≤ rank b) → (rank c < rank b) ⊎ (rank b ≤ rank c) → b ≡ c
    by_rank (inl less) any = absurd (other.first b less one.breaks)
    by_rank (inr more) (inl less) = absurd (one.first c less other.breaks)
    by_rank (inr more) (inr less) = same b one.breaks (omega arith)
