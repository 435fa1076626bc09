-- What the steps on credit words ask is met.
use Rattle.std.proofs.Common.{◌≡◌, ◌⊎◌, inl, inr, ℕ, ◌+◌, ◌-◌, ◌%◌, ◌^◌, ◌<◌, ◌≤◌, Bool, true, false, ◌&&◌, eqb, List, [], ◌∷◌, ◌++◌, length, Option, Some, None, refl, sym, ap, ◌∙◌, arith}
use Rattle.std.specs.Prelude.{slice_index, nat_lt, is_some}
use Rattle.std.specs.Option.{option_map_or}
use Rattle.std.proofs.lemmas.Bool.Decides.{nat_tests}
use Rattle.std.proofs.lemmas.Bool.{cases_lt}
use mathlib.Core.Option.{some}
use lib.ListN.{get_elem?}
use Rattle.atomic_table.specs.Table.{Act, keeps, Valid, carried_after, stepped, Allows}
use Rattle.task_graph.specs.NetRows.{NetRows}
use Rattle.journal_rules.specs.SemaphoreRule.{puts, takes, IsOverRelease}
use Rattle.journal_rules.specs.declared.entry.Entry.{Entry}
use Rattle.journal_rules.specs.Counts.{start_at, started, is_start, starts}
use Rattle.journal_rules.specs.declared.entry.Part.{Part}
use Rattle.table_steps.specs.inside.Duties.{runs, is_run}
use Rattle.table_steps.specs.Giving.{times, one_if}
use Rattle.table_steps.specs.declared.view.TurnDuty.TheVariants.{Open}
use Rattle.table_steps.proofs.Counting.{is_one}
use Rattle.table_steps.proofs.EndDuties.{Runs, runs_of}
use Rattle.table_steps.specs.declared.view.SemaphoreRole.TheVariants.{Held, Undo, Owed, Both, Credit, Credited, Claim, Granted, Refusing, Denied}
use Rattle.table_steps.specs.declared.view.SeatMark.TheVariants.{Live, New, Over, ToMark, Sticking}
use Rattle.table_steps.specs.declared.view.Note.{Note}
use Rattle.table_steps.specs.declared.view.Note.TheVariants.{Duty, Sems, Has, Unfit}
use Rattle.table_steps.specs.inside.Accounts.{Coord, duty, sem, mark, busy, resting, turning, owing, telling, weight, weigh, total, starts_of, reading, KeepsAccounts}
use Rattle.table_steps.specs.Credits.{first_credit, AllowsOver}
use Rattle.table_steps.specs.inside.CreditKinds.{MayCredit, credited, MayClaim, after_claim, claimed, RefusesClaim, MayUnclaim, unclaimed}
use Rattle.table_steps.proofs.Views.{at_most}
use Rattle.table_steps.proofs.Journals.{count_cons}
use Rattle.table_steps.proofs.CreditAccounts.{credits_kept, credits_added, credits_granted, credits_refused, credits_undone, refused_unfit}
use Rattle.table_steps.proofs.UnitSteps.{lowered}
use Rattle.table_steps.proofs.UnitAccounts.{without_fewer}
use Rattle.table_steps.specs.Holding.{without}
use Rattle.table_steps.proofs.CreditReads.{credit_at, credit_read, credit_more, credit_less}
use Rattle.table_steps.proofs.Stepping.{St, Seated, own_lone, still_step, done}

-- what a claim that is refused has found
abbrev pub AllowsOverNow : NetRows → List Entry → ℕ → ℕ → ℕ → Type 0
AllowsOverNow net journal a m t = (start_at journal m ≡ Some t) × IsOverRelease net journal a m t

-- starts of some tasks are no more than all
few_starts : (test : ℕ → Bool) (xs : List Entry) → starts_of test xs ≤ starts xs
few_starts test [] = omega arith
few_starts test (x ∷ xs) = omega (arith, few_starts test xs, count_cons (λ e. option_map_or test (started e) false) x xs, count_cons is_start x xs, one (started x))
  where
    bit : (b : Bool) → one_if b ≤ 1
    bit true = omega arith
    bit false = omega arith

    one : (o : Option ℕ) → one_if (option_map_or test o false) ≤ one_if (is_some o)
    one None = omega arith
    one (Some t) = bit (test t)

-- a credit word is near the first credit
pub credit_small : {S : Type 0} {part : S → List Part} (net : NetRows) (limit : ℕ) (s : St S) (h : KeepsAccounts part net limit s) (a : ℕ) → a < length net.sems → slice_index s.words (40 + length net.sems + a) ≤ first_credit + 2097153
credit_small net limit s h a below = omega (arith, (h.balanced.by_credits a below).tells, credit_at net s.words a below, few_starts (takes net a) h.journal, h.balanced.by_admissions.room, h.fits.limited)

pub credit_there : {S : Type 0} {part : S → List Part} (net : NetRows) (limit : ℕ) (s : St S) (h : KeepsAccounts part net limit s) (a : ℕ) → a < length net.sems → 1 ≤ slice_index s.words (40 + length net.sems + a)
credit_there net limit s h a below = let k = h.balanced.by_credits a below in
    omega (arith, k.tells, k.backed, k.claims, credit_at net s.words a below, few_starts (puts net a) h.journal, h.balanced.by_admissions.room, h.fits.limited)

-- a credit added
pub credit_allowed : {S : Type 0} {part : S → List Part} (net : NetRows) (limit slots id : ℕ) (me : Seated S) (a : ℕ) → MayCredit net a me.0
    → Allows (KeepsAccounts part net limit) slots id me (40 + length net.sems + a) (λ n. (n + 1) % 2 ^ 64) (λ n m. (m.0 ≡ credited a me.0) × (m.1 ≡ me.1))
credit_allowed {S} {part} net limit slots id me a may s h _ at small = from me.0 may at
  where
    from : (v : List Note) → MayCredit net a v → get_elem? s.views id ≡ some v
        → (u : List Note) × (z : Act _) × Valid s.homes me.1 z × KeepsAccounts part net limit (stepped s (40 + length net.sems + a) ((slice_index s.words (40 + length net.sems + a) + 1) % 2 ^ 64) id me.1 u z) × ((u ≡ credited a v) × (carried_after me.1 z ≡ me.1))
    from (Duty (Open m t) ∷ Has Live ∷ Sems Both b ∷ Sems Credit c ∷ Sems Credited d ∷ rest) may at =
        let old = Duty (Open m t) ∷ Has Live ∷ Sems Both b ∷ Sems Credit c ∷ Sems Credited d ∷ [] in let new = Duty (Open m t) ∷ Has Live ∷ Sems Both b ∷ Sems Credit (without a c) ∷ Sems Credited (a ∷ d) ∷ [] in
        let sum : (slice_index s.words (40 + length net.sems + a) + 1) % 18446744073709551616 ≡ slice_index s.words (40 + length net.sems + a) + 1 = omega (arith, credit_small net limit s h a may.1) in
        done net limit s id (40 + length net.sems + a) _ me (new ++ rest) _ refl
        (still_step net limit s h id (40 + length net.sems + a) _ me.1 old new rest _ at refl (λ e b z. omega (arith, may.1))
        (own_lone net h.journal (λ c. total c s.views) old new rest (tt, (tt, (tt, (tt, (tt, tt))))) (omega arith) (omega arith) (omega (arith, may.2))) (omega arith)
        (credit_read net s.words a _ may.1)
        refl (λ moved. credits_kept net limit (reading net s.words) h.counted h.journal (λ c. total c s.views) _ _ h.balanced (record { duties = λ c. omega (arith, moved (duty c)); live = omega (arith, moved (mark Live)); over = omega (arith, moved (mark Over)); to_mark = omega (arith, moved (mark ToMark)); sticking = omega (arith, moved (mark Sticking)); new = omega (arith, moved (mark New)); turning_is = omega (arith, moved turning); owing_is = omega (arith, moved owing) }) (record { held = λ z. omega (arith, moved (sem Held z)); owed = λ z. omega (arith, moved (sem Owed z)); undo = λ z. omega (arith, moved (sem Undo z)) })
        (credits_added net (reading net s.words).credit _ h.journal (λ c. total c s.views) _ a c (without a c) d h.balanced.by_credits (credit_more net s.words a _ may.1 (omega (arith, h.size, may.1)) sum) (without_fewer a c may.0) (λ c. omega (arith, moved c)))))
    from v may at = absurd may

-- the start of a seat runs
pub runs_seat : {S : Type 0} {part : S → List Part} (net : NetRows) (limit : ℕ) (s : St S) (h : KeepsAccounts part net limit s) (id m t : ℕ) (v rest : List Note) → v ≡ Duty (Open m t) ∷ rest → get_elem? s.views id ≡ some v → Runs h.journal m t
runs_seat net limit s h id m t v rest is at =
    let hit : eqb m m ≡ true = grind (arith, nat_tests) in let hit_t : eqb t t ≡ true = grind (arith, nat_tests) in
    let self : one_if (eqb m m && eqb t t) ≡ 1 = rw (hit, hit_t) refl in
    runs_of h.journal m t (is_one (is_run h.journal m t) (omega (arith, h.balanced.by_journal.opens m t, at_most (duty (runs m t)) s.views id v at, ap (weigh (duty (runs m t))) is, self)))

claim_got : {S : Type 0} {part : S → List Part} (net : NetRows) (limit : ℕ) (s : St S) (h : KeepsAccounts part net limit s) (id a k m t : ℕ) (carried : List (ℕ × S)) (b c d l g : List ℕ) (rest : List Note) → a < length net.sems → 1 ≤ times a l → weigh resting rest ≡ 0
    → get_elem? s.views id ≡ some (Duty (Open m t) ∷ Has Live ∷ Sems Both b ∷ Sems Credit c ∷ Sems Credited d ∷ Sems Claim l ∷ Sems Granted g ∷ rest) → k + 1 ≡ slice_index s.words (40 + length net.sems + a) → first_credit < slice_index s.words (40 + length net.sems + a)
    → KeepsAccounts part net limit (stepped s (40 + length net.sems + a) k id carried (Duty (Open m t) ∷ Has Live ∷ Sems Both b ∷ Sems Credit c ∷ Sems Credited d ∷ Sems Claim (without a l) ∷ Sems Granted (a ∷ g) ∷ rest) keeps)
claim_got net limit s h id a k m t carried b c d l g rest below there lone at less found =
    let old = Duty (Open m t) ∷ Has Live ∷ Sems Both b ∷ Sems Credit c ∷ Sems Credited d ∷ Sems Claim l ∷ Sems Granted g ∷ [] in let new = Duty (Open m t) ∷ Has Live ∷ Sems Both b ∷ Sems Credit c ∷ Sems Credited d ∷ Sems Claim (without a l) ∷ Sems Granted (a ∷ g) ∷ [] in
    still_step net limit s h id (40 + length net.sems + a) k carried old new rest _ at refl (λ e b z. omega (arith, below))
    (own_lone net h.journal (λ c. total c s.views) old new rest (tt, (tt, (tt, (tt, (tt, (tt, (tt, tt))))))) (omega arith) (omega arith) (omega (arith, lone))) (omega arith)
    (credit_read net s.words a k below)
    refl (λ moved. credits_kept net limit (reading net s.words) h.counted h.journal (λ c. total c s.views) _ _ h.balanced (record { duties = λ c. omega (arith, moved (duty c)); live = omega (arith, moved (mark Live)); over = omega (arith, moved (mark Over)); to_mark = omega (arith, moved (mark ToMark)); sticking = omega (arith, moved (mark Sticking)); new = omega (arith, moved (mark New)); turning_is = omega (arith, moved turning); owing_is = omega (arith, moved owing) }) (record { held = λ z. omega (arith, moved (sem Held z)); owed = λ z. omega (arith, moved (sem Owed z)); undo = λ z. omega (arith, moved (sem Undo z)) })
    (credits_granted net (reading net s.words).credit _ h.journal (λ c. total c s.views) _ a l (without a l) g h.balanced.by_credits (credit_less net s.words a k below (omega (arith, h.size, below)) less) (without_fewer a l there) (omega (arith, found, credit_at net s.words a below)) (λ c. omega (arith, moved c))))

-- the journal at the moment of a claim that finds no credit allows a Fault for an over-release
claim_over : {S : Type 0} {part : S → List Part} (net : NetRows) (limit : ℕ) (s : St S) (h : KeepsAccounts part net limit s) (id a m t : ℕ) (b c d l g : List ℕ) (rest : List Note) → a < length net.sems → 1 ≤ times a l → puts net a t ≡ true
    → get_elem? s.views id ≡ some (Duty (Open m t) ∷ Has Live ∷ Sems Both b ∷ Sems Credit c ∷ Sems Credited d ∷ Sems Claim l ∷ Sems Granted g ∷ rest) → slice_index s.words (40 + length net.sems + a) ≤ first_credit → AllowsOverNow net h.journal a m t
claim_over net limit s h id a m t b c d l g rest below there puts_it at found =
    let v = Duty (Open m t) ∷ Has Live ∷ Sems Both b ∷ Sems Credit c ∷ Sems Credited d ∷ Sems Claim l ∷ Sems Granted g ∷ rest in
    let r = runs_seat net limit s h id m t v _ refl at in (
      r.there,
      refused_unfit net ((reading net s.words).credit a) h.journal (λ c. total c s.views) a m t (h.balanced.by_credits a below) (omega (arith, found, credit_at net s.words a below))
          (omega (arith, at_most (sem Claim a) s.views id v at, there)) r.below r.there puts_it,
    )

claim_lost : {S : Type 0} {part : S → List Part} (net : NetRows) (limit : ℕ) (s : St S) (h : KeepsAccounts part net limit s) (id a k m t : ℕ) (carried : List (ℕ × S)) (b c d l g : List ℕ) (rest : List Note) → a < length net.sems → 1 ≤ times a l → weigh resting rest ≡ 0 → AllowsOverNow net h.journal a m t
    → get_elem? s.views id ≡ some (Duty (Open m t) ∷ Has Live ∷ Sems Both b ∷ Sems Credit c ∷ Sems Credited d ∷ Sems Claim l ∷ Sems Granted g ∷ rest) → k + 1 ≡ slice_index s.words (40 + length net.sems + a)
    → KeepsAccounts part net limit (stepped s (40 + length net.sems + a) k id carried (Duty (Open m t) ∷ Has Live ∷ Sems Both b ∷ Sems Credit c ∷ Sems Credited d ∷ Sems Claim (without a l) ∷ Sems Granted g ∷ Sems Refusing (a ∷ []) ∷ Unfit a m t ∷ rest) keeps)
claim_lost net limit s h id a k m t carried b c d l g rest below there lone over at less =
    let old = Duty (Open m t) ∷ Has Live ∷ Sems Both b ∷ Sems Credit c ∷ Sems Credited d ∷ Sems Claim l ∷ Sems Granted g ∷ [] in let new = Duty (Open m t) ∷ Has Live ∷ Sems Both b ∷ Sems Credit c ∷ Sems Credited d ∷ Sems Claim (without a l) ∷ Sems Granted g ∷ Sems Refusing (a ∷ []) ∷ Unfit a m t ∷ [] in
    still_step net limit s h id (40 + length net.sems + a) k carried old new rest _ at refl (λ e b z. omega (arith, below))
    (own_lone net h.journal (λ c. total c s.views) old new rest (tt, (tt, (tt, (tt, (tt, (tt, (tt, (tt, (over, tt))))))))) (omega arith) (omega arith) (omega (arith, lone))) (omega arith)
    (credit_read net s.words a k below)
    refl (λ moved. credits_kept net limit (reading net s.words) h.counted h.journal (λ c. total c s.views) _ _ h.balanced (record { duties = λ c. omega (arith, moved (duty c)); live = omega (arith, moved (mark Live)); over = omega (arith, moved (mark Over)); to_mark = omega (arith, moved (mark ToMark)); sticking = omega (arith, moved (mark Sticking)); new = omega (arith, moved (mark New)); turning_is = omega (arith, moved turning); owing_is = omega (arith, moved owing) }) (record { held = λ z. omega (arith, moved (sem Held z)); owed = λ z. omega (arith, moved (sem Owed z)); undo = λ z. omega (arith, moved (sem Undo z)) })
    (credits_refused net (reading net s.words).credit _ h.journal (λ c. total c s.views) _ a l (without a l) h.balanced.by_credits (credit_less net s.words a k below (omega (arith, h.size, below)) less) (without_fewer a l there) (λ c. omega (arith, moved c, free c))))
  where
    free : (c : Coord) → weight c (Unfit a m t) ≡ 0
    free (duty c) = refl
    free (sem q z) = refl
    free (mark q) = refl
    free busy = refl
    free resting = refl
    free turning = refl
    free owing = refl
    free telling = refl

-- a claim
pub claim_allowed : {S : Type 0} {part : S → List Part} (net : NetRows) (limit slots id : ℕ) (me : Seated S) (a : ℕ) → MayClaim net a me.0
    → Allows (KeepsAccounts part net limit) slots id me (40 + length net.sems + a) (λ n. (n + (2 ^ 64 - 1)) % 2 ^ 64) (λ n m. (m.0 ≡ claimed a n me.0) × (m.1 ≡ me.1) × (n ≤ first_credit → RefusesClaim net limit a me.0))
claim_allowed {S} {part} net limit slots id me a may s h _ at small = from me.0 may at
  where
    n : ℕ
    n = slice_index s.words (40 + length net.sems + a)

    from : (v : List Note) → MayClaim net a v → get_elem? s.views id ≡ some v
        → (u : List Note) × (z : Act _) × Valid s.homes me.1 z × KeepsAccounts part net limit (stepped s (40 + length net.sems + a) ((slice_index s.words (40 + length net.sems + a) + 18446744073709551615) % 2 ^ 64) id me.1 u z) × ((u ≡ claimed a (slice_index s.words (40 + length net.sems + a)) v) × (carried_after me.1 z ≡ me.1) × (slice_index s.words (40 + length net.sems + a) ≤ first_credit → RefusesClaim net limit a v))
    from (Duty (Open m t) ∷ Has Live ∷ Sems Both b ∷ Sems Credit c ∷ Sems Credited d ∷ Sems Claim l ∷ Sems Granted g ∷ rest) may at = by_room (cases_lt first_credit n)
      where
        less : (n + 18446744073709551615) % 18446744073709551616 + 1 ≡ n
        less = lowered n 0 (credit_there net limit s h a may.1) small

        front : List Note
        front = Duty (Open m t) ∷ Has Live ∷ Sems Both b ∷ Sems Credit c ∷ Sems Credited d ∷ []

        by_room : (first_credit < n) ⊎ (n ≤ first_credit)
            → (u : List Note) × (z : Act _) × Valid s.homes me.1 z × KeepsAccounts part net limit (stepped s (40 + length net.sems + a) ((n + 18446744073709551615) % 18446744073709551616) id me.1 u z) × ((u ≡ front ++ after_claim (nat_lt first_credit n) a m t l g ++ rest) × (carried_after me.1 z ≡ me.1) × (n ≤ first_credit → AllowsOver net limit a m t))
        by_room (inl more) = let is : nat_lt first_credit n ≡ true = grind (arith, nat_tests) in
            (_, keeps, tt, claim_got net limit s h id a _ m t me.1 b c d l g rest may.1 may.0 may.3 at less more, ((λ j. front ++ after_claim (sym is j) a m t l g ++ rest), refl, λ none. absurd (omega (arith, none, more))))
        by_room (inr none) = let is : nat_lt first_credit n ≡ false = grind (arith, nat_tests) in
            let over = claim_over net limit s h id a m t b c d l g rest may.1 may.0 may.2 at none in
            (_, keeps, tt, claim_lost net limit s h id a _ m t me.1 b c d l g rest may.1 may.0 may.3 over at less, ((λ j. front ++ after_claim (sym is j) a m t l g ++ rest), refl, λ _. record { journal = h.journal; legal = h.balanced.by_journal.legal; start = over.0; over = over.1 }))
    from v may at = absurd may

-- a claim undone
pub unclaim_allowed : {S : Type 0} {part : S → List Part} (net : NetRows) (limit slots id : ℕ) (me : Seated S) (a : ℕ) → MayUnclaim net a me.0
    → Allows (KeepsAccounts part net limit) slots id me (40 + length net.sems + a) (λ n. (n + 1) % 2 ^ 64) (λ n m. (m.0 ≡ unclaimed me.0) × (m.1 ≡ me.1))
unclaim_allowed {S} {part} net limit slots id me a may s h _ at small = from me.0 may at
  where
    from : (v : List Note) → MayUnclaim net a v → get_elem? s.views id ≡ some v
        → (u : List Note) × (z : Act _) × Valid s.homes me.1 z × KeepsAccounts part net limit (stepped s (40 + length net.sems + a) ((slice_index s.words (40 + length net.sems + a) + 1) % 2 ^ 64) id me.1 u z) × ((u ≡ unclaimed v) × (carried_after me.1 z ≡ me.1))
    from (Duty (Open m t) ∷ Has Live ∷ Sems Both b ∷ Sems Credit c ∷ Sems Credited d ∷ Sems Claim l ∷ Sems Granted g ∷ Sems Refusing (z ∷ []) ∷ rest) may at =
        let front = Duty (Open m t) ∷ Has Live ∷ Sems Both b ∷ Sems Credit c ∷ Sems Credited d ∷ Sems Claim l ∷ Sems Granted g ∷ [] in
        let at_a : get_elem? s.views id ≡ some (front ++ Sems Refusing (a ∷ []) ∷ rest) = at ∙ ap (λ k. some (front ++ Sems Refusing (k ∷ []) ∷ rest)) may.0 in
        let sum : (slice_index s.words (40 + length net.sems + a) + 1) % 18446744073709551616 ≡ slice_index s.words (40 + length net.sems + a) + 1 = omega (arith, credit_small net limit s h a may.1) in
        done net limit s id (40 + length net.sems + a) _ me (front ++ Sems Denied (a ∷ []) ∷ rest) _ (λ j. front ++ Sems Denied (sym may.0 j ∷ []) ∷ rest)
        (still_step net limit s h id (40 + length net.sems + a) _ me.1 (front ++ Sems Refusing (a ∷ []) ∷ []) (front ++ Sems Denied (a ∷ []) ∷ []) rest _ at_a refl (λ e b z. omega (arith, may.1))
        (own_lone net h.journal (λ c. total c s.views) (front ++ Sems Refusing (a ∷ []) ∷ []) (front ++ Sems Denied (a ∷ []) ∷ []) rest (tt, (tt, (tt, (tt, (tt, (tt, (tt, (tt, tt)))))))) (omega arith) (omega arith) (omega (arith, may.2))) (omega arith)
        (credit_read net s.words a _ may.1)
        refl (λ moved. credits_kept net limit (reading net s.words) h.counted h.journal (λ c. total c s.views) _ _ h.balanced (record { duties = λ c. omega (arith, moved (duty c)); live = omega (arith, moved (mark Live)); over = omega (arith, moved (mark Over)); to_mark = omega (arith, moved (mark ToMark)); sticking = omega (arith, moved (mark Sticking)); new = omega (arith, moved (mark New)); turning_is = omega (arith, moved turning); owing_is = omega (arith, moved owing) }) (record { held = λ z. omega (arith, moved (sem Held z)); owed = λ z. omega (arith, moved (sem Owed z)); undo = λ z. omega (arith, moved (sem Undo z)) })
        (credits_undone net (reading net s.words).credit _ h.journal (λ c. total c s.views) _ a h.balanced.by_credits (credit_more net s.words a _ may.1 (omega (arith, h.size, may.1)) sum) (λ c. omega (arith, moved c)))))
    from v may at = absurd may
