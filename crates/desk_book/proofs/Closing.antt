-- What the passes of a finished desk have kept.
use Rattle.std.proofs.Common.{◌≡◌, ◌∙◌, ◌≢◌, ◌⊎◌, inl, inr, ℕ, zero, suc, ◌+◌, ◌<◌, ◌≤◌, Bool, true, false, cond, eqb, List, [], ◌∷◌, length, length-set, filter, set, Option, Some, None, refl, sym, ap, subst, arith}
use Rattle.std.specs.Prelude.{slice_get, sum_by, IsSomeAnd}
use Rattle.std.specs.List.{AllByRecursion}
use Rattle.std.proofs.lemmas.Bool.{cases_eq}
use Rattle.std.proofs.lemmas.Bool.Decides.{nat_tests}
use Rattle.std.proofs.lemmas.List.Sums.{sum_by-cons}
use Rattle.atomic_table.specs.Seated.{TableId}
use Rattle.desk_book.specs.declared.entry.Ask.{Ask}
use Rattle.desk_book.specs.declared.entry.DeskEntry.{DeskEntry}
use Rattle.desk_book.specs.Histories.{asks_of, asks_by}
use Rattle.desk_book.specs.Taking.{HasSeen}
use Rattle.desk_book.specs.Passes.{PassState, IsTicketOf, HasLooked, AllLooked, HaveSeen, HaveTickets, seen, kept}
use Rattle.desk_book.specs.States.{DeskKey}
use Rattle.desk_book.specs.Desks.{ArePassesOf}
use Rattle.desk_book.proofs.Lists.{some_same, get_in_range, get_set_same, get_set_other}

all_of_gets : {X : Type 0} (P : X → Type 0) (xs : List X) → ((k : ℕ) (x : X) → slice_get xs k ≡ Some x → P x) → AllByRecursion P xs
all_of_gets P [] each = tt
all_of_gets P (x ∷ xs) each = (each 0 x refl, all_of_gets P xs (λ k y at. each (suc k) y at))

pub all_at : {X : Type 0} (P : X → Type 0) (xs : List X) (k : ℕ) (y : X) → slice_get xs k ≡ Some y → AllByRecursion P xs → P y
all_at P [] k y at h = absurd (cc)
all_at P (x ∷ xs) zero y at h = subst P (some_same at) h.0
all_at P (x ∷ xs) (suc k) y at h = all_at P xs k y at h.1

-- each pass has a ticket of the desk
pub tickets_at : {J : Type 0} (desk : DeskKey J) (passes : List PassState) (r : TableId) → ArePassesOf desk passes → desk.register ≡ r → HaveTickets r passes
tickets_at desk passes r own same = subst (λ t. HaveTickets t passes) same (all_of_gets (λ (p : PassState). IsTicketOf desk.register p.ticket) passes (λ c p at. (own.each c p at).0.ticket))

-- The passes below a place have looked, and the others are as they were.
pub record LookedBelow (register : TableId) (history : List DeskEntry) (old new : List PassState) (at : ℕ) : Type 0 where
  pub tickets : HaveTickets register new
  pub count : length new ≡ length old
  pub as_before : (c : ℕ) → at ≤ c → slice_get new c ≡ slice_get old c
  pub looked : (c : ℕ) (before after : PassState) → c < at → slice_get old c ≡ Some before → slice_get new c ≡ Some after → HasLooked register history before after

all_set : {X : Type 0} (P : X → Type 0) (xs : List X) (k : ℕ) (y : X) → AllByRecursion P xs → P y → AllByRecursion P (set xs k y)
all_set P [] k y h is = tt
all_set P (x ∷ xs) zero y h is = (is, h.1)
all_set P (x ∷ xs) (suc k) y h is = (h.0, all_set P xs k y h.1 is)

pub looked_more : (register : TableId) (history : List DeskEntry) (old mid new : List PassState) (at : ℕ) → LookedBelow register history old mid at →
    IsSomeAnd (slice_get mid at) (λ was. (now : PassState) × (new ≡ set mid at now) × HasLooked register history was now) → LookedBelow register history old new (at + 1)
looked_more register history old mid new at h there = by_there (slice_get mid at) refl there
  where
    by_there : (o : Option PassState) → slice_get mid at ≡ o → IsSomeAnd o (λ was. (now : PassState) × (new ≡ set mid at now) × HasLooked register history was now) → LookedBelow register history old new (at + 1)
    by_there None is there_is = absurd there_is
    by_there (Some was) is there_is = rw there_is.1 record {
      tickets = all_set (λ (p : PassState). IsTicketOf register p.ticket) mid at there_is.0 h.tickets there_is.2.ticket;
      count = length-set mid at there_is.0 ∙ h.count;
      as_before = λ c above. get_set_other mid at c there_is.0 (λ e. omega (arith, above, e)) ∙ h.as_before c (omega (arith, above));
      looked = each;
    }
      where
        each : (c : ℕ) (before after : PassState) → c < at + 1 → slice_get old c ≡ Some before → slice_get (set mid at there_is.0) c ≡ Some after → HasLooked register history before after
        each c before after below at_old at_new = by_case (cases_eq c at)
          where
            by_case : (c ≡ at) ⊎ (c ≢ at) → HasLooked register history before after
            by_case (inl e) =
                let is_was : was ≡ before = some_same (sym is ∙ h.as_before at (omega arith) ∙ ap (slice_get old) (sym e) ∙ at_old) in
                let is_now : there_is.0 ≡ after = some_same (sym (get_set_same mid at was there_is.0 is) ∙ ap (slice_get (set mid at there_is.0)) (sym e) ∙ at_new) in
                subst (λ p. HasLooked register history p after) is_was (subst (HasLooked register history was) is_now there_is.2)
            by_case (inr other) = h.looked c before after (omega (arith, below, other)) at_old (sym (get_set_other mid at c there_is.0 other) ∙ at_new)

pub all_looked : (register : TableId) (history : List DeskEntry) (old new : List PassState) (at : ℕ) → length old ≤ at → LookedBelow register history old new at → AllLooked register history old new
all_looked register history old new at past h = record {
  count = h.count;
  each = λ c before after at_old at_new. h.looked c before after (let below = get_in_range old c before at_old in omega (arith, below, past)) at_old at_new;
}

-- how many of these asks are of callers from a number on, so many
abbrev sum_of_callers : List Ask → ℕ → ℕ → ℕ
sum_of_callers asks low zero = 0
sum_of_callers asks low (suc n) = length (filter (λ (a : Ask). eqb a.caller low) asks) + sum_of_callers asks (suc low) n

abbrev one_of : Ask → ℕ → ℕ → ℕ
one_of a low zero = 0
one_of a low (suc n) = cond (eqb a.caller low) 1 0 + one_of a (suc low) n

both_zero : (a b : ℕ) → a ≡ 0 → b ≡ 0 → a + b ≡ 0
both_zero a b first rest = omega arith

sum_nil : (low n : ℕ) → sum_of_callers [] low n ≡ 0
sum_nil low zero = refl
sum_nil low (suc n) = both_zero 0 (sum_of_callers [] (suc low) n) refl (sum_nil (suc low) n)

length_if : (b : Bool) (a : Ask) (rest : List Ask) → length (cond b (a ∷ rest) rest) ≡ cond b 1 0 + length rest
length_if true a rest = omega arith
length_if false a rest = omega arith

sum_cons : (a : Ask) (asks : List Ask) (low n : ℕ) → sum_of_callers (a ∷ asks) low n ≡ one_of a low n + sum_of_callers asks low n
sum_cons a asks low zero = refl
sum_cons a asks low (suc n) =
    added (length (filter (λ (x : Ask). eqb x.caller low) (a ∷ asks))) (cond (eqb a.caller low) 1 0) (length (filter (λ (x : Ask). eqb x.caller low) asks)) (sum_of_callers (a ∷ asks) (suc low) n) (one_of a (suc low) n) (sum_of_callers asks (suc low) n)
    (length_if (eqb a.caller low) a (filter (λ (x : Ask). eqb x.caller low) asks)) (sum_cons a asks (suc low) n)
  where
    added : (f c g s o t : ℕ) → f ≡ c + g → s ≡ o + t → f + s ≡ c + o + (g + t)
    added f c g s o t first rest = omega arith

no_hit : (b : Bool) (rest : ℕ) → b ≡ false → rest ≡ 0 → cond b 1 0 + rest ≡ 0
no_hit true rest is zeroth = absurd (cc)
no_hit false rest is zeroth = omega (arith, zeroth)

one_below : (a : Ask) (low n : ℕ) → a.caller < low → one_of a low n ≡ 0
one_below a low zero below = refl
one_below a low (suc n) below = no_hit (eqb a.caller low) (one_of a (suc low) n) (grind (arith, nat_tests)) (one_below a (suc low) n (omega (arith, below)))

hit_or_rest : (a : Ask) (low rest : ℕ) → (a.caller ≡ low → rest ≡ 0) → (a.caller ≢ low → rest ≡ 1) → cond (eqb a.caller low) 1 0 + rest ≡ 1
hit_or_rest a low rest hit miss = by_test (eqb a.caller low) refl
  where
    by_test : (b : Bool) → eqb a.caller low ≡ b → cond b 1 0 + rest ≡ 1
    by_test true is = let none : rest ≡ 0 = hit (grind (arith, nat_tests)) in omega (arith, none)
    by_test false is = let one : rest ≡ 1 = miss (grind (arith, nat_tests)) in omega (arith, one)

one_in : (a : Ask) (low n : ℕ) → low ≤ a.caller → a.caller < low + n → one_of a low n ≡ 1
one_in a low zero above below = absurd (omega (arith, above, below))
one_in a low (suc n) above below = hit_or_rest a low (one_of a (suc low) n) (λ same. one_below a (suc low) n (omega (arith, same))) (λ other. one_in a (suc low) n (omega (arith, above, other)) (omega (arith, below)))

-- each ask is of one caller
all_counted : (asks : List Ask) (callers : ℕ) → ((n : ℕ) (a : Ask) → slice_get asks n ≡ Some a → a.caller < callers) → sum_of_callers asks 0 callers ≡ length asks
all_counted [] callers each = sum_nil 0 callers
all_counted (a ∷ asks) callers each =
    counted (sum_of_callers (a ∷ asks) 0 callers) (one_of a 0 callers) (sum_of_callers asks 0 callers) (length asks) (sum_cons a asks 0 callers) (one_in a 0 callers (omega arith) (let below = each 0 a refl in omega (arith, below))) (all_counted asks callers (λ n x at. each (suc n) x at))
  where
    counted : (s o r l : ℕ) → s ≡ o + r → o ≡ 1 → r ≡ l → s ≡ suc l
    counted s o r l first one rest = omega arith

-- the asks of the callers from a number on are those that their passes have kept
kept_from : (history : List DeskEntry) (passes : List PassState) (low : ℕ) → ((c : ℕ) (p : PassState) → slice_get passes c ≡ Some p → asks_by (low + c) history ≡ kept p) → sum_of_callers (asks_of history) low (length passes) ≡ sum_by (λ p. length (kept p)) passes
kept_from history [] low each = refl
kept_from history (p ∷ passes) low each =
    added (length (asks_by low history)) (length (kept p)) (sum_of_callers (asks_of history) (suc low) (length passes)) (sum_by (λ q. length (kept q)) passes)
    (ap length (subst (λ k. asks_by k history ≡ kept p) (let e : low + 0 ≡ low = omega arith in e) (each 0 p refl)))
    (kept_from history passes (suc low) (λ c q at. subst (λ k. asks_by k history ≡ kept q) (let e : low + suc c ≡ suc low + c = omega arith in e) (each (suc c) q at)))
    ∙ sym (sum_by-cons (λ q. length (kept q)) p passes)
  where
    added : (a b c d : ℕ) → a ≡ b → c ≡ d → a + c ≡ b + d
    added a b c d first rest = omega arith

module _ {J : Type 0} (desk : DeskKey J) (passes : List PassState) (own : ArePassesOf desk passes) (history : List DeskEntry) (have : HaveSeen history passes) where
  pub kept_all : (c : ℕ) (pass : PassState) → slice_get passes c ≡ Some pass → asks_by c history ≡ kept pass
  kept_all c p at = subst (λ k. asks_by k history ≡ kept p) (own.each c p at).1 (all_at (λ (q : PassState). HasSeen history q.caller (seen q)) passes c p at have).1

  pub together : ((n : ℕ) (a : Ask) → slice_get (asks_of history) n ≡ Some a → a.caller < desk.callers) → length (asks_of history) ≡ sum_by (λ p. length (kept p)) passes
  together each =
      sym (all_counted (asks_of history) desk.callers each) ∙ ap (sum_of_callers (asks_of history) 0) (sym own.count)
      ∙ kept_from history passes 0 (λ c p at. subst (λ k. asks_by k history ≡ kept p) (let e : c ≡ 0 + c = omega arith in e) (kept_all c p at))
