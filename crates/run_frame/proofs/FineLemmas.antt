-- A run is fine where no entry says that it was cut short.
use Rattle.std.proofs.Common.{◌≡◌, ℕ, zero, suc, ◌+◌, ◌↔◌, Bool, false, cond, List, [], ◌∷◌, refl, sym, ◌∙◌, arith}
use Rattle.std.specs.Prelude.{◌==◌, IsTrue, count_by}
use Rattle.std.proofs.lemmas.Bool.{false≢true}
use Rattle.std.proofs.lemmas.Bool.Decides.{nat_tests}
use Rattle.std.proofs.lemmas.List.Sums.{sum_by-cons}
use Rattle.journal_rules.specs.declared.entry.DropWhy.TheVariants.{Halted, Limit, Stuck}
use Rattle.journal_rules.specs.declared.entry.Entry.{Entry}
use Rattle.journal_rules.specs.declared.entry.Entry.TheVariants.{Start, End, Fault, Drop}
use Rattle.journal_rules.specs.Counts.{faults, is_fault}
use Rattle.journal_rules.specs.Complete.{is_limited}
use Rattle.journal_rules.specs.HaltLimitStuckRule.{is_stuck}
use Rattle.run_frame.specs.Runs.{IsFine}
use Rattle.run_frame.specs.inside.Cuts.{cuts_short}

cons : (p : Entry → Bool) (x : Entry) (h : List Entry) → count_by p (x ∷ h) ≡ cond (p x) 1 0 + count_by p h
cons p x h = sum_by-cons (λ y. cond (p y) 1 0) x h

-- what each entry adds on either side
one_cut : (x : Entry) → cond (cuts_short x) 1 0 ≡ cond (is_fault x) 1 0 + cond (is_limited x) 1 0 + cond (is_stuck x) 1 0
one_cut (Start t c i) = refl
one_cut (End s g b) = refl
one_cut (Fault s w) = refl
one_cut (Drop t c Halted) = refl
one_cut (Drop t c Limit) = refl
one_cut (Drop t c (Stuck s)) = refl

cuts_counted : (h : List Entry) → count_by cuts_short h ≡ faults h + count_by is_limited h + count_by is_stuck h
cuts_counted [] = refl
cuts_counted (x ∷ h) = omega (arith, cuts_counted h, one_cut x, cons cuts_short x h, cons is_fault x h, cons is_limited x h, cons is_stuck x h)

fine_counted : (h : List Entry) → (count_by cuts_short h ≡ 0) ↔ IsFine h
fine_counted h = (
  λ none. record { no_fault = omega (arith, none, cuts_counted h); none_limited = omega (arith, none, cuts_counted h); none_stuck = omega (arith, none, cuts_counted h) },
  λ fine. omega (arith, cuts_counted h, fine.no_fault, fine.none_limited, fine.none_stuck),
)

pub fine_test : (n : ℕ) (h : List Entry) → n ≡ count_by cuts_short h → IsTrue (n == 0) ↔ IsFine h
fine_test zero h is = (λ t. (fine_counted h).0 (sym is), λ fine. refl)
fine_test (suc n) h is = let off : (suc n == 0) ≡ false = grind (arith, nat_tests) in (λ t. absurd (false≢true (sym off ∙ t)), λ fine. absurd (omega (arith, is, (fine_counted h).1 fine)))
