-- Numbers that steps of a rest may find. Where two numbers leave the same notes, the same is answered for both.
use Rattle.std.proofs.Common.{◌≡◌, ℕ, ◌≤◌, Bool, true, false, eqb, List, [], ◌∷◌, ◌++◌, length, refl, ap, ◌∙◌, sym, arith}
use Rattle.std.specs.Prelude.{nat_lt}
use Rattle.std.proofs.lemmas.Bool.Decides.{nat_tests}
use Rattle.task_graph.specs.NetRows.{NetRows}
use Rattle.journal_rules.specs.SemaphoreRule.{max_of}
use Rattle.table_steps.specs.declared.view.Note.{Note}
use Rattle.table_steps.specs.declared.view.Note.TheVariants.{Sems, Has}
use Rattle.table_steps.specs.declared.view.SeatMark.TheVariants.{Live, Alone}
use Rattle.table_steps.specs.declared.view.SemaphoreRole.TheVariants.{Full}
use Rattle.table_steps.specs.inside.Accounts.{mark, weigh}
use Rattle.table_steps.specs.inside.RestKinds.{alone_notes, live_found, full_with, with_unit_asked}

-- A rest is alone exactly if it found the number of its own turns. If one of two numbers is that one, both are.
alone_by_both : (n m : ℕ) (notes : List Note) → live_found n notes ≡ live_found m notes → n ≡ weigh (mark Live) notes → m ≡ weigh (mark Live) notes
alone_by_both n m notes same is =
    let hit : eqb n (weigh (mark Live) notes) ≡ true = grind (arith, nat_tests) in
    by_test (eqb m (weigh (mark Live) notes)) refl (ap (λ b. alone_notes b ++ notes) (sym hit) ∙ same)
  where
    by_test : (b : Bool) → eqb m (weigh (mark Live) notes) ≡ b → alone_notes true ++ notes ≡ alone_notes b ++ notes → m ≡ weigh (mark Live) notes
    by_test true test e = grind (arith, nat_tests)
    by_test false test e = absurd (omega (arith, ap length e))

-- A semaphore has no unit left exactly if its maximum is taken. If that is so by one of two numbers, it is by both.
abbrev all_taken : List Note → List ℕ
all_taken (Sems Full l ∷ rest) = l
all_taken notes = []

full_by_both : (net : NetRows) (a n m : ℕ) (l : List ℕ) (rest : List Note) → with_unit_asked net a n (Sems Full l ∷ rest) ≡ with_unit_asked net a m (Sems Full l ∷ rest) → max_of net a ≤ n → max_of net a ≤ m
full_by_both net a n m l rest same most =
    let none : nat_lt n (max_of net a) ≡ false = grind (arith, nat_tests) in
    by_test (nat_lt m (max_of net a)) refl (ap (λ b. full_with b a l) (sym none) ∙ ap all_taken same)
  where
    by_test : (b : Bool) → nat_lt m (max_of net a) ≡ b → full_with false a l ≡ full_with b a l → max_of net a ≤ m
    by_test true test e = absurd (omega (arith, ap length e))
    by_test false test e = grind (arith, nat_tests)
