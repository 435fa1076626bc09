-- What the credit words say, after one is set.
use Rattle.std.proofs.Common.{◌≡◌, ℕ, ◌+◌, ◌<◌, true, List, length, set, sym, refl, ap, ◌∙◌, arith, get_or-set_same}
use Rattle.std.specs.Prelude.{slice_index, nat_lt}
use Rattle.std.proofs.lemmas.Bool.Decides.{nat_tests}
use Rattle.task_graph.specs.NetRows.{NetRows}
use Rattle.table_steps.specs.inside.Duties.{Raised}
use Rattle.table_steps.specs.inside.Accounts.{reading, tokens_from, with_credit}
use Rattle.table_steps.proofs.Reading.{tells_is, else_word, else_edge, else_unit, else_credit}
use Rattle.table_steps.proofs.Raising.{raised_by}

pub credit_at : (net : NetRows) (words : List ℕ) (a : ℕ) → a < length net.sems → (reading net words).credit a ≡ slice_index words (40 + length net.sems + a)
credit_at net words a below = let is : nat_lt a (length net.sems) ≡ true = grind (arith, nat_tests) in rw is refl

pub credit_read : (net : NetRows) (words : List ℕ) (a k : ℕ) → a < length net.sems → reading net (set words (40 + length net.sems + a) k) ≡ with_credit (reading net words) ((reading net (set words (40 + length net.sems + a) k)).credit)
credit_read net words a k below = tells_is _ _ (else_word words (40 + length net.sems + a) k 8 (λ z. omega arith)) (else_word words (40 + length net.sems + a) k 16 (λ z. omega arith)) (else_word words (40 + length net.sems + a) k 24 (λ z. omega arith)) (else_word words (40 + length net.sems + a) k 32 (λ z. omega arith))
    (λ s. else_unit net words (40 + length net.sems + a) k s (λ b z. omega arith)) (λ s. refl)
    (λ e. else_edge net words (40 + length net.sems + a) k e (λ z. omega arith)) (λ t. else_word words (40 + length net.sems + a) k (tokens_from net + length net.edges + t) (λ z. omega arith))

pub credit_more : (net : NetRows) (words : List ℕ) (a k : ℕ) → a < length net.sems → 40 + length net.sems + a < length words → k ≡ slice_index words (40 + length net.sems + a) + 1 → Raised ((reading net words).credit) a ((reading net (set words (40 + length net.sems + a) k)).credit)
credit_more net words a k below inside is = raised_by _ _ a (λ s other. else_credit net words (40 + length net.sems + a) k s (λ b z. other (omega arith)))
    (credit_at net (set words (40 + length net.sems + a) k) a below ∙ get_or-set_same words (40 + length net.sems + a) k 0 inside ∙ is ∙ ap (λ n. n + 1) (sym (credit_at net words a below)))

pub credit_less : (net : NetRows) (words : List ℕ) (a k : ℕ) → a < length net.sems → 40 + length net.sems + a < length words → k + 1 ≡ slice_index words (40 + length net.sems + a) → Raised ((reading net (set words (40 + length net.sems + a) k)).credit) a ((reading net words).credit)
credit_less net words a k below inside is = raised_by _ _ a (λ s other. sym (else_credit net words (40 + length net.sems + a) k s (λ b z. other (omega arith))))
    (credit_at net words a below ∙ sym is ∙ ap (λ n. n + 1) (sym (credit_at net (set words (40 + length net.sems + a) k) a below ∙ get_or-set_same words (40 + length net.sems + a) k 0 inside)))
