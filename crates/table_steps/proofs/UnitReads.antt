-- What the unit words say, after one is set.
use Rattle.std.proofs.Common.{◌≡◌, ℕ, ◌+◌, ◌<◌, true, List, length, set, sym, refl, ap, ◌∙◌, arith, get_or-set_same}
use Rattle.std.specs.Prelude.{slice_index, nat_lt}
use Rattle.std.proofs.lemmas.Bool.Decides.{nat_tests}
use Rattle.task_graph.specs.NetRows.{NetRows}
use Rattle.table_steps.specs.inside.Duties.{Raised}
use Rattle.table_steps.specs.inside.Accounts.{reading, tokens_from, with_unit}
use Rattle.table_steps.proofs.Reading.{tells_is, else_word, else_edge, else_unit, else_credit}
use Rattle.table_steps.proofs.Raising.{raised_by}

pub unit_at : (net : NetRows) (words : List ℕ) (a : ℕ) → a < length net.sems → (reading net words).unit a ≡ slice_index words (40 + a)
unit_at net words a below = let is : nat_lt a (length net.sems) ≡ true = grind (arith, nat_tests) in rw is refl

pub unit_read : (net : NetRows) (words : List ℕ) (a k : ℕ) → a < length net.sems → reading net (set words (40 + a) k) ≡ with_unit (reading net words) ((reading net (set words (40 + a) k)).unit)
unit_read net words a k below = tells_is _ _ (else_word words (40 + a) k 8 (λ z. omega arith)) (else_word words (40 + a) k 16 (λ z. omega arith)) (else_word words (40 + a) k 24 (λ z. omega arith)) (else_word words (40 + a) k 32 (λ z. omega arith))
    (λ s. refl) (λ s. else_credit net words (40 + a) k s (λ b z. omega arith))
    (λ e. else_edge net words (40 + a) k e (λ z. omega arith)) (λ t. else_word words (40 + a) k (tokens_from net + length net.edges + t) (λ z. omega arith))

pub unit_more : (net : NetRows) (words : List ℕ) (a k : ℕ) → a < length net.sems → 40 + a < length words → k ≡ slice_index words (40 + a) + 1 → Raised ((reading net words).unit) a ((reading net (set words (40 + a) k)).unit)
unit_more net words a k below inside is = raised_by _ _ a (λ s other. else_unit net words (40 + a) k s (λ b z. other (omega arith)))
    (unit_at net (set words (40 + a) k) a below ∙ get_or-set_same words (40 + a) k 0 inside ∙ is ∙ ap (λ n. n + 1) (sym (unit_at net words a below)))

pub unit_less : (net : NetRows) (words : List ℕ) (a k : ℕ) → a < length net.sems → 40 + a < length words → k + 1 ≡ slice_index words (40 + a) → Raised ((reading net (set words (40 + a) k)).unit) a ((reading net words).unit)
unit_less net words a k below inside is = raised_by _ _ a (λ s other. sym (else_unit net words (40 + a) k s (λ b z. other (omega arith))))
    (unit_at net words a below ∙ sym is ∙ ap (λ n. n + 1) (sym (unit_at net (set words (40 + a) k) a below ∙ get_or-set_same words (40 + a) k 0 inside)))
