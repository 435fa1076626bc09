-- What the words say, after one is set.
use Rattle.std.proofs.Common.{◌≡◌, ◌≢◌, ◌⊎◌, inl, inr, ℕ, ◌+◌, ◌<◌, ◌≤◌, false, List, length, set, refl, sym, ap, arith, get_or-set_same, get_or-set_other}
use Rattle.std.specs.Prelude.{slice_index, nat_lt, if◌then◌else◌}
use Rattle.std.proofs.lemmas.Bool.Decides.{nat_tests}
use Rattle.std.proofs.lemmas.Bool.{cases_lt}
use Rattle.task_graph.specs.NetRows.{NetRows}
use Rattle.table_steps.specs.inside.Accounts.{Readings, reading, tokens_from, with_clock, with_live, with_admitted, with_halt}

-- the same in all
pub tells_is : (w v : Readings) → w.clock ≡ v.clock → w.live ≡ v.live → w.admitted ≡ v.admitted → w.halt ≡ v.halt → ((s : ℕ) → w.unit s ≡ v.unit s) → ((s : ℕ) → w.credit s ≡ v.credit s) → ((e : ℕ) → w.edge e ≡ v.edge e) → ((t : ℕ) → w.join t ≡ v.join t) → w ≡ v
tells_is w v a b c d e f g h = λ i. record { clock = a i; live = b i; admitted = c i; halt = d i; unit = λ s. e s i; credit = λ s. f s i; edge = λ k. g k i; join = λ t. h t i }

pub else_word : (words : List ℕ) (i k j : ℕ) → i ≢ j → slice_index (set words i k) j ≡ slice_index words j
else_word words i k j apart = get_or-set_other words i j k 0 (λ z. apart (sym z))

pub else_edge : (net : NetRows) (words : List ℕ) (i k e : ℕ) → i ≢ tokens_from net + e → (reading net (set words i k)).edge e ≡ (reading net words).edge e
else_edge net words i k e apart = ap (λ n. if nat_lt e (length net.edges) then n else 0) (else_word words i k (tokens_from net + e) apart)

pub else_unit : (net : NetRows) (words : List ℕ) (i k s : ℕ) → (s < length net.sems → i ≢ 40 + s) → (reading net (set words i k)).unit s ≡ (reading net words).unit s
else_unit net words i k s apart = by_place (cases_lt s (length net.sems))
  where
    by_place : (s < length net.sems) ⊎ (length net.sems ≤ s) → (reading net (set words i k)).unit s ≡ (reading net words).unit s
    by_place (inl below) = ap (λ n. if nat_lt s (length net.sems) then n else 0) (else_word words i k (40 + s) (apart below))
    by_place (inr past) = let is : nat_lt s (length net.sems) ≡ false = grind (arith, nat_tests) in rw is refl

pub else_credit : (net : NetRows) (words : List ℕ) (i k s : ℕ) → (s < length net.sems → i ≢ 40 + length net.sems + s) → (reading net (set words i k)).credit s ≡ (reading net words).credit s
else_credit net words i k s apart = by_place (cases_lt s (length net.sems))
  where
    by_place : (s < length net.sems) ⊎ (length net.sems ≤ s) → (reading net (set words i k)).credit s ≡ (reading net words).credit s
    by_place (inl below) = ap (λ n. if nat_lt s (length net.sems) then n else 0) (else_word words i k (40 + length net.sems + s) (apart below))
    by_place (inr past) = let is : nat_lt s (length net.sems) ≡ false = grind (arith, nat_tests) in rw is refl

pub clock_read : (net : NetRows) (words : List ℕ) (k : ℕ) → 8 < length words → reading net (set words 8 k) ≡ with_clock (reading net words) k
clock_read net words k below = tells_is _ _ (get_or-set_same words 8 k 0 below) (else_word words 8 k 16 (λ z. omega arith)) (else_word words 8 k 24 (λ z. omega arith)) (else_word words 8 k 32 (λ z. omega arith)) (λ s. else_unit net words 8 k s (λ b z. omega arith)) (λ s. else_credit net words 8 k s (λ b z. omega arith))
    (λ e. else_edge net words 8 k e (λ z. omega arith)) (λ t. else_word words 8 k (tokens_from net + length net.edges + t) (λ z. omega arith))

pub live_read : (net : NetRows) (words : List ℕ) (k : ℕ) → 16 < length words → reading net (set words 16 k) ≡ with_live (reading net words) k
live_read net words k below = tells_is _ _ (else_word words 16 k 8 (λ z. omega arith)) (get_or-set_same words 16 k 0 below) (else_word words 16 k 24 (λ z. omega arith)) (else_word words 16 k 32 (λ z. omega arith)) (λ s. else_unit net words 16 k s (λ b z. omega arith)) (λ s. else_credit net words 16 k s (λ b z. omega arith))
    (λ e. else_edge net words 16 k e (λ z. omega arith)) (λ t. else_word words 16 k (tokens_from net + length net.edges + t) (λ z. omega arith))

pub admitted_read : (net : NetRows) (words : List ℕ) (k : ℕ) → 24 < length words → reading net (set words 24 k) ≡ with_admitted (reading net words) k
admitted_read net words k below = tells_is _ _ (else_word words 24 k 8 (λ z. omega arith)) (else_word words 24 k 16 (λ z. omega arith)) (get_or-set_same words 24 k 0 below) (else_word words 24 k 32 (λ z. omega arith)) (λ s. else_unit net words 24 k s (λ b z. omega arith)) (λ s. else_credit net words 24 k s (λ b z. omega arith))
    (λ e. else_edge net words 24 k e (λ z. omega arith)) (λ t. else_word words 24 k (tokens_from net + length net.edges + t) (λ z. omega arith))

pub halt_word_read : (net : NetRows) (words : List ℕ) (k : ℕ) → 32 < length words → reading net (set words 32 k) ≡ with_halt (reading net words) k
halt_word_read net words k below = tells_is _ _ (else_word words 32 k 8 (λ z. omega arith)) (else_word words 32 k 16 (λ z. omega arith)) (else_word words 32 k 24 (λ z. omega arith)) (get_or-set_same words 32 k 0 below) (λ s. else_unit net words 32 k s (λ b z. omega arith)) (λ s. else_credit net words 32 k s (λ b z. omega arith))
    (λ e. else_edge net words 32 k e (λ z. omega arith)) (λ t. else_word words 32 k (tokens_from net + length net.edges + t) (λ z. omega arith))
