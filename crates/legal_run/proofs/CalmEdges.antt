-- An edge that is calm was so before, and holds at most one token.
use Rattle.std.proofs.Common.{ℕ, ◌+◌, ◌≤◌, List, [], ◌∷◌, ◌++◌, length, take, subst, arith}
use Rattle.std.proofs.lemmas.List.{take_all, take-append-le, length_push}
use Rattle.task_graph.specs.NetRows.{NetRows}
use Rattle.journal_rules.specs.declared.entry.Entry.{Entry}
use Rattle.journal_rules.specs.Counts.{given}
use Rattle.journal_rules.specs.Calm.{IsCalm, used_at}
use Rattle.journal_rules.proofs.Reaching.{at_below, each_below}

-- an edge that is calm was calm an entry before, and then held at most one token
pub calm_before : (net : NetRows) (e : ℕ) (h : List Entry) (x : Entry) → IsCalm net e (h ++ x ∷ []) → IsCalm net e h
calm_before net e h x calm =
    each_below _ (length h + 1) (λ n below.
    subst (λ p. given net e p ≤ used_at net e p + 1) (take-append-le n h (x ∷ []) (omega arith))
    (at_below (λ m. given net e (take m (h ++ x ∷ [])) ≤ used_at net e (take m (h ++ x ∷ [])) + 1) (length (h ++ x ∷ []) + 1) calm n (omega (arith, length_push h x))))

pub calm_now : (net : NetRows) (e : ℕ) (h : List Entry) → IsCalm net e h → given net e h ≤ used_at net e h + 1
calm_now net e h calm =
    subst (λ p. given net e p ≤ used_at net e p + 1) (take_all (length h) h (omega arith))
    (at_below (λ m. given net e (take m h) ≤ used_at net e (take m h) + 1) (length h + 1) calm (length h) (omega arith))
