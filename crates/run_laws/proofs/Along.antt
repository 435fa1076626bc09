-- Rules of each entry after those before it, carried along a journal.
use Rattle.std.proofs.Common.{◌≡◌, ℕ, suc, ◌+◌, ◌<◌, List, [], ◌∷◌, ◌++◌, length, Option, sym, ap, ◌∙◌, subst, arith}
use Rattle.std.proofs.lemmas.List.{append-nil, append_assoc, length_push}
use Rattle.journal_rules.specs.declared.entry.Entry.{Entry}
use Rattle.journal_rules.specs.Counts.{start_at, started}
use Rattle.journal_rules.specs.Entries.{EachAfterThese}
use Rattle.journal_rules.proofs.Snoc.{start_at_push_below, start_at_push_last}
use Rattle.run_laws.specs.Ends.{gather}

-- what each step keeps, with the rule of each step: it holds before each entry and at the end
pub along : {X : Type 0} (Rule : List X → X → Type 0) (Kept : List X → Type 0) → ((b : List X) (x : X) → Rule b x → Kept b → Kept (b ++ x ∷ [])) → (b rest : List X) → Kept b
    → EachAfterThese Rule b rest → EachAfterThese (λ c x. Kept c × Rule c x) b rest × Kept (b ++ rest)
along Rule Kept step b [] kept each = (tt, subst Kept (sym (append-nil b)) kept)
along Rule Kept step b (x ∷ rest) kept each =
    let more : EachAfterThese (λ c y. Kept c × Rule c y) (b ++ x ∷ []) rest × Kept ((b ++ x ∷ []) ++ rest) = along Rule Kept step (b ++ x ∷ []) rest (step b x each.0 kept) each.1 in
    (((kept, each.0), more.0), subst Kept (append_assoc b (x ∷ []) rest) more.1)

-- two rules at once
pub both : {X : Type 0} (R S : List X → X → Type 0) (b rest : List X) → EachAfterThese R b rest → EachAfterThese S b rest → EachAfterThese (λ c x. R c x × S c x) b rest
both R S b [] r s = tt
both R S b (x ∷ rest) r s = ((r.0, s.0), both R S (b ++ x ∷ []) rest r.1 s.1)

-- a weaker rule
pub weaker : {X : Type 0} (R S : List X → X → Type 0) → ((c : List X) (x : X) → R c x → S c x) → (b rest : List X) → EachAfterThese R b rest → EachAfterThese S b rest
weaker R S less b [] r = tt
weaker R S less b (x ∷ rest) r = (less b x r.0, weaker R S less (b ++ x ∷ []) rest r.1)

-- what a front has where the whole has it
pub front : {X : Type 0} (Kept : List X → Type 0) → ((b : List X) (x : X) → Kept (b ++ x ∷ []) → Kept b) → (b rest : List X) → Kept (b ++ rest) → Kept b
front Kept back b [] kept = subst Kept (append-nil b) kept
front Kept back b (x ∷ rest) kept = back b x (front Kept back (b ++ x ∷ []) rest (subst Kept (sym (append_assoc b (x ∷ []) rest)) kept))

-- so has each front, with its last entry
pub each_front : {X : Type 0} (Kept : List X → Type 0) → ((b : List X) (x : X) → Kept (b ++ x ∷ []) → Kept b) → (b rest : List X) → Kept (b ++ rest) → EachAfterThese (λ c x. Kept (c ++ x ∷ [])) b rest
each_front Kept back b [] kept = tt
each_front Kept back b (x ∷ rest) kept =
    let here : Kept ((b ++ x ∷ []) ++ rest) = subst Kept (sym (append_assoc b (x ∷ []) rest)) kept in
    (front Kept back (b ++ x ∷ []) rest here, each_front Kept back (b ++ x ∷ []) rest here)

-- `at` tells the task of each Start of these entries
abbrev pub Told : (ℕ → Option ℕ) → List Entry → Type 0
Told at b = (n : ℕ) → n < length b → at n ≡ start_at b n

pub told_before : (at : ℕ → Option ℕ) (b : List Entry) (x : Entry) → Told at (b ++ x ∷ []) → Told at b
told_before at b x told n below = told n (omega (arith, length_push b x)) ∙ start_at_push_below b x n below

pub told_last : (at : ℕ → Option ℕ) (b : List Entry) (x : Entry) → Told at (b ++ x ∷ []) → at (length b) ≡ started x
told_last at b x told = told (length b) (omega (arith, length_push b x)) ∙ start_at_push_last b x

-- what is gathered from one item more
gather_push_from : {X Y : Type 0} (f : ℕ → X → List Y) (n : ℕ) (xs : List X) (x : X) → gather f n (xs ++ x ∷ []) ≡ gather f n xs ++ f (n + length xs) x
gather_push_from f n [] x = append-nil (f n x) ∙ ap (λ k. f k x) (omega arith)
gather_push_from f n (y ∷ ys) x =
    ap (λ zs. f n y ++ zs) (gather_push_from f (suc n) ys x ∙ ap (λ k. gather f (suc n) ys ++ f k x) (omega arith)) ∙ sym (append_assoc (f n y) (gather f (suc n) ys) (f (n + length (y ∷ ys)) x))

pub gather_push : {X Y : Type 0} (f : ℕ → X → List Y) (xs : List X) (x : X) → gather f 0 (xs ++ x ∷ []) ≡ gather f 0 xs ++ f (length xs) x
gather_push f xs x = gather_push_from f 0 xs x ∙ ap (λ k. gather f 0 xs ++ f k x) (omega arith)
