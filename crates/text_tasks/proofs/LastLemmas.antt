-- The last number below another that passes a test.
use Rattle.std.proofs.Common.{◌≡◌, ℕ, zero, suc, ◌+◌, ◌<◌, Bool, true, false, cond, List, [], ◌∷◌, ◌++◌, Option, Some, None, sym, ap, ◌∙◌, arith, append-nil}
use Rattle.std.specs.Prelude.{if◌then◌else◌, filter}
use Rattle.std.specs.List.{range_with_len, last_or}
use Rattle.std.proofs.lemmas.List.Elements.{filter-append}
use Rattle.std.proofs.lemmas.Option.{none-some, same_Some}
use Rattle.run_frame.proofs.EndsLemmas.{counting_more, last_put}

abbrev pub last_below : (ℕ → Bool) → ℕ → Option ℕ
last_below p n = last_or None (filter p (range_with_len 0 n))

last_kept : (ks : List ℕ) (n : ℕ) (is : Bool) → last_or None (ks ++ cond is (n ∷ []) []) ≡ (if is then Some n else last_or None ks)
last_kept ks n true = last_put None ks n
last_kept ks n false = ap (last_or None) (append-nil ks)

-- below the next number it is this one, where it passes
pub last_next : (p : ℕ → Bool) (n : ℕ) → last_below p (n + 1) ≡ (if p n then Some n else last_below p n)
last_next p n =
    ap (λ ks. last_or None (filter p ks)) (counting_more 0 n n (omega arith))
    ∙ ap (last_or None) (filter-append p (range_with_len 0 n) (n ∷ []))
    ∙ last_kept (filter p (range_with_len 0 n)) n (p n)

last_in_front : (n k : ℕ) (here : Bool) (before : Option ℕ) → (before ≡ Some k → k < n) → (if here then Some n else before) ≡ Some k → k < suc n
last_in_front n k true before earlier is = let same : n ≡ k = same_Some _ _ is in omega (arith, same)
last_in_front n k false before earlier is = omega (arith, earlier is)

pub last_within : (p : ℕ → Bool) (n k : ℕ) → last_below p n ≡ Some k → k < n
last_within p zero k is = absurd (none-some k is)
last_within p (suc n) k is =
    let next : suc n ≡ n + 1 = omega arith in
    last_in_front n k (p n) (last_below p n) (last_within p n k) (sym (last_next p n) ∙ ap (last_below p) (sym next) ∙ is)
