-- The first bytes of a piece, as a number.
use Rattle.std.proofs.Common.{◌≡◌, ℕ, zero, suc, ◌+◌, ◌*◌, ◌<◌, ◌≤◌, min, true, false, List, [], ◌∷◌, length, drop, get_or, refl, sym, ap, subst, ◌∙◌, arith}
use Rattle.std.specs.Ordering.{is_le, is_lt, ordering_reverse, ordering_then, nat_cmp}
use Rattle.std.specs.declared.cmp.Ordering.{Ordering}
use Rattle.std.specs.declared.cmp.Ordering.TheVariants.{Less, Equal, Greater}
use Rattle.std.proofs.lemmas.Cmp.{ranked, by_ranked, nat_list_cmp_total}
use Rattle.text_ops.specs.declared.sort_key.Piece.{Piece}
use Rattle.text_ops.specs.LineOrder.{line_cmp, IsUpTo}
use Rattle.text_ops.specs.inside.SortKeys.{SortKeyRow, digits_on, lead_of, behind_leads_cmp, tie_of, keyed_piece, sort_key_cmp}

AreBytes-rest : (byte : ℕ) (rest : List ℕ) → ((k : ℕ) → get_or (byte ∷ rest) k 0 < 256) → (k : ℕ) → get_or rest k 0 < 256
AreBytes-rest byte rest bytes k = bytes (suc k)

-- a greater number stays greater
digits_on-less : (n x y : ℕ) (a b : List ℕ) → ((k : ℕ) → get_or a k 0 < 256) → x < y → digits_on x n a < digits_on y n b
digits_on-less zero x y a b bytes less = omega arith
digits_on-less (suc n) x y [] [] bytes less = digits_on-less n (x * 256) (y * 256) [] [] bytes (omega arith)
digits_on-less (suc n) x y [] (q ∷ qs) bytes less = digits_on-less n (x * 256) (y * 256 + q) [] qs bytes (omega arith)
digits_on-less (suc n) x y (p ∷ ps) [] bytes less = digits_on-less n (x * 256 + p) (y * 256) ps [] (AreBytes-rest p ps bytes) (omega (arith, bytes 0))
digits_on-less (suc n) x y (p ∷ ps) (q ∷ qs) bytes less = digits_on-less n (x * 256 + p) (y * 256 + q) ps qs (AreBytes-rest p ps bytes) (omega (arith, bytes 0))

nothing : (b : List ℕ) → IsUpTo [] b
nothing [] = refl
nothing (q ∷ qs) = refl

-- with the same number before, pieces compare as their digits
digits_on-up_to : (n x : ℕ) (a b : List ℕ) → ((k : ℕ) → get_or a k 0 < 256) → IsUpTo a b → digits_on x n a ≤ digits_on x n b
digits_on-up_to zero x a b bytes le = omega arith
digits_on-up_to (suc n) x [] [] bytes le = digits_on-up_to n (x * 256) [] [] bytes refl
digits_on-up_to (suc n) x [] (zero ∷ qs) bytes le = let none : x * 256 ≡ x * 256 + zero = omega arith in subst (λ m. digits_on (x * 256) n [] ≤ digits_on m n qs) none (digits_on-up_to n (x * 256) [] qs bytes (nothing qs))
digits_on-up_to (suc n) x [] (suc q ∷ qs) bytes le = omega (arith, digits_on-less n (x * 256) (x * 256 + suc q) [] qs bytes (omega arith))
digits_on-up_to (suc n) x (p ∷ ps) [] bytes le = cc
digits_on-up_to (suc n) x (p ∷ ps) (q ∷ qs) bytes le =
    by_ranked (p < q) (p ≡ q) (q < p) (nat_cmp p q) (ranked p q (nat_cmp p q) refl)
    (λ is less. omega (arith, digits_on-less n (x * 256 + p) (x * 256 + q) ps qs (AreBytes-rest p ps bytes) (omega arith)))
    (λ is same. subst (λ r. digits_on (x * 256 + p) n ps ≤ digits_on (x * 256 + r) n qs) same
    (digits_on-up_to n (x * 256 + p) ps qs (AreBytes-rest p ps bytes) (sym (ap (λ o. is_le (ordering_then o (line_cmp ps qs))) is) ∙ le)))
    (λ is more. let never : false ≡ true = sym (ap (λ o. is_le (ordering_then o (line_cmp ps qs))) is) ∙ le in cc)

pub lead_of-up_to : (a b : List ℕ) → ((k : ℕ) → get_or a k 0 < 256) → IsUpTo a b → lead_of a ≤ lead_of b
lead_of-up_to a b bytes le = digits_on-up_to 6 0 a b bytes le

-- how numbers compare
less_is : (x y : ℕ) → x < y → nat_cmp x y ≡ Less
less_is x y low = by_ranked (x < y) (x ≡ y) (y < x) (nat_cmp x y) (ranked x y (nat_cmp x y) refl) (λ is less. is) (λ is level. absurd (omega arith)) (λ is more. absurd (omega arith))

level_is : (x y : ℕ) → x ≡ y → nat_cmp x y ≡ Equal
level_is x y same = by_ranked (x < y) (x ≡ y) (y < x) (nat_cmp x y) (ranked x y (nat_cmp x y) refl) (λ is less. absurd (omega arith)) (λ is level. is) (λ is more. absurd (omega arith))

more_is : (x y : ℕ) → y < x → nat_cmp x y ≡ Greater
more_is x y high = by_ranked (x < y) (x ≡ y) (y < x) (nat_cmp x y) (ranked x y (nat_cmp x y) refl) (λ is less. absurd (omega arith)) (λ is level. absurd (omega arith)) (λ is more. is)

one_more_is : (x y more_x more_y : ℕ) → more_x ≡ suc x → more_y ≡ suc y → nat_cmp more_x more_y ≡ nat_cmp x y
one_more_is x y more_x more_y first second =
    by_ranked (x < y) (x ≡ y) (y < x) (nat_cmp x y) (ranked x y (nat_cmp x y) refl)
    (λ is less. less_is more_x more_y (omega arith) ∙ sym is)
    (λ is level. level_is more_x more_y (omega arith) ∙ sym is)
    (λ is more. more_is more_x more_y (omega arith) ∙ sym is)

-- with equal digits, pieces compare as their lengths and what stands behind the digits
digits_on-behind : (n x : ℕ) (a b : List ℕ) → ((k : ℕ) → get_or a k 0 < 256) → ((k : ℕ) → get_or b k 0 < 256) → digits_on x n a ≡ digits_on x n b → ordering_then (nat_cmp (min (length a) (suc n)) (min (length b) (suc n))) (line_cmp (drop n a) (drop n b)) ≡ line_cmp a b
digits_on-behind n x [] [] bytes others same = ap (λ o. ordering_then o (line_cmp (drop n []) (drop n []))) (level_is (min 0 (suc n)) (min 0 (suc n)) refl) ∙ nothing_left n
  where
    nothing_left : (m : ℕ) → line_cmp (drop m []) (drop m []) ≡ Equal
    nothing_left zero = refl
    nothing_left (suc m) = refl
digits_on-behind n x [] (q ∷ qs) bytes others same = ap (λ o. ordering_then o (line_cmp (drop n []) (drop n (q ∷ qs)))) (less_is (min 0 (suc n)) (min (suc (length qs)) (suc n)) (omega arith))
digits_on-behind n x (p ∷ ps) [] bytes others same = ap (λ o. ordering_then o (line_cmp (drop n (p ∷ ps)) (drop n []))) (more_is (min (suc (length ps)) (suc n)) (min 0 (suc n)) (omega arith))
digits_on-behind zero x (p ∷ ps) (q ∷ qs) bytes others same = ap (λ o. ordering_then o (line_cmp (p ∷ ps) (q ∷ qs))) (level_is (min (suc (length ps)) 1) (min (suc (length qs)) 1) (omega arith))
digits_on-behind (suc n) x (p ∷ ps) (q ∷ qs) bytes others same =
    by_ranked (p < q) (p ≡ q) (q < p) (nat_cmp p q) (ranked p q (nat_cmp p q) refl)
    (λ is less. absurd (omega (arith, same, digits_on-less n (x * 256 + p) (x * 256 + q) ps qs (AreBytes-rest p ps bytes) (omega arith))))
    (λ is level.
    ap (λ o. ordering_then o (line_cmp (drop n ps) (drop n qs)))
    (one_more_is (min (length ps) (suc n)) (min (length qs) (suc n)) (min (suc (length ps)) (suc (suc n))) (min (suc (length qs)) (suc (suc n))) (omega arith) (omega arith))
    ∙ digits_on-behind n (x * 256 + p) ps qs (AreBytes-rest p ps bytes) (AreBytes-rest q qs others) (same ∙ ap (λ r. digits_on (x * 256 + r) n qs) (sym level))
    ∙ sym (ap (λ o. ordering_then o (line_cmp ps qs)) is))
    (λ is more. absurd (omega (arith, same, digits_on-less n (x * 256 + q) (x * 256 + p) qs ps (AreBytes-rest q qs others) (omega arith))))

pub lead_of-behind : (a b : List ℕ) → ((k : ℕ) → get_or a k 0 < 256) → ((k : ℕ) → get_or b k 0 < 256) → lead_of a ≡ lead_of b → behind_leads_cmp a b ≡ line_cmp a b
lead_of-behind a b bytes others same = digits_on-behind 6 0 a b bytes others same

-- Sort keys that aren't the other way round stand for pieces that aren't.
reversed : (a b : List ℕ) → line_cmp a b ≡ ordering_reverse (line_cmp b a)
reversed a b = nat_list_cmp_total.antisymm a b

pub keyed_piece-up_to : (by : Piece) (text : List ℕ) (a b : SortKeyRow) → a.lead ≡ lead_of (keyed_piece text a) → b.lead ≡ lead_of (keyed_piece text b) → ((k : ℕ) → get_or (keyed_piece text a) k 0 < 256) → ((k : ℕ) → get_or (keyed_piece text b) k 0 < 256) → is_lt (sort_key_cmp by text b a) ≡ false → IsUpTo (keyed_piece text a) (keyed_piece text b)
keyed_piece-up_to by text a b lead_a lead_b others bytes not = ap is_le (reversed (keyed_piece text a) (keyed_piece text b)) ∙ by_order (line_cmp (keyed_piece text b) (keyed_piece text a)) refl
  where
    shown : b.lead ≡ a.lead → behind_leads_cmp (keyed_piece text b) (keyed_piece text a) ≡ line_cmp (keyed_piece text b) (keyed_piece text a)
    shown same = lead_of-behind (keyed_piece text b) (keyed_piece text a) bytes others (sym lead_b ∙ same ∙ lead_a)

    by_order : (o : Ordering) → line_cmp (keyed_piece text b) (keyed_piece text a) ≡ o → is_le (ordering_reverse o) ≡ true
    by_order Less is =
        let low : b.lead ≤ a.lead = omega (arith, lead_of-up_to (keyed_piece text b) (keyed_piece text a) bytes (ap is_le is), lead_a, lead_b) in
        by_ranked (b.lead < a.lead) (b.lead ≡ a.lead) (a.lead < b.lead) (nat_cmp b.lead a.lead) (ranked b.lead a.lead (nat_cmp b.lead a.lead) refl)
        (λ lead less. let never : true ≡ false = sym (ap (λ o. is_lt (ordering_then o (ordering_then (behind_leads_cmp (keyed_piece text b) (keyed_piece text a)) (nat_cmp (tie_of by b) (tie_of by a))))) lead) ∙ not in cc)
        (λ lead same.
        let never : true ≡ false =
        sym (ap (λ o. is_lt (ordering_then o (ordering_then (behind_leads_cmp (keyed_piece text b) (keyed_piece text a)) (nat_cmp (tie_of by b) (tie_of by a))))) lead
        ∙ ap (λ o. is_lt (ordering_then o (nat_cmp (tie_of by b) (tie_of by a)))) (shown same ∙ is)) ∙ not in cc)
        (λ lead more. absurd (omega arith))
    by_order Equal is = refl
    by_order Greater is = refl
