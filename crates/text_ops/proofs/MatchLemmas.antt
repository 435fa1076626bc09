-- Lines found by their keys among sorted sort keys.
use Rattle.std.proofs.Common.{◌≡◌, ◌≢◌, ℕ, ◌+◌, ◌<◌, ◌≤◌, ◌==◌, true, false, not, List, [], ◌∷◌, ◌++◌, length, take, drop, get_or, get_or-drop, Some, None, refl, sym, ap, subst, ◌∙◌, arith}
use Rattle.std.specs.List.{between, take_while}
use Rattle.std.specs.Ordering.{nat_cmp, ordering_then, is_lt, is_le, ordering_reverse}
use Rattle.std.specs.declared.cmp.Ordering.{Ordering}
use Rattle.std.specs.declared.cmp.Ordering.TheVariants.{Less, Equal, Greater}
use Rattle.std.proofs.lemmas.Bool.{false_from_ne_true, eqb-true}
use Rattle.std.proofs.lemmas.Cmp.{ranked, by_ranked, nat_cmp_total, nat_list_cmp_total, tied_itself}
use Rattle.std.proofs.lemmas.List.{drop-drop, drop-append-le, take_all, append_assoc, take_at, length-drop, get_or_append_left, get_or_at, length-append}
use Rattle.std.proofs.lemmas.List.Sums.{prefix_len_is}
use Rattle.std.proofs.lemmas.Slice.{between_to_end}
use Rattle.memchr.specs.Find.{IsFirstByte, is_byte}
use Rattle.text_ops.specs.declared.sort_key.Piece.TheVariants.{Key}
use Rattle.text_ops.specs.Lines.{line_end, text_of, IsPlain}
use Rattle.text_ops.specs.LineOrder.{line_cmp, IsUpTo}
use Rattle.text_ops.specs.MatchKeys.{match_key, behind_key}
use Rattle.text_ops.specs.inside.SortKeys.{SortKeyRow, lead_of, keyed_piece, sort_key_at}
use Rattle.text_ops.specs.inside.Matching.{behind_sort_key, is_before}
use Rattle.text_ops.proofs.LeadLemmas.{lead_of-up_to}
use Rattle.text_ops.proofs.SortKeyLemmas.{length-match_key-le}
use Rattle.text_ops.proofs.OrderLemmas.{IsUpTo-trans, IsUpTo-antisym}

-- What stands up to the next line end.
up_to_end : (line rest : List ℕ) → IsPlain line → take_while (λ byte. not (byte == line_end)) (line ++ line_end ∷ rest) ≡ line
up_to_end line rest plain =
    let text = line ++ line_end ∷ rest in
    let long = length-append line (line_end ∷ rest) in
    ap (λ n. take n text)
    (prefix_len_is (λ byte. not (byte == line_end)) text (length line) 0 (omega arith)
    (λ k low. ap not (ne_end (get_or text k 0) (λ is. plain k low (sym (get_or_append_left line (line_end ∷ rest) 0 k low) ∙ is))))
    (λ _. ap (λ byte. not (byte == line_end)) (get_or_at line line_end rest 0 (length line) refl)))
    ∙ take_at line (line_end ∷ rest) (length line) refl
  where
    ne_end : (byte : ℕ) → byte ≢ line_end → (byte == line_end) ≡ false
    ne_end byte differs = false_from_ne_true (byte == line_end) (λ is. differs (eqb-true byte line_end is))

pub found_end : (text : List ℕ) (start end : ℕ) → start ≤ length text → IsFirstByte (is_byte line_end) (between start (length text) text) (Some end) → take end (between start (length text) text) ≡ take_while (λ byte. not (byte == line_end)) (drop start text)
found_end text start end within found =
    let rest = between start (length text) text in
    sym (ap (λ n. take n rest)
    (prefix_len_is (λ byte. not (byte == line_end)) rest end 0 (omega (arith, found.0.high))
    (λ k low. ap not (false_from_ne_true _ (found.0.before k (omega arith) low)))
    (λ _. ap not found.1)))
    ∙ ap (take_while (λ byte. not (byte == line_end))) (between_to_end text start (length text) (omega arith))

pub found_no_end : (text : List ℕ) (start : ℕ) → start ≤ length text → IsFirstByte (is_byte line_end) (between start (length text) text) None → between start (length text) text ≡ take_while (λ byte. not (byte == line_end)) (drop start text)
found_no_end text start within none =
    let rest = between start (length text) text in
    sym (ap (λ n. take n rest)
    (prefix_len_is (λ byte. not (byte == line_end)) rest (length rest) 0 (omega arith)
    (λ k low. ap not (false_from_ne_true _ (none k (omega arith) low)))
    (λ low. absurd (omega arith)))
    ∙ take_all (length rest) rest (omega arith))
    ∙ ap (take_while (λ byte. not (byte == line_end))) (between_to_end text start (length text) (omega arith))

-- A sort key of a line's key has behind it what the line has behind its key.
plain_behind : (line : List ℕ) (n : ℕ) → IsPlain line → IsPlain (drop n line)
plain_behind line n plain k low is = plain (n + k) (omega (arith, length-drop n line)) (sym (get_or-drop n line k 0) ∙ is)

pub behind-sort_key_at : (text : List ℕ) (at : ℕ) (line : List ℕ) (lines : List (List ℕ)) → drop at text ≡ text_of (line ∷ lines) → IsPlain line → behind_sort_key text (sort_key_at Key at line) ≡ behind_key line
behind-sort_key_at text at line lines rest plain =
    let n = length (match_key line) in
    ap (take_while (λ byte. not (byte == line_end)))
    (sym (drop-drop n at text) ∙ ap (drop n) (rest ∙ append_assoc line (line_end ∷ []) (text_of lines))
    ∙ drop-append-le n line (line_end ∷ text_of lines) (length-match_key-le line))
    ∙ up_to_end (drop n line) (text_of lines) (plain_behind line n plain)

-- Sort keys with their leads compare with a key as their pieces do.
reversed : (a b : List ℕ) → line_cmp a b ≡ ordering_reverse (line_cmp b a)
reversed a b = nat_list_cmp_total.antisymm a b

pub before_is : (text key : List ℕ) (sort_key : SortKeyRow) → sort_key.lead ≡ lead_of (keyed_piece text sort_key) → ((k : ℕ) → get_or (keyed_piece text sort_key) k 0 < 256) → ((k : ℕ) → get_or key k 0 < 256) → is_before text key sort_key ≡ is_lt (line_cmp (keyed_piece text sort_key) key)
before_is text key sort_key lead bytes key_bytes = by_order (line_cmp (keyed_piece text sort_key) key) refl
  where
    by_order : (o : Ordering) → line_cmp (keyed_piece text sort_key) key ≡ o → is_before text key sort_key ≡ is_lt (line_cmp (keyed_piece text sort_key) key)
    by_order Less is =
        let low : sort_key.lead ≤ lead_of key = omega (arith, lead, lead_of-up_to (keyed_piece text sort_key) key bytes (ap is_le is)) in
        by_ranked (sort_key.lead < lead_of key) (sort_key.lead ≡ lead_of key) (lead_of key < sort_key.lead) (nat_cmp sort_key.lead (lead_of key)) (ranked sort_key.lead (lead_of key) (nat_cmp sort_key.lead (lead_of key)) refl)
        (λ r less. ap (λ p. is_lt (ordering_then p (line_cmp (keyed_piece text sort_key) key))) r ∙ sym (ap is_lt is))
        (λ r same. ap (λ p. is_lt (ordering_then p (line_cmp (keyed_piece text sort_key) key))) r)
        (λ r more. absurd (omega arith))
    by_order Equal is =
        let same = IsUpTo-antisym (keyed_piece text sort_key) key (ap is_le is) (ap is_le (reversed key (keyed_piece text sort_key) ∙ ap ordering_reverse is)) in
        let level = lead ∙ ap lead_of same in
        ap (λ n. is_lt (ordering_then (nat_cmp n (lead_of key)) (line_cmp (keyed_piece text sort_key) key))) level
        ∙ ap (λ p. is_lt (ordering_then p (line_cmp (keyed_piece text sort_key) key))) (tied_itself nat_cmp_total (lead_of key))
    by_order Greater is =
        let high : lead_of key ≤ sort_key.lead = omega (arith, lead, lead_of-up_to key (keyed_piece text sort_key) key_bytes (ap is_le (reversed key (keyed_piece text sort_key) ∙ ap ordering_reverse is))) in
        by_ranked (sort_key.lead < lead_of key) (sort_key.lead ≡ lead_of key) (lead_of key < sort_key.lead) (nat_cmp sort_key.lead (lead_of key)) (ranked sort_key.lead (lead_of key) (nat_cmp sort_key.lead (lead_of key)) refl)
        (λ r less. absurd (omega arith))
        (λ r same. ap (λ p. is_lt (ordering_then p (line_cmp (keyed_piece text sort_key) key))) r)
        (λ r more. ap (λ p. is_lt (ordering_then p (line_cmp (keyed_piece text sort_key) key))) r ∙ sym (ap is_lt is))

-- what is below what is below
pub less_from : (a b c : List ℕ) → IsUpTo a b → is_lt (line_cmp b c) ≡ true → is_lt (line_cmp a c) ≡ true
less_from a b c le lt =
    by_order (line_cmp a c) refl
  where
    lt_le : (o : Ordering) → is_lt o ≡ true → is_le o ≡ true
    lt_le Less h = refl
    lt_le Equal h = cc
    lt_le Greater h = cc

    not_back : (o : Ordering) → is_lt o ≡ true → is_le (ordering_reverse o) ≡ true → true ≡ false
    not_back Less h g = cc
    not_back Equal h g = cc
    not_back Greater h g = cc

    by_order : (o : Ordering) → line_cmp a c ≡ o → is_lt (line_cmp a c) ≡ true
    by_order Less is = ap is_lt is
    by_order Equal is =
        let same = IsUpTo-antisym a c (ap is_le is) (ap is_le (reversed c a ∙ ap ordering_reverse is)) in
        let up = subst (λ l. IsUpTo l b) same le in
        let never = not_back (line_cmp b c) lt (ap is_le (sym (reversed c b)) ∙ up) in cc
    by_order Greater is =
        let up : IsUpTo c a = ap is_le (reversed c a ∙ ap ordering_reverse is) in
        let far = IsUpTo-trans c a b up le in
        let never = not_back (line_cmp b c) lt (ap is_le (sym (reversed c b)) ∙ far) in cc
