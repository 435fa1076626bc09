-- The first line with a key, from the first place among sorted sort keys.
use Rattle.std.proofs.Common.{◌≡◌, ◌≢◌, ℕ, zero, suc, ◌+◌, ◌<◌, ◌≤◌, true, false, List, [], ◌∷◌, length, drop, get_or, map, Some, None, refl, sym, ap, subst, ◌∙◌, arith, ⊎_elim}
use Rattle.std.specs.Prelude.{All}
use Rattle.std.specs.List.{AllByRecursion, Contains}
use Rattle.std.specs.List.Sorted.{IsPartitionedBy}
use Rattle.std.specs.Option.{option_map}
use Rattle.std.specs.Str.{bytes_eq}
use Rattle.std.specs.Ordering.{nat_cmp, ordering_then, is_lt, is_le, ordering_reverse}
use Rattle.std.specs.declared.cmp.Ordering.{Ordering}
use Rattle.std.specs.declared.cmp.Ordering.TheVariants.{Less, Equal, Greater}
use Rattle.std.proofs.lemmas.Bool.{cases_Bool, cond-true, cond-false, false_from_ne_true, cases_lt}
use Rattle.std.proofs.lemmas.Cmp.{ranked, by_ranked, nat_cmp_total, nat_list_cmp_total, tied_itself}
use Rattle.std.proofs.lemmas.List.{get_or_default, get_or-map, length-map}
use Rattle.std.proofs.lemmas.List.Elements.{All-nil, All-cons, All-head, All-tail, Contains-get_or}
use Rattle.std.proofs.lemmas.List.Sorted.{All-permutation, Contains-permutation, IsPermutation-sym, sorted_far, ranks_by}
use Rattle.std.proofs.lemmas.Slice.Eq.{bytes_eq-Decides}
use Rattle.text_ops.specs.declared.sort_key.Piece.TheVariants.{Key}
use Rattle.text_ops.specs.Lines.{lines_of, text_of, IsNormal, IsPlain}
use Rattle.text_ops.specs.LineOrder.{line_cmp, IsUpTo}
use Rattle.text_ops.specs.MatchKeys.{match_key, behind_key, first_with}
use Rattle.text_ops.specs.inside.SortKeys.{SortKeyRow, lead_of, behind_leads_cmp, keyed_piece, sort_key_cmp, sort_key_at, sort_keys_of, AreSortedKeys}
use Rattle.text_ops.specs.inside.Matching.{behind_sort_key, is_before, IsFirstPlace}
use Rattle.text_ops.proofs.KeepLemmas.{lines_plain}
use Rattle.text_ops.proofs.LineSteps.{text_is, next_rest}
use Rattle.text_ops.proofs.MatchLemmas.{behind-sort_key_at, before_is, less_from}
use Rattle.text_ops.proofs.SortKeyLemmas.{behind_leads_total, sort_key_total}
use Rattle.text_ops.proofs.OrderLemmas.{IsUpTo-refl, IsUpTo-antisym}
use Rattle.text_ops.proofs.SortedKeys.{leads, pieces_rise, keyed_piece-sort_key_at, bytes_keyed}

-- sort keys stand from their place on
pub starts : (from at : ℕ) (lines : List (List ℕ)) → from ≤ at → All (λ (m : SortKeyRow). from ≤ m.start) (sort_keys_of Key at lines)
starts from at [] le = All-nil (λ (m : SortKeyRow). from ≤ m.start)
starts from at (line ∷ lines) le =
    All-cons (λ (m : SortKeyRow). from ≤ m.start) (sort_key_at Key at line) (sort_keys_of Key (at + (length line + 1)) lines) le (starts from (at + (length line + 1)) lines (omega arith))

next : (text : List ℕ) (at : ℕ) (line : List ℕ) (lines : List (List ℕ)) → drop at text ≡ text_of (line ∷ lines) → drop (at + (length line + 1)) text ≡ text_of lines
next text at line lines rest = let place : at + length line + 1 ≡ at + (length line + 1) = omega arith in ap (λ n. drop n text) (sym place) ∙ next_rest text at line lines rest

-- the line of the first sort key with the key
abbrev pub NotBefore : List ℕ → List ℕ → SortKeyRow → SortKeyRow → Type 0
NotBefore text key sort_key other = keyed_piece text other ≡ key → sort_key.start ≤ other.start

pub find_first : (text key : List ℕ) (sort_key : SortKeyRow) (at : ℕ) (lines : List (List ℕ)) → drop at text ≡ text_of lines → AllByRecursion IsPlain lines → keyed_piece text sort_key ≡ key → All (NotBefore text key sort_key) (sort_keys_of Key at lines) → Contains (sort_keys_of Key at lines) sort_key → option_map behind_key (first_with key lines) ≡ Some (behind_sort_key text sort_key)
find_first text key sort_key at [] rest plain is least has = absurd (omega (arith, has.1))
find_first text key sort_key at (line ∷ lines) rest plain is least has =
    let m0 = sort_key_at Key at line in
    let further = at + (length line + 1) in
    let more = sort_keys_of Key further lines in
    let piece = keyed_piece-sort_key_at Key text at line lines rest in
    ⊎_elim
    (λ same.
    let at_key = piece ∙ (bytes_eq-Decides (match_key line) key).0 same in
    let early : sort_key.start ≤ at = All-head (NotBefore text key sort_key) m0 more least at_key in
    ap (option_map behind_key) (cond-true (bytes_eq (match_key line) key) (Some line) (first_with key lines) same)
    ∙ ap Some (here has.0 has.1 has.2 early))
    (λ other.
    let differs : m0 ≢ sort_key = λ one. let never : true ≡ false = sym ((bytes_eq-Decides (match_key line) key).1 (sym piece ∙ ap (keyed_piece text) one ∙ is)) ∙ other in cc in
    ap (option_map behind_key) (cond-false (bytes_eq (match_key line) key) (Some line) (first_with key lines) other)
    ∙ find_first text key sort_key further lines (next text at line lines rest) plain.1 is (All-tail (NotBefore text key sort_key) m0 more least) (behind has.0 has.1 has.2 differs))
    (cases_Bool (bytes_eq (match_key line) key))
  where
    here : (k : ℕ) → k < length (sort_keys_of Key at (line ∷ lines)) → get_or (sort_keys_of Key at (line ∷ lines)) k sort_key ≡ sort_key → sort_key.start ≤ at → behind_key line ≡ behind_sort_key text sort_key
    here zero low one early = sym (behind-sort_key_at text at line lines rest plain.0) ∙ ap (behind_sort_key text) one
    here (suc k) low one early =
        let late = starts (at + (length line + 1)) (at + (length line + 1)) lines (omega arith) k sort_key (omega arith) in
        absurd (omega (arith, late, ap (λ (m : SortKeyRow). m.start) one))

    behind : (k : ℕ) → k < length (sort_keys_of Key at (line ∷ lines)) → get_or (sort_keys_of Key at (line ∷ lines)) k sort_key ≡ sort_key → sort_key_at Key at line ≢ sort_key → Contains (sort_keys_of Key (at + (length line + 1)) lines) sort_key
    behind zero low one differs = absurd (differs one)
    behind (suc k) low one differs = (k, omega arith, one)

-- no line has a key that no sort key stands for
pub find_none : (text key : List ℕ) (at : ℕ) (lines : List (List ℕ)) → drop at text ≡ text_of lines → All (λ m. keyed_piece text m ≢ key) (sort_keys_of Key at lines) → first_with key lines ≡ None
find_none text key at [] rest none = refl
find_none text key at (line ∷ lines) rest none =
    let m0 = sort_key_at Key at line in
    let more = sort_keys_of Key (at + (length line + 1)) lines in
    let differs = All-head (λ m. keyed_piece text m ≢ key) m0 more none in
    cond-false (bytes_eq (match_key line) key) (Some line) (first_with key lines)
    (false_from_ne_true (bytes_eq (match_key line) key) (λ same. differs (keyed_piece-sort_key_at Key text at line lines rest ∙ (bytes_eq-Decides (match_key line) key).0 same)))
    ∙ find_none text key (at + (length line + 1)) lines (next text at line lines rest) (All-tail (λ m. keyed_piece text m ≢ key) m0 more none)

lt_itself : (a : List ℕ) → is_lt (line_cmp a a) ≡ true → true ≡ false
lt_itself a lt = sym lt ∙ ap is_lt (tied_itself nat_list_cmp_total a)

module _ (text key : List ℕ) (sort_keys : List SortKeyRow) (are : AreSortedKeys Key text sort_keys) (is : IsNormal text) where
  rises : (i j : ℕ) (d : SortKeyRow) → i ≤ j → j < length sort_keys → IsUpTo (keyed_piece text (get_or sort_keys i d)) (keyed_piece text (get_or sort_keys j d))
  rises i j d before low =
      ⊎_elim
      (λ less.
      subst (λ p. IsUpTo p (keyed_piece text (get_or sort_keys j d))) (get_or-map (keyed_piece text) sort_keys i d [] (omega arith))
      (subst (IsUpTo (get_or (map (keyed_piece text) sort_keys) i [])) (get_or-map (keyed_piece text) sort_keys j d [] low)
      (pieces_rise Key text sort_keys is are i j [] less (omega (arith, length-map sort_keys (keyed_piece text))))))
      (λ level. let one : i ≡ j = omega arith in subst (λ k. IsUpTo (keyed_piece text (get_or sort_keys i d)) (keyed_piece text (get_or sort_keys k d))) one (IsUpTo-refl (keyed_piece text (get_or sort_keys i d))))
      (cases_lt i j)

  -- the sort keys before a place
  pub partitioned : ((k : ℕ) → get_or key k 0 < 256) → IsPartitionedBy (is_before text key) sort_keys
  partitioned key_bytes i j d before low passes =
      let a = get_or sort_keys i d in
      let b = get_or sort_keys j d in
      let up = rises i j d before low in
      before_is text key a (leads Key text sort_keys is are i d (omega arith)) (bytes_keyed text a are.bytes) key_bytes
      ∙ less_from (keyed_piece text a) (keyed_piece text b) key up
      (sym (before_is text key b (leads Key text sort_keys is are j d low) (bytes_keyed text b are.bytes) key_bytes) ∙ passes)

  pub first_place : ((k : ℕ) → get_or key k 0 < 256) → (place : ℕ) → place ≤ length sort_keys → ((k : ℕ) (d : SortKeyRow) → 0 ≤ k → k < place → is_before text key (get_or sort_keys k d) ≡ true) → ((k : ℕ) (d : SortKeyRow) → place ≤ k → k < length sort_keys → is_before text key (get_or sort_keys k d) ≡ false) → IsFirstPlace text key sort_keys place
  first_place key_bytes place within below above =
      record {
        within = within;
        before = λ k d low. sym (before_is text key (get_or sort_keys k d) (leads Key text sort_keys is are k d (omega arith)) (bytes_keyed text (get_or sort_keys k d) are.bytes) key_bytes) ∙ below k d (omega arith) low;
        behind = λ k d past low. sym (before_is text key (get_or sort_keys k d) (leads Key text sort_keys is are k d low) (bytes_keyed text (get_or sort_keys k d) are.bytes) key_bytes) ∙ above k d past low;
      }

  -- the sort key at the first place, if it stands for the key
  module _ (place : ℕ) (first : IsFirstPlace text key sort_keys place) where
    by_start : (a b : SortKeyRow) → a.lead ≡ b.lead → keyed_piece text a ≡ keyed_piece text b → is_lt (sort_key_cmp Key text a b) ≡ false → b.start ≤ a.start
    by_start a b level same not_less =
        let leads_tie : nat_cmp a.lead b.lead ≡ Equal = ap (λ n. nat_cmp n b.lead) level ∙ tied_itself nat_cmp_total b.lead in
        let pieces_tie : behind_leads_cmp (keyed_piece text a) (keyed_piece text b) ≡ Equal = ap (λ p. behind_leads_cmp p (keyed_piece text b)) same ∙ tied_itself behind_leads_total (keyed_piece text b) in
        let whole : is_lt (nat_cmp a.start b.start) ≡ false =
        sym (ap (λ o. is_lt (ordering_then o (ordering_then (behind_leads_cmp (keyed_piece text a) (keyed_piece text b)) (nat_cmp a.start b.start)))) leads_tie
        ∙ ap (λ o. is_lt (ordering_then o (nat_cmp a.start b.start))) pieces_tie) ∙ not_less in
        by_ranked (a.start < b.start) (a.start ≡ b.start) (b.start < a.start) (nat_cmp a.start b.start) (ranked a.start b.start (nat_cmp a.start b.start) refl)
        (λ o less. let never : true ≡ false = sym (ap is_lt o) ∙ whole in cc)
        (λ o level. omega arith)
        (λ o more. omega arith)

    least : (sort_key d : SortKeyRow) → sort_key ≡ get_or sort_keys place d → place < length sort_keys → keyed_piece text sort_key ≡ key → All (NotBefore text key sort_key) sort_keys
    least sort_key d one inside same k e low other =
        let m = get_or sort_keys k e in
        ⊎_elim
        (λ before. let never = lt_itself key (subst (λ p. is_lt (line_cmp p key) ≡ true) other (first.before k e before)) in cc)
        (λ from.
        let lead_m = leads Key text sort_keys is are k e low ∙ ap lead_of other in
        let lead_sort_key = ap (λ (x : SortKeyRow). x.lead) one ∙ leads Key text sort_keys is are place d inside ∙ ap (λ (x : SortKeyRow). lead_of (keyed_piece text x)) (sym one) ∙ ap lead_of same in
        let far = sorted_far (λ (x : SortKeyRow) (y : SortKeyRow). is_lt (sort_key_cmp Key text x y)) (ranks_by (sort_key_total Key text) (λ (x : SortKeyRow). x)) sort_keys are.sorted place k e from low in
        let one_e = one ∙ get_or_default sort_keys place d e inside in
        let not_less = ap (λ x. is_lt (sort_key_cmp Key text m x)) one_e ∙ far in
        by_start m sort_key (lead_m ∙ sym lead_sort_key) (other ∙ sym same) not_less)
        (cases_lt k place)

    pub found_key : (d : SortKeyRow) → place < length sort_keys → keyed_piece text (get_or sort_keys place d) ≡ key → option_map behind_key (first_with key (lines_of text)) ≡ Some (behind_sort_key text (get_or sort_keys place d))
    found_key d inside same =
        let sort_key = get_or sort_keys place d in
        let all = sort_keys_of Key 0 (lines_of text) in
        let back = IsPermutation-sym all sort_keys are.permutation in
        find_first text key sort_key 0 (lines_of text) (text_is text is) (lines_plain text) same
        (All-permutation (NotBefore text key sort_key) sort_keys all back (least sort_key d refl inside same))
        (Contains-permutation sort_keys all sort_key back (Contains-get_or sort_keys place d inside))

    not_less_up : (a b : List ℕ) → is_lt (line_cmp a b) ≡ false → IsUpTo b a
    not_less_up a b not = ap is_le (nat_list_cmp_total.antisymm b a) ∙ by_order (line_cmp a b) not
      where
        by_order : (o : Ordering) → is_lt o ≡ false → is_le (ordering_reverse o) ≡ true
        by_order Less h = cc
        by_order Equal h = refl
        by_order Greater h = refl

    none : (d : SortKeyRow) → (place < length sort_keys → keyed_piece text (get_or sort_keys place d) ≢ key) → All (λ m. keyed_piece text m ≢ key) sort_keys
    none d differs k e low same =
        ⊎_elim
        (λ before. let never = lt_itself key (subst (λ p. is_lt (line_cmp p key) ≡ true) same (first.before k e before)) in cc)
        (λ from.
        let inside : place < length sort_keys = omega arith in
        let piece = keyed_piece text (get_or sort_keys place d) in
        let up : IsUpTo piece key = subst (IsUpTo piece) same (subst (λ m. IsUpTo (keyed_piece text m) (keyed_piece text (get_or sort_keys k e))) (get_or_default sort_keys place e d inside) (rises place k e from low)) in
        differs inside (IsUpTo-antisym piece key up (not_less_up piece key (first.behind place d (omega arith) inside))))
        (cases_lt k place)

    pub no_key : (d : SortKeyRow) → (place < length sort_keys → keyed_piece text (get_or sort_keys place d) ≢ key) → first_with key (lines_of text) ≡ None
    no_key d differs =
        let all = sort_keys_of Key 0 (lines_of text) in
        find_none text key 0 (lines_of text) (text_is text is)
        (All-permutation (λ m. keyed_piece text m ≢ key) sort_keys all (IsPermutation-sym all sort_keys are.permutation) (none d differs))
