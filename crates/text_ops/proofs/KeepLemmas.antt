-- What holds of the lines in which a word occurs.
use Rattle.std.proofs.Common.{◌≡◌, ◌≢◌, ℕ, zero, suc, ◌+◌, ◌-◌, ◌<◌, ◌≤◌, Bool, true, false, cond, not, ◌==◌, nat_eq, List, [], ◌∷◌, ◌++◌, length, take, drop, get_or, refl, sym, ap, subst, ◌∙◌, arith, append-nil, append_assoc, length-append, length-take, length-drop, get_or-take, get_or-drop, ⊎_elim, filter, Option, Some, None, is_some}
use Rattle.std.proofs.lemmas.Bool.{cases_Bool, cond-true, cond-false, cond_both, or_left, or_right, or_cases, false_from_ne_true, eqb-true, eqb-false, cases_lt}
use Rattle.std.proofs.lemmas.Bool.Decides.{Decides-eqb}
use Rattle.std.proofs.lemmas.List.{take-append-drop, take_more, length-take-le, get_or-append-add, get_or_append_left}
use Rattle.std.proofs.lemmas.List.Concat.{flat_map-append}
use Rattle.std.proofs.lemmas.List.Edits.{split_between}
use Rattle.std.proofs.lemmas.List.Elements.{filter-append}
use Rattle.std.proofs.lemmas.List.Sums.{length-filter, count_by-le-length}
use Rattle.std.proofs.lemmas.Slice.Eq.{starts_is}
use Rattle.std.specs.List.{onto_first, starts_with, between, AllByRecursion}
use Rattle.memchr.specs.Find.{OccursAt, Nowhere, IsFirstByte, is_byte}
use Rattle.memchr.proofs.lemmas.MatchLemmas.{OccursAt-split}
use Rattle.text_ops.specs.Lines.{line_end, lines_of, ended, text_of, IsNormal, IsPlain, occurs, OccursIn}
use Rattle.text_ops.specs.inside.Cuts.{end_count}
use Rattle.text_ops.specs.inside.FoundLine.{StartsLine, EndsLine, IsFirstKept, IsNowhere}
use Rattle.text_ops.specs.TextMeaning.{keep_meaning, without_meaning}
use Rattle.text_ops.proofs.LineLemmas.{lines_of-at_end, lines_of-within, lines_of-append, lines_of-ended, text_of-lines_of, normal_same, IsNormal-ended, ended_once}

-- the test `occurs` says that the word stands in the line
starts-true : (word line rest : List ℕ) → line ≡ word ++ rest → starts_with nat_eq line word ≡ true
starts-true word line rest is = (starts_is Decides-eqb line word (starts_with nat_eq line word) refl).1 rest is

starts-rest : (word line : List ℕ) → starts_with nat_eq line word ≡ true → line ≡ word ++ drop (length word) line
starts-rest word line starts = (starts_is Decides-eqb line word (starts_with nat_eq line word) refl).0 starts

occurs-at : (word line front rest : List ℕ) → line ≡ front ++ (word ++ rest) → occurs word line ≡ true
occurs-at word [] [] rest is = starts-true word [] rest is
occurs-at word (byte ∷ line) [] rest is = or_left _ _ (starts-true word (byte ∷ line) rest is)
occurs-at word [] (first ∷ front) rest is = cc
occurs-at word (byte ∷ line) (first ∷ front) rest is = or_right _ _ (occurs-at word line front rest cc)

pub occurs-true : (word line : List ℕ) → OccursIn word line → occurs word line ≡ true
occurs-true word line stands = occurs-at word line stands.0 stands.1 stands.2

OccursIn-cons : (word rest : List ℕ) (byte : ℕ) → OccursIn word rest → OccursIn word (byte ∷ rest)
OccursIn-cons word rest byte stands = (byte ∷ stands.0, stands.1, ap (λ l. byte ∷ l) stands.2)

pub occurs-stands : (word line : List ℕ) → occurs word line ≡ true → OccursIn word line
occurs-stands word [] found = ([], drop (length word) [], starts-rest word [] found)
occurs-stands word (byte ∷ rest) found =
    ⊎_elim
    (λ here. ([], drop (length word) (byte ∷ rest), starts-rest word (byte ∷ rest) here))
    (λ later. OccursIn-cons word rest byte (occurs-stands word rest later))
    (or_cases _ _ found)

OccursIn-append : (word xs ys : List ℕ) → OccursIn word xs → OccursIn word (xs ++ ys)
OccursIn-append word xs ys stands =
    (stands.0, stands.1 ++ ys, ap (λ l. l ++ ys) stands.2 ∙ append_assoc stands.0 (word ++ stands.1) ys ∙ ap (λ l. stands.0 ++ l) (append_assoc word stands.1 ys))

-- a word that stands in a part of a text stands in the text
stands_in_whole : (word line after text : List ℕ) → text ≡ line ++ after → OccursIn word line → OccursIn word text
stands_in_whole word line after text is stands = subst (OccursIn word) (sym is) (OccursIn-append word line after stands)

-- the first line is a prefix of the text
front_of_onto : (byte : ℕ) (rest line : List ℕ) (parts more : List (List ℕ)) → ((first : List ℕ) (others : List (List ℕ)) → parts ≡ first ∷ others → (after : List ℕ) × (rest ≡ first ++ after)) → onto_first byte parts ≡ line ∷ more → (after : List ℕ) × (byte ∷ rest ≡ line ++ after)
front_of_onto byte rest line [] more fronts is =
    let same : line ≡ byte ∷ [] = cc in
    (rest, sym (ap (λ l. l ++ rest) same))
front_of_onto byte rest line (first ∷ others) more fronts is =
    let same : line ≡ byte ∷ first = cc in
    let front = fronts first others refl in
    (front.0, ap (λ l. byte ∷ l) front.1 ∙ sym (ap (λ l. l ++ front.0) same))

first_line_front : (text line : List ℕ) (more : List (List ℕ)) → lines_of text ≡ line ∷ more → (after : List ℕ) × (text ≡ line ++ after)
first_line_front [] line more is = cc
first_line_front (byte ∷ rest) line more is =
    ⊎_elim
    (λ yes.
    let parts : [] ∷ lines_of rest ≡ line ∷ more = sym (lines_of-at_end byte rest yes) ∙ is in
    let same : line ≡ [] = cc in
    (byte ∷ rest, sym (ap (λ l. l ++ (byte ∷ rest)) same)))
    (λ no. front_of_onto byte rest line (lines_of rest) more (first_line_front rest) (sym (lines_of-within byte rest no) ∙ is))
    (cases_Bool (byte == line_end))

-- a text in which the word doesn't stand has no line in which it occurs
kept_rest : (b : Bool) (line : List ℕ) (rest : List (List ℕ)) → cond b (line ∷ rest) rest ≡ [] → rest ≡ []
kept_rest true line rest is = cc
kept_rest false line rest is = is

none_onto : (word : List ℕ) (byte : ℕ) (parts : List (List ℕ)) → filter (occurs word) parts ≡ [] → ((line : List ℕ) (more : List (List ℕ)) → onto_first byte parts ≡ line ∷ more → ¬ OccursIn word line) → filter (occurs word) (onto_first byte parts) ≡ []
none_onto word byte [] none first = cond-false (occurs word (byte ∷ [])) _ _ (false_from_ne_true _ (λ yes. first (byte ∷ []) [] refl (occurs-stands word (byte ∷ []) yes)))
none_onto word byte (line ∷ more) none first =
    cond-false (occurs word (byte ∷ line)) _ _ (false_from_ne_true _ (λ yes. first (byte ∷ line) more refl (occurs-stands word (byte ∷ line) yes)))
    ∙ kept_rest (occurs word line) line (filter (occurs word) more) none

none_occurs : (word text : List ℕ) → ¬ OccursIn word text → filter (occurs word) (lines_of text) ≡ []
none_occurs word [] nowhere = refl
none_occurs word (byte ∷ rest) nowhere =
    let later = none_occurs word rest (λ stands. nowhere (OccursIn-cons word rest byte stands)) in
    ⊎_elim
    (λ yes.
    ap (filter (occurs word)) (lines_of-at_end byte rest yes)
    ∙ cond-false (occurs word []) _ _ (false_from_ne_true _ (λ stands. nowhere (OccursIn-append word [] (byte ∷ rest) (occurs-stands word [] stands))))
    ∙ later)
    (λ no.
    let lines = lines_of-within byte rest no in
    ap (filter (occurs word)) lines
    ∙ none_onto word byte (lines_of rest) later
    (λ line more is stands.
    let front = first_line_front (byte ∷ rest) line more (lines ∙ is) in
    nowhere (stands_in_whole word line front.0 (byte ∷ rest) front.1 stands)))
    (cases_Bool (byte == line_end))

pub keep_meaning-nowhere : (word text : List ℕ) → ¬ OccursIn word text → keep_meaning word text ≡ []
keep_meaning-nowhere word text nowhere = ap text_of (none_occurs word text nowhere)

-- then each is another
pub all_others : {X : Type 0} (p : X → Bool) (xs : List X) → filter p xs ≡ [] → filter (λ x. not (p x)) xs ≡ xs
all_others p [] none = refl
all_others p (x ∷ xs) none = by_test (p x) none (all_others p xs)
  where
    by_test : (b : Bool) → cond b (x ∷ filter p xs) (filter p xs) ≡ [] → (filter p xs ≡ [] → filter (λ x. not (p x)) xs ≡ xs) → cond (not b) (x ∷ filter (λ x. not (p x)) xs) (filter (λ x. not (p x)) xs) ≡ x ∷ xs
    by_test true some later = cc
    by_test false rest later = ap (λ l. x ∷ l) (later rest)

pub no_others : {X : Type 0} (p : X → Bool) (xs : List X) → filter p xs ≡ xs → filter (λ x. not (p x)) xs ≡ []
no_others p [] all = refl
no_others p (x ∷ xs) all = by_test (p x) all (no_others p xs)
  where
    by_test : (b : Bool) → cond b (x ∷ filter p xs) (filter p xs) ≡ x ∷ xs → (filter p xs ≡ xs → filter (λ x. not (p x)) xs ≡ []) → cond (not b) (x ∷ filter (λ x. not (p x)) xs) (filter (λ x. not (p x)) xs) ≡ []
    by_test true same later = let rest : filter p xs ≡ xs = cc in later rest
    by_test false same later = absurd (omega (arith, length-filter p xs, count_by-le-length p xs, ap length same))

pub without_meaning-others : (word text : List ℕ) → filter (occurs word) (lines_of text) ≡ [] → IsNormal text → without_meaning word text ≡ text
without_meaning-others word text none is = ap text_of (all_others (occurs word) (lines_of text) none) ∙ text_of-lines_of text ∙ normal_same text is

pub without_meaning-append : (word xs ys : List ℕ) → IsNormal xs → without_meaning word (xs ++ ys) ≡ without_meaning word xs ++ without_meaning word ys
without_meaning-append word xs ys whole =
    ap (λ lines. text_of (filter (λ line. not (occurs word line)) lines)) (lines_of-append xs ys whole)
    ∙ ap text_of (filter-append (λ line. not (occurs word line)) (lines_of xs) (lines_of ys))
    ∙ flat_map-append ended (filter (λ line. not (occurs word line)) (lines_of xs)) (filter (λ line. not (occurs word line)) (lines_of ys))

-- whole lines before others
pub keep_meaning-append : (word xs ys : List ℕ) → IsNormal xs → keep_meaning word (xs ++ ys) ≡ keep_meaning word xs ++ keep_meaning word ys
keep_meaning-append word xs ys whole =
    ap (λ lines. text_of (filter (occurs word) lines)) (lines_of-append xs ys whole)
    ∙ ap text_of (filter-append (occurs word) (lines_of xs) (lines_of ys))
    ∙ flat_map-append ended (filter (occurs word) (lines_of xs)) (filter (occurs word) (lines_of ys))

-- one line in which the word occurs
keep_meaning-line : (word line : List ℕ) → IsPlain line → OccursIn word line → keep_meaning word (ended line) ≡ ended line
keep_meaning-line word line plain stands =
    ap (λ lines. text_of (filter (occurs word) lines)) (lines_of-ended line plain)
    ∙ ap text_of (cond-true (occurs word line) (line ∷ []) [] (occurs-true word line stands))
    ∙ append-nil (ended line)

without_meaning-line : (word line : List ℕ) → IsPlain line → OccursIn word line → without_meaning word (ended line) ≡ []
without_meaning-line word line plain stands =
    ap (λ lines. text_of (filter (λ line. not (occurs word line)) lines)) (lines_of-ended line plain)
    ∙ ap text_of (cond-false (not (occurs word line)) (line ∷ []) [] (ap not (occurs-true word line stands)))

-- the empty word occurs in every line
pub all_kept : (lines : List (List ℕ)) → filter (occurs []) lines ≡ lines
all_kept [] = refl
all_kept (line ∷ lines) = cond-true (occurs [] line) _ _ (occurs-true [] line ([], line, refl)) ∙ ap (λ more. line ∷ more) (all_kept lines)

pub keep_meaning-empty_word : (word text : List ℕ) → length word ≡ 0 → IsNormal text → keep_meaning word text ≡ text
keep_meaning-empty_word [] text empty is = ap text_of (all_kept (lines_of text)) ∙ text_of-lines_of text ∙ normal_same text is
keep_meaning-empty_word (byte ∷ word) text empty is = absurd (omega arith)

pub without_meaning-empty_word : (word text : List ℕ) → length word ≡ 0 → without_meaning word text ≡ []
without_meaning-empty_word [] text empty = ap text_of (no_others (occurs []) (lines_of text) (all_kept (lines_of text)))
without_meaning-empty_word (byte ∷ word) text empty = absurd (omega arith)

-- a word with a line end occurs in no line
IsPlain-cons : (byte : ℕ) (rest : List ℕ) → byte ≢ line_end → IsPlain rest → IsPlain (byte ∷ rest)
IsPlain-cons byte rest other plain zero low = other
IsPlain-cons byte rest other plain (suc k) low = plain k (omega arith)

plain_onto : (byte : ℕ) (parts : List (List ℕ)) → byte ≢ line_end → AllByRecursion IsPlain parts → AllByRecursion IsPlain (onto_first byte parts)
plain_onto byte [] other plain = (IsPlain-cons byte [] other (λ k low. absurd (omega arith)), tt)
plain_onto byte (line ∷ more) other plain = (IsPlain-cons byte line other plain.0, plain.1)

pub lines_plain : (text : List ℕ) → AllByRecursion IsPlain (lines_of text)
lines_plain [] = tt
lines_plain (byte ∷ rest) =
    let later = lines_plain rest in
    cond_both (byte == line_end) ([] ∷ lines_of rest) (onto_first byte (lines_of rest)) (AllByRecursion IsPlain)
    (λ _. (λ k low. absurd (omega arith), later))
    (λ no. plain_onto byte (lines_of rest) (eqb-false byte line_end no) later)

reads_part : (word text front rest : List ℕ) (k : ℕ) → text ≡ front ++ (word ++ rest) → k < length word → get_or text (length front + k) 0 ≡ get_or word k 0
reads_part word text front rest k is low =
    ap (λ l. get_or l (length front + k) 0) is ∙ get_or-append-add front (word ++ rest) k 0 ∙ get_or_append_left word rest 0 k low

part_fits : (word text front rest : List ℕ) → text ≡ front ++ (word ++ rest) → length front + length word ≤ length text
part_fits word text front rest is = omega (arith, ap length is, length-append front (word ++ rest), length-append word rest)

plain_part : (word line : List ℕ) → IsPlain line → OccursIn word line → IsPlain word
plain_part word line plain stands k low end =
    plain (length stands.0 + k) (omega (arith, part_fits word line stands.0 stands.1 stands.2)) (reads_part word line stands.0 stands.1 k stands.2 low ∙ end)

none_of_plain : (word : List ℕ) (lines : List (List ℕ)) → ¬ IsPlain word → AllByRecursion IsPlain lines → filter (occurs word) lines ≡ []
none_of_plain word [] broken plain = refl
none_of_plain word (line ∷ lines) broken plain =
    cond-false (occurs word line) _ _ (false_from_ne_true _ (λ yes. broken (plain_part word line plain.0 (occurs-stands word line yes))))
    ∙ none_of_plain word lines broken plain.1

pub keep_meaning-broken_word : (word text : List ℕ) → ¬ IsPlain word → keep_meaning word text ≡ []
keep_meaning-broken_word word text broken = ap text_of (none_of_plain word (lines_of text) broken (lines_plain text))

pub without_meaning-broken_word : (word text : List ℕ) → ¬ IsPlain word → IsNormal text → without_meaning word text ≡ text
without_meaning-broken_word word text broken is = without_meaning-others word text (none_of_plain word (lines_of text) broken (lines_plain text)) is

pub broken_word : (word : List ℕ) (found : Option ℕ) → IsFirstByte (is_byte line_end) word found → is_some found ≡ true → ¬ IsPlain word
broken_word word None first some plain = cc
broken_word word (Some k) first some plain = plain k first.0.high (eqb-true _ line_end first.1)

-- a place at which the word stands
stands_at : (word text : List ℕ) (at : ℕ) → OccursAt text word at → OccursIn word text
stands_at word text at here =
    (take at text, drop (at + length word) text, sym (take-append-drop at text) ∙ ap (λ l. take at text ++ l) (OccursAt-split text word at here))

place_of : (word text front rest : List ℕ) → text ≡ front ++ (word ++ rest) → OccursAt text word (length front)
place_of word text front rest is =
    record { fits = part_fits word text front rest is; reads = λ j low. reads_part word text front rest j is low }

-- where a search finds no place, the word occurs in no line
pub IsNowhere-not_found : (word text : List ℕ) → IsNormal text → Nowhere (OccursAt text word) 0 (length text + 1) → IsNowhere word text
IsNowhere-not_found word text is none =
    let nowhere : ¬ OccursIn word text = λ stands.
    let here = place_of word text stands.0 stands.1 stands.2 in
    none (length stands.0) (omega arith) (omega (arith, here.fits)) here in
    record {
      kept = keep_meaning-nowhere word text nowhere;
      others = without_meaning-others word text (none_occurs word text nowhere) is;
    }

-- The line around the first place at which the word stands is the first that is kept.
module _ (word text : List ℕ) (place start end : ℕ) (plain : IsPlain word) (here : OccursAt text word place) (starts : StartsLine text place start) (ends : EndsLine text place end) where
  line : List ℕ
  line = take (end - 1 - start) (drop start text)

  length-line : length line ≡ end - 1 - start
  unfolding line
  length-line = length-take-le _ (drop start text) (omega (arith, starts.before, ends.past, ends.within, length-drop start text))

  line_reads : (k : ℕ) → k < end - 1 - start → get_or line k 0 ≡ get_or text (start + k) 0
  unfolding line
  line_reads k low = get_or-take _ (drop start text) k 0 low ∙ get_or-drop start text k 0

  line_ended : between start end text ≡ ended line
  unfolding line
  line_ended =
      let last = end - 1 - start in
      let more : end - start ≡ last + 1 = omega (arith, starts.before, ends.past) in
      let place_of_end : start + last ≡ end - 1 = omega (arith, starts.before, ends.past) in
      ap (λ n. take n (drop start text)) more
      ∙ take_more (drop start text) last 0 (omega (arith, starts.before, ends.past, ends.within, length-drop start text))
      ∙ ap (λ byte. take last (drop start text) ++ byte ∷ []) (get_or-drop start text last 0 ∙ ap (λ k. get_or text k 0) place_of_end ∙ ends.ends)

  line_plain : IsPlain line
  line_plain k low is =
      let below : k < end - 1 - start = omega (arith, length-line) in
      let byte = sym (line_reads k below) ∙ is in
      ⊎_elim
      (λ before. starts.plain (start + k) (omega arith) before byte)
      (λ behind. ends.plain (start + k) behind (omega (arith, starts.before, ends.past)) byte)
      (cases_lt (start + k) place)

  -- the word ends before the line end
  word_within : place + length word < end
  word_within =
      ⊎_elim
      (λ fits. fits)
      (λ across.
      let k = end - 1 - place in
      let at_end : place + k ≡ end - 1 = omega (arith, ends.past) in
      absurd (plain k (omega (arith, ends.past)) (sym (here.reads k (omega (arith, ends.past))) ∙ ap (λ j. get_or text j 0) at_end ∙ ends.ends)))
      (cases_lt (place + length word) end)

  word_in_line : OccursIn word line
  word_in_line =
      stands_at word line (place - start)
      record {
        fits = omega (arith, length-line, word_within, starts.before, ends.past);
        reads = λ j low.
            let same : start + (place - start + j) ≡ place + j = omega (arith, starts.before) in
            line_reads (place - start + j) (omega (arith, word_within, starts.before)) ∙ ap (λ k. get_or text k 0) same ∙ here.reads j low;
      }

  -- the word stands nowhere before the line
  nowhere_before : 0 < length word → Nowhere (OccursAt text word) 0 place → ¬ OccursIn word (take start text)
  nowhere_before long none stands =
      let early = place_of word text stands.0 (stands.1 ++ drop start text)
      (sym (take-append-drop start text) ∙ ap (λ l. l ++ drop start text) stands.2
      ∙ append_assoc stands.0 (word ++ stands.1) (drop start text) ∙ ap (λ l. stands.0 ++ l) (append_assoc word stands.1 (drop start text))) in
      none (length stands.0) (omega arith)
      (omega (arith, part_fits word (take start text) stands.0 stands.1 stands.2, length-take start text, starts.before)) early

  three_parts : text ≡ take start text ++ (ended line ++ drop end text)
  three_parts = split_between text start end (omega (arith, starts.before, ends.past)) ∙ ap (λ l. take start text ++ (l ++ drop end text)) line_ended

  pub IsFirstKept-found : 0 < length word → Nowhere (OccursAt text word) 0 place → IsFirstKept word text (record { start = start; end = end })
  IsFirstKept-found long none =
      let front = take start text in
      let after = drop end text in
      let nowhere = nowhere_before long none in
      record {
        rising = omega (arith, starts.before, ends.past);
        within = ends.within;
        before = starts.whole_lines;
        whole = subst IsNormal (sym line_ended) (IsNormal-ended line);
        one = ap end_count line_ended ∙ ended_once line line_plain;
        kept =
            ap (keep_meaning word) three_parts
            ∙ keep_meaning-append word front (ended line ++ after) starts.whole_lines
            ∙ ap (λ l. l ++ keep_meaning word (ended line ++ after)) (keep_meaning-nowhere word front nowhere)
            ∙ keep_meaning-append word (ended line) after (IsNormal-ended line)
            ∙ ap (λ l. l ++ keep_meaning word after) (keep_meaning-line word line line_plain word_in_line ∙ sym line_ended);
        others =
            ap (without_meaning word) three_parts
            ∙ without_meaning-append word front (ended line ++ after) starts.whole_lines
            ∙ ap (λ l. l ++ without_meaning word (ended line ++ after)) (without_meaning-others word front (none_occurs word front nowhere) starts.whole_lines)
            ∙ ap (λ l. front ++ l) (without_meaning-append word (ended line) after (IsNormal-ended line))
            ∙ ap (λ l. front ++ (l ++ without_meaning word after)) (without_meaning-line word line line_plain word_in_line);
      }
