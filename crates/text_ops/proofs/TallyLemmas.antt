-- Runs of equal lines among lines in order.
use Rattle.std.proofs.Common.{◌≡◌, ◌≢◌, ℕ, suc, ◌+◌, ◌<◌, ◌≤◌, true, false, cond, List, [], ◌∷◌, ◌++◌, length, take, drop, get_or, map, decimal, refl, sym, ap, ◌∙◌, arith, ⊎_elim, append_assoc, append-nil, length-drop}
use Rattle.std.specs.List.{prefix_len, AllByRecursion}
use Rattle.std.specs.Str.{bytes_eq}
use Rattle.std.proofs.Math.Seq.{take-add}
use Rattle.std.proofs.lemmas.Bool.{cases_Bool, cond-true, cond-false, false_from_ne_true}
use Rattle.std.proofs.lemmas.List.{drop-drop, get_or-map, length-map, take-append-drop}
use Rattle.std.proofs.lemmas.List.Sums.{sum_by-append, prefix_len_is, prefix_len-le-length}
use Rattle.std.proofs.lemmas.Slice.Eq.{bytes_eq-Decides}
use Rattle.text_ops.specs.declared.gathered.Gathered.{Gathered}
use Rattle.text_ops.specs.Lines.{lines_of, text_of, ended}
use Rattle.text_ops.specs.LineOrder.{IsUpTo, in_order}
use Rattle.text_ops.specs.MatchKeys.{space}
use Rattle.text_ops.specs.Repeats.{changes, without_repeats, count_of}
use Rattle.text_ops.specs.TextMeaning.{tally_line, tally_meaning}
use Rattle.text_ops.specs.inside.Gathering.{IsGathered}
use Rattle.text_ops.specs.inside.Tallying.{run_of, TallySoFar}
use Rattle.text_ops.proofs.OrderLemmas.{Rises, IsUpTo-refl, IsUpTo-antisym, IsPermutation-in_order, count_of-cons, count_of-itself, count_of-permutation, counted_above}

pub count_of-append : (v : List ℕ) (xs ys : List (List ℕ)) → count_of v (xs ++ ys) ≡ count_of v xs + count_of v ys
count_of-append v xs ys = sum_by-append (λ l. cond (bytes_eq v l) 1 0) xs ys

same_true : (line : List ℕ) → bytes_eq line line ≡ true
same_true line = (bytes_eq-Decides line line).1 refl

-- behind a line its repeats are left out
changes-run : (line : List ℕ) (rest : List (List ℕ)) → changes line rest ≡ without_repeats (drop (prefix_len (bytes_eq line) rest) rest)
changes-run line [] = refl
changes-run line (next ∷ rest) =
    ⊎_elim
    (λ same.
    let is = (bytes_eq-Decides line next).0 same in
    let more : 1 + prefix_len (bytes_eq line) rest ≡ suc (prefix_len (bytes_eq line) rest) = omega arith in
    cond-true (bytes_eq line next) (changes next rest) (next ∷ changes next rest) same
    ∙ ap (λ l. changes l rest) (sym is)
    ∙ changes-run line rest
    ∙ sym (ap (λ n. without_repeats (drop n (next ∷ rest))) (cond-true (bytes_eq line next) (1 + prefix_len (bytes_eq line) rest) 0 same ∙ more)))
    (λ other.
    cond-false (bytes_eq line next) (changes next rest) (next ∷ changes next rest) other
    ∙ sym (ap (λ n. without_repeats (drop n (next ∷ rest))) (cond-false (bytes_eq line next) (1 + prefix_len (bytes_eq line) rest) 0 other)))
    (cases_Bool (bytes_eq line next))

-- lines in order that are the first stand together
run_count : (line : List ℕ) (rest : List (List ℕ)) → AllByRecursion (IsUpTo line) rest → Rises rest → count_of line rest ≡ prefix_len (bytes_eq line) rest
run_count line [] all rises = refl
run_count line (next ∷ rest) all rises =
    ⊎_elim
    (λ same.
    count_of-cons line next rest
    ∙ ap (λ n. n + count_of line rest) (cond-true (bytes_eq line next) 1 0 same)
    ∙ ap (λ n. 1 + n) (run_count line rest all.1 rises.1)
    ∙ sym (cond-true (bytes_eq line next) (1 + prefix_len (bytes_eq line) rest) 0 same))
    (λ other.
    let none : ¬ (1 ≤ count_of line (next ∷ rest)) = λ some.
    let down = counted_above next line (next ∷ rest) (above_itself next rest rises.0) some in
    let is = IsUpTo-antisym line next all.0 down in
    let yes = (bytes_eq-Decides line next).1 is in
    let never : true ≡ false = sym yes ∙ other in cc in
    let zero_count : count_of line (next ∷ rest) ≡ 0 = omega arith in
    zero_count ∙ sym (cond-false (bytes_eq line next) (1 + prefix_len (bytes_eq line) rest) 0 other))
    (cases_Bool (bytes_eq line next))
  where
    above_itself : (l : List ℕ) (ls : List (List ℕ)) → AllByRecursion (IsUpTo l) ls → AllByRecursion (IsUpTo l) (l ∷ ls)
    above_itself l ls all = (IsUpTo-refl l, all)

-- a run has its line alone
front_self : (line : List ℕ) (rest : List (List ℕ)) → count_of line (take (prefix_len (bytes_eq line) rest) rest) ≡ prefix_len (bytes_eq line) rest
front_self line [] = refl
front_self line (next ∷ rest) =
    ⊎_elim
    (λ same.
    let n = prefix_len (bytes_eq line) rest in
    let more : 1 + n ≡ suc n = omega arith in
    let long = cond-true (bytes_eq line next) (1 + n) 0 same in
    ap (λ k. count_of line (take k (next ∷ rest))) (long ∙ more)
    ∙ count_of-cons line next (take n rest)
    ∙ ap (λ k. k + count_of line (take n rest)) (cond-true (bytes_eq line next) 1 0 same)
    ∙ ap (λ k. 1 + k) (front_self line rest)
    ∙ sym long)
    (λ other.
    let none = cond-false (bytes_eq line next) (1 + prefix_len (bytes_eq line) rest) 0 other in
    ap (λ k. count_of line (take k (next ∷ rest))) none ∙ sym none)
    (cases_Bool (bytes_eq line next))

front_other : (v line : List ℕ) (rest : List (List ℕ)) → v ≢ line → count_of v (take (prefix_len (bytes_eq line) rest) rest) ≡ 0
front_other v line [] differs = refl
front_other v line (next ∷ rest) differs =
    ⊎_elim
    (λ same.
    let n = prefix_len (bytes_eq line) rest in
    let more : 1 + n ≡ suc n = omega arith in
    let not_next : bytes_eq v next ≡ false = false_from_ne_true (bytes_eq v next) (λ yes. differs ((bytes_eq-Decides v next).0 yes ∙ sym ((bytes_eq-Decides line next).0 same))) in
    ap (λ k. count_of v (take k (next ∷ rest))) (cond-true (bytes_eq line next) (1 + n) 0 same ∙ more)
    ∙ count_of-cons v next (take n rest)
    ∙ ap (λ k. k + count_of v (take n rest)) (cond-false (bytes_eq v next) 1 0 not_next)
    ∙ ap (λ k. 0 + k) (front_other v line rest differs))
    (λ other. ap (λ k. count_of v (take k (next ∷ rest))) (cond-false (bytes_eq line next) (1 + prefix_len (bytes_eq line) rest) 0 other))
    (cases_Bool (bytes_eq line next))

-- The run at the front of lines in order.
module _ (line : List ℕ) (rest : List (List ℕ)) (rises : Rises (line ∷ rest)) where
  pub run_is : run_of (line ∷ rest) ≡ 1 + prefix_len (bytes_eq line) rest
  run_is = cond-true (bytes_eq line line) (1 + prefix_len (bytes_eq line) rest) 0 (same_true line)

  pub run-le : run_of (line ∷ rest) ≤ length (line ∷ rest)
  run-le = omega (arith, run_is, prefix_len-le-length (bytes_eq line) rest)

  pub run_counted : count_of line (line ∷ rest) ≡ run_of (line ∷ rest)
  run_counted = count_of-itself line rest ∙ ap (λ n. 1 + n) (run_count line rest rises.0 rises.1) ∙ sym run_is

  pub repeats_left : without_repeats (line ∷ rest) ≡ line ∷ without_repeats (drop (run_of (line ∷ rest)) (line ∷ rest))
  repeats_left =
      let more : 1 + prefix_len (bytes_eq line) rest ≡ suc (prefix_len (bytes_eq line) rest) = omega arith in
      ap (λ l. line ∷ l) (changes-run line rest ∙ sym (ap (λ n. without_repeats (drop n (line ∷ rest))) (run_is ∙ more)))

  pub none_left : count_of line (drop (run_of (line ∷ rest)) (line ∷ rest)) ≡ 0
  none_left =
      let all = line ∷ rest in
      let parts = sym (count_of-append line (take (run_of all) all) (drop (run_of all) all)) ∙ ap (count_of line) (take-append-drop (run_of all) all) in
      omega (arith, parts, run_counted, front_self line all)

  pub others_left : (v : List ℕ) → 1 ≤ count_of v (drop (run_of (line ∷ rest)) (line ∷ rest)) → count_of v (take (run_of (line ∷ rest)) (line ∷ rest)) ≡ 0
  others_left v some =
      front_other v line (line ∷ rest)
      (λ is. absurd (omega (arith, none_left, ap (λ l. count_of l (drop (run_of (line ∷ rest)) (line ∷ rest))) is)))

-- The sort keys of a run.
pub run_sort_keys : {M : Type 0} (f : M → List ℕ) (sort_keys : List M) (n : ℕ) (d : M) → 0 < length sort_keys → n ≤ length sort_keys → ((j : ℕ) → j < n → f (get_or sort_keys j d) ≡ f (get_or sort_keys 0 d)) → (n < length sort_keys → f (get_or sort_keys n d) ≢ f (get_or sort_keys 0 d)) → n ≡ run_of (map f sort_keys)
run_sort_keys f [] n d some within same differs = absurd (omega arith)
run_sort_keys f (sort_key ∷ sort_keys) n d some within same differs =
    let test = bytes_eq (f sort_key) in
    let all = sort_key ∷ sort_keys in
    sym (prefix_len_is test (map f all) n [] (omega (arith, length-map all f))
    (λ k low. (bytes_eq-Decides (f sort_key) (get_or (map f all) k [])).1 (sym (get_or-map f all k d [] (omega arith) ∙ same k low)))
    (λ low. let inside : n < length all = omega (arith, length-map all f) in
    false_from_ne_true (test (get_or (map f all) n []))
    (λ yes. differs inside (sym ((bytes_eq-Decides (f sort_key) (get_or (map f all) n [])).0 yes ∙ get_or-map f all n d [] inside)))))

-- Steps of the loop.
pub TallySoFar-start : (text : List ℕ) (ordered : List (List ℕ)) (made : Gathered) → ordered ≡ in_order (lines_of text) → IsGathered [] made → TallySoFar text ordered 0 made
TallySoFar-start text ordered made are gathered =
    record {
      all = [];
      gathered = gathered;
      within = omega arith;
      apart = λ v some. refl;
      same = ap (λ l. text_of (map (tally_line (lines_of text)) (without_repeats l))) are;
    }

module _ (text : List ℕ) (ordered : List (List ℕ)) (place : ℕ) (made : Gathered) (so_far : TallySoFar text ordered place made) (are : ordered ≡ in_order (lines_of text)) (line : List ℕ) (rest : List (List ℕ)) (is : drop place ordered ≡ line ∷ rest) (rises : Rises (line ∷ rest)) where
  counted : count_of line (lines_of text) ≡ run_of (line ∷ rest)
  counted =
      let lines = lines_of text in
      let whole = sym (count_of-permutation line lines (in_order lines) (IsPermutation-in_order lines)) ∙ ap (count_of line) (sym are) in
      let parts = sym (count_of-append line (take place ordered) (drop place ordered)) ∙ ap (count_of line) (take-append-drop place ordered) in
      let here = ap (count_of line) is ∙ run_counted line rest rises in
      let before = so_far.apart line (omega (arith, here, run_is line rest rises)) in
      omega (arith, whole, parts, here, before)

  pub TallySoFar-next : (next : Gathered) → IsGathered (so_far.all ++ ended (decimal (run_of (line ∷ rest)) ++ space ∷ line)) next → TallySoFar text ordered (place + run_of (line ∷ rest)) next
  TallySoFar-next next gathered =
      let n = run_of (line ∷ rest) in
      let tally = tally_line (lines_of text) in
      let left = drop-drop n place ordered in
      let left_is : drop (place + n) ordered ≡ drop n (line ∷ rest) = sym left ∙ ap (drop n) is in
      let front_is : take (place + n) ordered ≡ take place ordered ++ take n (line ∷ rest) = take-add place n ordered ∙ ap (λ l. take place ordered ++ take n l) is in
      let further = text_of (map tally (without_repeats (drop n (line ∷ rest)))) in
      record {
        all = so_far.all ++ ended (decimal n ++ space ∷ line);
        gathered = gathered;
        within = omega (arith, run-le line rest rises, ap length is, length-drop place ordered, so_far.within);
        apart = λ v some.
            let here : 1 ≤ count_of v (drop n (line ∷ rest)) = omega (arith, ap (count_of v) left_is) in
            let whole = sym (count_of-append v (take n (line ∷ rest)) (drop n (line ∷ rest))) ∙ ap (count_of v) (take-append-drop n (line ∷ rest)) in
            let before = so_far.apart v (omega (arith, ap (count_of v) is, whole)) in
            omega (arith, ap (count_of v) front_is, count_of-append v (take place ordered) (take n (line ∷ rest)), before, others_left line rest rises v here);
        same =
            ap (λ l. so_far.all ++ ended (decimal n ++ space ∷ line) ++ text_of (map tally (without_repeats l))) left_is
            ∙ append_assoc so_far.all (ended (decimal n ++ space ∷ line)) further
            ∙ ap (λ k. so_far.all ++ (ended (decimal k ++ space ∷ line) ++ further)) (sym counted)
            ∙ ap (λ l. so_far.all ++ text_of (map tally l)) (sym (ap without_repeats is ∙ repeats_left line rest rises))
            ∙ so_far.same;
      }

-- all lines are put
pub TallySoFar-end : (text : List ℕ) (ordered : List (List ℕ)) (place : ℕ) (made : Gathered) (so_far : TallySoFar text ordered place made) → drop place ordered ≡ [] → so_far.all ≡ tally_meaning text
TallySoFar-end text ordered place made so_far none =
    sym (append-nil so_far.all) ∙ ap (λ l. so_far.all ++ text_of (map (tally_line (lines_of text)) (without_repeats l))) (sym none) ∙ so_far.same
