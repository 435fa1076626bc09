-- The folds of chunks, joined in order.
use Rattle.std.proofs.Common.{◌≡◌, ℕ, zero, suc, ◌+◌, ◌-◌, ◌≤◌, List, [], ◌∷◌, ◌++◌, map, sym, ap, ◌∙◌, arith}
use Rattle.std.specs.List.{AllByRecursion, fold, range_with_len}
use Rattle.std.proofs.lemmas.List.FromFn.{map-range_with_len_more}
use Rattle.std.proofs.lemmas.List.Sums.{fold-append}
use Rattle.grain_tasks.specs.Folds.{Folding, IsLawful, fold_from, joined}
use Rattle.grain_tasks.specs.Chunks.{AreConsecutive, JoinsChunks, chunk_fold}
use Rattle.grain_tasks.specs.declared.chunk.Chunk.{Chunk}

pub consecutive_within : (from to : ℕ) (chunks : List Chunk) → AreConsecutive from to chunks → from ≤ to
consecutive_within from to [] are = omega (arith, are)
consecutive_within from to (c ∷ cs) are = omega (arith, are.1, consecutive_within c.to to cs are.2)

module _ {F V : Type 0} (folding : Folding F V) (f : F) (laws : IsLawful folding f) where
  abbrev Allowed : V → Type 0
  Allowed = folding.allowed f

  abbrev join : V → V → V
  join = folding.join f

  abbrev unit : V
  unit = folding.unit f

  pub fold_allowed : (x : V) (xs : List V) → Allowed x → AllByRecursion Allowed xs → Allowed (fold join x xs)
  fold_allowed x [] is are = is
  fold_allowed x (y ∷ ys) is are = fold_allowed (join x y) ys (laws.join_allowed x y is are.0) are.1

  -- what is before the values can be joined to their fold
  pub fold_before : (x : V) (xs : List V) → Allowed x → AllByRecursion Allowed xs → fold join x xs ≡ join x (joined folding f xs)
  fold_before x [] is are = sym (laws.right_neutral x is)
  fold_before x (y ∷ ys) is are =
      let rest : Allowed (joined folding f ys) = fold_allowed unit ys laws.unit_allowed are.1 in
      fold_before (join x y) ys (laws.join_allowed x y is are.0) are.1
      ∙ laws.associative x y (joined folding f ys) is are.0 rest
      ∙ ap (join x) (sym (fold_before y ys are.0 are.1) ∙ ap (λ v. fold join v ys) (sym (laws.left_neutral y are.0)))

  pub joined_append : (xs ys : List V) → AllByRecursion Allowed xs → AllByRecursion Allowed ys → joined folding f (xs ++ ys) ≡ join (joined folding f xs) (joined folding f ys)
  joined_append xs ys are also =
      fold-append join unit xs ys ∙ fold_before (joined folding f xs) ys (fold_allowed unit xs laws.unit_allowed are) also

  pub values_allowed : (first count : ℕ) → first + count ≤ folding.count f → AllByRecursion Allowed (map (folding.at f) (range_with_len first count))
  values_allowed first zero within = tt
  values_allowed first (suc n) within = (laws.value_allowed first (omega arith), values_allowed (first + 1) n (omega arith))

  pub fold_from_allowed : (first count : ℕ) → first + count ≤ folding.count f → Allowed (fold_from folding f first count)
  fold_from_allowed first count within = fold_allowed unit (map (folding.at f) (range_with_len first count)) laws.unit_allowed (values_allowed first count within)

  values_append : (first m n : ℕ) → map (folding.at f) (range_with_len first (m + n)) ≡ map (folding.at f) (range_with_len first m) ++ map (folding.at f) (range_with_len (first + m) n)
  values_append first zero n =
      let a : zero + n ≡ n = omega arith in
      let b : first ≡ first + zero = omega arith in
      ap (λ k. map (folding.at f) (range_with_len first k)) a ∙ ap (λ k. map (folding.at f) (range_with_len k n)) b
  values_append first (suc m) n =
      let a : suc m + n ≡ suc (m + n) = omega arith in
      let b : (first + 1) + m ≡ first + suc m = omega arith in
      ap (λ k. map (folding.at f) (range_with_len first k)) a
      ∙ ap (λ vs. folding.at f first ∷ vs) (values_append (first + 1) m n ∙ ap (λ k. map (folding.at f) (range_with_len (first + 1) m) ++ map (folding.at f) (range_with_len k n)) b)

  -- two neighbours
  pub fold_from_split : (first m n : ℕ) → first + (m + n) ≤ folding.count f → fold_from folding f first (m + n) ≡ join (fold_from folding f first m) (fold_from folding f (first + m) n)
  fold_from_split first m n within =
      ap (joined folding f) (values_append first m n)
      ∙ joined_append (map (folding.at f) (range_with_len first m)) (map (folding.at f) (range_with_len (first + m) n)) (values_allowed first m (omega arith)) (values_allowed (first + m) n (omega arith))

  pub chunk_allowed : (chunk : Chunk) → chunk.from ≤ chunk.to → chunk.to ≤ folding.count f → Allowed (chunk_fold folding f chunk)
  chunk_allowed c a b = fold_from_allowed c.from (c.to - c.from) (omega arith)

  pub chunks_allowed : (from to : ℕ) (chunks : List Chunk) → AreConsecutive from to chunks → to ≤ folding.count f → AllByRecursion Allowed (map (chunk_fold folding f) chunks)
  chunks_allowed from to [] are within = tt
  chunks_allowed from to (c ∷ cs) are within =
      let rest = consecutive_within c.to to cs are.2 in
      (chunk_allowed c (omega (arith, are.0, are.1)) (omega (arith, rest)), chunks_allowed c.to to cs are.2 within)

  pub chunks_joined : (from to : ℕ) (chunks : List Chunk) → AreConsecutive from to chunks → to ≤ folding.count f → joined folding f (map (chunk_fold folding f) chunks) ≡ fold_from folding f from (to - from)
  chunks_joined from to [] are within =
      let none : to - from ≡ zero = omega (arith, are) in
      ap (λ k. fold_from folding f from k) (sym none)
  chunks_joined from to (c ∷ cs) are within =
      let rest = consecutive_within c.to to cs are.2 in
      let here : Allowed (chunk_fold folding f c) = chunk_allowed c (omega (arith, are.0, are.1)) (omega (arith, rest)) in
      let m : ℕ = c.to - from in
      let n : ℕ = to - c.to in
      let all : m + n ≡ to - from = omega (arith, are.1, rest) in
      let next : from + m ≡ c.to = omega (arith, are.1) in
      ap (λ v. fold join v (map (chunk_fold folding f) cs)) (laws.left_neutral (chunk_fold folding f c) here)
      ∙ fold_before (chunk_fold folding f c) (map (chunk_fold folding f) cs) here (chunks_allowed c.to to cs are.2 within)
      ∙ ap (join (chunk_fold folding f c)) (chunks_joined c.to to cs are.2 within)
      ∙ ap (λ k. join (fold_from folding f k (c.to - k)) (fold_from folding f c.to n)) are.0
      ∙ ap (λ k. join (fold_from folding f from m) (fold_from folding f k n)) (sym next)
      ∙ sym (fold_from_split from m n (omega (arith, are.1, rest)))
      ∙ ap (λ k. fold_from folding f from k) all

  pub joins_chunks : JoinsChunks folding f
  joins_chunks chunks count are within = chunks_joined 0 count chunks are within ∙ (let same : count - 0 ≡ count = omega arith in ap (λ k. fold_from folding f 0 k) same)

module _ {F V : Type 0} (folding : Folding F V) (f : F) where
  -- one index more
  pub fold_from_more : (from i : ℕ) → from ≤ i → fold_from folding f from ((i + 1) - from) ≡ folding.join f (fold_from folding f from (i - from)) (folding.at f i)
  fold_from_more from i le =
      let more : (i + 1) - from ≡ (i - from) + 1 = omega (arith, le) in
      let here : from + (i - from) ≡ i = omega (arith, le) in
      ap (fold_from folding f from) more
      ∙ ap (joined folding f) (map-range_with_len_more (folding.at f) from (i - from) i here)
      ∙ fold-append (folding.join f) (folding.unit f) (map (folding.at f) (range_with_len from (i - from))) (folding.at f i ∷ [])

  pub fold_from_none : (from : ℕ) → fold_from folding f from (from - from) ≡ folding.unit f
  fold_from_none from = let none : from - from ≡ 0 = omega arith in ap (fold_from folding f from) none
