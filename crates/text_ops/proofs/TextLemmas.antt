-- Parts of a text.
use Rattle.std.proofs.Common.{◌≡◌, ℕ, ◌+◌, ◌-◌, ◌≤◌, List, ◌++◌, length, take, drop, sym, ap, ◌∙◌, arith, length-take}
use Rattle.std.specs.List.{between}
use Rattle.std.proofs.Math.Seq.{take-add}
use Rattle.std.proofs.lemmas.List.{take-take, drop-take, drop-drop, take_all}

-- a part of a part
pub between-between : (xs : List ℕ) (s e i j : ℕ) → i ≤ j → s + j ≤ e → between i j (between s e xs) ≡ between (s + i) (s + j) xs
between-between xs s e i j rising within =
    let more : e - s ≡ i + (e - s - i) = omega arith in
    let long : j - i ≡ s + j - (s + i) = omega arith in
    ap (λ n. take (j - i) (drop i (take n (drop s xs)))) more
    ∙ ap (take (j - i)) (drop-take i (e - s - i) (drop s xs))
    ∙ take-take (j - i) (e - s - i) (drop i (drop s xs)) (omega arith)
    ∙ ap (take (j - i)) (drop-drop i s xs)
    ∙ ap (λ n. take n (drop (s + i) xs)) long

length-between-le : (xs : List ℕ) (s e : ℕ) → length (between s e xs) ≤ e - s
length-between-le xs s e = omega (arith, length-take (e - s) (drop s xs))

-- a part of a text that is itself a part
pub part_of : (xs text : List ℕ) (s e i j : ℕ) → between s e xs ≡ text → s ≤ e → i ≤ j → j ≤ length text → between (s + i) (s + j) xs ≡ between i j text
part_of xs text s e i j is before rising within =
    let long : length (between s e xs) ≡ length text = ap length is in
    sym (between-between xs s e i j rising (omega (arith, length-between-le xs s e))) ∙ ap (between i j) is

-- all of it
pub between_all : (text : List ℕ) (n : ℕ) → n ≡ length text → between 0 n text ≡ text
between_all text n whole = take_all (n - 0) text (omega arith)

-- its places are within the whole
pub part_within : (xs text : List ℕ) (s e j : ℕ) → between s e xs ≡ text → s ≤ e → e ≤ length xs → j ≤ length text → (s + j ≤ length xs) × (s + j ≤ e)
part_within xs text s e j is before inside within =
    let long : length (between s e xs) ≡ length text = ap length is in
    (omega (arith, length-between-le xs s e), omega (arith, length-between-le xs s e))

-- two parts that follow one another
pub between-append : (text : List ℕ) (i j k : ℕ) → i ≤ j → j ≤ k → between i k text ≡ between i j text ++ between j k text
between-append text i j k low high =
    let whole : k - i ≡ j - i + (k - j) = omega arith in
    let place : i + (j - i) ≡ j = omega arith in
    ap (λ n. take n (drop i text)) whole
    ∙ take-add (j - i) (k - j) (drop i text)
    ∙ ap (λ rest. between i j text ++ take (k - j) rest) (drop-drop (j - i) i text ∙ ap (λ n. drop n text) place)
