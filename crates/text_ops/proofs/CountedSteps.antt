-- Steps of the loops over counted lines.
use Rattle.std.proofs.Common.{◌≡◌, ℕ, ◌+◌, ◌<◌, List, [], ◌++◌, length, take, get_or, map, sym, ap, subst, ◌∙◌, arith}
use Rattle.std.specs.List.Sorted.{IsPermutation}
use Rattle.std.proofs.lemmas.List.{map_more}
use Rattle.std.proofs.lemmas.List.Sorted.{sum_by-IsPermutation}
use Rattle.text_ops.specs.declared.counted_line.CountedLine.{CountedLine}
use Rattle.text_ops.specs.declared.gathered.Gathered.{Gathered}
use Rattle.text_ops.specs.Lines.{lines_of, text_of, ended}
use Rattle.text_ops.specs.Repeats.{count_of}
use Rattle.text_ops.specs.inside.Counting.{counted_in, times_counted, CountsSoFar, counted_row_line}
use Rattle.text_ops.specs.inside.Gathering.{IsGathered}
use Rattle.text_ops.proofs.SortLemmas.{text_of-more}

-- rows in another order count the same
pub CountsSoFar-end : (text : List ℕ) (rows moved : List CountedLine) (lines : List (List ℕ)) → CountsSoFar text rows lines → lines ≡ [] → IsPermutation rows moved → (v : List ℕ) → times_counted v moved ≡ count_of v (lines_of text)
CountsSoFar-end text rows moved lines so_far none is v =
    let no_more : count_of v lines ≡ 0 = ap (count_of v) none in
    omega (arith, so_far v, no_more, sum_by-IsPermutation (counted_in v) rows moved is)

-- one more row is put
pub rows-next : (rows : List CountedLine) (place : ℕ) (made next : Gathered) (d : CountedLine) → IsGathered (text_of (map counted_row_line (take place rows))) made → place < length rows → ((all : List ℕ) → IsGathered all made → IsGathered (all ++ ended (counted_row_line (get_or rows place d))) next) → IsGathered (text_of (map counted_row_line (take (place + 1) rows))) next
rows-next rows place made next d gathered within put =
    let lines = map counted_row_line (take place rows) in
    let more = text_of-more lines (counted_row_line (get_or rows place d)) ∙ ap text_of (sym (map_more counted_row_line rows place d within)) in
    subst (λ all. IsGathered all next) more (put (text_of lines) gathered)
