-- The net of lines and pipes is one of rings: one for each line and one for each serial pipe.
use Rattle.std.proofs.Common.{◌≡◌, ◌≢◌, ◌⊎◌, inl, inr, ℕ, zero, suc, ◌+◌, ◌*◌, ◌-◌, ◌<◌, ◌≤◌, Bool, true, false, not, ◌&&◌, cond, eqb, List, [], ◌∷◌, ◌++◌, length, map, Option, Some, None, sym, refl, ap, ◌∙◌, subst, arith}
use Rattle.std.specs.Prelude.{slice_get, count_by, replicate, sum_by, ◌==◌}
use Rattle.std.specs.Option.{option_map_or, option_map}
use Rattle.std.specs.List.{range_with_len}
use Rattle.std.proofs.lemmas.Bool.Decides.{nat_tests}
use Rattle.std.proofs.lemmas.Bool.{cases_eq, cases_lt}
use Rattle.std.proofs.lemmas.List.Sums.{sum_by-cons}
use Rattle.std.proofs.lemmas.List.{length-replicate}
use Rattle.journal_rules.specs.declared.entry.Entry.{Entry}
use Rattle.journal_rules.specs.ShapeLegal.{ShapeLegal}
use Rattle.std.proofs.lemmas.Option.{slice_get_within, slice_get-get_or, slice_get-map}
use Rattle.task_graph.specs.NetRows.{NetRows}
use Rattle.task_graph.specs.Places.{places, places_from}
use Rattle.task_graph.specs.Net.{is_weak, is_weak_row, task_chooses, chooses, strong_in}
use Rattle.task_graph.specs.declared.net.TaskRow.{TaskRow}
use Rattle.task_graph.specs.declared.net.EdgeRow.{EdgeRow}
use Rattle.journal_rules.specs.Counts.{first_tokens}
use Rattle.journal_rules.proofs.NetLemmas.{any_place}
use Rattle.run_laws.specs.OneThreadValue.{source_of, target_of}
use Rattle.run_laws.specs.Rings.{IsRing, RingOf, IsRinged}
use Rattle.pipe_lines.specs.PipeNet.{PipeEdge, cell_row, next, line_edge, serial_edge, cell_edges, edges_from, line_edges, pipe_edges, pipe_net}
use Rattle.run_laws.specs.Steady.{Steady}
use Rattle.run_laws.proofs.Lists.{all_places}
use Rattle.run_laws.proofs.Phases.{and_both}
use Rattle.run_laws.proofs.Rings.{steady_rings}

abbrev one_if : Bool → ℕ
one_if b = cond b 1 0

-- the sum of what each edge of a ring has
abbrev ring_sum : (PipeEdge → Bool) → (EdgeRow → ℕ) → List PipeEdge → ℕ
ring_sum q g [] = 0
ring_sum q g (edge ∷ edges) = cond (q edge) (g edge.row) 0 + ring_sum q g edges

ring_sum_append : (q : PipeEdge → Bool) (g : EdgeRow → ℕ) (xs ys : List PipeEdge) → ring_sum q g (xs ++ ys) ≡ ring_sum q g xs + ring_sum q g ys
ring_sum_append q g [] ys = omega arith
ring_sum_append q g (x ∷ xs) ys = omega (arith, ring_sum_append q g xs ys)

-- a sum over the places of a ring's edges
sum_places_from : (q : PipeEdge → Bool) (g : EdgeRow → ℕ) (f : ℕ → ℕ) (n : ℕ) (edges : List PipeEdge) → ((i : ℕ) (edge : PipeEdge) → slice_get edges i ≡ Some edge → f (n + i) ≡ g edge.row)
    → sum_by f (places_from q n edges) ≡ ring_sum q g edges
sum_places_from q g f n [] each = refl
sum_places_from q g f n (x ∷ xs) each = by_test (q x) (sum_places_from q g f (suc n) xs (λ i edge is. subst (λ k. f k ≡ g edge.row) (omega arith) (each (suc i) edge is)))
  where
    first : f n ≡ g x.row
    first = subst (λ k. f k ≡ g x.row) (omega arith) (each 0 x refl)

    by_test : (b : Bool) → sum_by f (places_from q (suc n) xs) ≡ ring_sum q g xs → sum_by f (cond b (n ∷ places_from q (suc n) xs) (places_from q (suc n) xs)) ≡ cond b (g x.row) 0 + ring_sum q g xs
    by_test true rest = sum_by-cons f n (places_from q (suc n) xs) ∙ omega (arith, first, rest)
    by_test false rest = omega (arith, rest)

-- round n numbers, what comes before each is what comes after each
round_sum : (c : ℕ → ℕ) (n a k : ℕ) → a + suc k ≡ n → sum_by c (range_with_len a (suc k)) + c 0 ≡ sum_by (λ i. c (next n i)) (range_with_len a (suc k)) + c a
round_sum c n a zero is =
    let last : eqb (a + 1) n ≡ true = grind (arith, nat_tests) in
    let back : c (next n a) ≡ c 0 = ap (λ b. c (cond b 0 (a + 1))) last in
    omega (arith, sum_by-cons c a [], sum_by-cons (λ i. c (next n i)) a [], back)
round_sum c n a (suc k) is =
    let more : eqb (a + 1) n ≡ false = grind (arith, nat_tests) in
    let on : c (next n a) ≡ c (a + 1) = ap (λ b. c (cond b 0 (a + 1))) more in
    let rest : sum_by c (range_with_len (a + 1) (suc k)) + c 0 ≡ sum_by (λ i. c (next n i)) (range_with_len (a + 1) (suc k)) + c (a + 1) = round_sum c n (a + 1) k (omega arith) in
    omega (arith, sum_by-cons c a (range_with_len (a + 1) (suc k)), sum_by-cons (λ i. c (next n i)) a (range_with_len (a + 1) (suc k)), on, rest)

round_same : (c : ℕ → ℕ) (n : ℕ) → sum_by c (range_with_len 0 n) ≡ sum_by (λ i. c (next n i)) (range_with_len 0 n)
round_same c zero = refl
round_same c (suc k) = omega (arith, round_sum c (suc k) 0 k (omega arith))

-- one of n numbers is the last
one_last : (n a k : ℕ) → a + k ≡ n → sum_by (λ i. one_if (i + 1 == n)) (range_with_len a k) ≤ 1
one_last n a zero is = omega arith
one_last n a (suc zero) is = by_test (a + 1 == n)
  where
    by_test : (b : Bool) → sum_by (λ (i : ℕ). one_if (i + 1 == n)) (a ∷ []) ≤ 1
    by_test b = omega (arith, sum_by-cons (λ i. one_if (i + 1 == n)) a [], at_most (a + 1 == n))
      where
        at_most : (t : Bool) → one_if t ≤ 1
        at_most true = omega arith
        at_most false = omega arith
one_last n a (suc (suc k)) is =
    let more : eqb (a + 1) n ≡ false = grind (arith, nat_tests) in
    let none : one_if (a + 1 == n) ≡ 0 = ap one_if more in
    omega (arith, sum_by-cons (λ i. one_if (i + 1 == n)) a (range_with_len (a + 1) (suc k)), none, one_last n (a + 1) (suc k) (omega arith))

-- whether an edge is one of a line
abbrev pub of_line : ℕ → PipeEdge → Bool
of_line l edge = not edge.serial && (edge.of == l)

-- whether it is one of a serial pipe
abbrev pub of_pipe : ℕ → PipeEdge → Bool
of_pipe p edge = edge.serial && (edge.of == p)

-- the sum over a line, from pipe p on
line_sum_from : (lines pipes k : ℕ) (g : EdgeRow → ℕ) (l p : ℕ) (serials : List Bool) → ring_sum (of_line k) g (edges_from lines pipes l p serials) ≡ cond (l == k) (sum_by (λ i. g (line_edge pipes l i).row) (range_with_len p (length serials))) 0
line_sum_from lines pipes k g l p [] = by_test (l == k)
  where
    by_test : (b : Bool) → 0 ≡ cond b (sum_by (λ i. g (line_edge pipes l i).row) (range_with_len p 0)) 0
    by_test true = refl
    by_test false = refl
line_sum_from lines pipes k g l p (is_serial ∷ rest) = ring_sum_append (of_line k) g (cell_edges lines pipes l p is_serial) (edges_from lines pipes l (p + 1) rest) ∙ by_serial is_serial (l == k) (line_sum_from lines pipes k g l (p + 1) rest)
  where
    by_serial : (s b : Bool) → ring_sum (of_line k) g (edges_from lines pipes l (p + 1) rest) ≡ cond b (sum_by (λ i. g (line_edge pipes l i).row) (range_with_len (p + 1) (length rest))) 0
        → cond b (g (line_edge pipes l p).row) 0 + ring_sum (of_line k) g (cond s (serial_edge lines pipes l p ∷ []) []) + ring_sum (of_line k) g (edges_from lines pipes l (p + 1) rest)
        ≡ cond b (sum_by (λ i. g (line_edge pipes l i).row) (range_with_len p (length (is_serial ∷ rest)))) 0
    by_serial true true h = omega (arith, h, sum_by-cons (λ i. g (line_edge pipes l i).row) p (range_with_len (p + 1) (length rest)))
    by_serial true false h = omega (arith, h)
    by_serial false true h = omega (arith, h, sum_by-cons (λ i. g (line_edge pipes l i).row) p (range_with_len (p + 1) (length rest)))
    by_serial false false h = omega (arith, h)

-- over n lines from line l on the edges of line k stand in that line, if it is among them
line_sum : (lines : ℕ) (serials : List Bool) (k : ℕ) (g h : EdgeRow → ℕ) → sum_by (λ i. g (line_edge (length serials) k i).row) (range_with_len 0 (length serials)) ≤ sum_by (λ i. h (line_edge (length serials) k i).row) (range_with_len 0 (length serials))
    → (l n : ℕ) → ring_sum (of_line k) g (line_edges lines serials l n) ≤ ring_sum (of_line k) h (line_edges lines serials l n)
line_sum lines serials k g h less l zero = omega arith
line_sum lines serials k g h less l (suc n) =
    omega (
      arith,
      ring_sum_append (of_line k) g (edges_from lines (length serials) l 0 serials) (line_edges lines serials (l + 1) n),
      ring_sum_append (of_line k) h (edges_from lines (length serials) l 0 serials) (line_edges lines serials (l + 1) n),
      line_sum_from lines (length serials) k g l 0 serials,
      line_sum_from lines (length serials) k h l 0 serials,
      here (cases_eq l k),
      line_sum lines serials k g h less (l + 1) n,
    )
  where
    here : (l ≡ k) ⊎ (l ≢ k) → cond (l == k) (sum_by (λ i. g (line_edge (length serials) l i).row) (range_with_len 0 (length serials))) 0 ≤ cond (l == k) (sum_by (λ i. h (line_edge (length serials) l i).row) (range_with_len 0 (length serials))) 0
    here (inl same) =
        let hit : eqb l k ≡ true = grind (arith, nat_tests) in
        subst (λ b. cond b (sum_by (λ i. g (line_edge (length serials) l i).row) (range_with_len 0 (length serials))) 0 ≤ cond b (sum_by (λ i. h (line_edge (length serials) l i).row) (range_with_len 0 (length serials))) 0) (sym hit)
        (subst (λ j. sum_by (λ i. g (line_edge (length serials) j i).row) (range_with_len 0 (length serials)) ≤ sum_by (λ i. h (line_edge (length serials) j i).row) (range_with_len 0 (length serials))) (sym same) less)
    here (inr other) =
        let miss : eqb l k ≡ false = grind (arith, nat_tests) in
        subst (λ b. cond b (sum_by (λ i. g (line_edge (length serials) l i).row) (range_with_len 0 (length serials))) 0 ≤ cond b (sum_by (λ i. h (line_edge (length serials) l i).row) (range_with_len 0 (length serials))) 0) (sym miss) (omega arith)

-- a line that was passed has no more edges
line_none : (lines : ℕ) (serials : List Bool) (k : ℕ) (g : EdgeRow → ℕ) (l n : ℕ) → k < l → ring_sum (of_line k) g (line_edges lines serials l n) ≡ 0
line_none lines serials k g l zero past = refl
line_none lines serials k g l (suc n) past =
    let miss : eqb l k ≡ false = grind (arith, nat_tests) in
    let none : cond (l == k) (sum_by (λ i. g (line_edge (length serials) l i).row) (range_with_len 0 (length serials))) 0 ≡ 0 = ap (λ b. cond b (sum_by (λ i. g (line_edge (length serials) l i).row) (range_with_len 0 (length serials))) 0) miss in
    omega (arith, ring_sum_append (of_line k) g (edges_from lines (length serials) l 0 serials) (line_edges lines serials (l + 1) n), line_sum_from lines (length serials) k g l 0 serials, none, line_none lines serials k g (l + 1) n (omega arith))

-- and each line among them is there once
line_once : (lines : ℕ) (serials : List Bool) (k : ℕ) (g : EdgeRow → ℕ) (l n : ℕ) → ring_sum (of_line k) g (line_edges lines serials l n) ≤ sum_by (λ i. g (line_edge (length serials) k i).row) (range_with_len 0 (length serials))
line_once lines serials k g l zero = omega arith
line_once lines serials k g l (suc n) = here (cases_eq l k) (line_once lines serials k g (l + 1) n)
  where
    split : ring_sum (of_line k) g (line_edges lines serials l (suc n)) ≡ cond (l == k) (sum_by (λ i. g (line_edge (length serials) l i).row) (range_with_len 0 (length serials))) 0 + ring_sum (of_line k) g (line_edges lines serials (l + 1) n)
    split = ring_sum_append (of_line k) g (edges_from lines (length serials) l 0 serials) (line_edges lines serials (l + 1) n) ∙ ap (λ s. s + ring_sum (of_line k) g (line_edges lines serials (l + 1) n)) (line_sum_from lines (length serials) k g l 0 serials)

    here : (l ≡ k) ⊎ (l ≢ k) → ring_sum (of_line k) g (line_edges lines serials (l + 1) n) ≤ sum_by (λ i. g (line_edge (length serials) k i).row) (range_with_len 0 (length serials))
        → ring_sum (of_line k) g (line_edges lines serials l (suc n)) ≤ sum_by (λ i. g (line_edge (length serials) k i).row) (range_with_len 0 (length serials))
    here (inl same) rest =
        let hit : eqb l k ≡ true = grind (arith, nat_tests) in
        let first : cond (l == k) (sum_by (λ i. g (line_edge (length serials) l i).row) (range_with_len 0 (length serials))) 0 ≡ sum_by (λ i. g (line_edge (length serials) k i).row) (range_with_len 0 (length serials)) =
        ap (λ b. cond b (sum_by (λ i. g (line_edge (length serials) l i).row) (range_with_len 0 (length serials))) 0) hit ∙ ap (λ j. sum_by (λ i. g (line_edge (length serials) j i).row) (range_with_len 0 (length serials))) same in
        omega (arith, split, first, line_none lines serials k g (l + 1) n (omega arith))
    here (inr other) rest =
        let miss : eqb l k ≡ false = grind (arith, nat_tests) in
        let none : cond (l == k) (sum_by (λ i. g (line_edge (length serials) l i).row) (range_with_len 0 (length serials))) 0 ≡ 0 = ap (λ b. cond b (sum_by (λ i. g (line_edge (length serials) l i).row) (range_with_len 0 (length serials))) 0) miss in
        omega (arith, split, none, rest)

line_has : (lines : ℕ) (serials : List Bool) (k : ℕ) (g : EdgeRow → ℕ) (l n : ℕ) → l ≤ k → k < l + n → sum_by (λ i. g (line_edge (length serials) k i).row) (range_with_len 0 (length serials)) ≤ ring_sum (of_line k) g (line_edges lines serials l n)
line_has lines serials k g l zero from below = absurd (omega arith)
line_has lines serials k g l (suc n) from below = here (cases_eq l k) (λ other. line_has lines serials k g (l + 1) n (omega (arith, other)) (omega arith))
  where
    split : ring_sum (of_line k) g (line_edges lines serials l (suc n)) ≡ cond (l == k) (sum_by (λ i. g (line_edge (length serials) l i).row) (range_with_len 0 (length serials))) 0 + ring_sum (of_line k) g (line_edges lines serials (l + 1) n)
    split = ring_sum_append (of_line k) g (edges_from lines (length serials) l 0 serials) (line_edges lines serials (l + 1) n) ∙ ap (λ s. s + ring_sum (of_line k) g (line_edges lines serials (l + 1) n)) (line_sum_from lines (length serials) k g l 0 serials)

    here : (l ≡ k) ⊎ (l ≢ k) → (l ≢ k → sum_by (λ i. g (line_edge (length serials) k i).row) (range_with_len 0 (length serials)) ≤ ring_sum (of_line k) g (line_edges lines serials (l + 1) n))
        → sum_by (λ i. g (line_edge (length serials) k i).row) (range_with_len 0 (length serials)) ≤ ring_sum (of_line k) g (line_edges lines serials l (suc n))
    here (inl same) rest =
        let hit : eqb l k ≡ true = grind (arith, nat_tests) in
        let first : cond (l == k) (sum_by (λ i. g (line_edge (length serials) l i).row) (range_with_len 0 (length serials))) 0 ≡ sum_by (λ i. g (line_edge (length serials) k i).row) (range_with_len 0 (length serials)) =
        ap (λ b. cond b (sum_by (λ i. g (line_edge (length serials) l i).row) (range_with_len 0 (length serials))) 0) hit ∙ ap (λ j. sum_by (λ i. g (line_edge (length serials) j i).row) (range_with_len 0 (length serials))) same in
        omega (arith, split, first)
    here (inr other) rest = omega (arith, split, rest other)

-- whether pipe k is serial, in a list that begins with pipe p
abbrev serial_at : ℕ → ℕ → List Bool → Bool
serial_at k p [] = false
serial_at k p (is_serial ∷ rest) = cond (p == k) is_serial (serial_at k (p + 1) rest)

pipe_none : (lines pipes k : ℕ) (g : EdgeRow → ℕ) (l p : ℕ) (serials : List Bool) → k < p → ring_sum (of_pipe k) g (edges_from lines pipes l p serials) ≡ 0
pipe_none lines pipes k g l p [] past = refl
pipe_none lines pipes k g l p (is_serial ∷ rest) past =
    ring_sum_append (of_pipe k) g (cell_edges lines pipes l p is_serial) (edges_from lines pipes l (p + 1) rest) ∙ by_serial is_serial (pipe_none lines pipes k g l (p + 1) rest (omega arith))
  where
    miss : eqb p k ≡ false
    miss = grind (arith, nat_tests)

    none : cond (p == k) (g (serial_edge lines pipes l p).row) 0 ≡ 0
    none = ap (λ b. cond b (g (serial_edge lines pipes l p).row) 0) miss

    by_serial : (s : Bool) → ring_sum (of_pipe k) g (edges_from lines pipes l (p + 1) rest) ≡ 0 → ring_sum (of_pipe k) g (cell_edges lines pipes l p s) + ring_sum (of_pipe k) g (edges_from lines pipes l (p + 1) rest) ≡ 0
    by_serial true h = omega (arith, h, none)
    by_serial false h = omega (arith, h)

-- of a line, pipe k has one edge, where it is serial
pipe_from : (lines pipes k : ℕ) (g : EdgeRow → ℕ) (l p : ℕ) (serials : List Bool) → ring_sum (of_pipe k) g (edges_from lines pipes l p serials) ≡ cond (serial_at k p serials) (g (serial_edge lines pipes l k).row) 0
pipe_from lines pipes k g l p [] = refl
pipe_from lines pipes k g l p (is_serial ∷ rest) =
    ring_sum_append (of_pipe k) g (cell_edges lines pipes l p is_serial) (edges_from lines pipes l (p + 1) rest) ∙ here (cases_eq p k) is_serial (pipe_from lines pipes k g l (p + 1) rest)
  where
    here : (p ≡ k) ⊎ (p ≢ k) → (s : Bool) → ring_sum (of_pipe k) g (edges_from lines pipes l (p + 1) rest) ≡ cond (serial_at k (p + 1) rest) (g (serial_edge lines pipes l k).row) 0
        → ring_sum (of_pipe k) g (cell_edges lines pipes l p s) + ring_sum (of_pipe k) g (edges_from lines pipes l (p + 1) rest) ≡ cond (cond (p == k) s (serial_at k (p + 1) rest)) (g (serial_edge lines pipes l k).row) 0
    here (inl same) s h = by_serial s
      where
        hit : eqb p k ≡ true
        hit = grind (arith, nat_tests)

        after : ring_sum (of_pipe k) g (edges_from lines pipes l (p + 1) rest) ≡ 0
        after = pipe_none lines pipes k g l (p + 1) rest (omega arith)

        first : cond (p == k) (g (serial_edge lines pipes l p).row) 0 ≡ g (serial_edge lines pipes l k).row
        first = ap (λ b. cond b (g (serial_edge lines pipes l p).row) 0) hit ∙ ap (λ q. g (serial_edge lines pipes l q).row) same

        whole : (b : Bool) → cond (cond (p == k) b (serial_at k (p + 1) rest)) (g (serial_edge lines pipes l k).row) 0 ≡ cond b (g (serial_edge lines pipes l k).row) 0
        whole b = ap (λ t. cond (cond t b (serial_at k (p + 1) rest)) (g (serial_edge lines pipes l k).row) 0) hit

        by_serial : (b : Bool) → ring_sum (of_pipe k) g (cell_edges lines pipes l p b) + ring_sum (of_pipe k) g (edges_from lines pipes l (p + 1) rest) ≡ cond (cond (p == k) b (serial_at k (p + 1) rest)) (g (serial_edge lines pipes l k).row) 0
        by_serial true = omega (arith, after, first, whole true)
        by_serial false = omega (arith, after, whole false)
    here (inr other) s h = by_serial s
      where
        miss : eqb p k ≡ false
        miss = grind (arith, nat_tests)

        none : cond (p == k) (g (serial_edge lines pipes l p).row) 0 ≡ 0
        none = ap (λ b. cond b (g (serial_edge lines pipes l p).row) 0) miss

        whole : (b : Bool) → cond (cond (p == k) b (serial_at k (p + 1) rest)) (g (serial_edge lines pipes l k).row) 0 ≡ cond (serial_at k (p + 1) rest) (g (serial_edge lines pipes l k).row) 0
        whole b = ap (λ t. cond (cond t b (serial_at k (p + 1) rest)) (g (serial_edge lines pipes l k).row) 0) miss

        by_serial : (b : Bool) → ring_sum (of_pipe k) g (cell_edges lines pipes l p b) + ring_sum (of_pipe k) g (edges_from lines pipes l (p + 1) rest) ≡ cond (cond (p == k) b (serial_at k (p + 1) rest)) (g (serial_edge lines pipes l k).row) 0
        by_serial true = omega (arith, h, none, whole true)
        by_serial false = omega (arith, h, whole false)

-- over the lines pipe k has one edge of each
pipe_sum : (lines : ℕ) (serials : List Bool) (k : ℕ) (g : EdgeRow → ℕ) (l n : ℕ) → ring_sum (of_pipe k) g (line_edges lines serials l n) ≡ cond (serial_at k 0 serials) (sum_by (λ j. g (serial_edge lines (length serials) j k).row) (range_with_len l n)) 0
pipe_sum lines serials k g l zero = by_test (serial_at k 0 serials)
  where
    by_test : (b : Bool) → 0 ≡ cond b (sum_by (λ j. g (serial_edge lines (length serials) j k).row) (range_with_len l 0)) 0
    by_test true = refl
    by_test false = refl
pipe_sum lines serials k g l (suc n) =
    ring_sum_append (of_pipe k) g (edges_from lines (length serials) l 0 serials) (line_edges lines serials (l + 1) n)
    ∙ by_test (serial_at k 0 serials) (pipe_from lines (length serials) k g l 0 serials) (pipe_sum lines serials k g (l + 1) n)
  where
    by_test : (b : Bool) → ring_sum (of_pipe k) g (edges_from lines (length serials) l 0 serials) ≡ cond b (g (serial_edge lines (length serials) l k).row) 0
        → ring_sum (of_pipe k) g (line_edges lines serials (l + 1) n) ≡ cond b (sum_by (λ j. g (serial_edge lines (length serials) j k).row) (range_with_len (l + 1) n)) 0
        → ring_sum (of_pipe k) g (edges_from lines (length serials) l 0 serials) + ring_sum (of_pipe k) g (line_edges lines serials (l + 1) n) ≡ cond b (sum_by (λ j. g (serial_edge lines (length serials) j k).row) (range_with_len l (suc n))) 0
    by_test true h r = omega (arith, h, r, sum_by-cons (λ j. g (serial_edge lines (length serials) j k).row) l (range_with_len (l + 1) n))
    by_test false h r = omega (arith, h, r)

-- where a number of those is, the count is one at least
hits : (test : ℕ → Bool) (a k m : ℕ) → a ≤ m → m < a + k → test m ≡ true → 1 ≤ sum_by (λ i. one_if (test i)) (range_with_len a k)
hits test a zero m from below passes = absurd (omega arith)
hits test a (suc k) m from below passes = by_place (cases_eq a m) (λ other. hits test (a + 1) k m (omega (arith, other)) (omega arith) passes)
  where
    by_place : (a ≡ m) ⊎ (a ≢ m) → (a ≢ m → 1 ≤ sum_by (λ i. one_if (test i)) (range_with_len (a + 1) k)) → 1 ≤ sum_by (λ i. one_if (test i)) (range_with_len a (suc k))
    by_place (inl same) rest =
        let one : one_if (test a) ≡ 1 = ap (λ i. one_if (test i)) same ∙ ap one_if passes in
        omega (arith, sum_by-cons (λ i. one_if (test i)) a (range_with_len (a + 1) k), one)
    by_place (inr other) rest = omega (arith, sum_by-cons (λ i. one_if (test i)) a (range_with_len (a + 1) k), rest other)

-- a ring has no more than all edges
more_all : (q : PipeEdge → Bool) (g : EdgeRow → ℕ) (edges : List PipeEdge) → ring_sum q g edges ≤ ring_sum (λ edge. true) g edges
more_all q g [] = omega arith
more_all q g (edge ∷ edges) = omega (arith, more_all q g edges, at_most (q edge))
  where
    at_most : (b : Bool) → cond b (g edge.row) 0 ≤ g edge.row
    at_most true = omega arith
    at_most false = omega arith

-- where a task stands
record Sited (pipes t l n : ℕ) : Type 0 where
  line : ℕ
  pipe : ℕ
  from : l ≤ line
  below : line < l + n
  is : t ≡ line * pipes + pipe
  in_pipes : pipe < pipes

-- an edge into a task is one of its strong in-edges
not_none : (net : NetRows) (s n : ℕ) (edges : List PipeEdge) → ((u : ℕ) → task_chooses net u ≡ false) → 1 ≤ ring_sum (λ edge. true) (λ row. one_if (s == row.to)) edges
    → places_from (λ (row : EdgeRow). (row.to == s) && not (is_weak_row net row)) n (map (λ (edge : PipeEdge). edge.row) edges) ≢ []
not_none net s n [] plainly has none = absurd (omega arith)
not_none net s n (edge ∷ edges) plainly has none = by_head (cases_eq s edge.row.to) none (not_none net s (suc n) edges plainly)
  where
    rest : List ℕ
    rest = places_from (λ (row : EdgeRow). (row.to == s) && not (is_weak_row net row)) (suc n) (map (λ (d : PipeEdge). d.row) edges)

    by_head : (s ≡ edge.row.to) ⊎ (s ≢ edge.row.to) → cond ((edge.row.to == s) && not (is_weak_row net edge.row)) (n ∷ rest) rest ≡ []
        → (1 ≤ ring_sum (λ d. true) (λ row. one_if (s == row.to)) edges → rest ≢ []) → ⊥
    by_head (inl same) is more =
        let hit : eqb edge.row.to s ≡ true = grind (arith, nat_tests) in
        let both : (edge.row.to == s) && not (is_weak_row net edge.row) ≡ true = and_both _ _ hit (ap not (plainly edge.row.from)) in
        let cons : n ∷ rest ≡ [] = sym (ap (λ b. cond b (n ∷ rest) rest) both) ∙ is in
        absurd (cc)
    by_head (inr other) is more =
        let miss : eqb s edge.row.to ≡ false = grind (arith, nat_tests) in
        let miss_back : eqb edge.row.to s ≡ false = grind (arith, nat_tests) in
        let no_one : one_if (s == edge.row.to) ≡ 0 = ap one_if miss in
        more (omega (arith, no_one)) (sym (ap (λ b. cond (b && not (is_weak_row net edge.row)) (n ∷ rest) rest) miss_back) ∙ is)

-- the rings
module _ (lines : ℕ) (serials : List Bool) where
  abbrev net : NetRows
  net = pipe_net lines serials

  abbrev all : List PipeEdge
  all = pipe_edges lines serials

  pub row_at : (e : ℕ) (edge : PipeEdge) → slice_get all e ≡ Some edge → slice_get net.edges e ≡ Some edge.row
  row_at e edge is = slice_get-map (λ (d : PipeEdge). d.row) all e ∙ ap (option_map (λ (d : PipeEdge). d.row)) is

  places_of : (q : PipeEdge → Bool) (g : EdgeRow → ℕ) (f : ℕ → ℕ) → ((e : ℕ) (edge : PipeEdge) → slice_get all e ≡ Some edge → f e ≡ g edge.row) → sum_by f (places q all) ≡ ring_sum q g all
  places_of q g f each = sum_places_from q g f 0 all (λ i edge is. subst (λ k. f k ≡ g edge.row) (omega arith) (each i edge is))

  ring_is : (q : PipeEdge → Bool) → ((t : ℕ) → ring_sum q (λ row. one_if (t == row.from)) all ≤ ring_sum q (λ row. one_if (t == row.to)) all) → ring_sum q (λ row. one_if row.start) all ≤ 1 → IsRing net (places q all)
  ring_is q balanced one = record {
    balanced = λ t.
        let out : count_by (λ e. t == source_of net e) (places q all) ≡ ring_sum q (λ row. one_if (t == row.from)) all =
        places_of q (λ row. one_if (t == row.from)) (λ e. one_if (t == source_of net e)) (λ e edge is. ap (λ o. one_if (t == option_map_or (λ (r : EdgeRow). r.from) o 0)) (row_at e edge is)) in
        let into : count_by (λ e. t == target_of net e) (places q all) ≡ ring_sum q (λ row. one_if (t == row.to)) all =
        places_of q (λ row. one_if (t == row.to)) (λ e. one_if (t == target_of net e)) (λ e edge is. ap (λ o. one_if (t == option_map_or (λ (r : EdgeRow). r.to) o 0)) (row_at e edge is)) in
        omega (arith, out, into, balanced t);
    one_token =
        let tokens : sum_by (first_tokens net) (places q all) ≡ ring_sum q (λ row. one_if row.start) all =
        places_of q (λ row. one_if row.start) (first_tokens net) (λ e edge is. ap (λ o. option_map_or (λ (r : EdgeRow). one_if r.start) o 0) (row_at e edge is)) in
        omega (arith, tokens, one);
    in_range = all_places q (λ e. e < length net.edges) all (λ e edge is passes. slice_get_within net.edges e edge.row (row_at e edge is));
  }

  pub line_ring : (k : ℕ) → IsRing net (places (of_line k) all)
  line_ring k = ring_is (of_line k)
      (λ t. line_sum lines serials k (λ row. one_if (t == row.from)) (λ row. one_if (t == row.to)) (omega (arith, round_same (λ i. one_if (t == k * length serials + i)) (length serials))) 0 lines)
      (omega (arith, line_once lines serials k (λ row. one_if row.start) 0 lines, one_last (length serials) 0 (length serials) (omega arith)))

  pub pipe_ring : (k : ℕ) → IsRing net (places (of_pipe k) all)
  pipe_ring k = by_serial (serial_at k 0 serials) (λ g. pipe_sum lines serials k g 0 lines)
    where
      by_serial : (b : Bool) → ((g : EdgeRow → ℕ) → ring_sum (of_pipe k) g all ≡ cond b (sum_by (λ j. g (serial_edge lines (length serials) j k).row) (range_with_len 0 lines)) 0) → IsRing net (places (of_pipe k) all)
      by_serial true sums = ring_is (of_pipe k)
          (λ t. omega (arith, sums (λ row. one_if (t == row.from)), sums (λ row. one_if (t == row.to)), round_same (λ j. one_if (t == j * length serials + k)) lines))
          (omega (arith, sums (λ row. one_if row.start), one_last lines 0 lines (omega arith)))
      by_serial false sums = ring_is (of_pipe k)
          (λ t. omega (arith, sums (λ row. one_if (t == row.from)), sums (λ row. one_if (t == row.to))))
          (omega (arith, sums (λ row. one_if row.start)))

  ring_of : (e : ℕ) → e < length net.edges → RingOf net e
  ring_of e below = by_edge (slice_get all e) refl
    where
      by_edge : (o : Option PipeEdge) → slice_get all e ≡ o → RingOf net e
      by_edge None is =
          let none : slice_get net.edges e ≡ None = slice_get-map (λ (d : PipeEdge). d.row) all e ∙ ap (option_map (λ (d : PipeEdge). d.row)) is in
          let there = slice_get-get_or net.edges e (record { from = 0; to = 0; start = false }) below in
          absurd (cc)
      by_edge (Some edge) is = by_serial edge.serial refl
        where
          same : eqb edge.of edge.of ≡ true
          same = grind (arith, nat_tests)

          by_serial : (s : Bool) → edge.serial ≡ s → RingOf net e
          by_serial true serial = record {
            ring = places (of_pipe edge.of) all;
            is_ring = pipe_ring edge.of;
            has = any_place (of_pipe edge.of) e all ∙ ap (λ o. option_map_or (of_pipe edge.of) o false) is ∙ ap (λ s. s && (edge.of == edge.of)) serial ∙ same;
          }
          by_serial false serial = record {
            ring = places (of_line edge.of) all;
            is_ring = line_ring edge.of;
            has = any_place (of_line edge.of) e all ∙ ap (λ o. option_map_or (of_line edge.of) o false) is ∙ ap (λ s. not s && (edge.of == edge.of)) serial ∙ same;
          }

  plain : (t : ℕ) → task_chooses net t ≡ false
  plain t = all_plain (lines * length serials) t
    where
      all_plain : (n k : ℕ) → option_map_or (λ (r : TaskRow). chooses r.shape) (slice_get (replicate n cell_row) k) false ≡ false
      all_plain zero k = refl
      all_plain (suc n) zero = refl
      all_plain (suc n) (suc k) = all_plain n k

  no_weak : (e : ℕ) → is_weak net e ≡ false
  no_weak e = by_row (slice_get net.edges e)
    where
      by_row : (o : Option EdgeRow) → option_map_or (is_weak_row net) o false ≡ false
      by_row None = refl
      by_row (Some row) = plain row.from

  -- the line of a task
  in_line : (t l n : ℕ) → l * length serials ≤ t → t < (l + n) * length serials → Sited (length serials) t l n
  in_line t l zero from below = absurd (omega (arith, ap (λ m. m * length serials) (l_zero l)))
    where
      l_zero : (m : ℕ) → m + 0 ≡ m
      l_zero m = omega arith
  in_line t l (suc n) from below = by_place (cases_lt t (l * length serials + length serials)) (λ past. in_line t (l + 1) n (omega (arith, one_more, past)) (omega (arith, ap (λ m. m * length serials) (shift l n))))
    where
      shift : (m k : ℕ) → m + suc k ≡ m + 1 + k
      shift m k = omega arith

      one_more : (l + 1) * length serials ≡ l * length serials + length serials
      one_more = omega arith

      by_place : (t < l * length serials + length serials) ⊎ (l * length serials + length serials ≤ t) → (l * length serials + length serials ≤ t → Sited (length serials) t (l + 1) n) → Sited (length serials) t l (suc n)
      by_place (inl here) more = record { line = l; pipe = t - l * length serials; from = omega arith; below = omega arith; is = omega arith; in_pipes = omega arith }
      by_place (inr past) more =
          let later : Sited (length serials) t (l + 1) n = more past in
          record { line = later.line; pipe = later.pipe; from = omega (arith, later.from); below = omega (arith, later.below); is = later.is; in_pipes = later.in_pipes }

  -- each task has an edge of its line into it
  line_into : (t : ℕ) → t < lines * length serials → 1 ≤ ring_sum (λ edge. true) (λ row. one_if (t == row.to)) all
  line_into t below =
      let site : Sited (length serials) t 0 lines = in_line t 0 lines (omega arith) (omega (arith, below, ap (λ m. m * length serials) (zero_plus lines))) in
      omega (
        arith,
        hits (λ i. t == site.line * length serials + i) 0 (length serials) site.pipe (omega arith) (omega (arith, site.in_pipes)) (hit site),
        round_same (λ i. one_if (t == site.line * length serials + i)) (length serials),
        line_has lines serials site.line (λ row. one_if (t == row.to)) 0 lines (omega arith) (omega (arith, site.below)),
        more_all (of_line site.line) (λ row. one_if (t == row.to)) all,
      )
    where
      zero_plus : (m : ℕ) → 0 + m ≡ m
      zero_plus m = omega arith

      hit : (site : Sited (length serials) t 0 lines) → (t == site.line * length serials + site.pipe) ≡ true
      hit site = let same : t ≡ site.line * length serials + site.pipe = site.is in grind (arith, nat_tests)

  -- so it has a strong in-edge
  fed : (t : ℕ) → t < length net.tasks → strong_in net t ≢ []
  fed t below none =
      let tasks : length net.tasks ≡ lines * length serials = length-replicate (lines * length serials) cell_row in
      not_none net t 0 all plain (line_into t (omega (arith, below, tasks))) none

  pub pipes_ringed : IsRinged net
  pipes_ringed = record { strong = no_weak; rings = ring_of; fed = fed }

-- Each shape-legal journal of a net of lines and pipes is steady.
pub steady_pipes : (lines : ℕ) (serials : List Bool) (limit : ℕ) (h : List Entry) → ShapeLegal (pipe_net lines serials) limit h → Steady (pipe_net lines serials) h
steady_pipes lines serials limit h shape = steady_rings (pipe_net lines serials) limit h (pipes_ringed lines serials) shape
