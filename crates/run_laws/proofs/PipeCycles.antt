-- In the net of lines and pipes the tasks of a line, and those of a serial pipe, are a cycle.
use Rattle.std.proofs.Common.{◌≡◌, ◌≢◌, ◌⊎◌, inl, inr, ℕ, zero, suc, ◌+◌, ◌*◌, ◌<◌, ◌≤◌, Bool, true, false, ◌||◌, cond, eqb, List, [], ◌∷◌, ◌++◌, length, Some, sym, refl, ap, subst, ◌∙◌, arith}
use Rattle.std.specs.Prelude.{slice_get, ◌==◌}
use Rattle.std.specs.Option.{option_map_or, option_map}
use Rattle.std.specs.List.{list_any, range_with_len}
use Rattle.std.proofs.lemmas.Bool.Decides.{nat_tests}
use Rattle.std.proofs.lemmas.Bool.{cases_eq, cases_lt}
use Rattle.std.proofs.lemmas.Option.{slice_get_within, slice_get-map}
use Rattle.task_graph.specs.NetRows.{NetRows}
use Rattle.task_graph.specs.declared.net.EdgeRow.{EdgeRow}
use Rattle.pipe_lines.specs.PipeNet.{PipeEdge, next, cell, line_edge, serial_edge, cell_edges, edges_from, line_edges, pipe_edges, pipe_net}
use Rattle.run_laws.specs.Cycles.{CycleEdge, LiesAt, IsCycle, is_one_of}
use Rattle.run_laws.specs.Laws.{PipesGoRound}
use Rattle.run_laws.proofs.Lists.{get_append}
use Rattle.run_laws.proofs.Order.{goes_round}
use Rattle.run_laws.proofs.Pipes.{pipes_ringed}

-- ---- where an edge stands

pub record HasEdge (edges : List PipeEdge) (edge : PipeEdge) : Type 0 where
  pub place : ℕ
  pub at : slice_get edges place ≡ Some edge

in_front : (xs ys : List PipeEdge) (edge : PipeEdge) → HasEdge xs edge → HasEdge (xs ++ ys) edge
in_front xs ys edge has = record { place = has.place; at = get_append xs ys has.place edge has.at }

behind : (xs ys : List PipeEdge) (edge : PipeEdge) → HasEdge ys edge → HasEdge (xs ++ ys) edge
behind [] ys edge has = has
behind (x ∷ xs) ys edge has = let later : HasEdge (xs ++ ys) edge = behind xs ys edge has in record { place = suc later.place; at = later.at }

-- the edge of a line out of pipe q
pub has_line_edge : (lines pipes l p q : ℕ) (serials : List Bool) → p ≤ q → q < p + length serials → HasEdge (edges_from lines pipes l p serials) (line_edge pipes l q)
has_line_edge lines pipes l p q [] from below = absurd (omega (arith, from, below))
has_line_edge lines pipes l p q (is_serial ∷ rest) from below = by_place (cases_eq p q) (λ other. has_line_edge lines pipes l (p + 1) q rest (omega (arith, other, from)) (omega (arith, below)))
  where
    by_place : (p ≡ q) ⊎ (p ≢ q) → (p ≢ q → HasEdge (edges_from lines pipes l (p + 1) rest) (line_edge pipes l q)) → HasEdge (edges_from lines pipes l p (is_serial ∷ rest)) (line_edge pipes l q)
    by_place (inl same) more = record { place = 0; at = ap (λ k. Some (line_edge pipes l k)) same }
    by_place (inr other) more = behind (cell_edges lines pipes l p is_serial) (edges_from lines pipes l (p + 1) rest) (line_edge pipes l q) (more other)

-- the edge of a serial pipe out of a line
pub has_serial_edge : (lines pipes l p q : ℕ) (serials : List Bool) → slice_get serials q ≡ Some true → HasEdge (edges_from lines pipes l p serials) (serial_edge lines pipes l (q + p))
has_serial_edge lines pipes l p q [] is = absurd (cc)
has_serial_edge lines pipes l p zero (true ∷ rest) is = record { place = 1; at = ap (λ k. Some (serial_edge lines pipes l k)) (omega arith) }
has_serial_edge lines pipes l p zero (false ∷ rest) is = absurd (cc)
has_serial_edge lines pipes l p (suc q) (is_serial ∷ rest) is =
    let later : HasEdge (edges_from lines pipes l (p + 1) rest) (serial_edge lines pipes l (q + (p + 1))) = has_serial_edge lines pipes l (p + 1) q rest is in
    behind (cell_edges lines pipes l p is_serial) (edges_from lines pipes l (p + 1) rest) (serial_edge lines pipes l (suc q + p))
    (subst (λ k. HasEdge (edges_from lines pipes l (p + 1) rest) (serial_edge lines pipes l k)) (omega arith) later)

-- what stands among the edges of one line stands among all
pub has_in_line : (lines : ℕ) (serials : List Bool) (k l n : ℕ) (edge : PipeEdge) → l ≤ k → k < l + n → HasEdge (edges_from lines (length serials) k 0 serials) edge → HasEdge (line_edges lines serials l n) edge
has_in_line lines serials k l zero edge from below has = absurd (omega (arith, from, below))
has_in_line lines serials k l (suc n) edge from below has = by_place (cases_eq l k) (λ other. has_in_line lines serials k (l + 1) n edge (omega (arith, other, from)) (omega (arith, below)) has)
  where
    by_place : (l ≡ k) ⊎ (l ≢ k) → (l ≢ k → HasEdge (line_edges lines serials (l + 1) n) edge) → HasEdge (line_edges lines serials l (suc n)) edge
    by_place (inl same) more =
        in_front (edges_from lines (length serials) l 0 serials) (line_edges lines serials (l + 1) n) edge
        (subst (λ j. HasEdge (edges_from lines (length serials) j 0 serials) edge) (sym same) has)
    by_place (inr other) more = behind (edges_from lines (length serials) l 0 serials) (line_edges lines serials (l + 1) n) edge (more other)

-- ---- one of n tasks

eqb_same : (n : ℕ) → (n == n) ≡ true
eqb_same n = let hit : eqb n n ≡ true = grind (arith, nat_tests) in hit

pub found_from : (at : ℕ → ℕ) (t a k m : ℕ) → a ≤ m → m < a + k → at m ≡ t → list_any (λ l. at l == t) (range_with_len a k) ≡ true
found_from at t a zero m from below is = absurd (omega (arith, from, below))
found_from at t a (suc k) m from below is = by_place (cases_eq a m) (λ other. found_from at t (a + 1) k m (omega (arith, other, from)) (omega (arith, below)) is)
  where
    by_place : (a ≡ m) ⊎ (a ≢ m) → (a ≢ m → list_any (λ l. at l == t) (range_with_len (a + 1) k) ≡ true) → (at a == t) || list_any (λ l. at l == t) (range_with_len (a + 1) k) ≡ true
    by_place (inl same) more = let here : at a ≡ t = ap at same ∙ is in ap (λ b. b || list_any (λ l. at l == t) (range_with_len (a + 1) k)) (ap (λ s. s == t) here ∙ eqb_same t)
    by_place (inr other) more = or_true (at a == t) _ (more other)
      where
        or_true : (b c : Bool) → c ≡ true → b || c ≡ true
        or_true true c is_true = refl
        or_true false c is_true = is_true

-- the place of one of n tasks
record Placed (at : ℕ → ℕ) (t a k : ℕ) : Type 0 where
  place : ℕ
  from : a ≤ place
  below : place < a + k
  is : t ≡ at place

place_from : (at : ℕ → ℕ) (t a k : ℕ) → list_any (λ l. at l == t) (range_with_len a k) ≡ true → Placed at t a k
place_from at t a zero is = absurd (cc)
place_from at t a (suc k) is = by_place (cases_eq (at a) t) is (place_from at t (a + 1) k)
  where
    by_place : (at a ≡ t) ⊎ (at a ≢ t) → (at a == t) || list_any (λ l. at l == t) (range_with_len (a + 1) k) ≡ true → (list_any (λ l. at l == t) (range_with_len (a + 1) k) ≡ true → Placed at t (a + 1) k) → Placed at t a (suc k)
    by_place (inl same) any more = record { place = a; from = omega arith; below = omega arith; is = sym same }
    by_place (inr other) any more =
        let miss : eqb (at a) t ≡ false = grind (arith, nat_tests) in
        let later : Placed at t (a + 1) k = more (sym (ap (λ b. b || list_any (λ l. at l == t) (range_with_len (a + 1) k)) miss) ∙ any) in
        record { place = later.place; from = omega (arith, later.from); below = omega (arith, later.below); is = later.is }

pub lies_at : (n : ℕ) (at : ℕ → ℕ) (t : ℕ) → is_one_of n at t ≡ true → LiesAt n at t
lies_at n at t is = let placed : Placed at t 0 n = place_from at t 0 n is in record { place = placed.place; below = omega (arith, placed.below); is = placed.is }

-- ---- the cycles

module _ (lines : ℕ) (serials : List Bool) where
  abbrev net : NetRows
  net = pipe_net lines serials

  abbrev pipes : ℕ
  pipes = length serials

  -- what an edge is that stands in the net
  cycle_edge : (n : ℕ) (at : ℕ → ℕ) (l : ℕ) (edge : PipeEdge) (has : HasEdge (pipe_edges lines serials) edge) → edge.row.from ≡ at l → edge.row.to ≡ at (next n l) → edge.row.start ≡ (l + 1 == n) → CycleEdge net n at l has.place
  cycle_edge n at l edge has from to start =
      let row : slice_get net.edges has.place ≡ Some edge.row = slice_get-map (λ (d : PipeEdge). d.row) (pipe_edges lines serials) has.place ∙ ap (option_map (λ (d : PipeEdge). d.row)) has.at in
      record {
        below = slice_get_within net.edges has.place edge.row row;
        from = ap (λ o. option_map_or (λ (r : EdgeRow). r.from) o 0) row ∙ from;
        to = ap (λ o. option_map_or (λ (r : EdgeRow). r.to) o 0) row ∙ to;
        first = ap (λ o. option_map_or (λ (r : EdgeRow). cond r.start 1 0) o 0) row ∙ ap (λ b. cond b 1 0) start;
      }

  -- a cycle whose edges are known where they are wanted
  cycle : (n : ℕ) (at : ℕ → ℕ) (edge_of : ℕ → PipeEdge) → 1 ≤ n → ((l m : ℕ) → l < n → m < n → at l ≡ at m → l ≡ m)
      → ((l : ℕ) → l < n → HasEdge (pipe_edges lines serials) (edge_of l)) → ((l : ℕ) → (edge_of l).row.from ≡ at l) → ((l : ℕ) → (edge_of l).row.to ≡ at (next n l)) → ((l : ℕ) → (edge_of l).row.start ≡ (l + 1 == n))
      → IsCycle net n at (is_one_of n at)
  cycle n at edge_of some distinct has from to start = record {
    some = some;
    is_in = λ l below. found_from at (at l) 0 n l (omega arith) (omega (arith, below)) refl;
    lies = lies_at n at;
    distinct = distinct;
    edge = λ l. place_of l (cases_lt l n);
    edges = λ l below. is_edge l below (cases_lt l n);
  }
    where
      place_of : (l : ℕ) → (l < n) ⊎ (n ≤ l) → ℕ
      place_of l (inl below) = (has l below).place
      place_of l (inr past) = 0

      is_edge : (l : ℕ) → l < n → (c : (l < n) ⊎ (n ≤ l)) → CycleEdge net n at l (place_of l c)
      is_edge l below (inl here) = cycle_edge n at l (edge_of l) (has l here) (from l) (to l) (start l)
      is_edge l below (inr past) = absurd (omega (arith, below, past))

  line_cycle : (l : ℕ) → l < lines → 1 ≤ pipes → IsCycle net pipes (cell pipes l) (is_one_of pipes (cell pipes l))
  line_cycle l below some = cycle pipes (cell pipes l) (line_edge pipes l) some
      (λ p q in_p in_q same. omega (arith, same))
      (λ p in_pipes. has_in_line lines serials l 0 lines (line_edge pipes l p) (omega arith) (omega (arith, below)) (has_line_edge lines pipes l 0 p serials (omega arith) (omega (arith, in_pipes))))
      (λ p. refl) (λ p. refl) (λ p. refl)

  -- as many pipes, one at least, as often
  same_lines : (k l m : ℕ) → 1 ≤ k → l * k ≡ m * k → l ≡ m
  same_lines k zero zero some is = refl
  same_lines k zero (suc m) some is = absurd (omega (arith, some, is))
  same_lines k (suc l) zero some is = absurd (omega (arith, some, is))
  same_lines k (suc l) (suc m) some is = ap suc (same_lines k l m some (omega (arith, is)))

  pub pipe_cycle : (p : ℕ) → slice_get serials p ≡ Some true → 1 ≤ lines → 1 ≤ pipes → IsCycle net lines (λ l. cell pipes l p) (is_one_of lines (λ l. cell pipes l p))
  pipe_cycle p serial some some_pipes = cycle lines (λ l. cell pipes l p) (λ l. serial_edge lines pipes l p) some
      (λ l m in_l in_m same. same_lines pipes l m some_pipes (omega (arith, same)))
      (λ l below. has_in_line lines serials l 0 lines (serial_edge lines pipes l p) (omega arith) (omega (arith, below)) (from_first l (has_serial_edge lines pipes l 0 p serials serial)))
      (λ l. refl) (λ l. refl) (λ l. refl)
    where
      from_first : (l : ℕ) → HasEdge (edges_from lines pipes l 0 serials) (serial_edge lines pipes l (p + 0)) → HasEdge (edges_from lines pipes l 0 serials) (serial_edge lines pipes l p)
      from_first l has = subst (λ k. HasEdge (edges_from lines pipes l 0 serials) (serial_edge lines pipes l k)) (omega arith) has

pub pipes_in_turn : (lines : ℕ) (serials : List Bool) → PipesGoRound lines serials
pipes_in_turn lines serials limit journal some_lines some_pipes shape = record {
  each_line = λ l below. goes_round (pipe_net lines serials) limit (length serials) (cell (length serials) l) (is_one_of (length serials) (cell (length serials) l)) journal (pipes_ringed lines serials) (line_cycle lines serials l below some_pipes) shape;
  each_pipe = λ p serial. goes_round (pipe_net lines serials) limit lines (λ l. cell (length serials) l p) (is_one_of lines (λ l. cell (length serials) l p)) journal (pipes_ringed lines serials) (pipe_cycle lines serials p serial some_lines some_pipes) shape;
}
