-- The edges into the cells of a pipeline.
use Rattle.std.proofs.Common.{◌≡◌, ◌≢◌, ◌⊎◌, inl, inr, ℕ, zero, suc, ◌+◌, ◌-◌, ◌*◌, ◌<◌, ◌≤◌, Bool, true, false, not, ◌&&◌, ◌||◌, cond, eqb, List, [], ◌∷◌, ◌++◌, length, Option, Some, None, sym, refl, ap, subst, ◌∙◌, arith}
use Rattle.std.specs.Prelude.{slice_get, slice_index_or, ◌==◌}
use Rattle.std.specs.Option.{option_map_or, option_map}
use Rattle.std.specs.List.{list_any, AllByRecursion}
use Rattle.std.proofs.lemmas.Bool.Decides.{nat_tests}
use Rattle.std.proofs.lemmas.Bool.{cases_eq, false≢true}
use Rattle.std.proofs.lemmas.Option.{get_or_from_slice_get, slice_get_within, slice_get-map}
use Rattle.task_graph.specs.NetRows.{NetRows}
use Rattle.task_graph.specs.Net.{strong_in, out_edges, is_weak_row}
use Rattle.task_graph.specs.Places.{places}
use Rattle.task_graph.specs.declared.net.EdgeRow.{EdgeRow}
use Rattle.journal_rules.proofs.NetLemmas.{any_place}
use Rattle.pipe_lines.specs.PipeNet.{PipeEdge, along_pipes, next, cell, line_edge, serial_edge, cell_edges, edges_from, line_edges, pipe_edges, pipe_net}
use Rattle.run_laws.specs.OneThreadValue.{source_of, target_of}
use Rattle.run_laws.proofs.Lists.{all_places}
use Rattle.run_laws.proofs.Phases.{and_left}
use Rattle.run_laws.proofs.Rings.{among_strong}
use Rattle.run_laws.proofs.Pipes.{of_line, of_pipe, pipes_ringed, row_at}
use Rattle.run_laws.proofs.PipeCycles.{HasEdge, has_line_edge, has_serial_edge, has_in_line}
use Rattle.pipe_laws.proofs.Held.{EdgeOfRing}

-- ---- numbers

-- a cell has one line and one pipe
pub same_cell : (k l m p q : ℕ) → p < k → q < k → cell k l p ≡ cell k m q → (l ≡ m) × (p ≡ q)
same_cell k zero zero p q in_p in_q is = (refl, omega (arith, is))
same_cell k zero (suc m) p q in_p in_q is = absurd (omega (arith, is, in_p))
same_cell k (suc l) zero p q in_p in_q is = absurd (omega (arith, is, in_q))
same_cell k (suc l) (suc m) p q in_p in_q is = let before : (l ≡ m) × (p ≡ q) = same_cell k l m p q in_p in_q (omega (arith, is)) in (ap suc before.0, before.1)

pub cell_below : (a b c : ℕ) → a < b → a * c + c ≤ b * c
cell_below a zero c less = absurd (omega (arith, less))
cell_below zero (suc b) c less = omega arith
cell_below (suc a) (suc b) c less = omega (arith, cell_below a b c (omega (arith, less)))

-- a number is the last of n, or another is next
data NextOf (n i : ℕ) : Type 0 where
  comes_round : (i + 1 == n) ≡ true → i + 1 ≡ n → next n i ≡ 0 → NextOf n i
  goes_further : (i + 1 == n) ≡ false → i + 1 ≢ n → next n i ≡ i + 1 → NextOf n i

next_of : (n i : ℕ) → NextOf n i
next_of n i = by_place (cases_eq (i + 1) n)
  where
    by_place : (i + 1 ≡ n) ⊎ (i + 1 ≢ n) → NextOf n i
    by_place (inl is) = let hit : eqb (i + 1) n ≡ true = grind (arith, nat_tests) in comes_round hit is (ap (λ (t : Bool). cond t 0 (i + 1)) hit)
    by_place (inr other) = let miss : eqb (i + 1) n ≡ false = grind (arith, nat_tests) in goes_further miss other (ap (λ (t : Bool). cond t 0 (i + 1)) miss)

next_below : (n i : ℕ) → i < n → next n i < n
next_below n i below = by_next (next_of n i)
  where
    by_next : NextOf n i → next n i < n
    by_next (comes_round hit last is) = omega (arith, is, below)
    by_next (goes_further miss other is) = omega (arith, is, other, below)

-- the number before, round
record Before (n i : ℕ) : Type 0 where
  number : ℕ
  below : number < n
  is : next n number ≡ i

before_of : (n i : ℕ) → i < n → Before n i
before_of n zero below = by_next (next_of n (n - 1))
  where
    by_next : NextOf n (n - 1) → Before n 0
    by_next (comes_round hit last is) = record { number = n - 1; below = omega (arith, below); is = is }
    by_next (goes_further miss other is) = absurd (other (omega (arith, below)))
before_of n (suc i) below = by_next (next_of n i)
  where
    by_next : NextOf n i → Before n (suc i)
    by_next (comes_round hit last is) = absurd (omega (arith, last, below))
    by_next (goes_further miss other is) = record { number = i; below = omega (arith, below); is = omega (arith, is) }

-- from one number to another, round: the way to number 0, and no other, begins with a token
pub data GoesOn (n before i : ℕ) (start : Bool) : Type 0 where
  goes_round : start ≡ true → i ≡ 0 → before + 1 ≡ n → GoesOn n before i start
  goes_up : start ≡ false → i ≡ before + 1 → GoesOn n before i start

goes_on : (n before i : ℕ) (start : Bool) → start ≡ (before + 1 == n) → next n before ≡ i → GoesOn n before i start
goes_on n k i start starts is = by_next (next_of n k)
  where
    by_next : NextOf n k → GoesOn n k i start
    by_next (comes_round hit last next_is) = goes_round (starts ∙ hit) (sym is ∙ next_is) last
    by_next (goes_further miss other next_is) = goes_up (starts ∙ miss) (sym is ∙ next_is)

-- ---- lists

all_append : {X : Type 0} (P : X → Type 0) (xs ys : List X) → AllByRecursion P xs → AllByRecursion P ys → AllByRecursion P (xs ++ ys)
all_append P [] ys all rest = rest
all_append P (x ∷ xs) ys all rest = (all.0, all_append P xs ys all.1 rest)

each_item : {X : Type 0} (P : X → Type 0) (xs : List X) (k : ℕ) (x : X) → AllByRecursion P xs → slice_get xs k ≡ Some x → P x
each_item P [] k x all at = absurd (cc)
each_item P (y ∷ ys) zero x all at = let same : y ≡ x = cc in subst P same all.0
each_item P (y ∷ ys) (suc k) x all at = each_item P ys k x all.1 at

module _ (lines : ℕ) (serials : List Bool) where
  abbrev net : NetRows
  net = pipe_net lines serials

  abbrev pipes : ℕ
  pipes = length serials

  abbrev all : List PipeEdge
  all = pipe_edges lines serials

  abbrev tag : ℕ → Bool
  tag e = slice_index_or (along_pipes lines serials) e false

  -- ---- which edges there are

  -- the cell that an edge leaves, along its line or along its pipe
  record Leaves (edge : PipeEdge) : Type 0 where
    line : ℕ
    pipe : ℕ
    in_lines : line < lines
    in_pipes : pipe < pipes
    is : (edge ≡ line_edge pipes line pipe) ⊎ (edge ≡ serial_edge lines pipes line pipe)

  leave_cell : (l p : ℕ) (s : Bool) → l < lines → p < pipes → AllByRecursion Leaves (cell_edges lines pipes l p s)
  leave_cell l p true in_l in_p = (record { line = l; pipe = p; in_lines = in_l; in_pipes = in_p; is = inl refl }, (record { line = l; pipe = p; in_lines = in_l; in_pipes = in_p; is = inr refl }, tt))
  leave_cell l p false in_l in_p = (record { line = l; pipe = p; in_lines = in_l; in_pipes = in_p; is = inl refl }, tt)

  leave_line : (l p : ℕ) (rest : List Bool) → l < lines → p + length rest ≡ pipes → AllByRecursion Leaves (edges_from lines pipes l p rest)
  leave_line l p [] in_l count = tt
  leave_line l p (s ∷ rest) in_l count = all_append Leaves (cell_edges lines pipes l p s) (edges_from lines pipes l (p + 1) rest) (leave_cell l p s in_l (omega (arith, count))) (leave_line l (p + 1) rest in_l (omega (arith, count)))

  leave_lines : (l n : ℕ) → l + n ≡ lines → AllByRecursion Leaves (line_edges lines serials l n)
  leave_lines l zero count = tt
  leave_lines l (suc n) count = all_append Leaves (edges_from lines pipes l 0 serials) (line_edges lines serials (l + 1) n) (leave_line l 0 serials (omega (arith, count)) (omega arith)) (leave_lines (l + 1) n (omega (arith, count)))

  leaves : (e : ℕ) (edge : PipeEdge) → slice_get all e ≡ Some edge → Leaves edge
  leaves e edge at = each_item Leaves all e edge (leave_lines 0 lines (omega arith)) at

  -- the net's row of an edge
  pub source_is : (e : ℕ) (edge : PipeEdge) → slice_get all e ≡ Some edge → source_of net e ≡ edge.row.from
  source_is e edge is = ap (λ o. option_map_or (λ (r : EdgeRow). r.from) o 0) (row_at lines serials e edge is)

  pub target_is : (e : ℕ) (edge : PipeEdge) → slice_get all e ≡ Some edge → target_of net e ≡ edge.row.to
  target_is e edge is = ap (λ o. option_map_or (λ (r : EdgeRow). r.to) o 0) (row_at lines serials e edge is)

  pub tag_is : (e : ℕ) (edge : PipeEdge) → slice_get all e ≡ Some edge → tag e ≡ edge.serial
  tag_is e edge is = get_or_from_slice_get (along_pipes lines serials) e edge.serial false (slice_get-map (λ (d : PipeEdge). d.serial) all e ∙ ap (option_map (λ (d : PipeEdge). d.serial)) is)

  -- ---- an edge into a cell

  pub record EdgeInto (t e : ℕ) : Type 0 where
    pub edge : PipeEdge
    pub at : slice_get all e ≡ Some edge
    pub to : edge.row.to ≡ t

  pub edges_into : (t : ℕ) → AllByRecursion (EdgeInto t) (strong_in net t)
  edges_into t = all_places (λ (row : EdgeRow). (row.to == t) && not (is_weak_row net row)) (EdgeInto t) net.edges each
    where
      each : (e : ℕ) (row : EdgeRow) → slice_get net.edges e ≡ Some row → (row.to == t) && not (is_weak_row net row) ≡ true → EdgeInto t e
      each e row is passes = by_edge (slice_get all e) refl
        where
          hit : eqb row.to t ≡ true
          hit = and_left _ _ passes

          to_is : row.to ≡ t
          to_is = grind (arith, nat_tests)

          by_edge : (o : Option PipeEdge) → slice_get all e ≡ o → EdgeInto t e
          by_edge None at =
              let none : slice_get net.edges e ≡ None = slice_get-map (λ (d : PipeEdge). d.row) all e ∙ ap (option_map (λ (d : PipeEdge). d.row)) at in
              absurd (cc)
          by_edge (Some edge) at =
              let same : Some edge.row ≡ Some row = sym (row_at lines serials e edge at) ∙ is in
              let same_row : edge.row ≡ row = cc in
              record { edge = edge; at = at; to = ap (λ (r : EdgeRow). r.to) same_row ∙ to_is }

  -- where an edge comes from, of n cells in a circle, into the i-th
  pub record ComesFrom (n : ℕ) (task : ℕ → ℕ) (i e : ℕ) : Type 0 where
    pub edge : PipeEdge
    pub at : slice_get all e ≡ Some edge
    pub before : ℕ
    pub below : before < n
    pub from : edge.row.from ≡ task before
    pub round : GoesOn n before i edge.row.start

  -- along a pipe, from the line before
  pub along_pipe_into : (l p e : ℕ) → p < pipes → EdgeInto (cell pipes l p) e → tag e ≡ true → ComesFrom lines (λ m. cell pipes m p) l e
  along_pipe_into l p e below into along = by_kind leaving.is
    where
      leaving : Leaves into.edge
      leaving = leaves e into.edge into.at

      by_kind : (into.edge ≡ line_edge pipes leaving.line leaving.pipe) ⊎ (into.edge ≡ serial_edge lines pipes leaving.line leaving.pipe) → ComesFrom lines (λ m. cell pipes m p) l e
      by_kind (inl is) = absurd (false≢true (sym (tag_is e into.edge into.at ∙ ap (λ (d : PipeEdge). d.serial) is) ∙ along))
      by_kind (inr is) =
          let both : (next lines leaving.line ≡ l) × (leaving.pipe ≡ p) = same_cell pipes (next lines leaving.line) l leaving.pipe p leaving.in_pipes below (sym (ap (λ (d : PipeEdge). d.row.to) is) ∙ into.to) in
          record {
            edge = into.edge;
            at = into.at;
            before = leaving.line;
            below = leaving.in_lines;
            from = ap (λ (d : PipeEdge). d.row.from) is ∙ ap (cell pipes leaving.line) both.1;
            round = goes_on lines leaving.line l into.edge.row.start (ap (λ (d : PipeEdge). d.row.start) is) both.0;
          }

  -- along a line, from the pipe before
  pub along_line_into : (l p e : ℕ) → p < pipes → EdgeInto (cell pipes l p) e → tag e ≡ false → ComesFrom pipes (cell pipes l) p e
  along_line_into l p e below into along = by_kind leaving.is
    where
      leaving : Leaves into.edge
      leaving = leaves e into.edge into.at

      by_kind : (into.edge ≡ line_edge pipes leaving.line leaving.pipe) ⊎ (into.edge ≡ serial_edge lines pipes leaving.line leaving.pipe) → ComesFrom pipes (cell pipes l) p e
      by_kind (inr is) = absurd (false≢true (sym along ∙ tag_is e into.edge into.at ∙ ap (λ (d : PipeEdge). d.serial) is))
      by_kind (inl is) =
          let both : (leaving.line ≡ l) × (next pipes leaving.pipe ≡ p) = same_cell pipes leaving.line l (next pipes leaving.pipe) p (next_below pipes leaving.pipe leaving.in_pipes) below (sym (ap (λ (d : PipeEdge). d.row.to) is) ∙ into.to) in
          record {
            edge = into.edge;
            at = into.at;
            before = leaving.pipe;
            below = leaving.in_pipes;
            from = ap (λ (d : PipeEdge). d.row.from) is ∙ ap (λ m. cell pipes m leaving.pipe) both.0;
            round = goes_on pipes leaving.pipe p into.edge.row.start (ap (λ (d : PipeEdge). d.row.start) is) both.1;
          }

  -- ---- that there are such edges

  -- the edge of a line or of a pipe into a cell
  pub record InEdge (serial : Bool) (of t : ℕ) : Type 0 where
    pub edge : PipeEdge
    pub has : HasEdge all edge
    pub to : edge.row.to ≡ t
    pub is_serial : edge.serial ≡ serial
    pub is_of : edge.of ≡ of

  pub pipe_in_edge : (l p : ℕ) → l < lines → slice_get serials p ≡ Some true → InEdge true p (cell pipes l p)
  pipe_in_edge l p below serial =
      let from : Before lines l = before_of lines l below in
      let has : HasEdge (edges_from lines pipes from.number 0 serials) (serial_edge lines pipes from.number p) =
      subst (λ q. HasEdge (edges_from lines pipes from.number 0 serials) (serial_edge lines pipes from.number q)) (omega arith) (has_serial_edge lines pipes from.number 0 p serials serial) in
      record {
        edge = serial_edge lines pipes from.number p;
        has = has_in_line lines serials from.number 0 lines (serial_edge lines pipes from.number p) (omega arith) (omega (arith, from.below)) has;
        to = ap (λ m. cell pipes m p) from.is;
        is_serial = refl;
        is_of = refl;
      }

  pub line_in_edge : (l p : ℕ) → l < lines → p < pipes → InEdge false l (cell pipes l p)
  line_in_edge l p below in_p =
      let from : Before pipes p = before_of pipes p in_p in
      record {
        edge = line_edge pipes l from.number;
        has = has_in_line lines serials l 0 lines (line_edge pipes l from.number) (omega arith) (omega (arith, below)) (has_line_edge lines pipes l 0 from.number serials (omega arith) (omega (arith, from.below)));
        to = ap (cell pipes l) from.is;
        is_serial = refl;
        is_of = refl;
      }

  pub in_edge_below : (edge : PipeEdge) (has : HasEdge all edge) → has.place < length net.edges
  in_edge_below edge has = slice_get_within net.edges has.place edge.row (row_at lines serials has.place edge has.at)

  -- it is among the strong edges into the cell
  among_into : (serial : Bool) (of t : ℕ) (into : InEdge serial of t) → list_any (λ e. e == into.has.place) (strong_in net t) ≡ true
  among_into serial of t into =
      subst (λ s. list_any (λ e. e == into.has.place) (strong_in net s) ≡ true) (target_is into.has.place into.edge into.has.at ∙ into.to)
      (among_strong net into.has.place (pipes_ringed lines serials) (in_edge_below into.edge into.has))

  any_test : (test : ℕ → Bool) (e : ℕ) (xs : List ℕ) → list_any (λ f. f == e) xs ≡ true → test e ≡ true → list_any test xs ≡ true
  any_test test e [] has passes = absurd (false≢true has)
  any_test test e (x ∷ xs) has passes = by_place (cases_eq x e) has (any_test test e xs)
    where
      by_place : (x ≡ e) ⊎ (x ≢ e) → eqb x e || list_any (λ f. f == e) xs ≡ true → (list_any (λ f. f == e) xs ≡ true → test e ≡ true → list_any test xs ≡ true) → test x || list_any test xs ≡ true
      by_place (inl same) h more = ap (λ b. b || list_any test xs) (ap test same ∙ passes)
      by_place (inr other) h more =
          let miss : eqb x e ≡ false = grind (arith, nat_tests) in
          or_true (test x) (list_any test xs) (more (sym (ap (λ b. b || list_any (λ f. f == e) xs) miss) ∙ h) passes)
        where
          or_true : (b c : Bool) → c ≡ true → b || c ≡ true
          or_true true c is = refl
          or_true false c is = is

  pub has_along_pipe : (l p : ℕ) → l < lines → slice_get serials p ≡ Some true → list_any tag (strong_in net (cell pipes l p)) ≡ true
  has_along_pipe l p below serial =
      let into : InEdge true p (cell pipes l p) = pipe_in_edge l p below serial in
      any_test tag into.has.place (strong_in net (cell pipes l p)) (among_into true p (cell pipes l p) into) (tag_is into.has.place into.edge into.has.at ∙ into.is_serial)

  pub has_along_line : (l p : ℕ) → l < lines → p < pipes → list_any (λ e. not (tag e)) (strong_in net (cell pipes l p)) ≡ true
  has_along_line l p below in_p =
      let into : InEdge false l (cell pipes l p) = line_in_edge l p below in_p in
      any_test (λ e. not (tag e)) into.has.place (strong_in net (cell pipes l p)) (among_into false l (cell pipes l p) into) (ap not (tag_is into.has.place into.edge into.has.at ∙ into.is_serial))

  -- ---- rings

  of_ring : (test : PipeEdge → Bool) (serial : Bool) (of t : ℕ) (into : InEdge serial of t) → test into.edge ≡ true → EdgeOfRing net (places test all) t
  of_ring test serial of t into passes = record {
    edge = into.has.place;
    below = in_edge_below into.edge into.has;
    into = target_is into.has.place into.edge into.has.at ∙ into.to;
    among = any_place test into.has.place all ∙ ap (λ o. option_map_or test o false) into.has.at ∙ passes;
  }

  same_number : (k : ℕ) → eqb k k ≡ true
  same_number k = grind (arith, nat_tests)

  pub pipe_ring_edge : (l p : ℕ) → l < lines → slice_get serials p ≡ Some true → EdgeOfRing net (places (of_pipe p) all) (cell pipes l p)
  pipe_ring_edge l p below serial =
      let into : InEdge true p (cell pipes l p) = pipe_in_edge l p below serial in
      of_ring (of_pipe p) true p (cell pipes l p) into (ap (λ s. s && (into.edge.of == p)) into.is_serial ∙ ap (λ k. k == p) into.is_of ∙ same_number p)

  pub line_ring_edge : (l p : ℕ) → l < lines → p < pipes → EdgeOfRing net (places (of_line l) all) (cell pipes l p)
  line_ring_edge l p below in_p =
      let into : InEdge false l (cell pipes l p) = line_in_edge l p below in_p in
      of_ring (of_line l) false l (cell pipes l p) into (ap (λ s. not s && (into.edge.of == l)) into.is_serial ∙ ap (λ k. k == l) into.is_of ∙ same_number l)

  -- an edge is one of those out of the cell that it leaves
  pub among_out : (t e : ℕ) (edge : PipeEdge) → slice_get all e ≡ Some edge → edge.row.from ≡ t → list_any (λ g. g == e) (out_edges net t) ≡ true
  among_out t e edge at from =
      let hit : eqb edge.row.from t ≡ true = grind (arith, nat_tests) in
      any_place (λ (row : EdgeRow). row.from == t) e net.edges ∙ ap (λ o. option_map_or (λ (r : EdgeRow). r.from == t) o false) (row_at lines serials e edge at) ∙ hit

  -- each edge comes from a task
  pub source_below : (e : ℕ) → 1 ≤ lines → 1 ≤ pipes → source_of net e < lines * pipes
  source_below e some_lines some_pipes = by_edge (slice_get all e) refl
    where
      by_edge : (o : Option PipeEdge) → slice_get all e ≡ o → source_of net e < lines * pipes
      by_edge None at =
          let none : slice_get net.edges e ≡ None = slice_get-map (λ (d : PipeEdge). d.row) all e ∙ ap (option_map (λ (d : PipeEdge). d.row)) at in
          let is_zero : source_of net e ≡ 0 = ap (λ o. option_map_or (λ (r : EdgeRow). r.from) o 0) none in
          omega (arith, is_zero, cell_below 0 lines pipes some_lines, some_pipes)
      by_edge (Some edge) at =
          let leaving : Leaves edge = leaves e edge at in
          omega (arith, source_is e edge at, from_is leaving, cell_below leaving.line lines pipes leaving.in_lines, leaving.in_pipes)
        where
          from_is : (leaving : Leaves edge) → edge.row.from ≡ cell pipes leaving.line leaving.pipe
          from_is leaving = by_kind leaving.is
            where
              by_kind : (edge ≡ line_edge pipes leaving.line leaving.pipe) ⊎ (edge ≡ serial_edge lines pipes leaving.line leaving.pipe) → edge.row.from ≡ cell pipes leaving.line leaving.pipe
              by_kind (inl is) = ap (λ (d : PipeEdge). d.row.from) is
              by_kind (inr is) = ap (λ (d : PipeEdge). d.row.from) is
