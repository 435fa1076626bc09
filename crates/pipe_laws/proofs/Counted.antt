-- How many starts a complete run has in which nothing was cut short: one for each token at each pipe, and one at the
-- end.
use Rattle.std.proofs.Common.{◌≡◌, ◌≢◌, ◌⊎◌, inl, inr, ℕ, zero, suc, ◌+◌, ◌*◌, ◌-◌, ◌%◌, ◌/◌, ◌<◌, ◌≤◌, Bool, true, false, cond, eqb, List, [], ◌∷◌, ◌++◌, length, filter, Option, Some, None, sym, refl, ap, subst, ◌∙◌, arith}
use Rattle.std.specs.Prelude.{count_by, slice_get, ◌==◌}
use Rattle.std.proofs.Math.Nat.{mod-add-div', mod-lt}
use Rattle.std.proofs.lemmas.Bool.Decides.{nat_tests}
use Rattle.std.proofs.lemmas.Bool.{cases_eq, cases_lt}
use Rattle.std.proofs.lemmas.List.{length-replicate}
use Rattle.std.proofs.lemmas.Nat.{mod-mul-add}
use Rattle.task_graph.specs.NetRows.{NetRows}
use Rattle.journal_rules.specs.declared.entry.Entry.{Entry}
use Rattle.journal_rules.specs.declared.entry.Entry.TheVariants.{Start, End, Fault, Drop}
use Rattle.journal_rules.specs.Counts.{given, is_start, starts, used, start_at}
use Rattle.journal_rules.specs.Complete.{Complete}
use Rattle.journal_rules.specs.ShapeLegal.{MayFollow, ShapeLegal}
use Rattle.journal_rules.proofs.Snoc.{count_by_push}
use Rattle.run_frame.specs.declared.run.ValueRow.{ValueRow}
use Rattle.run_frame.specs.Runs.{IsFine}
use Rattle.pipe_lines.specs.PipeNet.{PipeEdge, cell_row, pipe_edges}
use Rattle.pipe_lines.proofs.StepLemmas.{token_within}
use Rattle.run_laws.specs.OneThreadValue.{TaskEnd, OneAnswer, begun, target_of}
use Rattle.run_laws.proofs.Along.{along}
use Rattle.run_laws.proofs.Order.{rounds_along}
use Rattle.run_laws.proofs.Phases.{begins}
use Rattle.run_laws.proofs.Pipes.{pipes_ringed}
use Rattle.run_laws.proofs.Rings.{turning_along}
use Rattle.run_laws.proofs.Steps.{ends_in}
use Rattle.text_tasks.specs.Cells.{Pipeline, cell_task, pipeline_net}
use Rattle.pipe_laws.specs.Turns.{in_pipe}
use Rattle.pipe_laws.proofs.Edges.{ComesFrom, GoesOn, InEdge, along_line_into, along_pipe_into, goes_round, goes_up, in_edge_below, line_in_edge, pipe_in_edge, tag_is, target_is}
use Rattle.pipe_laws.proofs.CellTurns.{SignalsAtTurn, place_at, signals, signals_at_turn}
use Rattle.pipe_laws.proofs.CellRuns.{IsCellRun, all_ends, kept}
use Rattle.pipe_laws.proofs.Through.{end_place, first_counts, given_is, signalled, some_pipes, started, starts_at_place}
use Rattle.pipe_laws.proofs.Ordered.{cycle}

-- ---- sums

abbrev pub one_if : Bool → ℕ
one_if b = cond b 1 0

-- the sum of f over the numbers below n
abbrev pub total : ℕ → (ℕ → ℕ) → ℕ
total zero f = 0
total (suc n) f = total n f + f n

pub total-same : (n : ℕ) (f g : ℕ → ℕ) → ((i : ℕ) → i < n → f i ≡ g i) → total n f ≡ total n g
total-same zero f g same = refl
total-same (suc n) f g same = omega (arith, total-same n f g (λ i below. same i (omega (arith, below))), same n (omega arith))

pub total-add : (n : ℕ) (f g : ℕ → ℕ) → total n (λ i. f i + g i) ≡ total n f + total n g
total-add zero f g = refl
total-add (suc n) f g = omega (arith, total-add n f g)

pub total-less : (n : ℕ) (f g : ℕ → ℕ) → ((i : ℕ) → i < n → f i ≤ g i) → total n f ≤ total n g
total-less zero f g less = omega arith
total-less (suc n) f g less = omega (arith, total-less n f g (λ i below. less i (omega (arith, below))), less n (omega arith))

total-times : (n c : ℕ) (f : ℕ → ℕ) → total n (λ i. c * f i) ≡ c * total n f
total-times zero c f = omega arith
total-times (suc n) c f = omega (arith, total-times n c f, spread c (total n f) (f n))
  where
    spread : (a b d : ℕ) → a * (b + d) ≡ a * b + a * d
    spread a b d = omega arith

total-none : (n k : ℕ) → n ≤ k → total n (λ i. one_if (k == i)) ≡ 0
total-none zero k past = refl
total-none (suc n) k past = let other : k ≢ n = omega (arith, past) in let miss : eqb k n ≡ false = grind (arith, nat_tests) in omega (arith, total-none n k (omega (arith, past)), ap {B = ℕ} (λ b. one_if b) miss)

pub total-one : (n k : ℕ) → k < n → total n (λ i. one_if (k == i)) ≡ 1
total-one zero k below = absurd (omega (arith, below))
total-one (suc n) k below = by_place (cases_eq k n) (λ early. total-one n k early)
  where
    by_place : (k ≡ n) ⊎ (k ≢ n) → (k < n → total n (λ i. one_if (k == i)) ≡ 1) → total n (λ i. one_if (k == i)) + one_if (k == n) ≡ 1
    by_place (inl same) more = let hit : eqb k n ≡ true = grind (arith, nat_tests) in omega (arith, total-none n k (omega (arith, same)), ap {B = ℕ} (λ b. one_if b) hit)
    by_place (inr other) more = let miss : eqb k n ≡ false = grind (arith, nat_tests) in omega (arith, more (omega (arith, below, other)), ap {B = ℕ} (λ b. one_if b) miss)

total-append : (m n : ℕ) (f : ℕ → ℕ) → total (m + n) f ≡ total m f + total n (λ i. f (m + i))
total-append m zero f = let none : m + 0 ≡ m = omega arith in ap (λ k. total k f) none ∙ omega arith
total-append m (suc n) f = let more : m + suc n ≡ suc (m + n) = omega arith in ap (λ k. total k f) more ∙ omega (arith, total-append m n f)

-- row by row
pub total-rows : (a b : ℕ) (f : ℕ → ℕ) → total (a * b) f ≡ total a (λ l. total b (λ p. f (l * b + p)))
total-rows zero b f = let none : 0 * b ≡ 0 = omega arith in ap (λ k. total k f) none
total-rows (suc a) b f = let more : suc a * b ≡ a * b + b = omega arith in ap (λ k. total k f) more ∙ omega (arith, total-append (a * b) b f, total-rows a b f)

total-const : (n c : ℕ) → total n (λ i. c) ≡ n * c
total-const zero c = omega arith
total-const (suc n) c = omega (arith, total-const n c)

total-first : (n : ℕ) (f : ℕ → ℕ) → total (suc n) f ≡ f 0 + total n (λ i. f (suc i))
total-first zero f = omega arith
total-first (suc n) f = omega (arith, total-first n f)

-- ---- turns

module _ (lines : ℕ) (some : 1 ≤ lines) where
  -- how many of the places below n are those of line l
  abbrev pub turns : ℕ → ℕ → ℕ
  turns l zero = 0
  turns l (suc n) = turns l n + one_if (n % lines == l)

  record Exact (l n : ℕ) : Type 0 where
    below : (k : ℕ) → k < turns l n → k * lines + l < n
    above : (k : ℕ) → k * lines + l < n → k < turns l n

  exact : (l : ℕ) → l < lines → (n : ℕ) → Exact l n
  exact l in_l zero = record { below = λ k less. absurd (omega (arith, less)); above = λ k less. absurd (omega (arith, less)) }
  exact l in_l (suc n) = by_line (cases_eq (n % lines) l) (exact l in_l n)
    where
      rise : (i j c : ℕ) → i < j → i * c + c ≤ j * c
      rise i zero c less = absurd (omega (arith, less))
      rise zero (suc j) c less = omega arith
      rise (suc i) (suc j) c less = omega (arith, rise i j c (omega (arith, less)))

      split : n % lines + n / lines * lines ≡ n
      split = mod-add-div' n lines

      by_line : (n % lines ≡ l) ⊎ (n % lines ≢ l) → Exact l n → Exact l (suc n)
      by_line (inr other) was = record {
        below = λ k less. omega (arith, was.below k (omega (arith, less, none)));
        above = λ k less. omega (arith, none, was.above k (omega (arith, less, not_here k)));
      }
        where
          miss : eqb (n % lines) l ≡ false
          miss = grind (arith, nat_tests)

          none : one_if (n % lines == l) ≡ 0
          none = ap {B = ℕ} (λ b. one_if b) miss

          not_here : (k : ℕ) → k * lines + l ≢ n
          not_here k is = other (ap (λ m. m % lines) (sym is) ∙ mod-mul-add k lines l in_l)
      by_line (inl here) was = record {
        below = λ k less. by_last k (cases_lt k (turns l n)) less;
        above = λ k less. by_place k (cases_eq (k * lines + l) n) less;
      }
        where
          hit : eqb (n % lines) l ≡ true
          hit = grind (arith, nat_tests)

          one : one_if (n % lines == l) ≡ 1
          one = ap {B = ℕ} (λ b. one_if b) hit

          -- the last turn is at this place
          last : turns l n * lines + l ≡ n
          last = by_less (cases_lt (turns l n) (n / lines)) (cases_lt (n / lines) (turns l n))
            where
              at : n / lines * lines + l ≡ n
              at = omega (arith, split, here)

              by_less : (turns l n < n / lines) ⊎ (n / lines ≤ turns l n) → (n / lines < turns l n) ⊎ (turns l n ≤ n / lines) → turns l n * lines + l ≡ n
              by_less (inl less) more = absurd (omega (arith, was.above (turns l n) (omega (arith, at, rise (turns l n) (n / lines) lines less, some))))
              by_less (inr past) (inl less) = absurd (omega (arith, was.below (n / lines) less, at))
              by_less (inr past) (inr few) = let same : turns l n ≡ n / lines = omega (arith, past, few) in ap (λ k. k * lines + l) same ∙ at

          by_last : (k : ℕ) → (k < turns l n) ⊎ (turns l n ≤ k) → k < turns l n + one_if (n % lines == l) → k * lines + l < suc n
          by_last k (inl early) less = omega (arith, was.below k early)
          by_last k (inr past) less = let same : k ≡ turns l n = omega (arith, past, less, one) in omega (arith, last, ap (λ j. j * lines + l) same)

          by_place : (k : ℕ) → (k * lines + l ≡ n) ⊎ (k * lines + l ≢ n) → k * lines + l < suc n → k < turns l n + one_if (n % lines == l)
          by_place k (inr other) less = omega (arith, was.above k (omega (arith, less, other)))
          by_place k (inl is) less = by_more (cases_lt (turns l n) k)
            where
              by_more : (turns l n < k) ⊎ (k ≤ turns l n) → k < turns l n + one_if (n % lines == l)
              by_more (inl more) = absurd (omega (arith, is, last, rise (turns l n) k lines more, some))
              by_more (inr few) = omega (arith, few, one)

  turns-total : (n : ℕ) → total lines (λ l. turns l n) ≡ n
  turns-total zero = total-const lines 0 ∙ omega arith
  turns-total (suc n) = omega (arith, total-add lines (λ l. turns l n) (λ l. one_if (n % lines == l)), turns-total n, total-one lines (n % lines) (mod-lt n some))

-- ---- starts, task by task

module _ (net : NetRows) (limit : ℕ) where
  abbrev Counted : List Entry → Type 0
  Counted b = starts b ≡ total (length net.tasks) (λ t. count_by (begins t) b)

  counted_step : (b : List Entry) (x : Entry) → MayFollow net limit b x → Counted b → Counted (b ++ x ∷ [])
  counted_step b x may before = omega (arith, count_by_push is_start b x, each, before, one_more x may)
    where
      each : total (length net.tasks) (λ t. count_by (begins t) (b ++ x ∷ [])) ≡ total (length net.tasks) (λ t. count_by (begins t) b) + total (length net.tasks) (λ t. one_if (begins t x))
      each =
          total-same (length net.tasks) (λ t. count_by (begins t) (b ++ x ∷ [])) (λ t. count_by (begins t) b + one_if (begins t x)) (λ t below. count_by_push (begins t) b x)
          ∙ total-add (length net.tasks) (λ t. count_by (begins t) b) (λ t. one_if (begins t x))

      one_more : (y : Entry) → MayFollow net limit b y → one_if (is_start y) ≡ total (length net.tasks) (λ t. one_if (begins t y))
      one_more (Start task cause ins) m = sym (total-one (length net.tasks) task m.in_range.0)
      one_more (End start gives inner) m = sym (total-const (length net.tasks) 0 ∙ omega arith)
      one_more (Fault start why) m = sym (total-const (length net.tasks) 0 ∙ omega arith)
      one_more (Drop task cause why) m = sym (total-const (length net.tasks) 0 ∙ omega arith)

  counted : (h : List Entry) → ShapeLegal net limit h → Counted h
  counted h shape = (along (MayFollow net limit) Counted counted_step [] h (sym (total-const (length net.tasks) 0 ∙ omega arith)) shape).1

-- ---- the starts of a cell

module _ {V : Type 0} (pipeline : Pipeline V) (one : OneAnswer V) (limit : ℕ) (values : List (ValueRow V)) (h : List Entry) (is : IsCellRun pipeline one limit values h) where
  abbrev net : NetRows
  net = pipeline_net pipeline

  abbrev lines : ℕ
  lines = pipeline.lines

  abbrev pipes : ℕ
  pipes = length pipeline.serials

  abbrev task : ℕ → ℕ → ℕ
  task = cell_task pipeline

  abbrev begun_at : ℕ → ℕ → ℕ
  begun_at l p = started pipeline one limit values h is l p

  abbrev signalled_at : ℕ → ℕ → ℕ → ℕ
  signalled_at e l p = signalled pipeline one limit values h is e l p

  -- an end that signalled an edge is at a place with a token
  signalled_short : (e l p j : ℕ) (edge : PipeEdge) → l < lines → p < pipes → slice_get (pipe_edges lines pipeline.serials) e ≡ Some edge → edge.row.from ≡ task l p → j < signalled_at e l p → place_at pipeline l j < length pipeline.order.passed
  signalled_short e l p j edge in_l in_p at from below = by_end (slice_get kept_ends j) refl
    where
      kept_ends : List (TaskEnd V)
      kept_ends = filter (signals e) (ends_in values (start_at h) (task l p) h)

      by_end : (o : Option (TaskEnd V)) → slice_get kept_ends j ≡ o → place_at pipeline l j < length pipeline.order.passed
      by_end None none = absurd (omega (arith, below, past_end kept_ends j none))
        where
          past_end : (xs : List (TaskEnd V)) (k : ℕ) → slice_get xs k ≡ None → length xs ≤ k
          past_end [] k none2 = omega arith
          past_end (y ∷ ys) zero none2 = absurd (cc)
          past_end (y ∷ ys) (suc k) none2 = omega (arith, past_end ys k none2)
      by_end (Some end) there =
          let turn : SignalsAtTurn pipeline one is.cells is.first_serial values (start_at h) l p j end = signals_at_turn pipeline one is.cells is.first_serial values (start_at h) h l p j e edge end (all_ends pipeline one limit values h is) in_l in_p at from there in
          token_within pipeline.order (place_at pipeline l j) turn.has.token turn.has.is

  -- a cell was used no more often than its in-edges were given
  uses_given : (l p e : ℕ) → e < length net.edges → target_of net e ≡ task l p → used (task l p) h ≤ given net e h
  uses_given l p e below into = subst (λ t. used t h ≤ given net e h) into ((turning_along net limit h (pipes_ringed lines pipeline.serials) is.given.shape).1.held e below)

  -- and it started no more often
  starts_used : (l p : ℕ) → begun_at l p ≤ used (task l p) h
  starts_used l p =
      omega (
        arith,
        ((kept pipeline one limit values h is).ran (task l p)).begun,
        (rounds_along net limit lines (λ r. task r 0) (in_pipe pipeline 0) h (pipes_ringed lines pipeline.serials) (cycle pipeline one limit values h is 0 is.first_serial) is.given.shape).1.passing.begun (task l p),
      )

  -- what an in-edge of a cell comes to
  from_edge : (serial : Bool) (of l p n i : ℕ) (tasks : ℕ → ℕ) (into : InEdge lines pipeline.serials serial of (task l p)) (from : ComesFrom lines pipeline.serials n tasks i into.has.place) (line pipe : ℕ) → from.edge.row.from ≡ task line pipe
      → used (task l p) h ≤ length (begun {V = V} net into.has.place) + signalled_at into.has.place line pipe
  from_edge serial of l p n i tasks into from line pipe is_from =
      omega (
        arith,
        uses_given l p into.has.place (in_edge_below lines pipeline.serials into.edge into.has) (target_is lines pipeline.serials into.has.place into.edge into.has.at ∙ into.to),
        given_is pipeline one limit values h is into.has.place line pipe from.edge from.at is_from,
      )

  -- A cell of a later pipe is used at places with tokens alone, one of the first pipe also at the next.
  pub uses_short : (l p k : ℕ) → l < lines → p < pipes → k < used (task l p) h → place_at pipeline l k < length pipeline.order.passed + end_place p
  uses_short l zero k in_l in_p less = by_round from.round
    where
      into : InEdge lines pipeline.serials true 0 (task l 0)
      into = pipe_in_edge lines pipeline.serials l 0 in_l is.first_serial

      e : ℕ
      e = into.has.place

      from : ComesFrom lines pipeline.serials lines (λ r. task r 0) l into.has.place
      from = along_pipe_into lines pipeline.serials l 0 into.has.place in_p (record { edge = into.edge; at = into.has.at; to = into.to }) (tag_is lines pipeline.serials into.has.place into.edge into.has.at ∙ into.is_serial)

      few : used (task l 0) h ≤ length (begun {V = V} net into.has.place) + signalled_at into.has.place from.before 0
      few = from_edge true 0 l 0 lines l (λ r. task r 0) into from from.before 0 from.from

      by_round : GoesOn lines from.before l from.edge.row.start → place_at pipeline l k < length pipeline.order.passed + 1
      by_round (goes_up starts l_is) =
          omega (arith, l_is, signalled_short into.has.place from.before 0 k from.edge from.below in_p from.at from.from (omega (arith, less, few, first_counts pipeline one limit values h is into.has.place from.edge false from.at starts)))
      by_round (goes_round starts l_is last) = by_place k refl
        where
          first_one : length (begun {V = V} net into.has.place) ≡ 1
          first_one = first_counts pipeline one limit values h is into.has.place from.edge true from.at starts

          by_place : (i : ℕ) → k ≡ i → place_at pipeline l k < length pipeline.order.passed + 1
          by_place zero k_is = omega (arith, l_is, ap (λ i. i * lines + l) k_is)
          by_place (suc j) k_is =
              omega (
                arith,
                l_is,
                last,
                more,
                ap (λ i. i * lines + l) k_is,
                signalled_short into.has.place from.before 0 j from.edge from.below in_p from.at from.from (omega (arith, less, few, first_one, k_is)),
              )
            where
              more : suc j * lines ≡ j * lines + lines
              more = omega arith
  uses_short l (suc p) k in_l in_p less = by_round from.round
    where
      into : InEdge lines pipeline.serials false l (task l (suc p))
      into = line_in_edge lines pipeline.serials l (suc p) in_l in_p

      from : ComesFrom lines pipeline.serials pipes (task l) (suc p) into.has.place
      from = along_line_into lines pipeline.serials l (suc p) into.has.place in_p (record { edge = into.edge; at = into.has.at; to = into.to }) (tag_is lines pipeline.serials into.has.place into.edge into.has.at ∙ into.is_serial)

      few : used (task l (suc p)) h ≤ length (begun {V = V} net into.has.place) + signalled_at into.has.place l from.before
      few = from_edge false l l (suc p) pipes (suc p) (task l) into from l from.before from.from

      by_round : GoesOn pipes from.before (suc p) from.edge.row.start → place_at pipeline l k < length pipeline.order.passed + 0
      by_round (goes_round starts p_is last) = absurd (omega (arith, p_is))
      by_round (goes_up starts p_is) =
          omega (arith, signalled_short into.has.place l from.before k from.edge in_l from.below from.at from.from (omega (arith, less, few, first_counts pipeline one limit values h is into.has.place from.edge false from.at starts)))

  -- ---- the places of all cells

  -- how many of the first n places are those of a line
  abbrev pub turns_of : ℕ → ℕ → ℕ
  turns_of l n = turns lines is.some_lines l n

  -- how often a cell may be used
  abbrev pub places_of : ℕ → ℕ → ℕ
  places_of l p = turns_of l (length pipeline.order.passed + end_place p)

  pub uses_few : (l p : ℕ) → l < lines → p < pipes → used (task l p) h ≤ places_of l p
  uses_few l p in_l in_p = by_less (cases_lt (places_of l p) (used (task l p) h))
    where
      at : Exact lines is.some_lines l (length pipeline.order.passed + end_place p)
      at = exact lines is.some_lines l in_l (length pipeline.order.passed + end_place p)

      by_less : (places_of l p < used (task l p) h) ⊎ (used (task l p) h ≤ places_of l p) → used (task l p) h ≤ places_of l p
      by_less (inl less) = absurd (omega (arith, at.above (places_of l p) (uses_short l p (places_of l p) in_l in_p less)))
      by_less (inr few) = few

  -- those of a line
  line_places : (l : ℕ) → total pipes (places_of l) ≡ turns_of l (length pipeline.order.passed + 1) + (pipes - 1) * turns_of l (length pipeline.order.passed)
  line_places l = by_pipes pipes refl
    where
      by_pipes : (n : ℕ) → pipes ≡ n → total n (places_of l) ≡ turns_of l (length pipeline.order.passed + 1) + (n - 1) * turns_of l (length pipeline.order.passed)
      by_pipes zero count = absurd (omega (arith, count, some_pipes pipeline is.first_serial))
      by_pipes (suc n) count =
          total-first n (places_of l)
          ∙ omega (
            arith,
            total-const n (turns_of l (length pipeline.order.passed + 0)),
            ap (λ m. n * turns_of l m) no_more,
            ap (λ m. m * turns_of l (length pipeline.order.passed)) one_less,
          )
        where
          one_less : suc n - 1 ≡ n
          one_less = omega arith

          no_more : length pipeline.order.passed + 0 ≡ length pipeline.order.passed
          no_more = omega arith

  -- One for each token at each pipe, and one at the end.
  pub all_places : total lines (λ l. total pipes (places_of l)) ≡ length pipeline.order.passed * pipes + 1
  all_places =
      total-same lines (λ l. total pipes (places_of l)) (λ l. turns_of l (length pipeline.order.passed + 1) + (pipes - 1) * turns_of l (length pipeline.order.passed)) (λ l in_l. line_places l)
      ∙ total-add lines (λ l. turns_of l (length pipeline.order.passed + 1)) (λ l. (pipes - 1) * turns_of l (length pipeline.order.passed))
      ∙ omega (
        arith,
        turns-total lines is.some_lines (length pipeline.order.passed + 1),
        total-times lines (pipes - 1) (λ l. turns_of l (length pipeline.order.passed)),
        ap (λ n. (pipes - 1) * n) (turns-total lines is.some_lines (length pipeline.order.passed)),
        all_but_one (length pipeline.order.passed) pipes (some_pipes pipeline is.first_serial),
      )
    where
      all_but_one : (n m : ℕ) → 1 ≤ m → (m - 1) * n + n ≡ n * m
      all_but_one n zero some = absurd (omega (arith, some))
      all_but_one n (suc m) some = let less : suc m - 1 ≡ m = omega arith in ap (λ k. k * n + n) less ∙ omega arith

  -- ---- all of them

  module _ (complete : Complete (pipeline_net pipeline) limit h) (fine : IsFine h) where
    started_is : (l p : ℕ) → l < lines → p < pipes → begun_at l p ≡ places_of l p
    started_is l p in_l in_p = by_less (cases_lt (begun_at l p) (places_of l p))
      where
        at : Exact lines is.some_lines l (length pipeline.order.passed + end_place p)
        at = exact lines is.some_lines l in_l (length pipeline.order.passed + end_place p)

        by_less : (begun_at l p < places_of l p) ⊎ (places_of l p ≤ begun_at l p) → begun_at l p ≡ places_of l p
        by_less (inl less) = absurd (omega (arith, starts_at_place pipeline one limit values h is complete fine l p (begun_at l p) in_l in_p (at.below (begun_at l p) less)))
        by_less (inr many) = omega (arith, many, starts_used l p, uses_few l p in_l in_p)

    pub all_counted : starts h ≡ length pipeline.order.passed * pipes + 1
    all_counted =
        counted net limit h is.given.shape
        ∙ ap (λ n. total n (λ t. count_by (begins t) h)) (length-replicate (lines * pipes) cell_row)
        ∙ total-rows lines pipes (λ t. count_by (begins t) h)
        ∙ total-same lines (λ l. total pipes (λ p. count_by (begins (task l p)) h)) (λ l. total pipes (places_of l)) line_counted
        ∙ all_places
      where
        line_counted : (l : ℕ) → l < lines → total pipes (λ p. count_by (begins (task l p)) h) ≡ total pipes (places_of l)
        line_counted l in_l = total-same pipes (λ p. count_by (begins (task l p)) h) (places_of l) (λ p in_p. sym ((kept pipeline one limit values h is).ran (task l p)).begun ∙ started_is l p in_l in_p)
