-- Whose turn it is, after an ask, after one was taken, and after one ended.
use Rattle.std.proofs.Common.{◌≡◌, ◌≢◌, ◌⊎◌, inl, inr, ℕ, ◌+◌, ◌<◌, ◌≤◌, Bool, List, [], ◌∷◌, ◌++◌, length, set, Option, Some, None, refl, sym, ap, ◌∙◌, subst, arith}
use Rattle.std.specs.Prelude.{slice_get, IsSomeAnd}
use Rattle.std.proofs.lemmas.Bool.{cases_eq, cases_lt}
use Rattle.desk_book.specs.declared.entry.Ask.{Ask}
use Rattle.desk_book.specs.declared.turn.Turn.{Turn}
use Rattle.desk_book.specs.declared.turn.Turn.TheVariants.{Waiting, Open, Over}
use Rattle.desk_book.specs.Histories.{IsOver, EarlierOver, MayTakeAt}
use Rattle.desk_book.specs.inside.Looks.{IsOfGraph, NoneBetween, IsFirstFrom}
use Rattle.desk_book.specs.inside.Keeps.{InTurn}
use Rattle.desk_book.proofs.Lists.{some_same, get_push_cases, get_in_range, get_at_end, get_kept, some_at, get_set_there, get_set_other, get_cleared, not_cleared}

-- turns tell one another apart
pub not_both : (t : Turn) → t ≡ Waiting → IsOver t → ⊥
not_both Waiting is over = over
not_both Open is over = over
not_both (Over whole) is over = absurd (cc)

pub open_not_over : (t : Turn) → t ≡ Open → IsOver t → ⊥
open_not_over Waiting is over = over
open_not_over Open is over = over
open_not_over (Over whole) is over = absurd (cc)

pub open_not_waiting : {t : Turn} → t ≡ Open → t ≡ Waiting → ⊥
open_not_waiting is waits = let e : Open ≡ Waiting = sym is ∙ waits in absurd (cc)

pub over_not_waiting : {t : Turn} {whole : Bool} → t ≡ Over whole → t ≡ Waiting → ⊥
over_not_waiting {t} {whole} is waits = let e : Over whole ≡ Waiting = sym is ∙ waits in absurd (cc)

pub over_of : (t : Turn) (whole : Bool) → t ≡ Over whole → IsOver t
over_of t whole is = subst IsOver (sym is) tt

-- what is known not to have been taken up waits
pub waits_or : (t : Turn) → (t ≡ Waiting) ⊎ ((t ≡ Waiting) → ⊥)
waits_or Waiting = inl refl
waits_or Open = inr (λ e. absurd (cc))
waits_or (Over whole) = inr (λ e. absurd (cc))

-- the ask that may be taken at a number
pub earlier_of : (asks : List Ask) (turn : ℕ → Turn) (n : ℕ) (ask : Ask) → slice_get asks n ≡ Some ask → MayTakeAt asks turn n → EarlierOver asks turn ask.graph n
earlier_of asks turn n ask at may = some_at (λ (a : Ask). EarlierOver asks turn a.graph n) (slice_get asks n) ask at may.1

pub may_of : (asks : List Ask) (turn : ℕ → Turn) (n : ℕ) (ask : Ask) → slice_get asks n ≡ Some ask → turn n ≡ Waiting → EarlierOver asks turn ask.graph n → MayTakeAt asks turn n
may_of asks turn n ask at waits earlier = (waits, subst (λ o. IsSomeAnd o (λ (a : Ask). EarlierOver asks turn a.graph n)) (sym at) earlier)

pub graph_of : (asks : List Ask) (g n : ℕ) (ask : Ask) → slice_get asks n ≡ Some ask → IsOfGraph asks g n → ask.graph ≡ g
graph_of asks g n ask at of = ap (λ (a : Ask). a.graph) (some_same (sym at ∙ of.1)) ∙ of.2

-- of each graph the turn of one ask at most has come
one_next : (next : List (Option ℕ)) (g n m : ℕ) → slice_get next g ≡ Some (Some n) → slice_get next g ≡ Some (Some m) → n ≡ m
one_next next g n m at_n at_m = some_same (some_same (sym at_n ∙ at_m))

-- An ask is taken.
module _ (asks : List Ask) (turn turn' : ℕ → Turn) (next : List (Option ℕ)) (n : ℕ) (ask : Ask) (h : InTurn asks turn next) (at : slice_get asks n ≡ Some ask) (may : MayTakeAt asks turn n) (here : turn' n ≡ Open) (others : (m : ℕ) → m ≢ n → turn' m ≡ turn m) where
  taken_over : (m : ℕ) → IsOver (turn m) → IsOver (turn' m)
  taken_over m over = subst IsOver (sym (others m (λ e. not_both (turn m) (ap turn e ∙ may.0) over))) over

  taken_over_back : (m : ℕ) → IsOver (turn' m) → IsOver (turn m)
  taken_over_back m over = subst IsOver (others m (λ e. open_not_over (turn' m) (ap turn' e ∙ here) over)) over

  taken_waits_back : (m : ℕ) → turn' m ≡ Waiting → turn m ≡ Waiting
  taken_waits_back m waits = sym (others m (λ e. open_not_waiting (ap turn' e ∙ here) waits)) ∙ waits

  taken_may_back : (m : ℕ) (a : Ask) → slice_get asks m ≡ Some a → MayTakeAt asks turn' m → MayTakeAt asks turn m
  taken_may_back m a at_m may' = may_of asks turn m a at_m (taken_waits_back m may'.0)
      (λ k older less at_k same. taken_over_back k (earlier_of asks turn' m a at_m may' k older less at_k same))

  taken_is_next : (g m : ℕ) → slice_get (set next ask.graph None) g ≡ Some (Some m) → MayTakeAt asks turn' m × IsOfGraph asks g m
  taken_is_next g m at_g =
      let old : slice_get next g ≡ Some (Some m) = get_cleared next ask.graph g m at_g in
      let was = h.is_next g m old in
      let other : m ≢ n = (λ e. not_cleared next ask.graph m (subst (λ k. slice_get (set next ask.graph None) k ≡ Some (Some m)) (sym (graph_of asks g n ask at (subst (IsOfGraph asks g) e was.1))) at_g)) in (
        may_of asks turn' m was.1.0 was.1.1 (others m other ∙ was.0.0)
            (λ k older less at_k same. taken_over k (earlier_of asks turn m was.1.0 was.1.1 was.0 k older less at_k same)),
        was.1,
      )

  taken_has_next : (m : ℕ) (a : Ask) → slice_get asks m ≡ Some a → MayTakeAt asks turn' m → slice_get (set next ask.graph None) a.graph ≡ Some (Some m)
  taken_has_next m a at_m may' =
      let old : slice_get next a.graph ≡ Some (Some m) = h.has_next m a at_m (taken_may_back m a at_m may') in
      let other : m ≢ n = (λ e. open_not_waiting (ap turn' e ∙ here) may'.0) in
      let elsewhere : a.graph ≢ ask.graph = (λ e. other (one_next next ask.graph m n (subst (λ k. slice_get next k ≡ Some (Some m)) e old) (h.has_next n ask at may))) in
      get_set_other next ask.graph a.graph None elsewhere ∙ old

  taken_in_order : (m k : ℕ) (older a : Ask) → m < k → slice_get asks m ≡ Some older → slice_get asks k ≡ Some a → older.graph ≡ a.graph → (turn' k ≡ Waiting → ⊥) → IsOver (turn' m)
  taken_in_order m k older a less at_m at_k same busy = by_case (cases_eq k n)
    where
      by_case : (k ≡ n) ⊎ (k ≢ n) → IsOver (turn' m)
      by_case (inl e) = taken_over m (earlier_of asks turn n ask at may m older (omega (arith, less, e)) at_m
          (same ∙ ap (λ (x : Ask). x.graph) (some_same (sym at_k ∙ ap (slice_get asks) e ∙ at))))
      by_case (inr other) = taken_over m (h.in_order m k older a less at_m at_k same (λ waits. busy (others k other ∙ waits)))

  pub taken_in_turn : InTurn asks turn' (set next ask.graph None)
  taken_in_turn = record { is_next = taken_is_next; has_next = taken_has_next; in_order = taken_in_order }

-- An ask ends, and the next of its graph has its turn.
module _ (asks : List Ask) (turn turn' : ℕ → Turn) (next : List (Option ℕ)) (n : ℕ) (ask : Ask) (whole : Bool) (following : Option ℕ) (h : InTurn asks turn next) (at : slice_get asks n ≡ Some ask) (was_open : turn n ≡ Open) (here : turn' n ≡ Over whole) (others : (m : ℕ) → m ≢ n → turn' m ≡ turn m) (in_range : ask.graph < length next) (found : IsFirstFrom asks ask.graph (n + 1) following) where
  ended_over : (m : ℕ) → IsOver (turn m) → IsOver (turn' m)
  ended_over m over = subst IsOver (sym (others m (λ e. open_not_over (turn m) (ap turn e ∙ was_open) over))) over

  ended_waits_back : (m : ℕ) → turn' m ≡ Waiting → turn m ≡ Waiting
  ended_waits_back m waits = sym (others m (λ e. over_not_waiting (ap turn' e ∙ here) waits)) ∙ waits

  -- those before it of its graph have ended, and those after it wait
  before_over : (m : ℕ) (a : Ask) → m < n → slice_get asks m ≡ Some a → a.graph ≡ ask.graph → IsOver (turn m)
  before_over m a less at_m same = h.in_order m n a ask less at_m at same (λ waits. open_not_waiting was_open waits)

  after_waits : (m : ℕ) (a : Ask) → n < m → slice_get asks m ≡ Some a → a.graph ≡ ask.graph → turn m ≡ Waiting
  after_waits m a less at_m same = by_case (waits_or (turn m))
    where
      by_case : (turn m ≡ Waiting) ⊎ ((turn m ≡ Waiting) → ⊥) → turn m ≡ Waiting
      by_case (inl waits) = waits
      by_case (inr busy) = absurd (open_not_over (turn n) was_open (h.in_order n m ask a less at at_m (sym same) busy))

  first_may : (m : ℕ) (a : Ask) → n < m → slice_get asks m ≡ Some a → a.graph ≡ ask.graph → NoneBetween asks ask.graph (n + 1) m → MayTakeAt asks turn' m
  first_may m a less at_m same none = may_of asks turn' m a at_m (others m (λ e. omega (arith, less, e)) ∙ after_waits m a less at_m same) earlier
    where
      earlier : EarlierOver asks turn' a.graph m
      earlier k older below at_k same_k = by_case (cases_lt k n)
        where
          by_case : (k < n) ⊎ (n ≤ k) → IsOver (turn' k)
          by_case (inl before) = ended_over k (before_over k older before at_k (same_k ∙ same))
          by_case (inr past) = by_place (cases_eq k n)
            where
              by_place : (k ≡ n) ⊎ (k ≢ n) → IsOver (turn' k)
              by_place (inl e) = over_of (turn' k) whole (ap turn' e ∙ here)
              by_place (inr other) = absurd (none k (omega (arith, past, other)) below (older, at_k, same_k ∙ same))

  slot_there : (x : Option ℕ) → slice_get (set next ask.graph x) ask.graph ≡ Some x
  slot_there x = get_set_there next ask.graph x in_range

  following_may : (m : ℕ) → following ≡ Some m → MayTakeAt asks turn' m × IsOfGraph asks ask.graph m
  following_may m is =
      let f = subst (IsFirstFrom asks ask.graph (n + 1)) is found in
      (first_may m f.1.0 (omega (arith, f.0)) f.1.1 f.1.2 f.2, f.1)

  ended_is_next : (g m : ℕ) → slice_get (set next ask.graph following) g ≡ Some (Some m) → MayTakeAt asks turn' m × IsOfGraph asks g m
  ended_is_next g m at_g = by_case (cases_eq g ask.graph)
    where
      by_case : (g ≡ ask.graph) ⊎ (g ≢ ask.graph) → MayTakeAt asks turn' m × IsOfGraph asks g m
      by_case (inl e) =
          let is : following ≡ Some m = some_same (sym (slot_there following) ∙ subst (λ k. slice_get (set next ask.graph following) k ≡ Some (Some m)) e at_g) in
          subst (λ k. MayTakeAt asks turn' m × IsOfGraph asks k m) (sym e) (following_may m is)
      by_case (inr other) =
          let was = h.is_next g m (sym (get_set_other next ask.graph g following other) ∙ at_g) in
          let apart : m ≢ n = (λ same. open_not_waiting (ap turn same ∙ was_open) was.0.0) in
          (may_of asks turn' m was.1.0 was.1.1 (others m apart ∙ was.0.0) (λ k older less at_k same. ended_over k (earlier_of asks turn m was.1.0 was.1.1 was.0 k older less at_k same)), was.1)

  -- of its graph, the one that follows it alone may be taken
  may_follows : (m : ℕ) (a : Ask) → slice_get asks m ≡ Some a → a.graph ≡ ask.graph → MayTakeAt asks turn' m → following ≡ Some m
  may_follows m a at_m same may' = by_order (cases_lt n m)
    where
      by_found : (f : Option ℕ) → n < m → following ≡ f → IsFirstFrom asks ask.graph (n + 1) f → following ≡ Some m
      by_found None less is none = absurd (none m (omega (arith, less)) (get_in_range asks m a at_m) (a, at_m, same))
      by_found (Some k) less is first = by_place (cases_lt m k)
        where
          by_place : (m < k) ⊎ (k ≤ m) → following ≡ Some m
          by_place (inl before) = absurd (first.2 m (omega (arith, less)) before (a, at_m, same))
          by_place (inr past) = by_case (cases_eq m k)
            where
              by_case : (m ≡ k) ⊎ (m ≢ k) → following ≡ Some m
              by_case (inl e) = is ∙ ap Some (sym e)
              by_case (inr other) =
                  let waits : turn k ≡ Waiting = after_waits k first.1.0 (omega (arith, first.0)) first.1.1 first.1.2 in
                  let over : IsOver (turn' k) = earlier_of asks turn' m a at_m may' k first.1.0 (omega (arith, past, other)) first.1.1 (first.1.2 ∙ sym same) in
                  absurd (not_both (turn' k) (others k (λ e. omega (arith, first.0, e)) ∙ waits) over)

      by_order : (n < m) ⊎ (m ≤ n) → following ≡ Some m
      by_order (inl less) = by_found following less refl found
      by_order (inr past) = by_case (cases_eq m n)
        where
          by_case : (m ≡ n) ⊎ (m ≢ n) → following ≡ Some m
          by_case (inl e) = absurd (over_not_waiting (ap turn' e ∙ here) may'.0)
          by_case (inr other) = absurd (not_both (turn m) (ended_waits_back m may'.0) (before_over m a (omega (arith, past, other)) at_m same))

  ended_has_next : (m : ℕ) (a : Ask) → slice_get asks m ≡ Some a → MayTakeAt asks turn' m → slice_get (set next ask.graph following) a.graph ≡ Some (Some m)
  ended_has_next m a at_m may' = by_case (cases_eq a.graph ask.graph)
    where
      apart : m ≢ n
      apart e = over_not_waiting (ap turn' e ∙ here) may'.0

      over_back : a.graph ≢ ask.graph → (k : ℕ) (older : Ask) → slice_get asks k ≡ Some older → older.graph ≡ a.graph → IsOver (turn' k) → IsOver (turn k)
      over_back other k older at_k same over = subst IsOver (others k (λ e. other (sym same ∙ ap (λ (x : Ask). x.graph) (some_same (sym at_k ∙ ap (slice_get asks) e ∙ at))))) over

      by_case : (a.graph ≡ ask.graph) ⊎ (a.graph ≢ ask.graph) → slice_get (set next ask.graph following) a.graph ≡ Some (Some m)
      by_case (inl e) = subst (λ k. slice_get (set next ask.graph following) k ≡ Some (Some m)) (sym e) (slot_there following ∙ ap Some (may_follows m a at_m e may'))
      by_case (inr other) =
          get_set_other next ask.graph a.graph following other
          ∙ h.has_next m a at_m (may_of asks turn m a at_m (ended_waits_back m may'.0) (λ k older less at_k same. over_back other k older at_k same (earlier_of asks turn' m a at_m may' k older less at_k same)))

  ended_in_order : (m k : ℕ) (older a : Ask) → m < k → slice_get asks m ≡ Some older → slice_get asks k ≡ Some a → older.graph ≡ a.graph → (turn' k ≡ Waiting → ⊥) → IsOver (turn' m)
  ended_in_order m k older a less at_m at_k same busy = by_case (cases_eq k n)
    where
      was_waiting : turn k ≡ Waiting → k ≢ n → ⊥
      was_waiting waits other = busy (others k other ∙ waits)

      by_case : (k ≡ n) ⊎ (k ≢ n) → IsOver (turn' m)
      by_case (inl e) = ended_over m (before_over m older (omega (arith, less, e)) at_m
          (same ∙ ap (λ (x : Ask). x.graph) (some_same (sym at_k ∙ ap (slice_get asks) e ∙ at))))
      by_case (inr other) = ended_over m (h.in_order m k older a less at_m at_k same (λ waits. was_waiting waits other))

  pub ended_in_turn : InTurn asks turn' (set next ask.graph following)
  ended_in_turn = record { is_next = ended_is_next; has_next = ended_has_next; in_order = ended_in_order }

-- An ask is added.
module _ (asks : List Ask) (turn turn' : ℕ → Turn) (next : List (Option ℕ)) (ask : Ask) (h : InTurn asks turn next) (same : (m : ℕ) → turn' m ≡ turn m) (waits : turn (length asks) ≡ Waiting) where
  abbrev more : List Ask
  more = asks ++ ask ∷ []

  asked_over : (m : ℕ) → IsOver (turn m) → IsOver (turn' m)
  asked_over m over = subst IsOver (sym (same m)) over

  -- what may be taken of those before may be taken now, and the other way round
  asked_may : (m : ℕ) (a : Ask) → slice_get asks m ≡ Some a → MayTakeAt asks turn m → MayTakeAt more turn' m
  asked_may m a at_m may = may_of more turn' m a (get_kept asks ask a m at_m) (same m ∙ may.0) earlier
    where
      earlier : EarlierOver more turn' a.graph m
      earlier k older less at_k same_k = by_place (get_push_cases asks ask older k at_k)
        where
          by_place : (slice_get asks k ≡ Some older) ⊎ ((k ≡ length asks) × (ask ≡ older)) → IsOver (turn' k)
          by_place (inl old) = asked_over k (earlier_of asks turn m a at_m may k older less old same_k)
          by_place (inr last) = let below = get_in_range asks m a at_m in absurd (omega (arith, less, last.0, below))

  asked_may_back : (m : ℕ) (a : Ask) → slice_get asks m ≡ Some a → MayTakeAt more turn' m → MayTakeAt asks turn m
  asked_may_back m a at_m may' = may_of asks turn m a at_m (sym (same m) ∙ may'.0)
      (λ k older less at_k same_k. subst IsOver (same k) (earlier_of more turn' m a (get_kept asks ask a m at_m) may' k older less (get_kept asks ask older k at_k) same_k))

  of_more : (g m : ℕ) → IsOfGraph asks g m → IsOfGraph more g m
  of_more g m of = (of.0, get_kept asks ask of.0 m of.1, of.2)

  asked_in_order : (m k : ℕ) (older a : Ask) → m < k → slice_get more m ≡ Some older → slice_get more k ≡ Some a → older.graph ≡ a.graph → (turn' k ≡ Waiting → ⊥) → IsOver (turn' m)
  asked_in_order m k older a less at_m at_k same_graph busy = by_places (get_push_cases asks ask older m at_m) (get_push_cases asks ask a k at_k)
    where
      by_places : (slice_get asks m ≡ Some older) ⊎ ((m ≡ length asks) × (ask ≡ older)) → (slice_get asks k ≡ Some a) ⊎ ((k ≡ length asks) × (ask ≡ a)) → IsOver (turn' m)
      by_places p (inr last) = absurd (busy (same k ∙ ap turn last.0 ∙ waits))
      by_places (inl old) (inl now) = asked_over m (h.in_order m k older a less old now same_graph (λ w. busy (same k ∙ w)))
      by_places (inr last) (inl now) = let below = get_in_range asks k a now in absurd (omega (arith, less, last.0, below))

  -- the graph is idle, so that its turn has come
  module _ (earlier : EarlierOver asks turn ask.graph (length asks)) (in_range : ask.graph < length next) where
    new_may : MayTakeAt more turn' (length asks)
    new_may = may_of more turn' (length asks) ask (get_at_end asks ask) (same (length asks) ∙ waits) all
      where
        all : EarlierOver more turn' ask.graph (length asks)
        all k older less at_k same_k = by_place (get_push_cases asks ask older k at_k)
          where
            by_place : (slice_get asks k ≡ Some older) ⊎ ((k ≡ length asks) × (ask ≡ older)) → IsOver (turn' k)
            by_place (inl old) = asked_over k (earlier k older less old same_k)
            by_place (inr last) = absurd (omega (arith, less, last.0))

    idle_slot : slice_get (set next ask.graph (Some (length asks))) ask.graph ≡ Some (Some (length asks))
    idle_slot = get_set_there next ask.graph (Some (length asks)) in_range

    idle_is_next : (g m : ℕ) → slice_get (set next ask.graph (Some (length asks))) g ≡ Some (Some m) → MayTakeAt more turn' m × IsOfGraph more g m
    idle_is_next g m at_g = by_case (cases_eq g ask.graph)
      where
        by_case : (g ≡ ask.graph) ⊎ (g ≢ ask.graph) → MayTakeAt more turn' m × IsOfGraph more g m
        by_case (inl e) =
            let is : length asks ≡ m = some_same (some_same (sym idle_slot ∙ subst (λ k. slice_get (set next ask.graph (Some (length asks))) k ≡ Some (Some m)) e at_g)) in
            subst (λ k. MayTakeAt more turn' k × IsOfGraph more g k) is (new_may, (ask, get_at_end asks ask, sym e))
        by_case (inr other) =
            let was = h.is_next g m (sym (get_set_other next ask.graph g (Some (length asks)) other) ∙ at_g) in
            (asked_may m was.1.0 was.1.1 was.0, of_more g m was.1)

    idle_has_next : (m : ℕ) (a : Ask) → slice_get more m ≡ Some a → MayTakeAt more turn' m → slice_get (set next ask.graph (Some (length asks))) a.graph ≡ Some (Some m)
    idle_has_next m a at_m may' = by_place (get_push_cases asks ask a m at_m)
      where
        by_place : (slice_get asks m ≡ Some a) ⊎ ((m ≡ length asks) × (ask ≡ a)) → slice_get (set next ask.graph (Some (length asks))) a.graph ≡ Some (Some m)
        by_place (inl old) =
            let elsewhere : a.graph ≢ ask.graph = (λ e. not_both (turn m) (sym (same m) ∙ may'.0) (earlier m a (get_in_range asks m a old) old e)) in
            get_set_other next ask.graph a.graph (Some (length asks)) elsewhere ∙ h.has_next m a old (asked_may_back m a old may')
        by_place (inr last) =
            subst (λ k. slice_get (set next ask.graph (Some (length asks))) a.graph ≡ Some (Some k)) (sym last.0)
            (subst (λ (x : Ask). slice_get (set next ask.graph (Some (length asks))) x.graph ≡ Some (Some (length asks))) last.1 idle_slot)

    pub idle_in_turn : InTurn more turn' (set next ask.graph (Some (length asks)))
    idle_in_turn = record { is_next = idle_is_next; has_next = idle_has_next; in_order = asked_in_order }

  -- an earlier ask of the graph has not ended
  module _ (k : ℕ) (of : IsOfGraph asks ask.graph k) (not_over : IsOver (turn k) → ⊥) where
    busy_has_next : (m : ℕ) (a : Ask) → slice_get more m ≡ Some a → MayTakeAt more turn' m → slice_get next a.graph ≡ Some (Some m)
    busy_has_next m a at_m may' = by_place (get_push_cases asks ask a m at_m)
      where
        by_place : (slice_get asks m ≡ Some a) ⊎ ((m ≡ length asks) × (ask ≡ a)) → slice_get next a.graph ≡ Some (Some m)
        by_place (inl old) = h.has_next m a old (asked_may_back m a old may')
        by_place (inr last) =
            let below = get_in_range asks k of.0 of.1 in
            absurd (not_over (subst IsOver (same k) (earlier_of more turn' m a at_m may' k of.0 (omega (arith, below, last.0)) (get_kept asks ask of.0 k of.1) (of.2 ∙ ap (λ (x : Ask). x.graph) last.1))))

    pub busy_in_turn : InTurn more turn' next
    busy_in_turn = record {
      is_next = λ g m at_g. let was = h.is_next g m at_g in (asked_may m was.1.0 was.1.1 was.0, of_more g m was.1);
      has_next = busy_has_next;
      in_order = asked_in_order;
    }
