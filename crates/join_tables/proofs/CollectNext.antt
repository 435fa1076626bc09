-- The next edge from which a release collects, and what its seat knows after the token is taken.
use Rattle.std.proofs.Common.{◌≡◌, ◌≢◌, ◌⊎◌, inl, inr, ℕ, zero, suc, ◌+◌, ◌<◌, ◌≤◌, Bool, true, false, not, ◌&&◌, eqb, List, [], ◌∷◌, ◌++◌, length, map, Option, Some, None, IsTrue, is_some, IfSome, ◌↔◌, sym, refl, ap, ◌∙◌, subst, arith}
use Rattle.std.specs.Prelude.{slice_get, ◌==◌}
use Rattle.std.proofs.lemmas.Bool.Decides.{nat_tests}
use Rattle.std.proofs.lemmas.Bool.{cases_eq}
use Rattle.task_graph.specs.NetRows.{NetRows}
use Rattle.task_graph.specs.Net.{is_weak_row, strong_in}
use Rattle.task_graph.specs.declared.net.EdgeRow.{EdgeRow}
use Rattle.journal_rules.specs.declared.entry.Cause.{Cause}
use Rattle.journal_rules.specs.declared.entry.Cause.TheVariants.{Source, Strong, Weak}
use Rattle.journal_rules.specs.DataRule.{edges_of}
use Rattle.journal_rules.proofs.NetLemmas.{places_length}
use Rattle.table_steps.specs.Releases.{MayBeReleased}
use Rattle.table_steps.specs.declared.view.Note.{Note}
use Rattle.join_tables.specs.declared.calls.Step.{Step}
use Rattle.join_tables.specs.declared.calls.Step.TheVariants.{NoneLeft, Taken}
use Rattle.atomic_table.specs.Seated.{TableId}
use Rattle.join_tables.specs.Findings.{TakesToken}
use Rattle.std.proofs.lemmas.List.{append-nil, length_push, map-append}
use Rattle.join_words.specs.declared.ins.Given.{Given}
use Rattle.join_tables.specs.declared.parts.Inputs.{Inputs}
use Rattle.join_tables.specs.Inputs.{given_in, parts_found, room_in}
use Rattle.table_steps.specs.Values.{given_part}
use Rattle.join_tables.specs.States.{FreshState, fresh_state}
use Rattle.table_steps.specs.Giving.{times, one_if}
use Rattle.table_steps.specs.inside.Kinds.{IsTurn, TakesNextToken, took, CountsNext, AreNoneLeft, without_count}
use Rattle.journal_rules.specs.declared.entry.Part.{Part}
use Rattle.journal_rules.specs.declared.entry.Part.TheVariants.{Nothing}
use Rattle.table_steps.specs.declared.view.TurnDuty.TheVariants.{Collecting}
use Rattle.table_steps.specs.declared.view.SemaphoreRole.TheVariants.{Held}
use Rattle.table_steps.specs.declared.view.SeatMark.TheVariants.{Live}
use Rattle.table_steps.specs.declared.view.Lot.{Lot}
use Rattle.table_steps.specs.declared.view.Lot.TheVariants.{Ours, Putting, Put, Awaited, Taking, Fetched, Found}
use Rattle.table_steps.specs.declared.view.Note.TheVariants.{Duty, Sems, Has, Lies}
use Rattle.table_steps.specs.inside.Accounts.{resting, weigh}
use Rattle.table_steps.specs.inside.Slots.{lot, slot_weigh, awaited_lots, found_lots, pick, relot}
use Rattle.table_steps.specs.inside.SlotKinds.{MayTryTake}
use Rattle.table_steps.proofs.Totals.{weigh_append}
use Rattle.table_steps.proofs.Lots.{slot_append, awaited_none, found_none}
use Rattle.table_steps.proofs.Relotting.{self_weight}
use Rattle.table_steps.proofs.SlotViews.{found_weigh, awaited_weigh, found_push}
use Rattle.join_tables.specs.inside.Seated.{collecting_view, turn_view, taken_in, refusal_of, held_of}
use Rattle.join_tables.specs.inside.Collects.{CollectsOne}
use Rattle.table_steps.proofs.Counting.{times_append, times_strong_in, is_strong_into, is_one}
use Rattle.table_steps.proofs.StartDuties.{one_self}
use Rattle.table_steps.proofs.Bounds.{below_of}

-- PLACES
get_after : (xs ys : List ℕ) (k : ℕ) → slice_get (xs ++ ys) (length xs + k) ≡ slice_get ys k
get_after [] ys k = let is : 0 + k ≡ k = omega arith in ap (slice_get ys) is
get_after (x ∷ xs) ys k = let is : suc (length xs) + k ≡ suc (length xs + k) = omega arith in ap (slice_get (x ∷ xs ++ ys)) is ∙ get_after xs ys k

-- the edge at a place, and those after it
pub record NextEdge (net : NetRows) (left : List ℕ) (f : ℕ) : Type 0 where
  pub tail : List ℕ
  pub is : left ≡ f ∷ tail
  pub below : f < length net.edges

edge_below : (net : NetRows) (t : ℕ) (cause : Cause) (taken tail : List ℕ) (f : ℕ) → MayBeReleased net t cause → taken ++ f ∷ tail ≡ edges_of net t cause → f < length net.edges
edge_below net t Source taken tail f fits is = absurd (omega (arith, ap (times f) is, times_append f taken (f ∷ tail), one_self f))
edge_below net t Strong taken tail f fits is = below_of net t f (is_one (is_strong_into net t f) (omega (arith, ap (times f) is, times_append f taken (f ∷ tail), one_self f, times_strong_in net t f)))
edge_below net t (Weak e) taken tail f fits is = by_eq (cases_eq e f)
  where
    by_eq : (e ≡ f) ⊎ (e ≢ f) → f < length net.edges
    by_eq (inl same) = subst (λ k. k < length net.edges) same fits.in_range
    by_eq (inr other) =
        let miss : one_if (eqb e f) ≡ 0 = let m : eqb e f ≡ false = grind (arith, nat_tests) in ap one_if m in
        absurd (omega (arith, miss, ap (times f) is, times_append f taken (f ∷ tail), one_self f))

at_next : (net : NetRows) (t : ℕ) (cause : Cause) (taken left : List ℕ) (n k : ℕ) → taken ++ left ≡ edges_of net t cause → n ≡ length taken + k → slice_get (edges_of net t cause) n ≡ slice_get left k
at_next net t cause taken left n k is place = ap (λ es. slice_get es n) (sym is) ∙ ap (slice_get (taken ++ left)) place ∙ get_after taken left k

pub next_edge : (net : NetRows) (t : ℕ) (cause : Cause) (taken left : List ℕ) (n f : ℕ) → MayBeReleased net t cause → taken ++ left ≡ edges_of net t cause → n ≡ length taken → slice_get (edges_of net t cause) n ≡ Some f → NextEdge net left f
next_edge net t cause taken left n f fits is place found = by_left left is (sym (at_next net t cause taken left n 0 is (omega (arith, place))) ∙ found)
  where
    by_left : (es : List ℕ) → taken ++ es ≡ edges_of net t cause → slice_get es 0 ≡ Some f → NextEdge net es f
    by_left [] is h = absurd (cc)
    by_left (e ∷ es) is h = let same : e ≡ f = cc in record { tail = es; is = ap (λ k. k ∷ es) same; below = edge_below net t cause taken es f fits (ap (λ k. taken ++ k ∷ es) (sym same) ∙ is) }

pub none_next : (net : NetRows) (t : ℕ) (cause : Cause) (taken left : List ℕ) (n : ℕ) → taken ++ left ≡ edges_of net t cause → n ≡ length taken → slice_get (edges_of net t cause) n ≡ None → left ≡ []
none_next net t cause taken left n is place none = by_left left (sym (at_next net t cause taken left n 0 is (omega (arith, place))) ∙ none)
  where
    by_left : (es : List ℕ) → slice_get es 0 ≡ None → es ≡ []
    by_left [] h = refl
    by_left (e ∷ es) h = absurd (cc)

pub last_next : (net : NetRows) (t : ℕ) (cause : Cause) (taken tail : List ℕ) (n f : ℕ) (last : Bool) → taken ++ f ∷ tail ≡ edges_of net t cause → n ≡ length taken → is_some (slice_get (edges_of net t cause) (n + 1)) ≡ not last → IsTrue last ↔ (tail ≡ [])
last_next net t cause taken tail n f last is place last_is = by_tail tail last (sym (ap is_some (at_next net t cause taken (f ∷ tail) (n + 1) 1 is (omega (arith, place)))) ∙ last_is)
  where
    by_tail : (es : List ℕ) (b : Bool) → is_some (slice_get (f ∷ es) 1) ≡ not b → IsTrue b ↔ (es ≡ [])
    by_tail [] true h = ((λ _. refl), (λ _. refl))
    by_tail [] false h = absurd (cc)
    by_tail (e ∷ es) true h = absurd (cc)
    by_tail (e ∷ es) false h = ((λ yes. absurd (cc)), (λ none. absurd (cc)))

length_append : (xs ys : List ℕ) → length (xs ++ ys) ≡ length xs + length ys
length_append [] ys = omega arith
length_append (x ∷ xs) ys = omega (arith, length_append xs ys)

edges_few : (net : NetRows) (t : ℕ) (cause : Cause) → MayBeReleased net t cause → length (edges_of net t cause) ≤ length net.edges
edges_few net t Source fits = omega arith
edges_few net t Strong fits = places_length (λ (r : EdgeRow). (r.to == t) && not (is_weak_row net r)) net.edges
edges_few net t (Weak e) fits = omega (arith, fits.in_range)

pub place_few : (net : NetRows) (t : ℕ) (cause : Cause) (taken left : List ℕ) (n : ℕ) → MayBeReleased net t cause → taken ++ left ≡ edges_of net t cause → n ≡ length taken → length net.edges < 4294967296 → n < 4294967296
place_few net t cause taken left n fits is place few = omega (arith, place, few, edges_few net t cause fits, ap length is, length_append taken left)

-- VIEWS
-- a release that has the next edge's lot of this kind, with this part
abbrev pub fetching_view : ℕ → Cause → List ℕ → List Part → ℕ → List ℕ → Lot → Part → List Note
fetching_view t cause taken parts f tail k q = Duty (Collecting t cause taken (f ∷ tail)) ∷ Has Live ∷ Sems Held [] ∷ found_lots taken parts ++ Lies k f q ∷ awaited_lots tail

-- what is found comes before
abbrev pub IsNotFound : Lot → Type 0
IsNotFound Awaited = Unit {0}
IsNotFound Taking = Unit {0}
IsNotFound Fetched = Unit {0}
IsNotFound _ = ⊥

past_found : (j k : Lot) (g : Part → Part) (f : ℕ) (es : List ℕ) (ps : List Part) (v : List Note) → IsNotFound j → relot j k g f (found_lots es ps ++ v) ≡ found_lots es ps ++ relot j k g f v
past_found j k g f [] ps v apart = refl
past_found j k g f (e ∷ es) [] v apart = refl
past_found Awaited k g f (e ∷ es) (p ∷ ps) v apart = ap (λ l. Lies Found e p ∷ l) (past_found Awaited k g f es ps v apart)
past_found Taking k g f (e ∷ es) (p ∷ ps) v apart = ap (λ l. Lies Found e p ∷ l) (past_found Taking k g f es ps v apart)
past_found Fetched k g f (e ∷ es) (p ∷ ps) v apart = ap (λ l. Lies Found e p ∷ l) (past_found Fetched k g f es ps v apart)
past_found Ours k g f (e ∷ es) (p ∷ ps) v apart = absurd apart
past_found Putting k g f (e ∷ es) (p ∷ ps) v apart = absurd apart
past_found Put k g f (e ∷ es) (p ∷ ps) v apart = absurd apart
past_found Found k g f (e ∷ es) (p ∷ ps) v apart = absurd apart

found_apart : (j : Lot) (f : ℕ) (es : List ℕ) (ps : List Part) → IsNotFound j → slot_weigh (lot j f) (found_lots es ps) ≡ 0
found_apart Awaited f es ps apart = found_none (lot Awaited f) tt es ps
found_apart Taking f es ps apart = found_none (lot Taking f) tt es ps
found_apart Fetched f es ps apart = found_none (lot Fetched f) tt es ps
found_apart Ours f es ps apart = absurd apart
found_apart Putting f es ps apart = absurd apart
found_apart Put f es ps apart = absurd apart
found_apart Found f es ps apart = absurd apart

relot_head : (j k : Lot) (g : Part → Part) (f : ℕ) (q : Part) (v : List Note) → relot j k g f (Lies j f q ∷ v) ≡ Lies k f (g q) ∷ v
relot_head j k g f q v = ap (λ n. pick n (Lies j f q ∷ relot j k g f v) (Lies k f (g q) ∷ v)) (self_weight j f q)

relot_lots : (j k : Lot) (g : Part → Part) (f : ℕ) (es : List ℕ) (ps : List Part) (q : Part) (tail : List ℕ) → IsNotFound j → relot j k g f (found_lots es ps ++ Lies j f q ∷ awaited_lots tail) ≡ found_lots es ps ++ Lies k f (g q) ∷ awaited_lots tail
relot_lots j k g f es ps q tail apart = past_found j k g f es ps (Lies j f q ∷ awaited_lots tail) apart ∙ ap (λ l. found_lots es ps ++ l) (relot_head j k g f q (awaited_lots tail))

-- A parcel is to be taken from the next edge, and the turn holds no slot.
pub may_fetch : (t : ℕ) (cause : Cause) (taken : List ℕ) (parts : List Part) (f : ℕ) (tail : List ℕ) → MayTryTake f (fetching_view t cause taken parts f tail Awaited Nothing) × (slot_weigh (lot Taking f) (fetching_view t cause taken parts f tail Awaited Nothing) ≡ 0)
may_fetch t cause taken parts f tail = let rest = Lies Awaited f Nothing ∷ awaited_lots tail in (
  record {
    awaited = omega (arith, slot_append (lot Awaited f) (found_lots taken parts) rest, self_weight Awaited f Nothing);
    turn = (omega (arith, weigh_append resting (found_lots taken parts) rest, found_weigh resting taken parts, awaited_weigh resting tail), omega arith);
  },
  omega (arith, slot_append (lot Taking f) (found_lots taken parts) rest, found_none (lot Taking f) tt taken parts, awaited_none (lot Taking f) tt tail),
)

pub fetched_view : (t : ℕ) (cause : Cause) (taken : List ℕ) (parts : List Part) (f : ℕ) (tail : List ℕ) (q : Part) → relot Awaited Fetched (λ p. q) f (fetching_view t cause taken parts f tail Awaited Nothing) ≡ fetching_view t cause taken parts f tail Fetched q
fetched_view t cause taken parts f tail q = ap (λ l. Duty (Collecting t cause taken (f ∷ tail)) ∷ Has Live ∷ Sems Held [] ∷ l) (relot_lots Awaited Fetched (λ p. q) f taken parts Nothing tail tt)

pub takes_next : (net : NetRows) (t : ℕ) (cause : Cause) (taken : List ℕ) (parts : List Part) (f : ℕ) (tail : List ℕ) (q : Part) → f < length net.edges → TakesNextToken net f (fetching_view t cause taken parts f tail Fetched q)
takes_next net t cause taken parts f tail q below = let rest = Lies Fetched f q ∷ awaited_lots tail in
    (refl, below, (omega (arith, weigh_append resting (found_lots taken parts) rest, found_weigh resting taken parts, awaited_weigh resting tail), omega arith), omega (arith, slot_append (lot Fetched f) (found_lots taken parts) rest, self_weight Fetched f q))

-- the other notes after the token is taken
found_more : (taken : List ℕ) (parts : List Part) (f : ℕ) (tail : List ℕ) (q : Part) → length parts ≡ length taken
    → relot Fetched Found (λ p. p) f (Has Live ∷ Sems Held [] ∷ found_lots taken parts ++ Lies Fetched f q ∷ awaited_lots tail) ≡ Has Live ∷ Sems Held [] ∷ found_lots (taken ++ f ∷ []) (parts ++ q ∷ []) ++ awaited_lots tail
found_more taken parts f tail q same = ap (λ l. Has Live ∷ Sems Held [] ∷ l) (relot_lots Fetched Found (λ p. p) f taken parts q tail tt ∙ sym (found_push taken parts f q (awaited_lots tail) same))

-- the edge is to be counted where it is strong and another token was there
pub counts_again : (net : NetRows) (t : ℕ) (cause : Cause) (taken : List ℕ) (parts : List Part) (f : ℕ) (tail : List ℕ) (q : Part) (found : ℕ) → MayBeReleased net t cause → taken ++ f ∷ tail ≡ edges_of net t cause → length parts ≡ length taken → cause ≡ Strong → 1 < found
    → CountsNext net t f (took found (fetching_view t cause taken parts f tail Fetched q))
counts_again net t Strong taken parts f tail q found fits is same strong more = by_found found more
  where
    once : times f (strong_in net t) ≡ 1
    once = let has : 1 ≤ times f (strong_in net t) = omega (arith, ap (times f) is, times_append f taken (f ∷ tail), one_self f) in
        let into = is_one (is_strong_into net t f) (omega (arith, has, times_strong_in net t f)) in times_strong_in net t f ∙ ap one_if into

    lots : List Note
    lots = found_lots (taken ++ f ∷ []) (parts ++ q ∷ []) ++ awaited_lots tail

    lone : weigh resting lots ≡ 0
    lone = omega (arith, weigh_append resting (found_lots (taken ++ f ∷ []) (parts ++ q ∷ [])) (awaited_lots tail), found_weigh resting (taken ++ f ∷ []) (parts ++ q ∷ []), awaited_weigh resting tail)

    by_found : (k : ℕ) → 1 < k → CountsNext net t f (took k (fetching_view t Strong taken parts f tail Fetched q))
    by_found zero h = absurd (omega arith)
    by_found (suc zero) h = absurd (omega arith)
    by_found (suc (suc k)) h = (refl, fits.in_tasks, once, subst (λ l. IsTurn (Duty (Collecting t Strong (taken ++ f ∷ []) tail) ∷ l)) (sym (found_more taken parts f tail q same)) (omega (arith, lone), omega arith))
counts_again net t Source taken parts f tail q found fits is same strong more = absurd (cc)
counts_again net t (Weak e) taken parts f tail q found fits is same strong more = absurd (cc)

pub settled_view : (t : ℕ) (cause : Cause) (taken : List ℕ) (parts : List Part) (f : ℕ) (tail : List ℕ) (q : Part) (found : ℕ) → length parts ≡ length taken → without_count (took found (fetching_view t cause taken parts f tail Fetched q)) ≡ collecting_view t cause (taken ++ f ∷ []) (parts ++ q ∷ []) tail
settled_view t cause taken parts f tail q found same = by_cause cause found
  where
    more : (c : Cause) → Duty (Collecting t c (taken ++ f ∷ []) tail) ∷ relot Fetched Found (λ p. p) f (Has Live ∷ Sems Held [] ∷ found_lots taken parts ++ Lies Fetched f q ∷ awaited_lots tail) ≡ collecting_view t c (taken ++ f ∷ []) (parts ++ q ∷ []) tail
    more c = ap (λ l. Duty (Collecting t c (taken ++ f ∷ []) tail) ∷ l) (found_more taken parts f tail q same)

    by_cause : (c : Cause) (k : ℕ) → without_count (took k (fetching_view t c taken parts f tail Fetched q)) ≡ collecting_view t c (taken ++ f ∷ []) (parts ++ q ∷ []) tail
    by_cause Source k = more Source
    by_cause (Weak e) k = more (Weak e)
    by_cause Strong zero = more Strong
    by_cause Strong (suc zero) = more Strong
    by_cause Strong (suc (suc k)) = more Strong

pub weak_settled : (t : ℕ) (cause : Cause) (taken : List ℕ) (parts : List Part) (f : ℕ) (tail : List ℕ) (q : Part) (found : ℕ) → cause ≢ Strong → without_count (took found (fetching_view t cause taken parts f tail Fetched q)) ≡ took found (fetching_view t cause taken parts f tail Fetched q)
weak_settled t cause taken parts f tail q found other = by_cause cause other
  where
    by_cause : (c : Cause) → c ≢ Strong → without_count (took found (fetching_view t c taken parts f tail Fetched q)) ≡ took found (fetching_view t c taken parts f tail Fetched q)
    by_cause Source h = refl
    by_cause (Weak e) h = refl
    by_cause Strong h = absurd (h refl)

pub few_settled : (t : ℕ) (cause : Cause) (taken : List ℕ) (parts : List Part) (f : ℕ) (tail : List ℕ) (q : Part) (found : ℕ) → found ≤ 1 → without_count (took found (fetching_view t cause taken parts f tail Fetched q)) ≡ took found (fetching_view t cause taken parts f tail Fetched q)
few_settled t cause taken parts f tail q found few = by_cause cause found few
  where
    by_cause : (c : Cause) (k : ℕ) → k ≤ 1 → without_count (took k (fetching_view t c taken parts f tail Fetched q)) ≡ took k (fetching_view t c taken parts f tail Fetched q)
    by_cause Source k h = refl
    by_cause (Weak e) k h = refl
    by_cause Strong zero h = refl
    by_cause Strong (suc zero) h = refl
    by_cause Strong (suc (suc k)) h = absurd (omega arith)

-- WHAT IT LED TO
pub collects_none : {V : Type 0} (n : TableId) (t : ℕ) (cause : Cause) (taken left : List ℕ) (ins : Inputs V) (v : List Note) (before after : List ℕ) → left ≡ [] → v ≡ collecting_view t cause taken (parts_found ins) left → after ≡ before → CollectsOne n t cause taken left ins before NoneLeft v ins after
collects_none n t cause taken left ins v before after none is same = subst (λ es. CollectsOne n t cause taken es ins before NoneLeft v ins after) (sym none) (is ∙ ap (collecting_view t cause taken (parts_found ins)) none, refl, same)

pub push_part : {V : Type 0} (ins ins' : Inputs V) (given : Given V) → given_in ins' ≡ given_in ins ++ given ∷ [] → parts_found ins' ≡ parts_found ins ++ given_part given ∷ []
push_part ins ins' given is = ap (map given_part) is ∙ map-append given_part (given_in ins) (given ∷ [])

pub collects_edge : {V : Type 0} (n : TableId) (net : NetRows) (t : ℕ) (cause : Cause) (taken left : List ℕ) (ins ins' : Inputs V) (q : Part) (f : ℕ) (next : NextEdge net left f) (made : Option FreshState) (last : Bool) (v : List Note) (before after : List ℕ)
    → parts_found ins' ≡ parts_found ins ++ q ∷ [] → room_in ins' ≡ room_in ins → v ≡ collecting_view t cause (taken ++ f ∷ []) (parts_found ins ++ q ∷ []) next.tail → IfSome made (λ fresh. fresh ≡ fresh_state n t Strong) → (IsTrue (is_some made) → AreNoneLeft t v × (cause ≡ Strong)) → TakesToken cause (is_some made) before after → IsTrue last ↔ (next.tail ≡ [])
    → CollectsOne n t cause taken left ins before (Taken made last) v ins' after
collects_edge n net t cause taken left ins ins' q f next made last v before after added room is fresh none found last_is =
    subst (λ es. CollectsOne n t cause taken es ins before (Taken made last) v ins' after) (sym next.is)
    (is ∙ ap (λ ps. collecting_view t cause (taken ++ f ∷ []) ps next.tail) (sym added), (ap length added ∙ length_push (parts_found ins) q, room), by_made made fresh none, found, last_is)
  where
    tail_none : AreNoneLeft t v × (cause ≡ Strong) → next.tail ≡ []
    tail_none h = subst (λ w. AreNoneLeft t w) (is ∙ ap (λ c. collecting_view t c (taken ++ f ∷ []) (parts_found ins ++ q ∷ []) next.tail) h.1) h.0 refl

    by_made : (o : Option FreshState) → IfSome o (λ fresh. fresh ≡ fresh_state n t Strong) → (IsTrue (is_some o) → AreNoneLeft t v × (cause ≡ Strong)) → IfSome o (λ fresh. (fresh ≡ fresh_state n t Strong) × (next.tail ≡ []))
    by_made None h k = tt
    by_made (Some x) h k = (h, tail_none (k refl))

-- a step after which nothing is left to collect
abbrev pub IsLastStep : {V : Type 0} → Step V → Type 0
IsLastStep NoneLeft = Unit {0}
IsLastStep (Taken made last) = last ≡ true

pub record HasAll {V : Type 0} (t : ℕ) (cause : Cause) (inputs : Inputs V) (v : List Note) : Type 0 where
  pub view : v ≡ turn_view t cause (taken_in v) (parts_found inputs) (refusal_of v) (held_of v)
  pub count : length (parts_found inputs) ≡ length (taken_in v)

has_all : {V : Type 0} (t : ℕ) (cause : Cause) (taken left : List ℕ) (inputs : Inputs V) (v : List Note) → left ≡ [] → length (parts_found inputs) ≡ length taken → v ≡ collecting_view t cause taken (parts_found inputs) left → HasAll t cause inputs v
has_all t cause taken left inputs v none count is =
    subst (HasAll t cause inputs) (sym (is ∙ ap (collecting_view t cause taken (parts_found inputs)) none ∙ ap (λ l. Duty (Collecting t cause taken []) ∷ Has Live ∷ Sems Held [] ∷ l) (append-nil (found_lots taken (parts_found inputs))))) (record { view = refl; count = count })

pub last_has_all : {V : Type 0} (n : TableId) (t : ℕ) (cause : Cause) (taken left : List ℕ) (inputs inputs' : Inputs V) (before after : List ℕ) (step : Step V) (v : List Note) → length (parts_found inputs) ≡ length taken → IsLastStep step → CollectsOne n t cause taken left inputs before step v inputs' after → HasAll t cause inputs' v
last_has_all n t cause taken [] inputs inputs' before after NoneLeft v count last one = subst (λ i. HasAll t cause i v) (sym one.1) (has_all t cause taken [] inputs v refl count one.0)
last_has_all n t cause taken [] inputs inputs' before after (Taken made b) v count last one = absurd one
last_has_all n t cause taken (f ∷ left) inputs inputs' before after NoneLeft v count last one = absurd one
last_has_all n t cause taken (f ∷ left) inputs inputs' before after (Taken made b) v count last one = has_all t cause (taken ++ f ∷ []) left inputs' v (one.4.0 last) (omega (arith, count, one.1.0, length_push taken f)) one.0
