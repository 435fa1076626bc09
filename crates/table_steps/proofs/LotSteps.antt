-- The account of slots after each kind of step on slots and tokens.
use Rattle.std.proofs.Common.{◌≡◌, ◌≢◌, ◌⊎◌, inl, inr, ℕ, ◌+◌, Bool, true, false, ◌&&◌, cond, eqb, List, [], ◌∷◌, ◌++◌, length, refl, sym, ap, ◌∙◌, arith}
use Rattle.std.specs.Prelude.{◌==◌}
use Rattle.std.proofs.lemmas.Bool.Decides.{nat_tests}
use Rattle.std.proofs.lemmas.Bool.{cases_eq}
use Rattle.std.proofs.lemmas.List.{length_push}
use Rattle.task_graph.specs.NetRows.{NetRows}
use Rattle.journal_rules.specs.declared.entry.Cause.{Cause}
use Rattle.journal_rules.specs.declared.entry.Part.{Part}
use Rattle.journal_rules.specs.declared.entry.Part.TheVariants.{From, Nothing}
use Rattle.journal_rules.specs.declared.entry.Entry.{Entry}
use Rattle.journal_rules.specs.Calm.{IsCalm}
use Rattle.journal_rules.specs.DataRule.{last_part}
use Rattle.table_steps.specs.Giving.{one_if}
use Rattle.table_steps.specs.declared.view.TurnDuty.TheVariants.{Collecting, Owes}
use Rattle.table_steps.specs.declared.view.Lot.TheVariants.{Ours, Putting, Put, Awaited, Taking, Fetched, Found}
use Rattle.table_steps.specs.declared.view.Note.TheVariants.{Duty, Lies, Queued}
use Rattle.table_steps.specs.inside.Duties.{Raised}
use Rattle.table_steps.specs.inside.Parcels.{same_part, part_times}
use Rattle.table_steps.specs.inside.SlotKinds.{oldest, later}
use Rattle.table_steps.specs.inside.Slots.{SlotCoord, parcel, lot, queue, owed, collected, left_at, SlotMoves, holders, lying, SlotPart, SlotBounds}
use Rattle.table_steps.proofs.Calming.{calm_now}
use Rattle.table_steps.proofs.Counting.{times_append}
use Rattle.table_steps.proofs.StartDuties.{one_self}
use Rattle.table_steps.proofs.Slots.{at_edge, lay, data_put, data_take, data_token, data_miss, data_alike}
use Rattle.table_steps.proofs.Lots.{crowded}

miss_is : (f e : ℕ) → f ≢ e → one_if (eqb f e) ≡ 0
miss_is f e other = let miss : eqb f e ≡ false = grind (arith, nat_tests) in ap one_if miss

bit_none : (b c : Bool) → one_if b ≡ 0 → one_if (b && c) ≡ 0
bit_none true c h = absurd (omega arith)
bit_none false c h = refl

-- MEASURES OF QUEUES
-- a slot that is taken
lay_none : (m : List Part → ℕ) → m [] ≡ 0 → (label : ℕ → List Part) (f e : ℕ) → m (lay label f [] e) + cond (f == e) (m (label f)) 0 ≡ m (label e)
lay_none m none label f e = by_eq (cases_eq f e)
  where
    by_eq : (f ≡ e) ⊎ (f ≢ e) → m (lay label f [] e) + cond (f == e) (m (label f)) 0 ≡ m (label e)
    by_eq (inl same) =
        let hit : eqb f e ≡ true = grind (arith, nat_tests) in
        ap (λ b. m (cond b [] (label e)) + cond b (m (label f)) 0) hit ∙ omega (arith, none, ap (λ k. m (label k)) same)
    by_eq (inr other) = let miss : eqb f e ≡ false = grind (arith, nat_tests) in ap (λ b. m (cond b [] (label e)) + cond b (m (label f)) 0) miss ∙ omega arith

-- and given back
lay_some : (m : List Part → ℕ) → m [] ≡ 0 → (label : ℕ → List Part) (f : ℕ) (qs : List Part) → label f ≡ [] → (e : ℕ) → m (lay label f qs e) ≡ m (label e) + cond (f == e) (m qs) 0
lay_some m none label f qs out e = by_eq (cases_eq f e)
  where
    by_eq : (f ≡ e) ⊎ (f ≢ e) → m (lay label f qs e) ≡ m (label e) + cond (f == e) (m qs) 0
    by_eq (inl same) =
        let hit : eqb f e ≡ true = grind (arith, nat_tests) in
        ap (λ b. m (cond b qs (label e))) hit ∙ omega (arith, none, ap m (ap label (sym same) ∙ out), ap (λ b. cond b (m qs) 0) hit)
    by_eq (inr other) =
        let miss : eqb f e ≡ false = grind (arith, nat_tests) in ap (λ b. m (cond b qs (label e))) miss ∙ omega (arith, ap (λ b. cond b (m qs) 0) miss)

times_push : (p : Part) (qs : List Part) (q : Part) → part_times p (qs ++ q ∷ []) ≡ part_times p qs + one_if (same_part q p)
times_push p [] q = omega arith
times_push p (x ∷ qs) q = omega (arith, times_push p qs q)

cond_more : (b : Bool) (n k m : ℕ) → m ≡ n + k → cond b m 0 ≡ cond b n 0 + cond b k 0
cond_more true n k m is = is
cond_more false n k m is = refl

at_cond : (f : ℕ) (q : Part) (e : ℕ) (p : Part) → at_edge f q e p ≡ cond (f == e) (one_if (same_part q p)) 0
at_cond f q e p = by_bit (f == e)
  where
    by_bit : (b : Bool) → one_if (b && same_part q p) ≡ cond b (one_if (same_part q p)) 0
    by_bit true = refl
    by_bit false = refl

cond_none : (b : Bool) → ◌≡◌ {A = ℕ} (cond b 0 0) 0
cond_none true = refl
cond_none false = refl

one_cond : (f e : ℕ) → cond (f == e) 1 0 ≡ one_if (f == e)
one_cond f e = by_bit (f == e)
  where
    by_bit : (b : Bool) → ◌≡◌ {A = ℕ} (cond b 1 0) (one_if b)
    by_bit true = refl
    by_bit false = refl

-- A step that leaves all parcels and lots as they are.
pub slots_alike : (net : NetRows) (journal : List Entry) (edge : ℕ → ℕ) (T T' : SlotCoord → ℕ) (label : ℕ → List Part) → SlotPart net journal edge T label → ((c : SlotCoord) → T' c ≡ T c) → SlotPart net journal edge T' label
slots_alike net journal edge T T' label d same = record {
  parts = data_alike net journal edge _ _ _ _ _ _ _ _ d.parts (λ e p. same (parcel e p)) (λ e p. omega (arith, same (queue (part_times p) e))) (λ e. same (lot Fetched e)) (λ e. same (lot Put e));
  owing = λ e. omega (arith, d.owing e, same (lot Ours e), same (lot Putting e), same (lot Put e), same (owed e));
  reached = λ e. omega (arith, d.reached e, same (lot Awaited e), same (lot Taking e), same (lot Fetched e), same (left_at e));
  found = λ e. omega (arith, d.found e, same (lot Found e), same (collected e));
  held = λ e. omega (arith, d.held e, same (queue (λ qs. 1) e), same (lot Putting e), same (lot Taking e));
  few = λ e. omega (arith, d.few e, same (queue length e), same (lot Ours e), same (lot Putting e));
}

-- SLOT TAKEN, to put a parcel there
pub put_taken : (net : NetRows) (journal : List Entry) (edge : ℕ → ℕ) (T T' : SlotCoord → ℕ) (label : ℕ → List Part) (f : ℕ) (p : Part) → SlotPart net journal edge T label
    → SlotMoves T (Lies Ours f p ∷ []) T' (Queued f (label f) ∷ Lies Putting f p ∷ []) → SlotPart net journal edge T' (lay label f [])
put_taken net journal edge T T' label f p d moved = record {
  parts = data_alike net journal edge _ _ _ _ _ _ _ _ d.parts (λ e q. omega (arith, moved (parcel e q))) (λ e q. omega (arith, moved (queue (part_times q) e), lay_none (part_times q) refl label f e)) (λ e. omega (arith, moved (lot Fetched e))) (λ e. omega (arith, moved (lot Put e)));
  owing = λ e. omega (arith, d.owing e, moved (lot Ours e), moved (lot Putting e), moved (lot Put e), moved (owed e));
  reached = λ e. omega (arith, d.reached e, moved (lot Awaited e), moved (lot Taking e), moved (lot Fetched e), moved (left_at e));
  found = λ e. omega (arith, d.found e, moved (lot Found e), moved (collected e));
  held = λ e. omega (arith, d.held e, moved (queue (λ qs. 1) e), moved (lot Putting e), moved (lot Taking e), one_cond f e);
  few = λ e. omega (arith, d.few e, moved (queue length e), moved (lot Ours e), moved (lot Putting e), lay_none length refl label f e);
}

-- or to take one
pub take_taken : (net : NetRows) (journal : List Entry) (edge : ℕ → ℕ) (T T' : SlotCoord → ℕ) (label : ℕ → List Part) (f : ℕ) (p : Part) → SlotPart net journal edge T label
    → SlotMoves T (Lies Awaited f p ∷ []) T' (Queued f (label f) ∷ Lies Taking f p ∷ []) → SlotPart net journal edge T' (lay label f [])
take_taken net journal edge T T' label f p d moved = record {
  parts = data_alike net journal edge _ _ _ _ _ _ _ _ d.parts (λ e q. omega (arith, moved (parcel e q))) (λ e q. omega (arith, moved (queue (part_times q) e), lay_none (part_times q) refl label f e)) (λ e. omega (arith, moved (lot Fetched e))) (λ e. omega (arith, moved (lot Put e)));
  owing = λ e. omega (arith, d.owing e, moved (lot Ours e), moved (lot Putting e), moved (lot Put e), moved (owed e));
  reached = λ e. omega (arith, d.reached e, moved (lot Awaited e), moved (lot Taking e), moved (lot Fetched e), moved (left_at e));
  found = λ e. omega (arith, d.found e, moved (lot Found e), moved (collected e));
  held = λ e. omega (arith, d.held e, moved (queue (λ qs. 1) e), moved (lot Putting e), moved (lot Taking e), one_cond f e);
  few = λ e. omega (arith, d.few e, moved (queue length e), moved (lot Ours e), moved (lot Putting e), lay_none length refl label f e);
}

-- A turn GIVES UP, since the slot is held: it leaves its parcel away
pub put_left : (net : NetRows) (journal : List Entry) (edge : ℕ → ℕ) (T T' : SlotCoord → ℕ) (label : ℕ → List Part) (f n : ℕ) → SlotPart net journal edge T label → SlotBounds net journal edge T
    → holders T f ≡ 1 → SlotMoves T (Lies Ours f (From n) ∷ []) T' (Lies Put f (From n) ∷ []) → SlotPart net journal edge T' label
put_left net journal edge T T' label f n d b holds moved = record {
  parts = data_miss net journal edge _ _ _ _ _ _ _ _ f d.parts (crowded net journal edge T label f d b (omega (arith, holds, moved (lot Ours f), one_self f))) (λ e p real. omega (arith, moved (parcel e p)))
      (λ e other p. omega (arith, moved (parcel e p), bit_none (eqb f e) (same_part (From n) p) (miss_is f e other))) (λ e p. omega (arith, moved (queue (part_times p) e)))
      (λ e other. (omega (arith, moved (lot Fetched e)), omega (arith, moved (lot Put e), miss_is f e other)));
  owing = λ e. omega (arith, d.owing e, moved (lot Ours e), moved (lot Putting e), moved (lot Put e), moved (owed e));
  reached = λ e. omega (arith, d.reached e, moved (lot Awaited e), moved (lot Taking e), moved (lot Fetched e), moved (left_at e));
  found = λ e. omega (arith, d.found e, moved (lot Found e), moved (collected e));
  held = λ e. omega (arith, d.held e, moved (queue (λ qs. 1) e), moved (lot Putting e), moved (lot Taking e));
  few = λ e. omega (arith, d.few e, moved (queue length e), moved (lot Ours e), moved (lot Putting e));
}

none_of : (b : Bool) (q : Part) → q ≢ Nothing → one_if (b && same_part Nothing q) ≡ 0
none_of b (From n) real = no (b)
  where
    no : (c : Bool) → one_if (c && false) ≡ 0
    no true = refl
    no false = refl
none_of b Nothing real = absurd (real refl)
none_of true _ real = refl
none_of false _ real = refl

-- or finds nothing
pub take_left : (net : NetRows) (journal : List Entry) (edge : ℕ → ℕ) (T T' : SlotCoord → ℕ) (label : ℕ → List Part) (f : ℕ) (p : Part) → SlotPart net journal edge T label → SlotBounds net journal edge T
    → holders T f ≡ 1 → SlotMoves T (Lies Awaited f p ∷ []) T' (Lies Fetched f Nothing ∷ []) → SlotPart net journal edge T' label
take_left net journal edge T T' label f p d b holds moved = record {
  parts = data_miss net journal edge _ _ _ _ _ _ _ _ f d.parts (crowded net journal edge T label f d b (omega (arith, holds, moved (lot Awaited f), one_self f))) (λ e q real. omega (arith, moved (parcel e q), none_of (eqb f e) q real))
      (λ e other q. omega (arith, moved (parcel e q), bit_none (eqb f e) (same_part Nothing q) (miss_is f e other))) (λ e q. omega (arith, moved (queue (part_times q) e)))
      (λ e other. (omega (arith, moved (lot Fetched e), miss_is f e other), omega (arith, moved (lot Put e))));
  owing = λ e. omega (arith, d.owing e, moved (lot Ours e), moved (lot Putting e), moved (lot Put e), moved (owed e));
  reached = λ e. omega (arith, d.reached e, moved (lot Awaited e), moved (lot Taking e), moved (lot Fetched e), moved (left_at e));
  found = λ e. omega (arith, d.found e, moved (lot Found e), moved (collected e));
  held = λ e. omega (arith, d.held e, moved (queue (λ qs. 1) e), moved (lot Putting e), moved (lot Taking e));
  few = λ e. omega (arith, d.few e, moved (queue length e), moved (lot Ours e), moved (lot Putting e));
}

-- SLOT GIVEN BACK, with a parcel behind the others
pub put_back : (net : NetRows) (journal : List Entry) (edge : ℕ → ℕ) (T T' : SlotCoord → ℕ) (label : ℕ → List Part) (f n : ℕ) (qs : List Part) → SlotPart net journal edge T label → label f ≡ []
    → SlotMoves T (Queued f qs ∷ Lies Putting f (From n) ∷ []) T' (Lies Put f (From n) ∷ []) → SlotPart net journal edge T' (lay label f (qs ++ From n ∷ []))
put_back net journal edge T T' label f n qs d out moved = record {
  parts = data_alike net journal edge _ _ _ _ _ _ _ _ (data_put net journal edge _ (λ e p. T' (parcel e p)) _ (lying T' (lay label f (qs ++ From n ∷ []))) _ _ (λ e. T' (lot Put e)) f n d.parts (λ e p. omega (arith, moved (parcel e p)))
      (λ e p. omega (arith, moved (queue (part_times p) e), lay_some (part_times p) refl label f (qs ++ From n ∷ []) out e, cond_more (f == e) (part_times p qs) (one_if (same_part (From n) p)) (part_times p (qs ++ From n ∷ [])) (times_push p qs (From n)), at_cond f (From n) e p))
      (λ e. omega (arith, moved (lot Put e))))
      (λ e p. refl) (λ e p. refl) (λ e. omega (arith, moved (lot Fetched e))) (λ e. refl);
  owing = λ e. omega (arith, d.owing e, moved (lot Ours e), moved (lot Putting e), moved (lot Put e), moved (owed e));
  reached = λ e. omega (arith, d.reached e, moved (lot Awaited e), moved (lot Taking e), moved (lot Fetched e), moved (left_at e));
  found = λ e. omega (arith, d.found e, moved (lot Found e), moved (collected e));
  held = λ e. omega (arith, d.held e, moved (queue (λ qs. 1) e), moved (lot Putting e), moved (lot Taking e), one_cond f e);
  few = λ e. omega (arith, d.few e, moved (queue length e), moved (lot Ours e), moved (lot Putting e), lay_some length refl label f (qs ++ From n ∷ []) out e, cond_more (f == e) (length qs) 1 (length (qs ++ From n ∷ [])) (omega (arith, length_push qs (From n))), one_cond f e);
}

-- or without the oldest of them
pub take_back : (net : NetRows) (journal : List Entry) (edge : ℕ → ℕ) (T T' : SlotCoord → ℕ) (label : ℕ → List Part) (f : ℕ) (p : Part) (qs : List Part) → SlotPart net journal edge T label → SlotBounds net journal edge T → label f ≡ []
    → holders T f ≡ 1 → (T' (queue (λ qs. 1) f) ≡ 0 → (q : Part) → T' (queue (part_times q) f) ≡ 0)
    → SlotMoves T (Queued f qs ∷ Lies Taking f p ∷ []) T' (Lies Fetched f (oldest qs) ∷ []) → SlotPart net journal edge T' (lay label f (later qs))
take_back net journal edge T T' label f p (x ∷ qs) d b out holds alone moved = record {
  parts = data_alike net journal edge _ _ _ _ _ _ _ _ (data_take net journal edge _ (λ e q. T' (parcel e q)) _ (lying T' (lay label f qs)) _ (λ e. T' (lot Fetched e)) _ f x d.parts (λ e q. omega (arith, moved (parcel e q)))
      (λ e q. omega (arith, moved (queue (part_times q) e), lay_some (part_times q) refl label f qs out e, cond_more (f == e) (one_if (same_part x q)) (part_times q qs) (part_times q (x ∷ qs)) refl, at_cond f x e q))
      (λ e. omega (arith, moved (lot Fetched e))))
      (λ e q. refl) (λ e q. refl) (λ e. refl) (λ e. omega (arith, moved (lot Put e)));
  owing = λ e. omega (arith, d.owing e, moved (lot Ours e), moved (lot Putting e), moved (lot Put e), moved (owed e));
  reached = λ e. omega (arith, d.reached e, moved (lot Awaited e), moved (lot Taking e), moved (lot Fetched e), moved (left_at e));
  found = λ e. omega (arith, d.found e, moved (lot Found e), moved (collected e));
  held = λ e. omega (arith, d.held e, moved (queue (λ qs. 1) e), moved (lot Putting e), moved (lot Taking e), one_cond f e);
  few = λ e. omega (arith, d.few e, moved (queue length e), moved (lot Ours e), moved (lot Putting e), lay_some length refl label f qs out e, cond_more (f == e) 1 (length qs) (length (x ∷ qs)) (omega arith));
}
take_back net journal edge T T' label f p [] d b out holds alone moved = record {
  parts = data_miss net journal edge _ _ _ _ _ _ _ _ f d.parts restless (λ e q real. omega (arith, moved (parcel e q), none_of (eqb f e) q real))
      (λ e other q. omega (arith, moved (parcel e q), bit_none (eqb f e) (same_part Nothing q) (miss_is f e other)))
      (λ e q. omega (arith, moved (queue (part_times q) e), lay_some (part_times q) refl label f [] out e))
      (λ e other. (omega (arith, moved (lot Fetched e), miss_is f e other), omega (arith, moved (lot Put e))));
  owing = λ e. omega (arith, d.owing e, moved (lot Ours e), moved (lot Putting e), moved (lot Put e), moved (owed e));
  reached = λ e. omega (arith, d.reached e, moved (lot Awaited e), moved (lot Taking e), moved (lot Fetched e), moved (left_at e));
  found = λ e. omega (arith, d.found e, moved (lot Found e), moved (collected e));
  held = λ e. omega (arith, d.held e, moved (queue (λ qs. 1) e), moved (lot Putting e), moved (lot Taking e), one_cond f e);
  few = λ e. omega (arith, d.few e, moved (queue length e), moved (lot Ours e), moved (lot Putting e), lay_some length refl label f [] out e);
}
  where
    none_there : (q : Part) → lying T label f q ≡ 0
    none_there q = omega (arith, ap (part_times q) out, moved (queue (part_times q) f), cond_none (f == f), alone (omega (arith, d.held f, holds, moved (queue (λ qs. 1) f), one_cond f f, one_self f)) q)

    -- where the edge is calm, what is due lies in the slot
    restless : ¬ IsCalm net f journal
    restless calm = omega (arith, d.parts.due f calm, none_there (last_part f journal), calm_now net f journal calm, b.tokens f, b.within f, d.reached f, moved (lot Taking f), one_self f)

-- TOKEN GIVEN, once its parcel is put
pub token_given : (net : NetRows) (journal : List Entry) (edge edge' : ℕ → ℕ) (T T' : SlotCoord → ℕ) (label : ℕ → List Part) (f : ℕ) (p : Part) (gives : List ℕ) → SlotPart net journal edge T label → Raised edge f edge'
    → SlotMoves T (Duty (Owes (f ∷ gives)) ∷ Lies Put f p ∷ []) T' (Duty (Owes gives) ∷ []) → SlotPart net journal edge' T' label
token_given net journal edge edge' T T' label f p gives d raised moved = record {
  parts = data_alike net journal edge' _ _ _ _ _ _ _ _ (data_token net journal edge edge' _ _ _ (λ e. T' (lot Fetched e)) _ (λ e. T' (lot Put e)) d.parts (λ e. omega (arith, raised e, moved (lot Put e), moved (lot Fetched e))))
      (λ e q. omega (arith, moved (parcel e q))) (λ e q. omega (arith, moved (queue (part_times q) e))) (λ e. refl) (λ e. refl);
  owing = λ e. omega (arith, d.owing e, moved (lot Ours e), moved (lot Putting e), moved (lot Put e), moved (owed e));
  reached = λ e. omega (arith, d.reached e, moved (lot Awaited e), moved (lot Taking e), moved (lot Fetched e), moved (left_at e));
  found = λ e. omega (arith, d.found e, moved (lot Found e), moved (collected e));
  held = λ e. omega (arith, d.held e, moved (queue (λ qs. 1) e), moved (lot Putting e), moved (lot Taking e));
  few = λ e. omega (arith, d.few e, moved (queue length e), moved (lot Ours e), moved (lot Putting e));
}

-- TOKEN TAKEN, once its parcel is taken
pub token_taken : (net : NetRows) (journal : List Entry) (edge edge' : ℕ → ℕ) (T T' : SlotCoord → ℕ) (label : ℕ → List Part) (t : ℕ) (cause : Cause) (taken left : List ℕ) (f : ℕ) (q : Part) → SlotPart net journal edge T label → Raised edge' f edge
    → SlotMoves T (Duty (Collecting t cause taken (f ∷ left)) ∷ Lies Fetched f q ∷ []) T' (Duty (Collecting t cause (taken ++ f ∷ []) left) ∷ Lies Found f q ∷ []) → SlotPart net journal edge' T' label
token_taken net journal edge edge' T T' label t cause taken left f q d raised moved = record {
  parts = data_alike net journal edge' _ _ _ _ _ _ _ _ (data_token net journal edge edge' _ _ _ (λ e. T' (lot Fetched e)) _ (λ e. T' (lot Put e)) d.parts (λ e. omega (arith, raised e, moved (lot Put e), moved (lot Fetched e))))
      (λ e p. omega (arith, moved (parcel e p))) (λ e p. omega (arith, moved (queue (part_times p) e))) (λ e. refl) (λ e. refl);
  owing = λ e. omega (arith, d.owing e, moved (lot Ours e), moved (lot Putting e), moved (lot Put e), moved (owed e));
  reached = λ e. omega (arith, d.reached e, moved (lot Awaited e), moved (lot Taking e), moved (lot Fetched e), moved (left_at e));
  found = λ e. omega (arith, d.found e, moved (lot Found e), moved (collected e), times_append e taken (f ∷ []));
  held = λ e. omega (arith, d.held e, moved (queue (λ qs. 1) e), moved (lot Putting e), moved (lot Taking e));
  few = λ e. omega (arith, d.few e, moved (queue length e), moved (lot Ours e), moved (lot Putting e));
}
