-- Each step of a register keeps its rule.
use Rattle.std.proofs.Common.{◌≡◌, ◌≢◌, ℕ, zero, suc, ◌+◌, true, eqb, List, [], ◌∷◌, ◌++◌, length, set, Option, Some, None, refl, sym, ap, ◌∙◌, subst, ⊎_elim, arith}
use Rattle.std.specs.Prelude.{count_by, slice_get, ◌==◌}
use Rattle.std.proofs.lemmas.Bool.Decides.{nat_tests}
use Rattle.std.proofs.lemmas.List.Sums.{sum_by_push}
use mathlib.Core.Option.{some, none, some-ne-none, some-injective}
use prog.Atomic.{either}
use lib.ListN.{get_elem?}
use Rattle.atomic_table.specs.Table.{State, Me, step, keeps, Allows, Splits, Joins}
use Rattle.atomic_table.proofs.Lists.{at_set, at_snoc}
use Rattle.tickets.specs.declared.view.View.{View}
use Rattle.tickets.specs.declared.view.View.TheVariants.{Book, Issuing, Redeeming, Ticket, Spent}
use Rattle.tickets.specs.inside.Views.{names, Fits, times_out, AreViewsOfOneBook, NotesItem, SettlesTicket, book_issued, ticket_issued, with_ticket}
use Rattle.tickets.proofs.Named.{one, count_by-set, two_named}
use Rattle.tickets.proofs.Items.{slice_get-last, slice_get-longer, slice_get-else, times_out-longer, times_out-set}

module _ {X : Type 0} where
  abbrev holds : State X (View X) → Type 0
  holds s = AreViewsOfOneBook s.views

  -- the rule, by the items that the book's seat knows
  abbrev IsKeptBy : ℕ → List (Option X) → List (View X) → Type 0
  IsKeptBy keeper items views = ((i : ℕ) (v : View X) → get_elem? views i ≡ some v → Fits keeper items i v) × ((n : ℕ) → count_by (names n) views ≡ times_out (slice_get items n))

  kept_by : (views : List (View X)) (kept : AreViewsOfOneBook views) (items : List (Option X)) → items ≡ kept.items → IsKeptBy kept.keeper items views
  kept_by views kept items same = subst (λ xs. IsKeptBy kept.keeper xs views) (sym same) (kept.fits, kept.once)

  -- the views fit after one of them changed
  fits_set : (keeper : ℕ) (now : List (Option X)) (views : List (View X)) (id : ℕ) (w : View X) → ((j : ℕ) (u : View X) → j ≢ id → get_elem? views j ≡ some u → Fits keeper now j u) → Fits keeper now id w
      → (j : ℕ) (u : View X) → get_elem? (set views id w) j ≡ some u → Fits keeper now j u
  fits_set keeper now views id w others mine j u e =
      ⊎_elim
      (λ (x : (j ≡ id) × (w ≡ u)). subst (λ (y : ℕ × View X). Fits keeper now y.0 y.1) (λ i. (sym x.0 i, x.1 i)) mine)
      (λ (x : (j ≢ id) × (get_elem? views j ≡ some u)). others j u x.0 x.1)
      (at_set views id j w u e)

  -- the other seats fit new items if their tickets do
  others_fit : (keeper id : ℕ) (old now : List (Option X)) → id ≡ keeper → (i : ℕ) (v : View X) → i ≢ id
      → ((n : ℕ) (y : X) → v ≡ Ticket n y → slice_get old n ≡ Some (Some y) → slice_get now n ≡ Some (Some y)) → Fits keeper old i v → Fits keeper now i v
  others_fit keeper id old now same i (Book known) apart keep f = absurd (apart (f.0 ∙ sym same))
  others_fit keeper id old now same i (Issuing known x) apart keep f = absurd (apart (f.0 ∙ sym same))
  others_fit keeper id old now same i (Redeeming known n x) apart keep f = absurd (apart (f.0 ∙ sym same))
  others_fit keeper id old now same i (Ticket n y) apart keep f = keep n y refl f
  others_fit keeper id old now same i Spent apart keep f = tt

  pub begins : AreViewsOfOneBook {X = X} (Book [] ∷ [])
  begins = record { keeper = 0; items = []; fits = first; once = λ n. refl }
    where
      first : (i : ℕ) (v : View X) → get_elem? (Book [] ∷ []) i ≡ some v → Fits 0 [] i v
      first zero v e = subst (Fits 0 [] 0) (some-injective _ _ e) (refl, refl)
      first (suc i) v e = absurd (some-ne-none v (sym e))

  notes : (slots id i : ℕ) (items : List (Option X)) (x : X) → Allows holds slots id (Book items, []) i (λ n. either (n == 0) 0 n) (NotesItem (step slots i 0 0 (some x)) (Book items, []))
  notes slots id i items x s kept len at small =
      let mine = kept.fits id (Book items) at in (
        Issuing items x,
        keeps,
        tt,
        record {
          keeper = kept.keeper;
          items = kept.items;
          fits = fits_set kept.keeper kept.items s.views id (Issuing items x) (λ j u apart e. kept.fits j u e) mine;
          once = λ n.
              let c : count_by (names n) (set s.views id (Issuing items x)) + 0 ≡ count_by (names n) s.views + 0 = count_by-set (names n) s.views id (Book items) (Issuing items x) at in
              omega (arith, kept.once n);
        },
        refl,
      )

  issues : (id : ℕ) (items : List (Option X)) (x : X) → Splits holds id (Issuing items x) (Book (items ++ Some x ∷ [])) (Ticket (length items) x)
  issues id items x s kept at =
      let mine = kept.fits id (Issuing items x) at in
      let k = kept_by s.views kept items mine.1 in
      let now : List (Option X) = items ++ Some x ∷ [] in
      record {
        keeper = kept.keeper;
        items = now;
        fits = λ j u e. ⊎_elim
            (λ was. fits_set kept.keeper now s.views id (Book now)
            (λ i v apart there. others_fit kept.keeper id items now mine.0 i v apart (λ n y is h. slice_get-longer items x y n h) (k.0 i v there))
            (mine.0, refl) j u was)
            (λ (same : Ticket (length items) x ≡ u). subst (Fits kept.keeper now j) same (slice_get-last items x))
            (at_snoc (set s.views id (Book now)) (Ticket (length items) x) u j e);
        once = λ n.
            let c : count_by (names n) (set s.views id (Book now)) + 0 ≡ count_by (names n) s.views + 0 = count_by-set (names n) s.views id (Issuing items x) (Book now) at in
            let d : count_by (names n) (set s.views id (Book now) ++ Ticket (length items) x ∷ []) ≡ count_by (names n) (set s.views id (Book now)) + one (eqb (length items) n) = sum_by_push (λ y. one (names n y)) (set s.views id (Book now)) (Ticket (length items) x) in
            omega (arith, k.1 n, times_out-longer items x n);
      }

  takes_in : (id other : ℕ) (items : List (Option X)) (n : ℕ) (x : X) → Joins holds id (Book items) other (Ticket n x) (Redeeming items n x) Spent
  takes_in id other items n x s kept at apart there =
      let mine = kept.fits id (Book items) at in
      let k = kept_by s.views kept items mine.1 in
      let both : View X = Redeeming items n x in
      let was : get_elem? s.views other ≡ some (Ticket n x) = ⊎_elim (λ (t : (other ≡ id) × (both ≡ Ticket n x)). absurd (apart t.0)) (λ (t : (other ≢ id) × (get_elem? s.views other ≡ some (Ticket n x))). t.1) (at_set s.views id other both (Ticket n x) there) in
      let theirs : slice_get items n ≡ Some (Some x) = k.0 other (Ticket n x) was in
      record {
        keeper = kept.keeper;
        items = items;
        fits = fits_set kept.keeper items (set s.views id both) other Spent (λ j v _ e. fits_set kept.keeper items s.views id both (λ i y _ e'. k.0 i y e') (mine.0, refl, theirs) j v e) tt;
        once = λ m.
            let c : count_by (names m) (set s.views id both) + 0 ≡ count_by (names m) s.views + one (eqb n m) = count_by-set (names m) s.views id (Book items) both at in
            let d : count_by (names m) (set (set s.views id both) other Spent) + one (eqb n m) ≡ count_by (names m) (set s.views id both) + 0 = count_by-set (names m) (set s.views id both) other (Ticket n x) Spent there in
            omega (arith, k.1 m);
      }

  settles : (slots id i : ℕ) (items : List (Option X)) (n : ℕ) (x : X) → Allows holds slots id (Redeeming items n x, []) i (λ k. k) (SettlesTicket (step slots i 0 0 none) (Redeeming items n x, []))
  settles slots id i items n x s kept len at small =
      let mine = kept.fits id (Redeeming items n x) at in
      let k = kept_by s.views kept items mine.1 in
      let was : slice_get items n ≡ Some (Some x) = (k.0 id (Redeeming items n x) at).2 in
      let now : List (Option X) = set items n None in (
        Book now,
        keeps,
        tt,
        record {
          keeper = kept.keeper;
          items = now;
          fits = fits_set kept.keeper now s.views id (Book now)
              (λ j u apart e. others_fit kept.keeper id items now mine.0 j u apart
              (λ m y is h. slice_get-else items n m (λ (e' : m ≡ n).
              let two = two_named n s.views id j (Redeeming items n x) u apart at e (name_hit n) (ap (names n) is ∙ ap (λ q. eqb q n) e' ∙ name_hit n) in
              let once = k.1 n in
              let here : times_out (slice_get items n) ≡ 1 = ap times_out was in
              absurd (omega arith)) ∙ h)
              (k.0 j u e))
              (mine.0, refl);
          once = λ m.
              let c : count_by (names m) (set s.views id (Book now)) + one (eqb n m) ≡ count_by (names m) s.views + 0 = count_by-set (names m) s.views id (Redeeming items n x) (Book now) at in
              omega (arith, k.1 m, times_out-set items n x m was);
        },
        (refl, was),
      )
    where
      name_hit : (m : ℕ) → eqb m m ≡ true
      name_hit m = grind (arith, nat_tests)

  -- the same steps at a seat whose view is known by an equation, as the calls ask for them
  pub notes_item : (slots id i : ℕ) (me : Me X (View X)) (items : List (Option X)) (x : X) → me ≡ (Book items, []) → Allows holds slots id me i (λ n. either (n == 0) 0 n) (NotesItem (step slots i 0 0 (some x)) me)
  notes_item slots id i me items x is = subst (λ (m : Me X (View X)). Allows holds slots id m i (λ n. either (n == 0) 0 n) (NotesItem (step slots i 0 0 (some x)) m)) (sym is) (notes slots id i items x)

  pub issues_item : (id : ℕ) (v : View X) (items : List (Option X)) (x : X) → v ≡ Issuing items x → Splits holds id v (book_issued v) (ticket_issued v)
  issues_item id v items x is = subst (λ (w : View X). Splits holds id w (book_issued w) (ticket_issued w)) (sym is) (issues id items x)

  pub takes_ticket_in : (id other : ℕ) (v w : View X) (items : List (Option X)) (n : ℕ) (x : X) → v ≡ Book items → w ≡ Ticket n x → Joins holds id v other w (with_ticket v w) Spent
  takes_ticket_in id other v w items n x is also = subst (λ (u : View X). Joins holds id u other w (with_ticket u w) Spent) (sym is) (subst (λ (u : View X). Joins holds id (Book items) other u (with_ticket (Book items) u) Spent) (sym also) (takes_in id other items n x))

  pub settles_ticket : (slots id i : ℕ) (me : Me X (View X)) (items : List (Option X)) (n : ℕ) (x : X) → me ≡ (Redeeming items n x, []) → Allows holds slots id me i (λ k. k) (SettlesTicket (step slots i 0 0 none) me)
  settles_ticket slots id i me items n x is = subst (λ (m : Me X (View X)). Allows holds slots id m i (λ k. k) (SettlesTicket (step slots i 0 0 none) m)) (sym is) (settles slots id i items n x)
