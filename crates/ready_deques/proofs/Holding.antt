-- Each step of a deque keeps its rule.
use Rattle.std.proofs.Common.{◌≡◌, ◌≢◌, ℕ, zero, suc, ◌<◌, List, [], ◌∷◌, ◌++◌, length, set, Option, Some, None, refl, sym, ap, ◌∙◌, subst, ⊎_elim, inl, inr, arith}
use mathlib.Core.Option.{some, some-ne-none, some-injective}
use lib.ListN.{get_elem?}
use Rattle.crossbeam_deque.specs.Tasks.{Pushes, Takes, Pops, Forks}
use Rattle.crossbeam_deque.proofs.Lists.{at_set, at_snoc, set_again}
use Rattle.ready_deques.specs.declared.about.About.{About}
use Rattle.ready_deques.specs.declared.deque.Queued.{Queued}
use Rattle.ready_deques.specs.inside.ListNames.{Each, IsQueued, AreViewsOf, IsKnown, KeepsIt, Holding}

module _ {X : Type 0} (P : X → Type 0) where
  each_left : (xs ys : List X) → Each P (xs ++ ys) → Each P xs
  each_left [] ys h = tt
  each_left (x ∷ xs) ys h = (h.0, each_left xs ys h.1)

  each_right : (xs ys : List X) → Each P (xs ++ ys) → Each P ys
  each_right [] ys h = h
  each_right (x ∷ xs) ys h = each_right xs ys h.1

  each_append : (xs ys : List X) → Each P xs → Each P ys → Each P (xs ++ ys)
  each_append [] ys h k = k
  each_append (x ∷ xs) ys h k = (h.0, each_append xs ys h.1 k)

abbrev name_or : About → Option About → About
name_or b (Some a) = a
name_or b None = b

abbrev IsNone : Option About → Type 0
IsNone None = Unit {0}
IsNone (Some a) = ⊥

alone : (i : ℕ) (v : Option About) → get_elem? (None ∷ []) i ≡ some v → (i ≡ 0) × IsNone v
alone zero v e = (refl, subst IsNone (some-injective None v e) tt)
alone (suc i) v e = absurd (some-ne-none v (sym e))

alone_in : (views : List (Option About)) (i : ℕ) (v : Option About) → views ≡ None ∷ [] → get_elem? views i ≡ some v → (i ≡ 0) × IsNone v
alone_in views i v is e = alone i v (subst (λ (l : List (Option About)). get_elem? l i ≡ some v) is e)

some_length : {X : Type 0} (xs ys : List X) → 0 < length xs → 0 < length (xs ++ ys)
some_length [] ys h = absurd (omega arith)
some_length (x ∷ xs) ys h = omega arith

none_left : {X : Type 0} (xs : List X) → 0 < length xs → xs ≡ [] → ⊥
none_left xs h e = let l : length xs ≡ 0 = ap length e in absurd (omega arith)

module _ {T : Type 0} (tag : T → List ℕ) where
  abbrev H : List (Queued T) → List (Option About) → Type 0
  H = Holding tag

  pub begins : H [] (None ∷ [])
  begins = inl (refl, refl)

  -- where a task is queued there is a name, and each port has it
  known : (items : List (Queued T)) (views : List (Option About)) (port : ℕ) (v : Option About) → 0 < length items → H items views → get_elem? views port ≡ some v
      → (a : About) × (v ≡ Some a) × Each (IsQueued tag a) items × AreViewsOf a views
  known items views port v few h at = ⊎_elim
      (λ (e : (items ≡ []) × (views ≡ None ∷ [])). absurd (none_left items few e.0))
      (λ (n : (a : About) × Each (IsQueued tag a) items × AreViewsOf a views). (n.0, n.2 port v at, n.1, n.2))
      h

  stays : (a : About) (views : List (Option About)) (port : ℕ) (v : Option About) → get_elem? views port ≡ some v → AreViewsOf a views → AreViewsOf a (set views port v)
  stays a views port v at n = subst (AreViewsOf a) (sym (set_again views port v at)) n

  pub takes : (port : ℕ) (v : Option About) (most : ℕ) → Takes H port v most (KeepsIt tag v)
  takes port v most xs items views some_xs few h at =
      let k = known (xs ++ items) views port v (some_length xs items some_xs) h at in (
        v,
        inr (k.0, each_right (IsQueued tag k.0) xs items k.2, stays k.0 views port v at k.3),
        (refl, subst (λ (u : Option About). IsKnown tag u xs) (sym k.1) (each_left (IsQueued tag k.0) xs items k.2)),
      )

  pub pops : (port : ℕ) (v : Option About) → Pops H port v (KeepsIt tag v)
  pops port v x items views h at =
      let k = known (items ++ x ∷ []) views port v (last_there items) h at in (
        v,
        inr (k.0, each_left (IsQueued tag k.0) items (x ∷ []) k.2, stays k.0 views port v at k.3),
        (refl, subst (λ (u : Option About). IsKnown tag u (x ∷ [])) (sym k.1) (each_right (IsQueued tag k.0) items (x ∷ []) k.2)),
      )
    where
      last_there : (items : List (Queued T)) → 0 < length (items ++ x ∷ [])
      last_there [] = omega arith
      last_there (y ∷ ys) = omega arith

  pub pushes : (port : ℕ) (v : Option About) (xs : List (Queued T)) → IsKnown tag v xs → Pushes H port v xs (KeepsIt tag v xs)
  pushes port None xs new items views h at = absurd new
  pushes port (Some a) xs new items views h at = (
    Some a,
    ⊎_elim
        (λ (e : (items ≡ []) × (views ≡ None ∷ [])). absurd ((alone_in views port (Some a) e.1 at).1))
        (λ (n : (b : About) × Each (IsQueued tag b) items × AreViewsOf b views).
        let same : a ≡ n.0 = ap (name_or a) (n.2 port (Some a) at) in
        inr (n.0, each_append (IsQueued tag n.0) items xs n.1 (subst (λ (b : About). Each (IsQueued tag b) xs) same new), stays n.0 views port (Some a) at n.2))
        h,
    (refl, new),
  )

  pub gives : (port : ℕ) (v : Option About) (a : About) → v ≡ None → Forks H port v (Some a) (Some a)
  gives port v a is items views h at = ⊎_elim
      (λ (e : (items ≡ []) × (views ≡ None ∷ [])). inr (
        a,
        subst (Each (IsQueued tag a)) (sym e.0) tt,
        λ i u there. ⊎_elim
            (λ was. ⊎_elim
            (λ (t : (i ≡ port) × (Some a ≡ u)). sym t.1)
            (λ (t : (i ≢ port) × (get_elem? views i ≡ some u)). absurd (t.0 ((alone_in views i u e.1 t.1).0 ∙ sym (alone_in views port v e.1 at).0)))
            (at_set views port i (Some a) u was))
            (λ (same : Some a ≡ u). sym same)
            (at_snoc (set views port (Some a)) (Some a) u i there),
      ))
      (λ (n : (b : About) × Each (IsQueued tag b) items × AreViewsOf b views). absurd (subst IsNone (sym is ∙ n.2 port v at) tt))
      h

  pub copies : (port : ℕ) (v : Option About) → IsKnown tag v [] → Forks H port v v v
  copies port None may items views h at = absurd may
  copies port (Some a) may items views h at = ⊎_elim
      (λ (e : (items ≡ []) × (views ≡ None ∷ [])). absurd ((alone_in views port (Some a) e.1 at).1))
      (λ (n : (b : About) × Each (IsQueued tag b) items × AreViewsOf b views). inr (
        n.0,
        n.1,
        λ i u there. ⊎_elim
            (λ was. stays n.0 views port (Some a) at n.2 i u was)
            (λ (same : Some a ≡ u). sym same ∙ n.2 port (Some a) at)
            (at_snoc (set views port (Some a)) (Some a) u i there),
      ))
      h
