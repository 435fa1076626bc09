use Rattle.std.proofs.Common.{◌≡◌, Some, ◌<◌, ◌+◌, ◌∷◌, [], ◌++◌, ℕ, List, length, take, drop, reverse, refl, sym, ap, ◌∙◌, subst, length-append, arith}
use Rattle.std.proofs.lemmas.List.Elements.{All-pop}
use Rattle.pitfall_check.specs.inside.SearchRules.{IsFinishOrder}
use Rattle.pitfall_check.specs.inside.Components.{AreComponentsUpTo}
use Rattle.pitfall_check.proofs.PlaceLemmas.{written_back}
use Rattle.pitfall_check.proofs.ComponentLemmas.{order_front, AreComponents-all}
use Rattle.pitfall_check.proofs.components.number_components.Goals as goal

pub loop-root-preserved : goal.loop-root-preserved
loop-root-preserved c =
    let net = c.args.net.now in
    let left = c.pop.new.self.items in
    let popped : c.loop-root.left.items ≡ left ++ c.in-Some.root ∷ [] = c.in-Some.ensures.items in
    let finished = subst (λ (xs : List ℕ). IsFinishOrder net (reverse xs)) popped c.loop-root.invariant.finished in
    let numbering = subst (λ (xs : List ℕ). AreComponentsUpTo net c.loop-root.components.items c.loop-root.component xs) popped c.loop-root.invariant.numbering in
    let written : take c.loop-root.components.len (c.number_component.new.components ++ drop (length c.number_component.new.components) c.loop-root.components.items) ≡ c.number_component.new.components = written_back c.loop-root.components.len _ _ (c.number_component.auto.components ∙ c.deref_mut.ensures.len) in
    record {
      numbering = subst (λ (xs : List ℕ). AreComponentsUpTo net xs (c.loop-root.component + 1) left) (sym written) (c.in_ok-number_component.ensures c.loop-root.component left refl finished (subst (λ (xs : List ℕ). AreComponentsUpTo net xs c.loop-root.component (left ++ c.in-Some.root ∷ [])) (sym c.deref_mut.ensures.value) numbering));
      finished = order_front net left c.in-Some.root finished;
      in_range = (All-pop (λ t. t < length net.tasks) c.loop-root.left.items left (Some c.in-Some.root) popped c.loop-root.invariant.in_range).0;
      room = omega (arith, ap length popped, length-append left (c.in-Some.root ∷ []), c.loop-root.invariant.room);
    }

pub returns : goal.returns
returns c = AreComponents-all c.args.net.now c.loop-root.components.items c.loop-root.component c.loop-root.left.items (omega (arith, c.in_default.ensures.cases.0)) c.loop-root.invariant.numbering
