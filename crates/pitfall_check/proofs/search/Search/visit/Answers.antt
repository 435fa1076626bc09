use Rattle.std.proofs.Common.{◌≡◌, ◌∷◌, [], ◌++◌, List, true, refl, sym, ◌∙◌, ap, subst, slice_set, ◌<◌, length, arith}
use Rattle.std.proofs.lemmas.List.{get_or-set_same, get_or_default}
use Rattle.pitfall_check.specs.declared.progress.Progress.{Progress}
use Rattle.pitfall_check.specs.declared.progress.Progress.TheVariants.{Open, Unseen}
use Rattle.pitfall_check.specs.inside.SearchRules.{progress_of, is_unseen, OnlySeesMore}
use Rattle.pitfall_check.proofs.SearchLemmas.{IsSearch-begin, IsSearch-same, seen_after}
use Rattle.pitfall_check.proofs.search.Search.visit.Goals as goal

pub loop-task-init : goal.loop-task-init
loop-task-init c =
    let net = c.args.net.now in
    let state = c.args.self.now in
    let opens = c.in_ok-open.ensures in
    let below : c.args.root < length state.states.items = omega (arith, c.requires.root, c.requires.search.states_size) in
    let here : c.index.result.now ≡ progress_of state.states.items c.args.root = c.index.ensures ∙ get_or_default state.states.items c.args.root c.index.result.now Unseen below in
    let unseen : is_unseen (progress_of state.states.items c.args.root) ≡ true = ap is_unseen (sym here) ∙ sym c.if-not-is_unseen.ensures in
    record {
      search = IsSearch-same net c.open.new.self.states.items (slice_set state.states.items c.args.root Open) c.open.new.self.cursors.items state.cursors.items
          c.open.new.self.path.items (state.path.items ++ c.args.root ∷ []) c.open.new.self.order.items state.order.items
          opens.states opens.cursors opens.path opens.order
          (IsSearch-begin net state.states.items state.cursors.items state.path.items state.order.items c.args.root c.requires.search c.requires.path c.requires.root unseen);
      seen = ap (λ (states : List Progress). is_unseen (progress_of states c.args.root)) opens.states ∙ ap is_unseen (get_or-set_same state.states.items c.args.root Open Unseen below);
      more = subst (OnlySeesMore state.states.items) (sym opens.states) (seen_after state.states.items c.args.root Open below refl);
    }
