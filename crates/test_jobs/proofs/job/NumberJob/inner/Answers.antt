use Rattle.std.proofs.Common.{◌≡◌, ◌+◌, ◌∷◌, drop, map, ap, sym, ◌∙◌, rules}
use Rattle.std.proofs.lemmas.List.{at_drop_more}
use Rattle.std.specs.Arc.{arc_value}
use Rattle.std.specs.Global.{Global, Vec}
use Rattle.std.specs.declared.sync.Arc.{Arc}
use Rattle.task_graph.specs.NetRows.{NetRows}
use Rattle.test_jobs.specs.NumberMeaning.{NumberWork, nets_inside}
use Rattle.test_jobs.proofs.job.NumberJob.inner.Goals as goal

-- The nets from this level on are the one that was found and those from the next level on.
pub returns : goal.returns
returns c =
    let level = c.self.inside.level in
    let nets = (arc_value c.in-Some.nets).items in
    let net = c.in-Some-get.net.now in
    let slice : c.deref-2.result.now ≡ nets = c.deref-2.ensures.value ∙ ap (λ (v : Vec (Arc NetRows Global)). v.items) c.deref.ensures in
    let found = rw slice at c.in-Some-get.ensures.lookup in
    let all : nets_inside c.self.inside.nets level ≡ map arc_value (drop level nets) = ap (λ o. nets_inside o level) c.in-Some.is in
    let next : map arc_value (drop level nets) ≡ arc_value net ∷ map arc_value (drop (level + 1) nets) = at_drop_more (map arc_value) nets level net found.3.0 ∙ ap (λ n. arc_value n ∷ map arc_value (drop (level + 1) nets)) (sym found.1) in
    let same : arc_value net ∷ map arc_value (drop (level + 1) nets) ≡ arc_value c.in_ok-try_clone.field-0 ∷ map arc_value (drop (level + 1) (arc_value c.in_ok-try_clone-2.field-0).items) = search rules in
    record {
      nets = sym (ap (λ (w : NumberWork). w.inner) c.self.view_is) ∙ all ∙ next ∙ same;
      limit = ap (λ (w : NumberWork). w.limit) c.self.view_is;
      turns = ap (λ (w : NumberWork). w.turns) c.self.view_is;
      fault = ap (λ (w : NumberWork). w.fault) c.self.view_is;
    }
