use Rattle.std.proofs.Common.{◌+◌, ℕ, List, ◌++◌, drop, sym, ap, ◌∙◌}
use Rattle.text_tasks.specs.inside.Gathering.{all_of}
use Rattle.text_tasks.proofs.GatherLemmas.{all_of-next}
use Rattle.text_tasks.proofs.OneByOneLemmas.{JoinedSoFar-step}
use Rattle.text_tasks.proofs.gathered.joined.Goals as goal

pub loop-text-preserved : goal.loop-text-preserved
loop-text-preserved c =
    let texts : List (List ℕ) = c.args.texts.now in
    let i : ℕ = c.loop-text.text-index in
    let text : List ℕ = c.text-item-in-loop-text.result in
    let so_far = c.loop-text.invariant in
    let is = all_of-next texts i text c.loop-text-test.true ∙ ap (λ t. t ++ all_of (drop (i + 1) texts)) (sym c.text-item-in-loop-text.is) in
    JoinedSoFar-step (all_of (drop i texts)) (all_of texts) text (all_of (drop (i + 1) texts)) c.loop-text.made c.add.new.self so_far is
    (c.in_ok-add.ensures text so_far.all c.pass-in-loop-text.ensures.value so_far.joined)
