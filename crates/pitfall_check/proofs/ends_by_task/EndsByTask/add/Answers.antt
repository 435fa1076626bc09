use Rattle.std.proofs.Common.{◌≡◌, ◌∷◌, [], ◌++◌, length, ◌∙◌, ap, arith}
use Rattle.pitfall_check.proofs.EndLemmas.{AreListedBelow-next}
use Rattle.pitfall_check.proofs.ends_by_task.EndsByTask.add.Goals as goal

pub returns : goal.returns
returns c =
    let size : c.len.result ≡ length c.add_ends.new.ends.items = omega (arith, c.len.ensures, c.add_ends.new.ends.ok.0) in
    AreListedBelow-next c.args.way c.args.net.now c.args.self.now record { bounds = c.push.new.self; ends = c.add_ends.new.ends } c.args.task c.requires.lists c.in_ok-add_ends.ensures
    (c.in_ok-push.ensures.items ∙ ap (λ n. c.args.self.now.bounds.items ++ n ∷ []) size)
