use Rattle.std.proofs.Common.{◌+◌, ◌-◌, ◌++◌, ◌∙◌, length, sym, ap, subst}
use Rattle.text_ops.specs.Lines.{lines_of}
use Rattle.text_ops.specs.TextMeaning.{skip_meaning}
use Rattle.text_tasks.specs.inside.Finding.{text_from}
use Rattle.text_tasks.specs.inside.OneByOne.{JoinedSoFar}
use Rattle.text_tasks.proofs.OneByOneLemmas.{skip_next, nothing_next, JoinedSoFar-same, JoinedSoFar-step}
use Rattle.text_tasks.proofs.one_by_one.later_lines.Goals as goal
use Rattle.text_tasks.proofs.one_by_one.later_lines.Goals.{in-Some+in_ok-add, in_default}

pub loop-place-preserved : goal.loop-place-preserved
loop-place-preserved c =
    let ins = c.args.ins.now in
    let left = c.loop-place.left in
    let rest = skip_meaning left (text_from ins c.loop-place.place) in
    let later = text_from ins (c.loop-place.place + 1) in
    let whole = skip_meaning c.args.n (text_from ins 0) in
    let so_far = c.loop-place.invariant in
    elim c.match-text_of_edge.branch [
      | in-Some+in_ok-add w ↦
          let text = w.in-Some.text.now in
          let fewer = left - length (lines_of text) in
          let is = skip_next ins c.loop-place.place c.text_of_edge.ensures.normal left ∙ ap (λ t. skip_meaning left t ++ skip_meaning (left - length (lines_of t)) later) (sym w.in-Some.ensures.value) in
          let made = JoinedSoFar-step rest whole (skip_meaning left text) (skip_meaning fewer later) c.loop-place.made w.add.new.self so_far is (w.in_ok-add.ensures (skip_meaning left text) so_far.all w.skip.ensures so_far.joined) in
          let left_is = w.left-is ∙ w.left_behind-left.ensures in
          subst (λ n. JoinedSoFar (skip_meaning n later) whole c.match-text_of_edge.made) (sym left_is) (subst (JoinedSoFar (skip_meaning fewer later) whole) (sym w.made-is) made)
      | in_default w ↦
          let made = JoinedSoFar-same rest whole (skip_meaning left later) c.loop-place.made so_far (ap (skip_meaning left) (nothing_next ins c.loop-place.place w.in_default.ensures.value)) in
          subst (λ n. JoinedSoFar (skip_meaning n later) whole c.match-text_of_edge.made) (sym w.left-is) (subst (JoinedSoFar (skip_meaning left later) whole) (sym w.made-is) made)
    ]
