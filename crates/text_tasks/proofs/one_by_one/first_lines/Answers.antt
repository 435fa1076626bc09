use Rattle.std.proofs.Common.{◌+◌, ◌-◌, ◌++◌, ◌∙◌, length, sym, ap, subst}
use Rattle.text_ops.specs.Lines.{lines_of}
use Rattle.text_ops.specs.TextMeaning.{head_meaning}
use Rattle.text_tasks.specs.inside.Finding.{text_from}
use Rattle.text_tasks.specs.inside.OneByOne.{JoinedSoFar}
use Rattle.text_tasks.proofs.OneByOneLemmas.{head_next, nothing_next, JoinedSoFar-same, JoinedSoFar-step}
use Rattle.text_tasks.proofs.one_by_one.first_lines.Goals as goal
use Rattle.text_tasks.proofs.one_by_one.first_lines.Goals.{in-Some+in_ok-add, in_default}

pub loop-place-preserved : goal.loop-place-preserved
loop-place-preserved c =
    let ins = c.args.ins.now in
    let left = c.loop-place.left in
    let rest = head_meaning left (text_from ins c.loop-place.place) in
    let later = text_from ins (c.loop-place.place + 1) in
    let whole = head_meaning c.args.n (text_from ins 0) in
    let so_far = c.loop-place.invariant in
    elim c.match-text_of_edge.branch [
      | in-Some+in_ok-add w ↦
          let text = w.in-Some.text.now in
          let fewer = left - length (lines_of text) in
          let is = head_next ins c.loop-place.place c.text_of_edge.ensures.normal left ∙ ap (λ t. head_meaning left t ++ head_meaning (left - length (lines_of t)) later) (sym w.in-Some.ensures.value) in
          let made = JoinedSoFar-step rest whole (head_meaning left text) (head_meaning fewer later) c.loop-place.made w.add.new.self so_far is (w.in_ok-add.ensures (head_meaning left text) so_far.all w.head.ensures so_far.joined) in
          let left_is = w.left-is ∙ w.saturating_sub-left.ensures ∙ ap (λ lines. left - lines) w.line_count.ensures in
          subst (λ n. JoinedSoFar (head_meaning n later) whole c.match-text_of_edge.made) (sym left_is) (subst (JoinedSoFar (head_meaning fewer later) whole) (sym w.made-is) made)
      | in_default w ↦
          let made = JoinedSoFar-same rest whole (head_meaning left later) c.loop-place.made so_far (ap (head_meaning left) (nothing_next ins c.loop-place.place w.in_default.ensures.value)) in
          subst (λ n. JoinedSoFar (head_meaning n later) whole c.match-text_of_edge.made) (sym w.left-is) (subst (JoinedSoFar (head_meaning left later) whole) (sym w.made-is) made)
    ]
