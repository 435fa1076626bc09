use Rattle.std.proofs.Common.{◌+◌, ◌++◌, ◌∙◌, sym, ap, subst}
use Rattle.text_tasks.specs.OpMeaning.{text_op_value}
use Rattle.text_tasks.specs.inside.Finding.{text_from}
use Rattle.text_tasks.specs.inside.OneByOne.{JoinedSoFar}
use Rattle.text_tasks.proofs.OneByOneLemmas.{op_next, nothing_next, JoinedSoFar-same, JoinedSoFar-step}
use Rattle.text_tasks.proofs.one_by_one.filtered.Goals as goal
use Rattle.text_tasks.proofs.one_by_one.filtered.Goals.{in-Some+in_ok-add, in_default}

pub loop-place-preserved : goal.loop-place-preserved
loop-place-preserved c =
    let ins = c.args.ins.now in
    let value = text_op_value c.args.op.now in
    let rest = value (text_from ins c.loop-place.place) in
    let later = value (text_from ins (c.loop-place.place + 1)) in
    let whole = value (text_from ins 0) in
    let so_far = c.loop-place.invariant in
    elim c.match-text_of_edge.branch [
      | in-Some+in_ok-add w ↦
          let text = w.in-Some.text.now in
          let is = op_next ins c.loop-place.place c.text_of_edge.ensures.normal c.args.op.now c.requires ∙ ap (λ t. value t ++ later) (sym w.in-Some.ensures.value) in
          let made = JoinedSoFar-step rest whole (value text) later c.loop-place.made w.add.new.self so_far is (w.in_ok-add.ensures (value text) so_far.all w.apply.ensures so_far.joined) in
          subst (JoinedSoFar later whole) (sym w.made-is) made
      | in_default w ↦ subst (JoinedSoFar later whole) (sym w.made-is) (JoinedSoFar-same rest whole later c.loop-place.made so_far (ap value (nothing_next ins c.loop-place.place w.in_default.ensures.value)))
    ]
