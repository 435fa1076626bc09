use Rattle.std.proofs.Common.{ap, inl, refl, sym, ◌∙◌}
use Rattle.worker_seat.proofs.WorkLemmas.{turned_of}
use Rattle.worker_seat.specs.inside.Numbers.{NumberView}
use Rattle.worker_seat.proofs.steps.Shift.turn_to.Goals as goal

pub returns-clause-work : goal.returns-clause-work
returns-clause-work g c =
    let begun = ap (λ (n : NumberView g.row.J.Denot). n.begun) c.again.ensures ∙ c.requires.frame ∙ sym c.args.self.now.on_list in
    turned_of c.args.self.now.number.now _ c.again.result begun c.in_ok-bring_all.ensures.none refl c.in_ok-bring_all.ensures.teller

pub returns-clause-turned : goal.returns-clause-turned
returns-clause-turned g c =
    record { may = inl c.in_ok-bring_all.ensures.none; at = ap (λ (n : NumberView g.row.J.Denot). n.frames) c.again.ensures }
