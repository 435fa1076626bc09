use Rattle.std.proofs.Common.{ap, ◌∙◌, refl, length}
use Rattle.task_graph.specs.Net.{strong_in}
use Rattle.journal_rules.proofs.Tallying.{strong_in_tallied}
use Rattle.net_machine.proofs.WaitingLemmas.{parts_answer}
use Rattle.net_machine.proofs.waiting.Waiting.parts_of.Goals as goal

pub parts_at-requires : goal.parts_at-requires
parts_at-requires c =
    strong_in_tallied c.args.net.now c.args.task _ c.as_slice.result.now c.strong_in.ensures (ap length c.as_slice.ensures.value ∙ c.requires.len)

pub returns-in-Strong : goal.returns-in-Strong
returns-in-Strong c = λ journal tells.
    let read = rw (c.as_slice.ensures.value, c.strong_in.ensures) at c.parts_at.ensures in
    let within = strong_in_tallied c.args.net.now c.args.task _ c.args.self.now.parts.items refl c.requires.len in
    rw c.in-Strong.is (parts_answer c.args.net.now journal c.args.self.now.parts.items (strong_in c.args.net.now c.args.task) c.parts_at.result tells within read)
