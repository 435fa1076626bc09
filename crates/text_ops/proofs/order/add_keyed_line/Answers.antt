use Rattle.std.proofs.Common.{◌≡◌, ◌∙◌, ◌*◌, ◌%◌, ◌^◌, ◌++◌, OnOk, sym, subst, arith}
use Rattle.text_ops.specs.inside.Gathering.{IsGathered}
use Rattle.text_ops.specs.inside.SortKeys.{lead_of, keyed_piece}
use Rattle.text_ops.proofs.ShortLines.{ended_from_lead, lead_of-low}
use Rattle.text_ops.proofs.SortLemmas.{length-keyed_piece}
use Rattle.text_ops.proofs.SortedKeys.{bytes_keyed}
use Rattle.text_ops.proofs.order.add_keyed_line.Goals as goal

pub returns : goal.returns
returns g c =
    let text = c.args.text.now in
    let sort_key = c.args.sort_key.now in
    let piece = keyed_piece text sort_key in
    let bytes = bytes_keyed text sort_key (λ k. omega (arith, c.type_inv.text k)) in
    let moved : c.lead.result * 2 ^ 16 % 2 ^ 64 ≡ lead_of piece * 65536 = omega (arith, c.lead.ensures, c.requires.lead, lead_of-low piece bytes) in
    let same = ended_from_lead piece c.to_be_bytes-line.result (c.lead.result * 2 ^ 16 % 2 ^ 64) c.len-len.result bytes moved (length-keyed_piece text sort_key c.requires ∙ sym c.len-len.ensures) (omega (arith, c.if-len-gt-LEAD_BYTES.false)) c.to_be_bytes-line.ensures in
    λ all gathered. subst (λ line. OnOk c.add-2.result (IsGathered (all ++ line) c.add-2.new.self)) same (c.add-2.ensures.gathered all gathered)
