use Rattle.std.proofs.Common.{◌≡◌, ◌∙◌, ◌+◌, ap, sym, length, subst, arith, Some}
use Rattle.std.proofs.lemmas.List.{length_push}
use Rattle.desk_book.specs.Passes.{pass_state}
use Rattle.desk_book.specs.Desks.{AreFirstPasses}
use Rattle.desk_book.proofs.Beginning.{register_of, passes_push}
use Rattle.desk_book.proofs.Seeing.{key_same}
use Rattle.desk_book.proofs.parts.open_passes.Goals as goal

pub loop-caller-preserved : goal.loop-caller-preserved
loop-caller-preserved g c =
    let inv = c.loop-caller.invariant in
    let pass = pass_state c.loop-caller.caller (Some c.open_pass.result) in
    let ticket : c.open_pass.result.register ≡ c.args.register.now = c.open_pass.ensures.ticket.register ∙ register_of c.loop-caller.state c.args.state.now c.args.register.now inv.0 c.requires.register in (
      key_same c.loop-caller.state c.open_pass.new.self c.open_pass.ensures.desk c.open_pass.ensures.book ∙ inv.0,
      ap length c.in_ok-push.ensures.items ∙ length_push c.loop-caller.passes.items pass ∙ ap (λ n. n + 1) inv.1,
      subst (AreFirstPasses c.args.register.now) (sym c.in_ok-push.ensures.items) (passes_push c.args.register.now c.loop-caller.passes.items pass inv.2 ticket (sym inv.1)),
      λ k le. c.open_pass.ensures.others k (inv.3 k (omega (arith, le))) (λ same. omega (arith, le, same)),
    )
