use Rattle.std.proofs.Common.{◌≡◌, false, map, get_or, ap, ◌∙◌, arith}
use Rattle.std.specs.List.{list_any}
use Rattle.graph_plans.specs.ModuleUses.{has_chain}
use Rattle.graph_file.proofs.UseLemmas.{chain-found, chains-more}
use Rattle.graph_file.proofs.uses.has_chain.Goals as goal

pub loop-preserved : goal.loop-preserved
loop-preserved c =
    chains-more c.loop.counter c.args.uses.now c.loop.begins c.in_ok-begins-2.begins c.requires.uses c.loop.invariant
    (c.in_ok-begins-2.ensures ∙ ap (λ begins. map (list_any (λ m. get_or begins m false)) c.args.uses.now) c.as_slice.ensures)

pub returns : goal.returns
returns c =
    let uses = c.args.uses.now in
    let all : c.loop.counter ≡ c.args.more = omega (arith, c.loop-test.false, c.loop.auto.counter-end) in
    c.any_begins.ensures
    ∙ chain-found c.args.more uses c.as_slice-2.result.now c.args.used.now (c.as_slice-2.ensures ∙ c.loop.invariant ∙ ap (λ k. map (has_chain k uses) uses) all) c.requires.used
