use Rattle.std.proofs.Common.{◌≡◌, ◌≢◌, AllPairs, List, ℕ, take, subst, arith, refl, rules}
use Rattle.std.proofs.lemmas.List.{take_all}
use Rattle.outside_io.proofs.Names.{differ_more}
use Rattle.outside_io.proofs.for_tests.memory_texts.all_differ.Goals as goal

pub loop-place-preserved : goal.loop-place-preserved
loop-place-preserved c = differ_more c.args.names.now c.loop-place.place c.index-names-place.result (omega arith) c.index-names-place.is c.loop-place.invariant (search rules)

pub returns : goal.returns
returns c =
    let all : take c.loop-place.place c.args.names.now ≡ c.args.names.now = take_all c.loop-place.place c.args.names.now (omega arith) in
    let Differ : List (List ℕ) → Type 0 = λ names. AllPairs (λ name other. name ≢ other) names in
    (λ _. subst Differ all c.loop-place.invariant, λ _. refl)
