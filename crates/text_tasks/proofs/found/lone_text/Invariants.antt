use Rattle.std.proofs.Common.{◌≡◌, ◌++◌, []}
use Rattle.std.specs.Option.{option_copied, option_map_or}
use Rattle.text_tasks.specs.inside.Finding.{text_from}
use Rattle.text_tasks.proofs.found.lone_text.Given as goal

abbrev pub invariant-loop-place : goal.invariant-loop-place
invariant-loop-place l = option_map_or (λ text. text) (option_copied l.lone) [] ++ text_from l.ins l.place ≡ text_from l.ins l.from
