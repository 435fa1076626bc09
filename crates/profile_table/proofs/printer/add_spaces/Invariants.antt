use Rattle.std.proofs.Common.{◌≡◌, ◌++◌}
use Rattle.profile_table.specs.ProfileText.{spaces}
use Rattle.profile_table.proofs.printer.add_spaces.Given as goal

abbrev pub invariant-loop-space : goal.invariant-loop-space
invariant-loop-space l = l.line ≡ l.initial.line ++ spaces l._space
