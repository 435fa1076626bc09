use Rattle.std.proofs.Common.{◌-◌, length}
use Rattle.text_ops.specs.Lines.{lines_of}
use Rattle.text_ops.proofs.LawLemmas.{both_parts, lines_shared}
use Rattle.text_ops.proofs.PartLemmas.{all_parts}
use Rattle.text_ops.proofs.laws.shares_of_lines.Goals as goal

pub returns-clause-cut : goal.returns-clause-cut
returns-clause-cut c = both_parts

pub returns-clause-last : goal.returns-clause-last
returns-clause-last c n text = both_parts (length (lines_of text) - n) text

pub returns-clause-shared : goal.returns-clause-shared
returns-clause-shared c = lines_shared

pub returns-clause-parts : goal.returns-clause-parts
returns-clause-parts c = all_parts
