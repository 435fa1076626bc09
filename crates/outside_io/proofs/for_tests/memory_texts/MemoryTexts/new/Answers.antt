use Rattle.outside_io.proofs.Names.{text_under-name}
use Rattle.outside_io.proofs.for_tests.memory_texts.MemoryTexts.new.Goals as goal

pub returns-clause-each : goal.returns-clause-each
returns-clause-each c = λ place within. text_under-name c.args.names c.args.texts place c.requires within
