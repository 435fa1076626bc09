use Rattle.graph_file.proofs.RepeatLemmas.{file-checked}
use Rattle.graph_file.proofs.repeats.check_names.Goals as goal

pub returns : goal.returns
returns c = file-checked c.args.file.now c.as_slice.result.now c.check_modules.result c.as_slice.ensures.value c.in_default.ensures c.check_modules.ensures
