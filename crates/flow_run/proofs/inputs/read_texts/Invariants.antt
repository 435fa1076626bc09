use Rattle.std.proofs.Common.{◌≡◌, take}
use Rattle.flow_run.specs.Requests.{TextsAre}
use Rattle.flow_run.proofs.inputs.read_texts.Given as goal

abbrev pub invariant-loop-name : goal.invariant-loop-name
invariant-loop-name g l = record {
  held : g.F.Texts.held l.texts ≡ g.F.Texts.held l.fn.texts;
  failed : g.F.Texts.failed l.texts ≡ g.F.Texts.failed l.fn.texts;
  are : TextsAre (g.F.Texts.held l.fn.texts) (take l.name-index l.names) l.table;
}
