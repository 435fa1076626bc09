use Rattle.std.proofs.Common.{◌≡◌, ◌++◌, subst, codes, OnOk}
use Rattle.call_status.proofs.note.add_graph_error.Goals as goal

pub returns-in-NoSuchName : goal.returns-in-NoSuchName
returns-in-NoSuchName c = rw c.in-NoSuchName.is c.add_field-in-NoSuchName.ensures

pub returns-in-ModuleCycle : goal.returns-in-ModuleCycle
returns-in-ModuleCycle c =
    let added : OnOk c.add_behind.result (c.add_behind.new.line ≡ c.args.line.now ++ (codes "module cycle at " ++ c.in-ModuleCycle.name)) =
    subst (λ name. OnOk c.add_behind.result (c.add_behind.new.line ≡ c.args.line.now ++ (codes "module cycle at " ++ name))) c.as_slice.ensures c.add_behind.ensures in
    rw c.in-ModuleCycle.is added
