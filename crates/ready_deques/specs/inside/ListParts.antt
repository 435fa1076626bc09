-- What the parts of one list have in common.
use Rattle.ready_deques.specs.declared.about.About.{About}
use Rattle.ready_deques.specs.declared.ready.Ready.{Ready}
use Rattle.ready_deques.specs.inside.ListNames.{about}

-- the name that each pass of the list's deques has
abbrev pub list_name_of : {T : Type 0} → Ready T → About
list_name_of ready = about ready.tag.numbers ready.counter.table.shared.table_id
