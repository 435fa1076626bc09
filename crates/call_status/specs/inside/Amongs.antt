-- What a path goes on among, apart from where it lies in memory.
use Rattle.graph_plans.specs.PlanRows.{graph_rows}
use Rattle.call_status.specs.declared.paths.Among.TheVariants as place
use Rattle.call_status.specs.declared.paths.Among.{Among as Place}
use Rattle.call_status.specs.Paths.{Among, cells, parts, tasks}

abbrev pub among_of : Place → Among
among_of (place.Tasks graph) = tasks (graph_rows graph.now)
among_of place.Parts = parts
among_of (place.Cells pipes) = cells pipes
