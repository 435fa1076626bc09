use Rattle.std.proofs.Common.{◌≡◌, ◌+◌, ◌≤◌, ◌++◌, map, reverse, vec_capacity, vec_len}
use Rattle.std.specs.Prelude.{All}
use Rattle.std.specs.Arc.{arc_value}
use Rattle.join_tables.specs.States.{FreshState}
use Rattle.table_frames.specs.Frames.{HasTable, release_in}
use Rattle.table_frames.proofs.release.ReleaseRoom.hand_out.Given as goal

abbrev pub invariant-loop-others : goal.invariant-loop-others
invariant-loop-others g l = record {
  fresh : All (λ (f : FreshState). HasTable (arc_value l.fn.frame) f.table) l.made.items;
  others : All (λ other. arc_value other ≡ arc_value l.fn.frame) l.others.items;
  enough : vec_len l.made ≤ vec_len l.others + 1;
  room : vec_len l.releases + vec_len l.made ≤ vec_capacity l.releases;
  so_far : map (release_in (arc_value l.fn.frame)) l.made.items ++ reverse l.releases.items ≡ map (release_in (arc_value l.fn.frame)) l.fn.made.items;
}

abbrev pub decreases-loop-others : goal.decreases-loop-others
decreases-loop-others g l = vec_len l.made
