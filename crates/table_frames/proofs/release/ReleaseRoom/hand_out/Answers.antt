use Rattle.std.proofs.Common.{◌≡◌, ◌++◌, map, reverse, Some, refl, sym, ap, ◌∙◌, subst, arith}
use Rattle.std.specs.Prelude.{All}
use Rattle.std.specs.Arc.{arc_value}
use Rattle.std.proofs.lemmas.List.Elements.{All-pop}
use Rattle.join_tables.specs.States.{FreshState}
use Rattle.table_frames.specs.Frames.{HasTable, ReleaseView, release_in}
use Rattle.table_frames.proofs.Handing.{all_in, handed_one}
use Rattle.table_runs.proofs.Beginning.{none_in}
use Rattle.table_frames.proofs.release.ReleaseRoom.hand_out.Goals as goal
use Rattle.table_frames.proofs.release.ReleaseRoom.hand_out.Goals.{in-Some-pop-2, in_default-pop-2}

pub loop-others-preserved : goal.loop-others-preserved
loop-others-preserved g c =
    let i = c.loop-others.invariant in
    let frames = arc_value c.args.frame in
    let own = All-pop (λ other. arc_value other ≡ frames) c.loop-others.others.items c.pop.new.self.items (Some c.in-Some.frame) c.in-Some.ensures.items i.others in
    let left = All-pop (λ (f : FreshState). HasTable frames f.table) c.loop-others.made.items c.pop-in-loop-others.new.self.items (Some c.in-Some-pop.ready) c.in-Some-pop.ensures.items i.fresh in
    record {
      fresh = left.0;
      others = own.0;
      enough = omega (arith, i.enough, c.in-Some.ensures.cases, c.in-Some-pop.ensures.cases);
      room = omega (arith, i.room, c.in-Some-pop.ensures.cases, c.push_reserved.ensures.len, c.push_reserved.ensures.capacity);
      so_far = handed_one frames c.loop-others.made.items c.pop-in-loop-others.new.self.items c.in-Some-pop.ready c.loop-others.releases.items c.push_reserved.new.self.items (arc_value c.in-Some.frame) (map (release_in frames) c.args.made.now.items) own.1 c.in-Some-pop.ensures.items c.push_reserved.ensures.items i.so_far;
    }

pub invariant_of-push_reserved-in-Some-pop-2 : goal.invariant_of-push_reserved-in-Some-pop-2
invariant_of-push_reserved-in-Some-pop-2 g c =
    let frames = arc_value c.args.frame in
    (All-pop (λ (f : FreshState). HasTable frames f.table) c.loop-others.made.items c.pop-2.new.self.items (Some c.in-Some-pop-2.ready) c.in-Some-pop-2.ensures.items c.loop-others.invariant.fresh).1

-- what is out at the end, the first last
pub returns-clause-releases : goal.returns-clause-releases
returns-clause-releases g c =
    let i = c.loop-others.invariant in
    let frames = arc_value c.args.frame in
    let all = map (release_in frames) c.args.made.now.items in
    c.reverse.ensures.items ∙ elim c.match-pop-3.branch [
      | in-Some-pop-2 w ↦
          let none = none_in c.pop-2.new.self.items (omega (arith, c.pop-2.new.self.ok.0, w.in-Some-pop-2.ensures.cases, c.loop-others-test.false, c.len.ensures)) in
          ap (λ rs. reverse rs.items) w.releases-is
          ∙ ap (λ fs. map (release_in frames) fs ++ reverse w.push_reserved-in-Some-pop-2.new.self.items) (sym none)
          ∙ handed_one frames c.loop-others.made.items c.pop-2.new.self.items w.in-Some-pop-2.ready c.loop-others.releases.items w.push_reserved-in-Some-pop-2.new.self.items frames all refl w.in-Some-pop-2.ensures.items w.push_reserved-in-Some-pop-2.ensures.items i.so_far
      | in_default-pop-2 w ↦
          let none = none_in c.loop-others.made.items (omega (arith, c.loop-others.made.ok.0, w.in_default-pop-2.ensures.cases)) in
          ap (λ rs. reverse rs.items) w.releases-is ∙ ap (λ fs. map (release_in frames) fs ++ reverse c.loop-others.releases.items) (sym none) ∙ i.so_far
    ]

pub returns-clause-frames : goal.returns-clause-frames
returns-clause-frames g c =
    let frames = arc_value c.args.frame in
    subst (All (λ (r : ReleaseView g.row.J.Denot). r.frames ≡ frames)) (sym (returns-clause-releases g c)) (all_in frames c.args.made.now.items)
