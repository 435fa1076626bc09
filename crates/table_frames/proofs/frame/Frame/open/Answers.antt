use Rattle.std.proofs.Common.{◌∷◌, ◌++◌, [], map, refl, sym, ap, ◌∙◌, subst, arith}
use Rattle.std.specs.Arc.{arc_value}
use Rattle.join_tables.specs.States.{FreshState}
use Rattle.table_frames.specs.Frames.{HasTable, release_in}
use Rattle.table_runs.specs.Attempts.{again_list}
use Rattle.table_frames.proofs.Opening.{again_at, begins_at}
use Rattle.table_frames.proofs.frame.Frame.open.Goals as goal

pub same-start : goal.same-start
same-start g c = refl

pub first_inside-requires-clause-start : goal.first_inside-requires-clause-start
first_inside-requires-clause-start g c κs within = (begins_at g.J.Job.meaning (arc_value c.args.frame) c.args.inner c.requires).start

pub first_inside-requires-clause-frame : goal.first_inside-requires-clause-frame
first_inside-requires-clause-frame g c κs within = (begins_at g.J.Job.meaning (arc_value c.args.frame) c.args.inner c.requires).frame

pub first_inside-requires-clause-book : goal.first_inside-requires-clause-book
first_inside-requires-clause-book g c κs within = (begins_at g.J.Job.meaning (arc_value c.args.frame) c.args.inner c.requires).book

pub first_inside-requires-clause-begins : goal.first_inside-requires-clause-begins
first_inside-requires-clause-begins g c κs within = (begins_at g.J.Job.meaning (arc_value c.args.frame) c.args.inner c.requires).begins

pub invariant_of-push_reserved : goal.invariant_of-push_reserved
invariant_of-push_reserved g c =
    subst (λ (f : FreshState). HasTable (arc_value c.args.frame) f.table) (sym c.fresh-ready.ensures) (again_at g.J.Job.meaning (arc_value c.args.frame) c.args.inner c.in-Some.again c.in-Some.is c.requires)

pub push_reserved-requires : goal.push_reserved-requires
push_reserved-requires g c = omega (arith, c.in_ok-released.ensures.capacity, c.in_ok-released.ensures.len)

pub returns-in_default : goal.returns-in_default
returns-in_default g c =
    let frames = arc_value c.args.frame in
    record {
      first = c.in_ok-first.first;
      state = refl;
      first_are = c.in_ok-first.ensures;
      released = c.in_ok-released.ensures.items ∙ sym (ap (λ o. map (release_in frames) (again_list o)) c.in_default.is);
    }

pub returns : goal.returns
returns g c =
    let frames = arc_value c.args.frame in
    record {
      first = c.in_ok-first.first;
      state = refl;
      first_are = c.in_ok-first.ensures;
      released = c.push_reserved.ensures.items
          ∙ ap (λ xs. xs ++ release_in frames c.fresh-ready.result ∷ []) c.in_ok-released.ensures.items
          ∙ ap (λ (f : FreshState). release_in frames f ∷ []) c.fresh-ready.ensures
          ∙ sym (ap (λ o. map (release_in frames) (again_list o)) c.in-Some.is);
    }
