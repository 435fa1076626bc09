use Rattle.std.proofs.Common.{◌≡◌, ◌+◌, ◌<◌, ◌≤◌, ◌^◌, rules, [], sym, ap, ◌∙◌, arith, subst, length}
use Rattle.std.specs.List.{between}
use Rattle.std.specs.Arc.{arc_value}
use Rattle.std.specs.Option.{option_map_or}
use Rattle.text_ops.specs.Lines.{IsNormal}
use Rattle.text_ops.specs.inside.SharedText.{shared}
use Rattle.text_ops.proofs.TextLemmas.{part_of, part_within}
use Rattle.text_ops.proofs.text.Text.cut.Goals as goal
use Rattle.text_ops.proofs.text.Text.cut.Goals.{In_ok-bytes}

same_bytes : (c : In_ok-bytes) → arc_value c.in_ok-bytes.bytes ≡ shared c.self.inside
same_bytes c = c.in_ok-bytes.ensures ∙ sym (ap (λ o. option_map_or arc_value o []) c.in-Some.is)

same_part : (c : In_ok-bytes) → between (c.self.inside.start + c.args.start) (c.self.inside.start + c.args.end) (arc_value c.in_ok-bytes.bytes) ≡ between c.args.start c.args.end c.args.self.now
same_part c =
    ap (between (c.self.inside.start + c.args.start) (c.self.inside.start + c.args.end)) (same_bytes c)
    ∙ part_of (shared c.self.inside) c.args.self.now c.self.inside.start c.self.inside.end c.args.start c.args.end
    c.self.view_is c.self.invariant.rising c.requires.rising c.requires.within

pub returns : goal.returns
returns c = same_part c

inside : (c : In_ok-bytes) → (c.self.inside.start + c.args.end ≤ length (shared c.self.inside)) × (c.self.inside.start + c.args.end ≤ c.self.inside.end)
inside c = part_within (shared c.self.inside) c.args.self.now c.self.inside.start c.self.inside.end c.args.end c.self.view_is c.self.invariant.rising c.self.invariant.within c.requires.within

pub overflow_add-result : goal.overflow_add-result
overflow_add-result c = let before = (inside c).1 in let small : c.self.inside.start + c.args.start < 2 ^ 64 = omega (arith, before, c.requires.rising, c.self.invariant.fits) in search rules

pub overflow_add-result-2 : goal.overflow_add-result-2
overflow_add-result-2 c = let before = (inside c).1 in let small : c.self.inside.start + c.args.end < 2 ^ 64 = omega (arith, before, c.self.invariant.fits) in search rules

pub invariant_of-result : goal.invariant_of-result
invariant_of-result c =
    record {
      rising = omega arith;
      within = omega (arith, ap length (same_bytes c), (inside c).0);
      fits = omega (arith, (inside c).1, c.self.invariant.fits);
      normal = subst IsNormal (sym (same_part c)) c.requires.lines;
    }
