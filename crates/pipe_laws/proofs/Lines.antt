-- A line has at most one open start.
use Rattle.std.proofs.Common.{◌≡◌, ℕ, ◌<◌, Bool, true, false, List, [], ◌∷◌, ◌++◌, length, refl, subst}
use Rattle.task_graph.specs.Places.{places}
use Rattle.task_graph.specs.NetRows.{NetRows}
use Rattle.journal_rules.specs.declared.entry.Entry.{Entry}
use Rattle.journal_rules.specs.declared.entry.Entry.TheVariants.{Start, End, Fault, Drop}
use Rattle.journal_rules.specs.declared.entry.Cause.TheVariants.{Strong}
use Rattle.journal_rules.specs.Counts.{start_at}
use Rattle.journal_rules.specs.ReleaseRule.{IsReleased}
use Rattle.journal_rules.specs.ShapeLegal.{MayFollow}
use Rattle.pipe_lines.specs.PipeNet.{cell, pipe_edges, pipe_net}
use Rattle.run_laws.specs.Steady.{runs_at}
use Rattle.run_laws.specs.Rings.{IsRinged}
use Rattle.run_laws.specs.Cycles.{LiesAt}
use Rattle.run_laws.proofs.Along.{weaker, Told}
use Rattle.run_laws.proofs.Rings.{Turning, turning_along, released_strongly}
use Rattle.run_laws.proofs.Pipes.{of_line, line_ring, pipes_ringed}
use Rattle.run_laws.proofs.PipeCycles.{lies_at}
use Rattle.pipe_laws.specs.Turns.{StartsAlone, in_line}
use Rattle.pipe_laws.specs.Laws.{LinesStartAlone}
use Rattle.pipe_laws.proofs.Held.{none_beside}
use Rattle.pipe_laws.proofs.Edges.{line_ring_edge}

module _ (lines : ℕ) (serials : List Bool) (limit : ℕ) (h : List Entry) (l : ℕ) (in_l : l < lines) where
  abbrev net : NetRows
  net = pipe_net lines serials

  abbrev pipes : ℕ
  pipes = length serials

  abbrev Rule : List Entry → Entry → Type 0
  Rule b x = Turning net (start_at h) b × (Told (start_at h) (b ++ x ∷ []) × MayFollow net limit b x)

  ringed : IsRinged net
  ringed = pipes_ringed lines serials

  starts_alone : (b : List Entry) (x : Entry) → Rule b x → StartsAlone pipes l b x
  starts_alone b (End start gives inner) rule = tt
  starts_alone b (Fault start why) rule = tt
  starts_alone b (Drop task cause why) rule = tt
  starts_alone b (Start task cause ins) rule = λ inside p n in_p. by_test inside p n in_p (runs_at (cell pipes l p) b n) refl
    where
      strongly : cause ≡ Strong
      strongly = released_strongly net b task cause ringed rule.1.1.in_range.0 rule.1.1.release

      by_test : in_line pipes l task ≡ true → (p n : ℕ) → p < pipes → (t : Bool) → runs_at (cell pipes l p) b n ≡ t → t ≡ false
      by_test inside p n in_p false runs = refl
      by_test inside p n in_p true runs =
          let lies : LiesAt pipes (cell pipes l) task = lies_at pipes (cell pipes l) task inside in
          let released : IsReleased net b (cell pipes l lies.place) Strong = subst (λ t. IsReleased net b t Strong) lies.is (subst (λ c. IsReleased net b task c) strongly rule.1.1.release) in
          absurd (
          none_beside net (start_at h) b (places (of_line l) (pipe_edges lines serials)) (cell pipes l lies.place) (cell pipes l p) n ringed rule.0 (line_ring lines serials l) (line_ring_edge lines serials l lies.place in_l lies.below)
          (line_ring_edge lines serials l p in_l in_p) released runs
          )

pub lines_start_alone : (lines : ℕ) (serials : List Bool) → LinesStartAlone lines serials
lines_start_alone lines serials limit h shape l in_l = weaker _ (StartsAlone (length serials) l) (starts_alone lines serials limit h l in_l) [] h (turning_along (pipe_net lines serials) limit h (pipes_ringed lines serials) shape).0
