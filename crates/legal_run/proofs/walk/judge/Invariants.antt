use Rattle.std.proofs.Common.{◌≡◌, length, take}
use Rattle.legal_run.specs.inside.Walks.{IsAt}
use Rattle.legal_run.proofs.walk.judge.Given as goal

abbrev pub invariant-loop-place : goal.invariant-loop-place
invariant-loop-place l = record {
  at : IsAt l.net l.limit (take l.place l.entries) l.walk;
  room : length l.walk.counts.open_starts ≡ length l.entries;
}
