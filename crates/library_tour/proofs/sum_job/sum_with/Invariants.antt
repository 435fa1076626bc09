use Rattle.std.proofs.Common.{◌≡◌, map, take}
use Rattle.join_words.specs.Ins.{found_of, parts_of}
use Rattle.library_tour.specs.SumMeaning.{sum_with}
use Rattle.library_tour.proofs.sum_job.sum_with.Given as goal

abbrev pub invariant-loop-place : goal.invariant-loop-place
invariant-loop-place l = l.sum ≡ sum_with l.number (map found_of (take l.place (parts_of l.ins)))
