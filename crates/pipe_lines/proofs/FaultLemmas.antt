-- Why specifications are no pipelines.
use Rattle.std.proofs.Common.{◌≡◌, ◌==◌, ℕ, suc, ◌≤◌, List, [], ◌∷◌, length, slice_get, Bool, true, false, leb, cond, Some, None, refl, subst, ap, arith}
use Rattle.std.proofs.lemmas.Bool.{leb-true, leb-false}
use Rattle.std.proofs.lemmas.Bool.Decides.{nat_tests}
use Rattle.std.proofs.lemmas.Option.{none-some, same_Some}
use Rattle.pipe_lines.specs.declared.pipeline.PipeError.{PipeError}
use Rattle.pipe_lines.specs.declared.pipeline.PipeError.TheVariants.{NoLines, NoPipes, FirstParallel, TooManyLines, TooManyPipes}
use Rattle.pipe_lines.specs.declared.pipeline.PipeSpec.{PipeSpec}
use Rattle.pipe_lines.specs.Pipelines.{IsPipeline, RefusesPipes, limit_fault, line_limit, pipe_limit, pipes_fault, spec_fault}

-- ---- those that have no fault

limits-sound : (first : Bool) (lines pipes : ℕ) → limit_fault first lines pipes ≡ None → (first ≡ true) × (lines ≤ line_limit) × (pipes ≤ pipe_limit)
limits-sound false lines pipes is = cc
limits-sound true lines pipes is = by_lines (leb lines line_limit) refl is
  where
    by_pipes : lines ≤ line_limit → (t : Bool) → leb pipes pipe_limit ≡ t → cond t None (Some TooManyPipes) ≡ None → (true ≡ true) × (lines ≤ line_limit) × (pipes ≤ pipe_limit)
    by_pipes few true fit none = (refl, few, leb-true pipes pipe_limit fit)
    by_pipes few false fit none = cc

    by_lines : (t : Bool) → leb lines line_limit ≡ t → cond t (cond (leb pipes pipe_limit) None (Some TooManyPipes)) (Some TooManyLines) ≡ None → (true ≡ true) × (lines ≤ line_limit) × (pipes ≤ pipe_limit)
    by_lines true fit none = by_pipes (leb-true lines line_limit fit) (leb pipes pipe_limit) refl none
    by_lines false fit none = cc

pipes-sound : (lines : ℕ) (serial : List Bool) → pipes_fault lines serial ≡ None → (slice_get serial 0 ≡ Some true) × (lines ≤ line_limit) × (length serial ≤ pipe_limit)
pipes-sound lines [] is = cc
pipes-sound lines (first ∷ rest) is = let all = limits-sound first lines (suc (length rest)) is in (ap Some all.0, all.1, all.2)

-- They are pipelines.
pub spec_sound : (spec : PipeSpec) → spec_fault spec ≡ None → IsPipeline spec
spec_sound spec is = by_lines (spec.lines == 0) refl is
  where
    by_lines : (t : Bool) → (spec.lines == 0) ≡ t → cond t (Some NoLines) (pipes_fault spec.lines spec.serial) ≡ None → IsPipeline spec
    by_lines true none is2 = cc
    by_lines false some is2 =
        let all = pipes-sound spec.lines spec.serial is2 in
        let lines : 1 ≤ spec.lines = grind (arith, nat_tests) in
        record { some_lines = lines; first_serial = all.0; few_lines = all.1; few_pipes = all.2 }

-- ---- those that have one

module _ (spec : PipeSpec) (error : PipeError) where
  limits-refused : (first : Bool) (pipes : ℕ) → 1 ≤ spec.lines → slice_get spec.serial 0 ≡ Some first → length spec.serial ≡ pipes → limit_fault first spec.lines pipes ≡ Some error → RefusesPipes spec error
  limits-refused false pipes some head count is = subst (RefusesPipes spec) (same_Some FirstParallel error is) (some, head)
  limits-refused true pipes some head count is = by_lines (leb spec.lines line_limit) refl is
    where
      by_pipes : spec.lines ≤ line_limit → (t : Bool) → leb pipes pipe_limit ≡ t → cond t None (Some TooManyPipes) ≡ Some error → RefusesPipes spec error
      by_pipes few true fit fault = absurd (none-some error fault)
      by_pipes few false fit fault = subst (RefusesPipes spec) (same_Some TooManyPipes error fault) (some, head, few, omega (arith, count, leb-false pipes pipe_limit fit))

      by_lines : (t : Bool) → leb spec.lines line_limit ≡ t → cond t (cond (leb pipes pipe_limit) None (Some TooManyPipes)) (Some TooManyLines) ≡ Some error → RefusesPipes spec error
      by_lines true fit fault = by_pipes (leb-true spec.lines line_limit fit) (leb pipes pipe_limit) refl fault
      by_lines false fit fault = subst (RefusesPipes spec) (same_Some TooManyLines error fault) (head, leb-false spec.lines line_limit fit)

  pipes-refused : (serial : List Bool) → spec.serial ≡ serial → 1 ≤ spec.lines → pipes_fault spec.lines serial ≡ Some error → RefusesPipes spec error
  pipes-refused [] are some is = subst (RefusesPipes spec) (same_Some NoPipes error is) (some, are)
  pipes-refused (first ∷ rest) are some is = limits-refused first (suc (length rest)) some (ap (λ (pipes : List Bool). slice_get pipes 0) are) (ap length are) is

  -- They are refused for it.
  pub spec_refused : spec_fault spec ≡ Some error → RefusesPipes spec error
  spec_refused is = by_lines (spec.lines == 0) refl is
    where
      by_lines : (t : Bool) → (spec.lines == 0) ≡ t → cond t (Some NoLines) (pipes_fault spec.lines spec.serial) ≡ Some error → RefusesPipes spec error
      by_lines true none fault = let lines : spec.lines ≡ 0 = grind (arith, nat_tests) in subst (RefusesPipes spec) (same_Some NoLines error fault) lines
      by_lines false some fault = let lines : 1 ≤ spec.lines = grind (arith, nat_tests) in pipes-refused spec.serial refl lines fault
