-- Releases are handed out.
use Rattle.std.proofs.Common.{◌≡◌, List, [], ◌∷◌, ◌++◌, map, reverse, append_assoc, refl, sym, ap, ◌∙◌}
use Rattle.std.specs.Prelude.{All}
use Rattle.std.proofs.lemmas.List.{map-append, reverse-append}
use Rattle.std.proofs.lemmas.List.Elements.{All-cons, All-nil}
use Rattle.join_tables.specs.States.{FreshState}
use Rattle.table_runs.specs.RunKeys.{FrameKey}
use Rattle.table_frames.specs.Frames.{ReleaseView, release_in}

module _ {J : Type 0} (frames : List (FrameKey J)) where
  -- one more goes from the end of those that are left to the end of those that are out
  pub handed_one : (left left' : List FreshState) (f : FreshState) (out out' : List (ReleaseView J)) (own : List (FrameKey J)) (all : List (ReleaseView J)) → own ≡ frames → left ≡ left' ++ f ∷ [] → out' ≡ out ++ release_in own f ∷ []
      → map (release_in frames) left ++ reverse out ≡ all → map (release_in frames) left' ++ reverse out' ≡ all
  handed_one left left' f out out' own all same pop push so_far =
      ap (λ os. map (release_in frames) left' ++ reverse os) push
      ∙ ap (λ rs. map (release_in frames) left' ++ rs) (reverse-append out (release_in own f ∷ []))
      ∙ ap (λ k. map (release_in frames) left' ++ release_in k f ∷ reverse out) same
      ∙ sym (append_assoc (map (release_in frames) left') (release_in frames f ∷ []) (reverse out))
      ∙ ap (λ xs. xs ++ reverse out) (sym (map-append (release_in frames) left' (f ∷ [])) ∙ ap (map (release_in frames)) (sym pop))
      ∙ so_far

  -- each is of the frame
  pub all_in : (fs : List FreshState) → All (λ (r : ReleaseView J). r.frames ≡ frames) (map (release_in frames) fs)
  all_in [] = All-nil _
  all_in (f ∷ fs) = All-cons (λ (r : ReleaseView J). r.frames ≡ frames) (release_in frames f) (map (release_in frames) fs) refl (all_in fs)
