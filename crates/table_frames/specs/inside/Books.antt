-- The book of the spans of a frame.
use Rattle.std.specs.Prelude.{◌≡◌, List, [], ◌∷◌, IsSome}
use Rattle.table_runs.specs.RunKeys.{FrameKey}
use Rattle.table_frames.specs.Frames.{book_of}

-- the book of the first of these frames is that of all
abbrev pub IsOneBook : {J : Type 0} → List (FrameKey J) → Type 0
IsOneBook [] = Unit {0}
IsOneBook (frame ∷ around) = book_of (frame ∷ around) ≡ frame.book

-- A frame has a book, the one of the frames around it.
pub record HasOneBook {J : Type 0} (frame : FrameKey J) (around : List (FrameKey J)) : Type 0 where
  pub some : IsSome frame.book
  pub same : book_of (frame ∷ around) ≡ frame.book
