-- The tags of a net's edges.
use Rattle.std.proofs.Common.{◌≡◌, ℕ, zero, suc, ◌+◌, Bool, true, false, List, [], ◌∷◌, ◌++◌, length, map, sym, refl, ap, ◌∙◌, append_assoc}
use Rattle.std.proofs.lemmas.List.{append-nil}
use Rattle.pipe_lines.specs.PipeNet.{PipeEdge, cell_edges, edges_from, line_edges, pipe_edges}
use Rattle.pipe_lines.specs.inside.Building.{cell_tags, line_tags, all_tags}

serial_append : (xs ys : List PipeEdge) → map (λ (edge : PipeEdge). edge.serial) (xs ++ ys) ≡ map (λ (edge : PipeEdge). edge.serial) xs ++ map (λ (edge : PipeEdge). edge.serial) ys
serial_append [] ys = refl
serial_append (x ∷ xs) ys = ap (λ zs. x.serial ∷ zs) (serial_append xs ys)

cell_is : (lines pipes l p : ℕ) (s : Bool) → map (λ (edge : PipeEdge). edge.serial) (cell_edges lines pipes l p s) ≡ cell_tags s
cell_is lines pipes l p true = refl
cell_is lines pipes l p false = refl

line_is : (lines pipes l p : ℕ) (serials : List Bool) → map (λ (edge : PipeEdge). edge.serial) (edges_from lines pipes l p serials) ≡ line_tags serials
line_is lines pipes l p [] = refl
line_is lines pipes l p (s ∷ rest) = serial_append (cell_edges lines pipes l p s) (edges_from lines pipes l (p + 1) rest) ∙ ap (λ zs. zs ++ map (λ (edge : PipeEdge). edge.serial) (edges_from lines pipes l (p + 1) rest)) (cell_is lines pipes l p s) ∙ ap (λ zs. cell_tags s ++ zs) (line_is lines pipes l (p + 1) rest)

lines_are : (lines : ℕ) (serials : List Bool) (l n : ℕ) → map (λ (edge : PipeEdge). edge.serial) (line_edges lines serials l n) ≡ all_tags serials n
lines_are lines serials l zero = refl
lines_are lines serials l (suc n) = serial_append (edges_from lines (length serials) l 0 serials) (line_edges lines serials (l + 1) n) ∙ ap (λ zs. zs ++ map (λ (edge : PipeEdge). edge.serial) (line_edges lines serials (l + 1) n)) (line_is lines (length serials) l 0 serials) ∙ ap (λ zs. line_tags serials ++ zs) (lines_are lines serials (l + 1) n)

pub tags_are : (lines : ℕ) (serials tags : List Bool) (n : ℕ) → n ≡ 0 → tags ++ all_tags serials n ≡ all_tags serials lines → tags ≡ map (λ (edge : PipeEdge). edge.serial) (pipe_edges lines serials)
tags_are lines serials tags n none is = sym (append-nil tags) ∙ ap (λ k. tags ++ all_tags serials k) (sym none) ∙ is ∙ sym (lines_are lines serials 0 lines)

pub line_tags_more : (old new serials : List Bool) (n m lines : ℕ) → n ≡ suc m → new ≡ old ++ line_tags serials → old ++ all_tags serials n ≡ all_tags serials lines → new ++ all_tags serials m ≡ all_tags serials lines
line_tags_more old new serials n m lines is made before =
    ap (λ ts. ts ++ all_tags serials m) made ∙ append_assoc old (line_tags serials) (all_tags serials m) ∙ ap (λ k. old ++ all_tags serials k) (sym is) ∙ before
