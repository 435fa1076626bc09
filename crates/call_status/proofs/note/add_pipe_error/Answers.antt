use Rattle.std.proofs.Common.{◌≡◌, ◌∙◌, ◌++◌, List, ℕ, ap, append_assoc, codes, subst, sym, OnOk}
use Rattle.call_status.specs.Notes.{pipe_error_text, spot_text}
use Rattle.call_status.proofs.note.add_pipe_error.Goals as goal

pub returns : goal.returns
returns c =
    let line = c.args.line.now in
    let front = codes "bad pipe in " ++ spot_text c.args.spot in
    let whole : c.add_before_spot.new.line ++ (codes ": " ++ c.pipe_error.result.now) ≡ c.args.line.now ++ (((codes "bad pipe in " ++ spot_text c.args.spot) ++ codes ": ") ++ pipe_error_text c.args.why) =
    ap (λ (l : List ℕ). l ++ (codes ": " ++ c.pipe_error.result.now)) c.in_ok-add_before_spot.ensures
    ∙ ap (λ (t : List ℕ). (line ++ front) ++ (codes ": " ++ t)) c.pipe_error.ensures
    ∙ append_assoc line front (codes ": " ++ pipe_error_text c.args.why)
    ∙ ap (λ (t : List ℕ). line ++ t) (sym (append_assoc front (codes ": ") (pipe_error_text c.args.why))) in
    subst (λ (l : List ℕ). OnOk c.add_behind.result (c.add_behind.new.line ≡ l)) whole c.add_behind.ensures
