use Rattle.std.proofs.Common.{◌≡◌, ℕ, zero, suc, ◌<◌, List, [], ◌∷◌, length, map, get_or, refl, sym, ap, subst, ◌∙◌, arith}
use Rattle.std.specs.Prelude.{IfOk, slice_index_or}
use Rattle.graph_drafts.specs.FileText.{DraftRows}
use Rattle.graph_drafts.specs.declared.draft.Draft.{Draft}
use Rattle.graph_drafts.specs.inside.Reading.{draft_rows}
use Rattle.graph_file.proofs.limits.module_name.Goals as goal

-- the name of the module of a number
name_at : (drafts : List Draft) (n : ℕ) (d : Draft) → n < length drafts → slice_index_or (map (λ (rows : DraftRows). rows.name) (map draft_rows drafts)) n [] ≡ (get_or drafts n d).name.now
name_at [] n d below = absurd (omega (arith, below))
name_at (draft ∷ drafts) zero d below = refl
name_at (draft ∷ drafts) (suc n) d below = name_at drafts n d (omega (arith, below))

pub returns-in-Some : goal.returns-in-Some
returns-in-Some c =
    let drafts : List Draft = c.args.file.now.modules.items in
    let draft : Draft = c.in-Some.draft.now in
    let found = rw c.deref.ensures.value at c.in-Some.ensures.lookup in
    let name = c.as_bytes.ensures.value ∙ ap (λ (d : Draft). d.name.now) (found.3.1 draft) ∙ sym (name_at drafts c.args.number draft found.3.0) in
    subst (λ text. IfOk c.from_slice.result (λ made. made ≡ text)) name c.from_slice.ensures
