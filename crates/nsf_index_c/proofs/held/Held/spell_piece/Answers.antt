use Rattle.std.proofs.Common.{[], ap, arith, length, ◌++◌, ◌≡◌, ◌∙◌}
use Rattle.nsf_index_c.specs.Seen.{Seen}
use Rattle.nsf_index_c.proofs.Frames.{at_most}
use Rattle.nsf_index_c.proofs.held.Held.spell_piece.Goals as goal

pub spell-spelled-requires : goal.spell-spelled-requires
spell-spelled-requires c =
    let piece = c.in_ok-saved.ensures.saved in
    let empty : c.self.inside.notes.items ≡ [] = ap (λ (v : Seen). v.waiting) c.self.view_is ∙ c.requires in
    let same : c.deref.result.now ≡ piece.0 = c.deref.ensures.value ∙ piece.1 ∙ ap (λ ns. ns ++ piece.0) empty in
    omega (arith, ap length same, at_most _ _ _ _ _ piece.2, c.min-most.ensures)
