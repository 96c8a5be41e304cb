-- A piece of a checkpoint, and a way past live entries, one entry longer.
use Rattle.std.proofs.Common.{ap, append_assoc, List, None, Option, Some, [], refl, subst, ℕ, ◌+◌, ◌++◌, ◌∙◌, ◌∷◌, ◌≡◌}
use Rattle.btree_node.specs.Above.{IsLeastAbove}
use Rattle.record_values.specs.Entries.{Index}
use Rattle.record_values.specs.declared.pair.Mark.{Mark}
use Rattle.record_values.specs.declared.pair.Mark.TheVariants.{Live}
use Rattle.record_values.specs.declared.pair.Pair.{Pair}
use Rattle.online_index.specs.Pieces.{IsPastLive, IsPieceOf, past}
use Rattle.online_model.specs.declared.note.Note.{Note}
use Rattle.online_model.specs.declared.note.Note.TheVariants.{EntryIs, LifeIs}

pub past_one : (m : Index) (start middle asked : Option Pair) (n : ℕ) (p : Pair) (mark : Mark) → IsPastLive m start n middle
    → asked ≡ middle → IsLeastAbove m asked (Some (p, mark)) → mark ≡ Live → IsPastLive m start (n + 1) (Some p)
past_one m start middle asked n p mark before same least live =
    past p before (subst (λ x. IsLeastAbove m x (Some (p, Live))) same (subst (λ k. IsLeastAbove m asked (Some (p, k))) live least))

pub piece_more : (m : Index) (start middle asked : Option Pair) (notes : List Note) (p : Pair) (mark : Mark) → IsPieceOf m start notes middle
    → asked ≡ middle → IsLeastAbove m asked (Some (p, mark)) → IsPieceOf m start (notes ++ EntryIs p (Some mark) ∷ []) (Some p)
piece_more m start middle asked [] p mark e same least = (subst (λ x. IsLeastAbove m x (Some (p, mark))) (same ∙ e) least, refl)
piece_more m start middle asked (EntryIs q (Some k) ∷ notes) p mark h same least = (h.0, piece_more m (Some q) middle asked notes p mark h.1 same least)
piece_more m start middle asked (EntryIs q None ∷ notes) p mark h same least = absurd h
piece_more m start middle asked (LifeIs life ∷ notes) p mark h same least = absurd h

-- one note more, appended to what was appended before
pub appended_one : (before piece now then : List Note) (made note : Note) → then ≡ now ++ made ∷ [] → made ≡ note → now ≡ before ++ piece
    → then ≡ before ++ (piece ++ note ∷ [])
appended_one before piece now then made note e is h =
    e ∙ ap (λ n. now ++ n ∷ []) is ∙ ap (λ ns. ns ++ note ∷ []) h ∙ append_assoc before piece (note ∷ [])
