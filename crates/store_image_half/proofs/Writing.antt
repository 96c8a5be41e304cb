-- What is known of cells that have room in an image.
use Rattle.std.proofs.Common.{◌≡◌, ℕ, zero, suc, ◌+◌, ◌<◌, ◌≤◌, List, [], ◌∷◌, length, Option, Some, sym, ap, ◌∙◌, subst, arith}
use Rattle.std.specs.Prelude.{slice_get, unwrap_or}
use Rattle.std.specs.Cmp.{nat_cmp_total}
use Rattle.std.specs.FinMap.{entries}
use Rattle.std.proofs.lemmas.Option.{none-some, same_Some}
use Rattle.records.specs.ChangeValue.{ChangeValue}
use Rattle.record_values.specs.GeometryValue.{GeometryValue}
use Rattle.record_values.specs.Orders.{pair_cmp_total}
use Rattle.record_values.specs.declared.pair.Pair.{Pair}
use Rattle.record_values.specs.declared.pair.Mark.{Mark}
use Rattle.model.specs.Cells.{Cells, list_of}
use Rattle.model.specs.Following.{ArePlaced}
use Rattle.store_image_half.specs.Source.{FitsImage}
use Rattle.store_image_half.proofs.Maps.{get_at}

-- the change at a place of a list that is numbered
pub change_at : (pages n p : ℕ) (changes : List ChangeValue) (c : ChangeValue) → ArePlaced pages n changes → slice_get changes p ≡ Some c → (c.position ≡ n + p)
    × (c.rid.page < pages)
change_at pages n p [] c placed is = absurd (none-some c is)
change_at pages n zero (x ∷ changes) c placed is =
    subst (λ (y : ChangeValue). (y.position ≡ n + 0) × (y.rid.page < pages)) (same_Some x c is) (omega (arith, placed.0), placed.1)
change_at pages n (suc p) (x ∷ changes) c placed is = let rest = change_at pages (n + 1) p changes c placed.2 is in (omega (arith, rest.0), rest.1)

module _ (g : GeometryValue) (cells : Cells) (fits : FitsImage g cells) where
  list_is : (h : ℕ) (list : ℕ × List ChangeValue) → slice_get (entries cells.pending) h ≡ Some list → list_of cells.pending list.0 ≡ list.1
  list_is h list is = ap (λ (o : Option (List ChangeValue)). unwrap_or o []) (get_at nat_cmp_total cells.pending h list is)

  pub list_short : (h : ℕ) (list : ℕ × List ChangeValue) → slice_get (entries cells.pending) h ≡ Some list → length list.1 ≤ 64
  list_short h list is = subst (λ (cs : List ChangeValue). length cs ≤ 64) (list_is h list is) (fits.changes list.0)

  pub list_placed : (h : ℕ) (list : ℕ × List ChangeValue) → slice_get (entries cells.pending) h ≡ Some list → ArePlaced g.pages 0 list.1
  list_placed h list is = subst (λ (cs : List ChangeValue). ArePlaced g.pages 0 cs) (list_is h list is) (fits.placed list.0)

  pub entry_inside : (i : ℕ) (e : Pair × Mark) → slice_get (entries cells.entries) i ≡ Some e → e.0.rid.page < g.pages
  entry_inside i e is = fits.inside.entries e.0 (λ none. none-some e.1 (sym none ∙ get_at pair_cmp_total cells.entries i e is))
