-- An image is written by its parts: what stands after each of them, and in the end.
use Rattle.std.proofs.Common.{◌≡◌, inl, inr, ℕ, ◌<◌, ◌≤◌, List, length, map, Some, sym, ◌∙◌, subst, arith}
use Rattle.std.specs.Prelude.{slice_get}
use Rattle.std.specs.FinMap.{entries}
use Rattle.std.proofs.lemmas.Option.{slice_get_within}
use Rattle.sector_device.specs.Disk.{sector, SameOutside}
use Rattle.sector_device.specs.DevicePast.{DevicePast}
use Rattle.sector_device.proofs.Sectors.{same_outside_then, same_outside_wider}
use Rattle.records.specs.ChangeValue.{ChangeValue}
use Rattle.record_values.specs.GeometryValue.{GeometryValue}
use Rattle.record_values.specs.declared.pair.Pair.{Pair}
use Rattle.record_values.specs.declared.pair.Mark.{Mark}
use Rattle.model.specs.Cells.{Cells}
use Rattle.store_image_parts.specs.Spelling.{zeros}
use Rattle.store_image_half.specs.Layout.{heads_at, entries_at, InImage, InPages, InEntries}
use Rattle.store_image_half.specs.Image.{IsHeader, AreHeads, IsEntry, IsImage, entry_bytes, HoldsList, header_of, head_of, ZerosBehindEntries, InLists}
use Rattle.store_image_half.specs.Image.{InImageOf}
use Rattle.store_image_half.specs.Source.{FitsImage}
use Rattle.store_image_half.specs.Steps.{WritesIn, InUndo}
use Rattle.store_image_half.specs.Part.{HasPage}
use Rattle.store_image_half.proofs.Joined.{writes_then, writes_wider}
use Rattle.store_image_half.proofs.Kept.{piece_kept, list_kept, page_kept}
use Rattle.store_image_half.proofs.Writing.{list_short}

-- what is written by each step, and by those before it
module _ (g : GeometryValue) (first : ℕ) (cells : Cells) (old : DevicePast) where
  pub lists_in : (h : DevicePast) → WritesIn (InLists first cells) old h → WritesIn (InImageOf g first cells) old h
  lists_in h part = writes_wider (InImageOf g first cells) (InLists first cells) old h (λ n is. inr (inr (inr (inl is)))) part

  pub heads_in : (m h : DevicePast) → WritesIn (InImageOf g first cells) old m → WritesIn (λ n. n ≡ heads_at first) m h
      → WritesIn (InImageOf g first cells) old h
  heads_in m h so_far part = writes_then (InImageOf g first cells) (λ n. n ≡ heads_at first) old m h (λ n is. inr (inl is)) so_far part

  pub pages_in : (m h : DevicePast) → WritesIn (InImageOf g first cells) old m → WritesIn (InPages g first) m h → WritesIn (InImageOf g first cells) old h
  pages_in m h so_far part = writes_then (InImageOf g first cells) (InPages g first) old m h (λ n is. inr (inr (inl is))) so_far part

  pub entries_in : (m h : DevicePast) (count : ℕ) → count ≡ length (entries cells.entries) → WritesIn (InImageOf g first cells) old m
      → WritesIn (InEntries g first 0 count) m h → WritesIn (InImageOf g first cells) old h
  entries_in m h count all so_far part = writes_then (InImageOf g first cells) (InEntries g first 0 count) old m h (λ n is.
      inr (inr (inr (inr (subst (λ k. InEntries g first 0 k n) all is))))) so_far part

  pub header_in : (m h : DevicePast) → WritesIn (InImageOf g first cells) old m → WritesIn (λ n. n ≡ first) m h → WritesIn (InImageOf g first cells) old h
  header_in m h so_far part = writes_then (InImageOf g first cells) (λ n. n ≡ first) old m h (λ n is. inl is) so_far part

-- the sectors of Q stay while others are written
stays : (P Q : ℕ → Type 0) (m h : DevicePast) → ((n : ℕ) → P n → Q n → ⊥) → WritesIn P m h → SameOutside (λ n. ¬ Q n) m.disk.content h.disk.content
stays P Q m h apart part = same_outside_wider P (λ n. ¬ Q n) m.disk.content h.disk.content apart part.outside

module _ (g : GeometryValue) (first base : ℕ) (cells : Cells) (fits : FitsImage g cells) (h1 h2 h3 h4 h5 : DevicePast) (count : ℕ)
    (p2 : WritesIn (λ n. n ≡ heads_at first) h1 h2) (p3 : WritesIn (InPages g first) h2 h3) (p4 : WritesIn (InEntries g first 0 count) h3 h4)
    (p5 : WritesIn (λ n. n ≡ first) h4 h5) where
  lists_stay : SameOutside (λ n. ¬ InUndo first n) h1.disk.content h5.disk.content
  lists_stay = same_outside_then (λ n. ¬ InUndo first n) h1.disk.content h2.disk.content h5.disk.content
      (stays (λ n. n ≡ heads_at first) (InUndo first) h1 h2 (λ n is in_it. omega (arith, is, in_it.0)) p2)
      (same_outside_then (λ n. ¬ InUndo first n) h2.disk.content h3.disk.content h5.disk.content
      (stays (InPages g first) (InUndo first) h2 h3 (λ n is in_it. omega (arith, is.0, in_it.1)) p3)
      (same_outside_then (λ n. ¬ InUndo first n) h3.disk.content h4.disk.content h5.disk.content
      (stays (InEntries g first 0 count) (InUndo first) h3 h4 (λ n is in_it. omega (arith, is.0, in_it.1)) p4)
      (stays (λ n. n ≡ first) (InUndo first) h4 h5 (λ n is in_it. omega (arith, is, in_it.0)) p5)))

  heads_stay : sector h5.disk.content (heads_at first) ≡ sector h2.disk.content (heads_at first)
  heads_stay = p5.outside.same (heads_at first) (λ is. omega (arith, is)) ∙ p4.outside.same (heads_at first) (λ is. omega (arith, is.0))
      ∙ p3.outside.same (heads_at first) (λ is. omega (arith, is.0))

  pages_stay : SameOutside (λ n. ¬ InPages g first n) h3.disk.content h5.disk.content
  pages_stay = same_outside_then (λ n. ¬ InPages g first n) h3.disk.content h4.disk.content h5.disk.content
      (stays (InEntries g first 0 count) (InPages g first) h3 h4 (λ n is in_it. omega (arith, is.0, in_it.1)) p4)
      (stays (λ n. n ≡ first) (InPages g first) h4 h5 (λ n is in_it. omega (arith, is, in_it.0)) p5)

  module _ (lists : (h : ℕ) (list : ℕ × List ChangeValue) → slice_get (entries cells.pending) h ≡ Some list → HoldsList g first h1.disk.content h list.1) where
    list_stays : (h : ℕ) (list : ℕ × List ChangeValue) → slice_get (entries cells.pending) h ≡ Some list → HoldsList g first h5.disk.content h list.1
    list_stays h list at_h = list_kept (λ n. ¬ InUndo first n) h1.disk.content h5.disk.content lists_stay g first h list.1
        (λ p low out. out (let few : h < 16 = omega (arith, slice_get_within (entries cells.pending) h list at_h, fits.txns) in
        (omega (arith, low), omega (arith, low, few)))) (list_short g cells fits h list at_h) (lists h list at_h)

  pub rest_is : ZerosBehindEntries g first h4.disk.content (length (entries cells.entries))
      → ZerosBehindEntries g first h5.disk.content (length (entries cells.entries))
  rest_is rest = λ i behind below. piece_kept (λ n. n ≡ first) h4.disk.content h5.disk.content p5.outside (λ (b : List ℕ). b ≡ zeros 64)
      (entries_at g first) 64 8 i (λ is. omega (arith, is)) (rest i behind below)

  pub image_is : ((h : ℕ) (list : ℕ × List ChangeValue) → slice_get (entries cells.pending) h ≡ Some list → HoldsList g first h1.disk.content h list.1)
      → AreHeads (sector h2.disk.content (heads_at first)) (map head_of (entries cells.pending))
      → ((page : ℕ) → page < g.pages → HasPage first h3.disk.content page cells.rows)
      → ((i : ℕ) (e : Pair × Mark) → slice_get (entries cells.entries) i ≡ Some e → IsEntry g (entry_bytes g h4.disk.content first i) e)
      → IsHeader g (sector h5.disk.content first) (header_of base cells)
      → IsImage g first h5.disk.content base cells
  image_is lists heads pages all header = record {
    header-is = header;
    heads-are = subst (λ (b : List ℕ). AreHeads b (map head_of (entries cells.pending))) (sym heads_stay) heads;
    lists = λ h list at_h. list_stays lists h list at_h;
    edges = λ page below. (kept page below).edges;
    rows = λ q page slot. (kept q.page page).slots q.slot slot;
    within = λ q r is. (fits.inside.rows q r is, fits.slots q r is);
    entries = λ i e at_i. piece_kept (λ n. n ≡ first) h4.disk.content h5.disk.content p5.outside (λ b. IsEntry g b e) (entries_at g first) 64 8 i (λ is.
        omega (arith, is)) (all i e at_i);
  }
    where
      kept : (page : ℕ) → page < g.pages → HasPage first h5.disk.content page cells.rows
      kept page below = page_kept (λ n. ¬ InPages g first n) h3.disk.content h5.disk.content pages_stay first page cells.rows (λ k low out.
          out (omega (arith, low), omega (arith, low, below))) (pages page below)

-- the sectors that the image of some cells takes are those of an image
pub taken_inside : (g : GeometryValue) (first : ℕ) (cells : Cells) → FitsImage g cells → (n : ℕ) → InImageOf g first cells n → InImage g first n
taken_inside g first cells fits n is = elim is [
  | inl header ↦ (omega (arith, header), omega (arith, header))
  | inr (inl heads) ↦ (omega (arith, heads), omega (arith, heads))
  | inr (inr (inl page)) ↦ (omega (arith, page.0), omega (arith, page.1))
  | inr (inr (inr (inl item))) ↦ of_list item
  | inr (inr (inr (inr entry))) ↦ (omega (arith, entry.0), omega (arith, entry.1, fits.room))
]
  where
    of_list : InLists first cells n → InImage g first n
    of_list (h, list, there, at) =
        let few : h < 16 = omega (arith, slice_get_within (entries cells.pending) h list there, fits.txns) in
        let short : length list.1 ≤ 64 = list_short g cells fits h list there in
        (omega (arith, at.0), omega (arith, at.1, few, short))
