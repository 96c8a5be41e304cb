-- An image is told by its sectors.
use Rattle.std.proofs.Common.{◌≡◌, ℕ, ◌+◌, ◌*◌, ◌/◌, ◌%◌, ◌<◌, ◌≤◌, List, length, map, Some, sym, ap, ◌∙◌, subst, arith}
use Rattle.std.specs.Prelude.{slice_get}
use Rattle.std.specs.Option.{option_map}
use Rattle.std.specs.FinMap.{entries, get}
use Rattle.std.proofs.lemmas.List.{length-map}
use Rattle.std.proofs.lemmas.Option.{slice_get-map, slice_get_within}
use Rattle.sector_device.specs.Disk.{CrashState, sector}
use Rattle.records.specs.ChangeValue.{ChangeValue}
use Rattle.record_values.specs.Version.{page_sectors, entries_per_sector}
use Rattle.record_values.specs.declared.version.Version.{Version}
use Rattle.record_values.specs.GeometryValue.{GeometryValue}
use Rattle.model.specs.Cells.{Cells}
use Rattle.store_image_parts.specs.Spelling.{item_size, entry_size}
use Rattle.store_image_half.specs.Layout.{heads_at, undo_at, items_per_sector, page_at_in, entries_at_in, page_bytes_in, row_of, cut, InImageIn}
use Rattle.store_image_half.specs.Image.{IsHeaderIn, AreHeads, IsItemIn, HasEdges, IsRowIn, IsEntryIn, HoldsListIn, IsImageIn, header_of, head_of, item_of}
use Rattle.store_image_half.proofs.Bytes.{bytes_same}
use Rattle.store_image_half.proofs.Places.{item_inside, page_inside, pages_begin, entry_inside}

module _ (v : Version) (g : GeometryValue) (first : ℕ) (image other : CrashState) (same : (n : ℕ) → InImageIn v g first n
    → sector other n ≡ sector image n) (base : ℕ) (cells : Cells) (is : IsImageIn v g first image base cells) where
  piece_stays : (at size per i : ℕ) → InImageIn v g first (at + i / per)
      → cut (sector image (at + i / per)) size (i % per) ≡ cut (sector other (at + i / per)) size (i % per)
  piece_stays at size per i inside = ap (λ (s : List ℕ). cut s size (i % per)) (sym (same (at + i / per) inside))

  page_stays : (page : ℕ) → page < g.pages → page_bytes_in v image first page ≡ page_bytes_in v other first page
  page_stays page below =
      let room = page_inside g first v page below in
      sym (bytes_same image other (page_at_in v first page) (page_sectors v) (λ k low.
      same (page_at_in v first page + k) (omega arith, omega (arith, low, room))))

  list_stays : (h : ℕ) (list : ℕ × List ChangeValue) → slice_get (entries cells.pending) h ≡ Some list → HoldsListIn v g first other h list.1
  list_stays h list at_h =
      let few : h < 16 = omega (arith, slice_get_within (entries cells.pending) h list at_h, length-map (entries cells.pending) head_of, is.heads-are.count) in
      let short : length list.1 ≤ 64 =
      (is.heads-are.fits h (head_of list) (slice_get-map head_of (entries cells.pending) h ∙ ap (option_map head_of) at_h)).changes in
      record {
        positions = (is.lists h list at_h).positions;
        items = λ p c at_p.
            let low : p < 64 = omega (arith, slice_get_within list.1 p c at_p, short) in
            let inside = item_inside g first v h p few low in
            let before = pages_begin g first v g.pages in
            subst (λ (b : List ℕ). IsItemIn v g b (item_of c))
            (piece_stays (undo_at first) (item_size v) (items_per_sector v) (64 * h + p) (omega arith, omega (arith, inside, before)))
            ((is.lists h list at_h).items p c at_p);
      }

  pub stays : IsImageIn v g first other base cells
  stays = record {
    header-is = subst (λ (b : List ℕ). IsHeaderIn v g b (header_of base cells)) (sym (same first (omega arith, omega arith))) is.header-is;
    heads-are = subst (λ (b : List ℕ). AreHeads b (map head_of (entries cells.pending))) (sym (same (heads_at first) (omega arith, omega arith))) is.heads-are;
    lists = list_stays;
    edges = λ page below. subst (HasEdges v) (page_stays page below) (is.edges page below);
    rows = λ q page slot. subst (λ (b : List ℕ). IsRowIn v (row_of v b q.slot) (get cells.rows q)) (page_stays q.page page) (is.rows q page slot);
    within = is.within;
    entries = λ i e at_i.
        let low : i < g.entries = omega (arith, slice_get_within (entries cells.entries) i e at_i, is.header-is.room) in
        let inside = entry_inside g first v i low in
        subst (λ (b : List ℕ). IsEntryIn v g b e) (piece_stays (entries_at_in v g first) (entry_size v) (entries_per_sector v) i (omega arith, inside))
        (is.entries i e at_i);
  }
