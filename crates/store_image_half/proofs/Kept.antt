-- What stands in an image stays while sectors of other parts are written.
use Rattle.std.proofs.Common.{◌≡◌, ℕ, ◌+◌, ◌*◌, ◌/◌, ◌%◌, ◌<◌, ◌≤◌, List, length, sym, subst, arith}
use Rattle.std.specs.FinMap.{get}
use Rattle.std.proofs.lemmas.Option.{slice_get_within}
use Rattle.sector_device.specs.Disk.{CrashState, sector, SameOutside}
use Rattle.records.specs.ChangeValue.{ChangeValue}
use Rattle.record_values.specs.GeometryValue.{GeometryValue}
use Rattle.record_values.specs.declared.version.Version.TheVariants.{Two}
use Rattle.model.specs.Table.{Table}
use Rattle.store_image_half.specs.Layout.{undo_at, page_at, page_bytes, row_of, cut}
use Rattle.store_image_half.specs.Image.{IsItem, HoldsList, HasEdges, IsRow, item_of}
use Rattle.store_image_half.specs.Part.{HasPage}
use Rattle.store_image_half.proofs.Bytes.{bytes_same}

module _ (P : ℕ → Type 0) (image other : CrashState) (same : SameOutside P image other) where
  -- a piece
  pub piece_kept : (Q : List ℕ → Type 0) (at size per i : ℕ) → ¬ P (at + i / per) → Q (cut (sector image (at + i / per)) size (i % per))
      → Q (cut (sector other (at + i / per)) size (i % per))
  piece_kept Q at size per i out is = subst (λ (s : List ℕ). Q (cut s size (i % per))) (sym (same.same (at + i / per) out)) is

  -- a list
  pub list_kept : (g : GeometryValue) (first h : ℕ) (changes : List ChangeValue) → ((p : ℕ) → p < 64 → ¬ P (undo_at first + (64 * h + p) / 1))
      → length changes ≤ 64 → HoldsList g first image h changes → HoldsList g first other h changes
  list_kept g first h changes apart short held = record {
    positions = held.positions;
    items = λ p c at_p. piece_kept (λ b. IsItem g b (item_of c)) (undo_at first) 512 1 (64 * h + p)
        (apart p (omega (arith, short, slice_get_within changes p c at_p))) (held.items p c at_p);
  }

  -- the bytes of a page
  pub bytes_kept : (first page : ℕ) → ((k : ℕ) → k < 16 → ¬ P (page_at first page + k)) → page_bytes other first page ≡ page_bytes image first page
  bytes_kept first page apart = bytes_same image other (page_at first page) 16 (λ k low. same.same (page_at first page + k) (apart k low))

  -- and so the page
  pub page_kept : (first page : ℕ) (rows : Table) → ((k : ℕ) → k < 16 → ¬ P (page_at first page + k)) → HasPage first image page rows
      → HasPage first other page rows
  page_kept first page rows apart shown =
      let bytes = bytes_kept first page apart in
      record {
        edges = subst (HasEdges Two) (sym bytes) shown.edges;
        slots = λ slot below. subst (λ (b : List ℕ). IsRow (row_of Two b slot) (get rows (record { page = page; slot = slot }))) (sym bytes)
            (shown.slots slot below);
      }
