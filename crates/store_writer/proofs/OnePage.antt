-- A page of an image that was written has the rows of a table.
use Rattle.std.proofs.Common.{◌≡◌, ℕ, zero, suc, ◌<◌, replicate, List, Option, Some, None, slice_get, Result, Ok, Err, OnOk, refl, ◌∙◌, ap, sym, arith}
use Rattle.std.specs.FinMap as map
use Rattle.sector_device.specs.Disk.{CrashState}
use Rattle.record_values.specs.declared.version.Version.TheVariants.{Two}
use Rattle.record_values.specs.declared.rid.TheConstants.{SLOTS_PER_PAGE}
use Rattle.record_values.specs.declared.row.Row.{Row}
use Rattle.model.specs.Table.{Table}
use Rattle.store_image_half.specs.Layout.{page_bytes}
use Rattle.store_image_half.specs.Image.{HasEdges, IsRow, row_bytes}
use Rattle.store_image_half.specs.Part.{HasPage}

get-replicate : {A : Type 0} (n i : ℕ) (x : A) → i < n → slice_get (replicate n x) i ≡ Some x
get-replicate zero i x low = absurd (omega (arith, low))
get-replicate (suc n) zero x low = refl
get-replicate (suc n) (suc i) x low = get-replicate n i x (omega (arith, low))

module _ {T E : Type 0} (r : Result T E) (first : ℕ) (image : CrashState) (page : ℕ) (rows : Table) where
  -- of slots that show the table's rows there
  pub page_is : (slots : List (Option Row)) → ((slot : ℕ) → slot < SLOTS_PER_PAGE
      → slice_get slots slot ≡ Some (map.get rows (record { page = page; slot = slot })))
      → OnOk r (HasEdges Two (page_bytes image first page))
      → OnOk r ((slot : ℕ) (o : Option Row) → slice_get slots slot ≡ Some o → IsRow (row_bytes image first page slot) o)
      → OnOk r (HasPage first image page rows)
  page_is slots shown = both r (λ edges written. record {
    edges = edges;
    slots = λ slot low.
        written slot (map.get rows (record { page = page; slot = slot })) (shown slot low);
  })
    where
      both : {P Q S : Type 0} (q : Result T E) → (P → Q → S) → OnOk q P → OnOk q Q → OnOk q S
      both (Ok x) f p o = f p o
      both (Err e) f p o = tt

-- slots without rows show a table that has none there
pub none_shown : (page : ℕ) (rows : Table) → ((slot : ℕ) → map.get rows (record { page = page; slot = slot }) ≡ None)
    → (slot : ℕ) → slot < SLOTS_PER_PAGE → slice_get (replicate SLOTS_PER_PAGE None) slot ≡ Some (map.get rows (record { page = page; slot = slot }))
none_shown page rows none slot low = get-replicate SLOTS_PER_PAGE slot None low ∙ ap Some (sym (none slot))
