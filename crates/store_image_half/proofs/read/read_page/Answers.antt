use Rattle.std.proofs.Common.{◌≡◌, inl, inr, ℕ, ◌+◌, ◌*◌, List, length, Err, refl, sym, ap, ◌∙◌, subst, arith}
use Rattle.std.proofs.lemmas.Bool.{iff_false}
use Rattle.std.proofs.lemmas.Option.{none-some}
use Rattle.std.proofs.lemmas.Result.{err_from_is_err_and}
use Rattle.record_values.specs.Version.{page_sectors}
use Rattle.record_values.specs.Values.{Place}
use Rattle.record_values.specs.declared.error.Error.TheVariants.{Damaged}
use Rattle.model.specs.Table.{Table}
use Rattle.sector_device.specs.Disk.{CrashState}
use Rattle.store_image_half.specs.Layout.{page_at_in, bytes_of, page_bytes_in, row_of}
use Rattle.store_image_half.specs.Image.{HasEdges, IsRowIn}
use Rattle.store_image_half.specs.Steps.{HoldsSlots}
use Rattle.model.specs.Extended.{table_of}
use Rattle.store_image_half.proofs.Growing.{no_slots, slots_more, page_more}
use Rattle.store_image_half.proofs.Places.{page_inside}
use Rattle.store_image_half.proofs.read.read_page.Goals as goal

pub page_at-at-requires : goal.page_at-at-requires
page_at-at-requires g c = let e = ap (page_at_in c.args.version c.args.first) c.from.ensures in
    omega (arith, e, page_inside c.args.geometry c.args.first c.args.version c.args.page c.requires.page, c.requires.number)

pub read_bytes-requires-clause-few : goal.read_bytes-requires-clause-few
read_bytes-requires-clause-few g c = omega (arith, c.page_sectors.ensures.most)

pub read_bytes-requires-clause-inside : goal.read_bytes-requires-clause-inside
read_bytes-requires-clause-inside g c =
    let at_is : c.page_at-at.result ≡ page_at_in c.args.version c.args.first c.args.page = c.page_at-at.ensures
    ∙ ap (page_at_in c.args.version c.args.first) c.from.ensures in
    omega (arith, at_is, c.page_sectors.ensures.value, page_inside c.args.geometry c.args.first c.args.version c.args.page c.requires.page, c.requires.inside)

pub read_bytes-requires-clause-number : goal.read_bytes-requires-clause-number
read_bytes-requires-clause-number g c =
    let at_is : c.page_at-at.result ≡ page_at_in c.args.version c.args.first c.args.page = c.page_at-at.ensures
    ∙ ap (page_at_in c.args.version c.args.first) c.from.ensures in
    omega (arith, at_is, c.page_sectors.ensures.value, page_inside c.args.geometry c.args.first c.args.version c.args.page c.requires.page, c.requires.number)

pub returns-in_err-spelled : goal.returns-in_err-spelled
returns-in_err-spelled g c =
    let p = err_from_is_err_and c.from_residual.result c.from_residual.ensures.1 in
    rw (p.1 ∙ ap Err p.2) (record {
      held = tt;
      refused = inl c.in_err-spelled.ensures.refused;
      reads = c.read_bytes.ensures.reads;
      quiet = tt;
      told = c.in_err-spelled.ensures.told;
      later = c.read_bytes.ensures.later;
    })

pub has_edges-requires : goal.has_edges-requires
has_edges-requires g c = ap length c.as_slice-bytes.ensures.value ∙ c.in_ok-spelled.ensures.size ∙ ap (λ n. 512 * n) c.page_sectors.ensures.value

pub returns-then-not-has_edges : goal.returns-then-not-has_edges
returns-then-not-has_edges g c =
    let v = c.args.version in
    let image : CrashState = (g.D.Device.past_of c.args.device.now).disk.content in
    let at_is : c.page_at-at.result ≡ page_at_in v c.args.first c.args.page = c.page_at-at.ensures ∙ ap (page_at_in v c.args.first) c.from.ensures in
    let bytes : c.as_slice-bytes.result.now ≡ page_bytes_in v image c.args.first c.args.page = c.as_slice-bytes.ensures.value ∙ c.in_ok-spelled.ensures.value
    ∙ ap (λ n. bytes_of image n c.page_sectors.result) at_is ∙ ap (bytes_of image (page_at_in v c.args.first c.args.page)) c.page_sectors.ensures.value in
    record {
      held = tt;
      refused = inr (ap (λ n. Damaged n) at_is, λ sound. iff_false c.has_edges.ensures c.if-not-has_edges.true (subst (HasEdges v) (sym bytes) sound.0));
      reads = c.read_bytes.ensures.reads;
      quiet = tt;
      told = λ _. c.in_ok-spelled.ensures.quiet;
      later = c.read_bytes.ensures.later;
    }

pub row_in-requires-clause-size : goal.row_in-requires-clause-size
row_in-requires-clause-size g c = ap length c.as_slice-bytes.ensures.value ∙ c.in_ok-spelled.ensures.size ∙ ap (λ n. 512 * n) c.page_sectors.ensures.value

pub loop-slot-init : goal.loop-slot-init
loop-slot-init g c = no_slots c.args.version c.args.geometry c.args.first (g.D.Device.past_of c.args.device.now).disk.content c.args.page
    (table_of c.args.rows.now.items) c.requires.held

pub returns-in_default : goal.returns-in_default
returns-in_default g c =
    let v = c.args.version in
    let first = c.args.first in
    let page = c.args.page in
    let image : CrashState = (g.D.Device.past_of c.args.device.now).disk.content in
    let at_is : c.page_at-at.result ≡ page_at_in v first page = c.page_at-at.ensures ∙ ap (page_at_in v first) c.from.ensures in
    let bytes : c.as_slice-bytes.result.now ≡ page_bytes_in v image first page = c.as_slice-bytes.ensures.value ∙ c.in_ok-spelled.ensures.value
    ∙ ap (λ n. bytes_of image n c.page_sectors.result) at_is ∙ ap (bytes_of image (page_at_in v first page)) c.page_sectors.ensures.value in
    let s = c.loop-slot.slot in
    record {
      held = tt;
      refused = inr (
        ap (λ n. Damaged n) at_is,
        λ sound.
            let row = sound.1 s c.loop-slot-test.true in
            none-some row.0 (c.in_default.ensures.again row.0 (subst (λ (b : List ℕ). IsRowIn v (row_of v b s) row.0) (sym bytes) row.1)),
      );
      reads = c.read_bytes.ensures.reads;
      quiet = tt;
      told = λ _. c.in_ok-spelled.ensures.quiet;
      later = c.read_bytes.ensures.later;
    }

pub add_row-requires : goal.add_row-requires
add_row-requires g c =
    let q : Place = record { page = c.args.page; slot = c.loop-slot.slot } in
    c.loop-slot.invariant.behind q refl (λ less. omega (arith, less))

pub returns-in_err-add_row : goal.returns-in_err-add_row
returns-in_err-add_row g c =
    let p = err_from_is_err_and c.from_residual-in_err-add_row.result c.from_residual-in_err-add_row.ensures.1 in
    rw p.1 (record {
      held = tt;
      refused = inl (inl p.2);
      reads = c.read_bytes.ensures.reads;
      quiet = tt;
      told = λ _. c.in_ok-spelled.ensures.quiet;
      later = c.read_bytes.ensures.later;
    })

pub loop-slot-preserved : goal.loop-slot-preserved
loop-slot-preserved g c =
    let v = c.args.version in
    let first = c.args.first in
    let page = c.args.page in
    let image : CrashState = (g.D.Device.past_of c.args.device.now).disk.content in
    let at_is : c.page_at-at.result ≡ page_at_in v first page = c.page_at-at.ensures ∙ ap (page_at_in v first) c.from.ensures in
    let bytes : c.as_slice-bytes.result.now ≡ page_bytes_in v image first page = c.as_slice-bytes.ensures.value ∙ c.in_ok-spelled.ensures.value
    ∙ ap (λ n. bytes_of image n c.page_sectors.result) at_is ∙ ap (bytes_of image (page_at_in v first page)) c.page_sectors.ensures.value in
    let s = c.loop-slot.slot in
    let is = subst (λ (b : List ℕ). IsRowIn v (row_of v b s) c.in-Some.found) bytes c.in-Some.ensures.found in
    subst (λ (t : Table). HoldsSlots v first image page (s + 1) (table_of c.args.rows.now.items) t) (sym c.in_ok-add_row.ensures)
    (slots_more v c.args.geometry first image page s (table_of c.args.rows.now.items)
    (table_of c.loop-slot.rows.items) c.in-Some.found c.loop-slot.invariant is)

pub returns : goal.returns
returns g c =
    let v = c.args.version in
    let first = c.args.first in
    let page = c.args.page in
    let image : CrashState = (g.D.Device.past_of c.args.device.now).disk.content in
    let at_is : c.page_at-at.result ≡ page_at_in v first page = c.page_at-at.ensures ∙ ap (page_at_in v first) c.from.ensures in
    let bytes : c.as_slice-bytes.result.now ≡ page_bytes_in v image first page = c.as_slice-bytes.ensures.value ∙ c.in_ok-spelled.ensures.value
    ∙ ap (λ n. bytes_of image n c.page_sectors.result) at_is ∙ ap (bytes_of image (page_at_in v first page)) c.page_sectors.ensures.value in
    let all : c.loop-slot.slot ≡ 63 = omega (arith, c.loop-slot-test.false, c.loop-slot.auto.slot-end) in
    record {
      held = page_more v c.args.geometry first image page (table_of c.args.rows.now.items) (table_of c.loop-slot.rows.items) c.requires.held
          (subst (HasEdges v) bytes (c.has_edges.ensures.0 c.if-not-has_edges.false))
          (subst (λ n. HoldsSlots v first image page n (table_of c.args.rows.now.items) (table_of c.loop-slot.rows.items)) all c.loop-slot.invariant);
      refused = tt;
      reads = c.read_bytes.ensures.reads;
      quiet = c.in_ok-spelled.ensures.quiet;
      told = tt;
      later = c.read_bytes.ensures.later;
    }
