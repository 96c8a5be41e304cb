use Rattle.std.proofs.Common.{◌≡◌, ℕ, ◌*◌, ◌-◌, ◌≤◌, List, length, take, drop, All, sym, ap, ◌∙◌, subst, arith, length-drop}
use Rattle.std.proofs.lemmas.Bool.{iff_false}
use Rattle.std.proofs.lemmas.List.{length-take-le, take_all}
use Rattle.record_values.specs.Version.{page_sectors}
use Rattle.store_image_half.specs.Layout.{row_start}
use Rattle.store_image_half.proofs.Places.{rows_room}
use Rattle.store_image_half.proofs.Zeros.{zeros_found, zeros_tested}
use Rattle.store_image_half.proofs.parts.has_edges.Goals as goal

pub slice_bounds-are_zeros-end : goal.slice_bounds-are_zeros-end
slice_bounds-are_zeros-end c = let room : 64 ≤ length c.args.page.now = omega (arith, c.requires, rows_room c.args.version) in
    sym (length-take-le 64 c.args.page.now room)

pub returns-then-are_zeros : goal.returns-then-are_zeros
returns-then-are_zeros c =
    let v = c.args.version in
    let page : List ℕ = c.args.page.now in
    let room : 64 ≤ length page = omega (arith, c.requires, rows_room v) in
    let size : length (drop (row_start v 63) page) ≡ 512 * page_sectors v - row_start v 63 = length-drop (row_start v 63) page
    ∙ ap (λ n. n - row_start v 63) c.requires in
    let end = c.row_start-end.result in
    let whole : take (length page - end) (drop end page) ≡ drop (row_start v 63) page =
    take_all (length page - end) (drop end page) (omega (arith, length-drop end page)) ∙ ap (λ k. drop k page) c.row_start-end.ensures in (
      (λ are. record {
        front = zeros_found 64 (take 64 page) (c.are_zeros.ensures.0 c.if-are_zeros.true) (length-take-le 64 page room);
        behind = zeros_found _ (drop (row_start v 63) page) (subst (All (λ (b : ℕ). b ≡ 0)) whole (c.are_zeros-then-are_zeros.ensures.0 are)) size;
      }),
      (λ edges. c.are_zeros-then-are_zeros.ensures.1 (subst (All (λ (b : ℕ). b ≡ 0)) (sym whole) (zeros_tested _ (drop (row_start v 63) page) edges.behind))),
    )

pub returns-else-are_zeros : goal.returns-else-are_zeros
returns-else-are_zeros c = (
  (λ are. absurd (iff_false c.are_zeros.ensures c.if-are_zeros.false (c.are_zeros.ensures.0 are))),
  (λ edges. absurd (iff_false c.are_zeros.ensures c.if-are_zeros.false (zeros_tested 64 (take 64 c.args.page.now) edges.front))),
)
