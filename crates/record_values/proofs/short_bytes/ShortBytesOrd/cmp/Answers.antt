use Rattle.std.proofs.Common.{List, ℕ, take, ap, ◌∙◌}
use Rattle.std.specs.Ordering.{nat_cmp, ordering_then}
use Rattle.std.specs.Cmp.Lexicographic.{slice_cmp}
use Rattle.std.specs.declared.cmp.Ordering.{Ordering}
use Rattle.record_values.proofs.Words.{short_cmp}
use Rattle.record_values.proofs.short_bytes.ShortBytesOrd.cmp.Goals as goal

pub returns : goal.returns
returns g c =
    let some = c.self.inside in
    let other = c.other.inside in
    c.then.ensures
    ∙ ap (λ (r : Ordering). ordering_then r c.cmp.result) c.order.ensures
    ∙ ap (ordering_then (slice_cmp nat_cmp some.bytes other.bytes)) c.cmp.ensures
    ∙ short_cmp g.row.MAX some.len other.len some.bytes other.bytes c.self.invariant c.other.invariant
    ∙ ap (λ (t : List ℕ). slice_cmp nat_cmp t (take other.len other.bytes)) c.self.view_is
    ∙ ap (slice_cmp nat_cmp c.args.self.now) c.other.view_is
