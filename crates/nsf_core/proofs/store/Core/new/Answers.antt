use Rattle.std.proofs.Common.{ap, ◌≡◌}
use Rattle.record_values.specs.GeometryValue.{GeometryValue}
use Rattle.nsf_core.proofs.Fresh.{fresh_made, made_safe}
use Rattle.nsf_core.proofs.store.Core.new.Goals as goal

pub returns-clause-made : goal.returns-clause-made
returns-clause-made g c =
    let pages : c.geometry.inside.pages ≡ c.args.geometry.pages = ap (λ (v : GeometryValue). v.pages) c.geometry.view_is in
    let scan_pages : c.geometry-2.inside.pages ≡ c.args.geometry.pages = ap (λ (v : GeometryValue). v.pages) c.geometry-2.view_is in
    fresh_made c.args.geometry c.args.base _ _ _ _ _ _ _ pages scan_pages c.in_ok-new.ensures.made c.new-2.ensures c.new-3.ensures c.new-4.ensures.made
    c.new-5.ensures.items

pub invariant_of-result : goal.invariant_of-result
invariant_of-result g c =
    let pages : c.geometry.inside.pages ≡ c.args.geometry.pages = ap (λ (v : GeometryValue). v.pages) c.geometry.view_is in
    let scan_pages : c.geometry-2.inside.pages ≡ c.args.geometry.pages = ap (λ (v : GeometryValue). v.pages) c.geometry-2.view_is in
    record {
      safe = ∣ made_safe c.args.geometry c.args.base _ _ _ _ _ _ _ pages scan_pages c.in_ok-new.ensures.made c.new-2.ensures c.new-3.ensures
          c.new-4.ensures.made c.new-5.ensures.items c.requires c.new-4.ensures.run ∣₁;
    }
