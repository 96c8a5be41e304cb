use Rattle.std.proofs.Common.{List, ap, arith, length, replicate, ◌++◌, ◌-◌, ◌≡◌, ◌≤◌, ◌∙◌, ℕ}
use Rattle.std.specs.BTreeMap.Range.{range_contains}
use Rattle.std.specs.declared.ops.Bound.TheVariants.{Included}
use Rattle.record_values.specs.declared.key.TheConstants.{KEY_MAX}
use Rattle.entry_scan.proofs.KeyOrder.{key_cmp, prefix_range}
use Rattle.entry_scan.proofs.range.KeyRange.prefix.Goals as goal

pub returns : goal.returns
returns c = λ key is.
    let same : c.as_slice.result.now ≡ c.args.prefix = c.as_slice.ensures.value in
    let fits : length c.as_slice.result.now ≤ KEY_MAX = c.as_slice.ensures.fits in
    let long : length c.as_slice.result.now ≡ length c.args.prefix = ap length same in
    let to : c.last_beginning_with.result ≡ c.args.prefix ++ replicate (KEY_MAX - length c.args.prefix) 255 =
    c.last_beginning_with.ensures ∙ ap (λ (front : List ℕ). front ++ replicate (KEY_MAX - length front) 255) same in
    ap (λ (last : List ℕ). range_contains key_cmp (Included c.args.prefix) (Included last) key) to
    ∙ prefix_range c.args.prefix key (KEY_MAX - length c.args.prefix) is.bytes (let within = is.fits in omega (arith, within, fits, long))
