use Rattle.std.proofs.Common.{List, ap, length, ◌++◌, ℕ}
use Rattle.std.proofs.lemmas.List.{drop-replicate}
use Rattle.record_values.specs.declared.key.TheConstants.{KEY_MAX}
use Rattle.entry_scan.proofs.range.last_beginning_with.Goals as goal

pub returns : goal.returns
returns c = rw (c.key_of.ensures, c.copy_from_slice.ensures.after)
    (ap (λ (back : List ℕ). c.args.front.now ++ back) (drop-replicate (length c.args.front.now) KEY_MAX 255))
