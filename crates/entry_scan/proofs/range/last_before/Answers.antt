use Rattle.std.proofs.Common.{List, [], ap, arith, drop, length, length-drop, replicate, ◌++◌, ◌-◌, ◌<◌, ◌∙◌, ◌∷◌, ℕ}
use Rattle.std.proofs.lemmas.List.{length-replicate}
use Rattle.record_values.specs.declared.key.TheConstants.{KEY_MAX}
use Rattle.entry_scan.proofs.KeyOrder.{key_cmp, lesser_before, shorter_before}
use Rattle.entry_scan.proofs.range.last_before.Goals as goal

pub returns-then-last-eq0 : goal.returns-then-last-eq0
returns-then-last-eq0 c = ap (λ key. key_cmp key (c.args.front.now ++ c.args.last ∷ [])) c.key_of.ensures ∙ shorter_before c.args.front.now c.args.last

pub returns : goal.returns
returns c =
    let front = c.args.front.now in
    let back : List ℕ = drop (length front) (replicate KEY_MAX 255) in
    let some : 0 < length back =
    omega (arith, length-drop {A = ℕ} (length front) (replicate KEY_MAX 255), length-replicate {A = ℕ} KEY_MAX 255, c.requires) in
    rw (c.key_of-2.ensures, c.copy_from_slice.ensures.after)
    (lesser_before front back (c.args.last - 1) c.args.last (omega (arith, c.if-last-eq0.false)) some)
