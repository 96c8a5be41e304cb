use Rattle.std.proofs.Common.{◌≡◌, ◌⊎◌, ◌∙◌, ◌++◌, length, inl, inr, true, false, sym, arith, ap, length-append}
use Rattle.sorted_scan.specs.FullRuns.{full_run}
use Rattle.sorted_scan.proofs.Cutting.{on_both, one_short, still_full}
use Rattle.sorted_scan.proofs.scan.gather.Goals.{else-not-is_last-via-then-not-is_last+else-len-room, else-not-is_last-via-else-not-is_last}
use Rattle.sorted_scan.proofs.scan.gather.Goals as goal

pub overflow_sub-room : goal.overflow_sub-room
overflow_sub-room g c = omega (arith, c.len-room.ensures, c.args.gathered.now.ok.0, c.requires.open_run)

pub returns-then-is_last-clause-one_short : goal.returns-then-is_last-clause-one_short
returns-then-is_last-clause-one_short g c =
    let gathered = c.args.gathered.now.items in
    let last = c.deref-then-is_last.result.now in
    let value = ap length c.deref-then-is_last.ensures.value in
    let long = length-append gathered last in
    let all = ap length c.in_ok-behind.ensures.all in
    let parts = length-append c.cut.new.pairs.items c.in_ok-behind.behind.items in
    let which : (length c.in_ok-behind.behind.items ≡ 0) ⊎ (length (gathered ++ last) ≡ full_run) = elim c.in_ok-behind.ensures.full [
      | inl none ↦ inl none
      | inr room ↦ inr (omega (arith, long, value, room))
    ] in
    on_both c.add.result _ _ _ (λ added runs.
    one_short (gathered ++ last) _ _ _ c.requires.full added runs (omega (arith, long, value, c.in_ok-behind.ensures.few)) which (omega (arith, all, parts)))
    c.add.ensures.added c.add.ensures.runs

pub returns-clause-full : goal.returns-clause-full
returns-clause-full g c =
    let gathered = c.args.gathered.now.items in
    let last = c.deref-else-is_last.result.now in
    let value = ap length c.deref-else-is_last.ensures.value in
    let long = length-append gathered last in
    let all = ap length c.in_ok-behind.ensures.all in
    let parts = length-append c.cut.new.pairs.items c.in_ok-behind.behind.items in
    on_both c.add-else-is_last.result _ _ _ (λ added runs before.
    let whole : length (gathered ++ last) ≡ full_run = elim c.else-not-is_last.branch [
      | else-not-is_last-via-then-not-is_last+else-len-room w ↦ elim c.in_ok-behind.ensures.full [
        | inl none ↦ let few = c.in_ok-behind.ensures.few in omega (arith, long, value, all, parts, none, few, c.args.pairs.ok.0)
        | inr room ↦ omega (arith, long, value, room)
      ]
      | else-not-is_last-via-else-not-is_last w ↦ absurd (let e : true ≡ false = sym w.if-not-is_last.false ∙ before in cc)
    ] in
    still_full (gathered ++ last) _ _ _ c.requires.full added runs whole (ap length c.new-else-is_last.ensures.items))
    c.add-else-is_last.ensures.added c.add-else-is_last.ensures.runs

pub returns-clause-one_short : goal.returns-clause-one_short
returns-clause-one_short g c =
    let gathered = c.args.gathered.now.items in
    let last = c.deref-else-is_last.result.now in
    let value = ap length c.deref-else-is_last.ensures.value in
    let long = length-append gathered last in
    let none = ap length c.new-else-is_last.ensures.items in
    on_both c.add-else-is_last.result _ _ _ (λ added runs.
    one_short (gathered ++ last) _ _ _ c.requires.full added runs (omega (arith, long, value, c.in_ok-behind.ensures.few)) (inl none) (omega (arith, none)))
    c.add-else-is_last.ensures.added c.add-else-is_last.ensures.runs
